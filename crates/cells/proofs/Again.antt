-- Any bytes, written as a cell and read, are the same bytes, wherever they stand, if a comma, a line end or nothing stands behind.
-- Assumes nothing.
use mathlib.Core.Path.{◌≡◌, refl, ap, sym, ◌∙◌}
use mathlib.Core.Bool.{Bool, true, false, cond, true≢false}
use mathlib.Core.List.{List, [], ◌∷◌, ◌++◌, append_assoc}
use Prim.Native.Nat.{ℕ, ◌+◌}
use native.Mathlib.Omega.{arith}
use lib.ListN.{length, drop, length-append}
use lib.Seq.{drop-drop, drop-append_seam, take-append_seam}
use lib.Dec.{eqb}
use borrow.Author.Tests.{ne_eqb}
use Rattle.cells.specs.Cells.{starts, none, ending, stops, plain_size, quoted_size, finish, closed, cell_at, undouble, content, double, special, any_special, write_cell}
use Rattle.cells.specs.Again.{Behind, Again, CellReadAgain}
use Rattle.cells.proofs.Laws.{plain-stop, plain_step, quoted-text, quoted-twice, quoted-close, quote-or}

no-quote : (r : List ℕ) → Behind r → starts 34 r ≡ false
unfolding ending starts none
no-quote [] e = refl
no-quote (x ∷ r) e = ne_eqb x 34 (λ q. let z : ◌≡◌ {A = Bool} true false = rw q at e in true≢false z)

stops-behind : (r : List ℕ) → Behind r → stops r ≡ true
unfolding stops
stops-behind r e = rw (no-quote r e, e)

either-false : (a b : Bool) → cond a true b ≡ false → (a ≡ false) × (b ≡ false)
either-false true b e = absurd (true≢false e)
either-false false b e = (refl, e)

-- a byte that is not special is none of the four
pub record Common (x : ℕ) : Type 0 where
  pub comma : eqb x 44 ≡ false
  pub quote : eqb x 34 ≡ false
  pub cr : eqb x 13 ≡ false
  pub lf : eqb x 10 ≡ false

pub common : (x : ℕ) → special x ≡ false → Common x
unfolding special
common x e =
    let a = either-false (eqb x 44) (cond (eqb x 34) true (cond (eqb x 13) true (eqb x 10))) e in
    let b = either-false (eqb x 34) (cond (eqb x 13) true (eqb x 10)) a.1 in
    let c = either-false (eqb x 13) (eqb x 10) b.1 in
    record { comma = a.0; quote = b.0; cr = c.0; lf = c.1 }

-- such a byte does not stop a plain cell
goes_on : (x : ℕ) (l : List ℕ) → Common x → stops (x ∷ l) ≡ false
unfolding stops starts ending none
goes_on x l o = rw (o.quote, o.comma, o.lf, o.cr)

pub undouble-text : (x : ℕ) (l : List ℕ) → eqb x 34 ≡ false → undouble (x ∷ l) ≡ x ∷ undouble l
unfolding undouble
undouble-text x [] e = refl
undouble-text x (y ∷ l) e = rw e

double-quote : (l : List ℕ) → double (34 ∷ l) ≡ 34 ∷ 34 ∷ double l
unfolding double
double-quote l = refl

double-text : (x : ℕ) (l : List ℕ) → eqb x 34 ≡ false → double (x ∷ l) ≡ x ∷ double l
unfolding double
double-text x l e = rw e

undouble-twice : (l : List ℕ) → undouble (34 ∷ 34 ∷ l) ≡ 34 ∷ undouble l
unfolding undouble
undouble-twice l = refl

undouble-nil : undouble (double []) ≡ []
unfolding undouble double
undouble-nil = refl

pub undouble-double : (b : List ℕ) → undouble (double b) ≡ b
undouble-double [] = undouble-nil
undouble-double (x ∷ l) =
    quote-or {P = λ y. undouble (double (y ∷ l)) ≡ y ∷ l} (rw (double-quote, undouble-twice, undouble-double l))
    (λ y e. rw (double-text y l e, undouble-text y (double l) e, undouble-double l)) x

double-nil : (r : List ℕ) → starts 34 r ≡ false → quoted_size (double [] ++ (34 ∷ r)) ≡ length (double [])
unfolding double
double-nil r h = quoted-close r h

starts-not : (x : ℕ) (l : List ℕ) → eqb x 34 ≡ false → starts 34 (x ∷ l) ≡ false
unfolding starts
starts-not x l e = e

common-first : (x : ℕ) (l : List ℕ) → any_special (x ∷ l) ≡ false → Common x
unfolding any_special
common-first x l e = common x (either-false (special x) (any_special l) e).0

common-rest : (x : ℕ) (l : List ℕ) → any_special (x ∷ l) ≡ false → any_special l ≡ false
unfolding any_special
common-rest x l e = (either-false (special x) (any_special l) e).1

plain-writes : (b r : List ℕ) → any_special b ≡ false → write_cell b ++ r ≡ b ++ r
unfolding write_cell
plain-writes b r e = rw e

quoted-writes : (b r : List ℕ) → any_special b ≡ true → write_cell b ++ r ≡ 34 ∷ (double b ++ (34 ∷ r))
unfolding write_cell
quoted-writes b r e = rw (e, append_assoc)

quoted-double : (b r : List ℕ) → starts 34 r ≡ false → quoted_size (double b ++ (34 ∷ r)) ≡ length (double b)
quoted-double [] r h = double-nil r h
quoted-double (x ∷ l) r h =
    quote-or {P = λ y. quoted_size (double (y ∷ l) ++ (34 ∷ r)) ≡ length (double (y ∷ l))}
    (rw (double-quote, quoted-twice, quoted-double l r h))
    (λ y e. rw (double-text y l e, quoted-text y (double l ++ (34 ∷ r)) e, quoted-double l r h)) x

plain-all : (b r : List ℕ) → any_special b ≡ false → Behind r → plain_size (b ++ r) ≡ length b
plain-all [] r e h = plain-stop r (stops-behind r h)
plain-all (x ∷ l) r e h = rw (plain_step x (l ++ r) (goes_on x (l ++ r) (common-first x l e)), plain-all l r (common-rest x l e) h)

plain-first : (b r : List ℕ) → any_special b ≡ false → Behind r → starts 34 (b ++ r) ≡ false
plain-first [] r e h = no-quote r h
plain-first (x ∷ l) r e h = starts-not x (l ++ r) (common-first x l e).quote

module _ (s b r : List ℕ) (at : ℕ) (h : Behind r) where
  module _ (d : drop at s ≡ b ++ r) (e : any_special b ≡ false) where
    plain-behind : drop (at + length b) s ≡ r
    plain-behind = sym (drop-drop (length b) at s) ∙ (ap (drop (length b)) d ∙ drop-append_seam b r)

    plain_cell : cell_at s at ≡ finish s false at (length b) (at + length b)
    unfolding cell_at
    plain_cell = rw (d, plain-first b r e h, plain-all b r e h)

    plain-again : Again s at b r
    unfolding finish content write_cell
    plain-again =
        record {
          how = rw (plain_cell, plain-behind);
          next = rw (plain_cell, plain-behind, e);
          same = rw (plain_cell, d, take-append_seam);
        }

  module _ (d : drop at s ≡ 34 ∷ (double b ++ (34 ∷ r))) (e : any_special b ≡ true) where
    quoted-text-at : drop (at + 1) s ≡ double b ++ (34 ∷ r)
    quoted-text-at = sym (drop-drop 1 at s) ∙ ap (drop 1) d

    quoted-close-at : drop (at + 1 + length (double b)) s ≡ 34 ∷ r
    quoted-close-at =
        sym (drop-drop (length (double b)) (at + 1) s)
        ∙ (ap (drop (length (double b))) quoted-text-at ∙ drop-append_seam (double b) (34 ∷ r))

    quoted-behind : drop (at + 1 + length (double b) + 1) s ≡ r
    quoted-behind = sym (drop-drop 1 (at + 1 + length (double b)) s) ∙ ap (drop 1) quoted-close-at

    quoted-cell : cell_at s at ≡ finish s true (at + 1) (length (double b)) (at + 1 + length (double b) + 1)
    unfolding cell_at closed starts
    quoted-cell = rw (d, quoted-text-at, quoted-double b r (no-quote r h), quoted-close-at)

    quoted-size : length (write_cell b) ≡ 1 + length (double b) + 1
    unfolding write_cell
    quoted-size = rw (e, length-append) (omega arith)

    quoted-again : Again s at b r
    unfolding finish content
    quoted-again =
        record {
          how = rw (quoted-cell, quoted-behind);
          next = rw (quoted-cell, quoted-behind, quoted-size) (omega arith);
          same = rw (quoted-cell, quoted-text-at, take-append_seam) (undouble-double b);
        }

  written-again : drop at s ≡ write_cell b ++ r → Again s at b r
  written-again d = by (any_special b) refl
    where
      by : (t : Bool) → any_special b ≡ t → Again s at b r
      by true e = quoted-again (d ∙ quoted-writes b r e) e
      by false e = plain-again (d ∙ plain-writes b r e) e

pub cell-again : CellReadAgain
cell-again s b r at h d = written-again s b r at h d
