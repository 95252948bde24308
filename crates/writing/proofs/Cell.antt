-- A label's cell, byte by byte: what wants quotes, and quotes doubled. Assumes nothing.
use mathlib.Core.Path.{◌≡◌, refl, ap, sym, ◌∙◌}
use mathlib.Core.Bool.{Bool, true, false}
use mathlib.Core.List.{List, [], ◌∷◌, ◌++◌}
use Prim.Native.Nat.{ℕ, suc, ◌+◌, ◌≤◌, ◌<◌}
use native.Mathlib.Numerals.{add-one}
use native.Mathlib.Omega.{arith}
use lib.Dec.{eqb}
use lib.ListN.{length, get_or, drop, set, length-append, drop_of_length-le}
use lib.Seq.{sets, drop-cons}
use borrow.Author.Tests.{eq-eqb, ne_eqb}
use Rattle.cells.specs.Cells.{double, special, any_special, write_cell}
use Rattle.rows.proofs.Laid.{sets-append}

-- ---- one byte

pub special-quote : (x : ℕ) → (x ≡ 44 → ⊥) → x ≡ 34 → true ≡ special x
unfolding special
special-quote x m e = rw (ne_eqb x 44 m, eq-eqb x 34 e)

pub double-quote : (x : ℕ) → x ≡ 34 → double (x ∷ []) ≡ 34 ∷ 34 ∷ []
unfolding double
double-quote x e = rw (eq-eqb x 34 e)

pub double-other : (x : ℕ) → (x ≡ 34 → ⊥) → double (x ∷ []) ≡ x ∷ []
unfolding double
double-other x n = rw (ne_eqb x 34 n)

pub double-cons : (x : ℕ) (l : List ℕ) → double (x ∷ l) ≡ double (x ∷ []) ++ double l
unfolding double
double-cons x l = by (eqb x 34) refl
  where
    by : (t : Bool) → eqb x 34 ≡ t → double (x ∷ l) ≡ double (x ∷ []) ++ double l
    by true e = rw e
    by false e = rw e

-- ---- all of them

any-cons : (x : ℕ) (l : List ℕ) → special x ≡ true → any_special (x ∷ l) ≡ true
unfolding any_special
any-cons x l e = rw e

any-rest : (x : ℕ) (l : List ℕ) → special x ≡ false → any_special (x ∷ l) ≡ any_special l
unfolding any_special
any-rest x l e = rw e

double-nil : double [] ≡ []
unfolding double
double-nil = refl

-- bytes that want no quotes have none to double
pub double-plain : (l : List ℕ) → any_special l ≡ false → double l ≡ l
double-plain [] e = double-nil
double-plain (x ∷ l) e = by (λ g. double-plain l g) (special x) refl
  where
    never : ◌≡◌ {A = Bool} true false → ⊥
    never z = let y : ◌≡◌ {A = ℕ} 0 1 = cc in omega arith

    other : special x ≡ false → x ≡ 34 → ⊥
    other f q = never (special-quote x (λ r. omega arith) q ∙ f)

    by : (any_special l ≡ false → double l ≡ l) → (t : Bool) → special x ≡ t → double (x ∷ l) ≡ x ∷ l
    by ih true f = absurd (never (sym (any-cons x l f) ∙ e))
    by ih false f = double-cons x l ∙ rw (double-other x (other f), ih (sym (any-rest x l f) ∙ e))

pub cell-plain : (l : List ℕ) → any_special l ≡ false → write_cell l ≡ l
unfolding write_cell
cell-plain l e = rw e

pub cell-quoted : (l : List ℕ) → any_special l ≡ true → write_cell l ≡ 34 ∷ (double l ++ (34 ∷ []))
unfolding write_cell
cell-quoted l e = rw e

-- ---- from a place on

module _ (l : List ℕ) (i : ℕ) where
  pub any_none : length l ≤ i → any_special (drop i l) ≡ false
  unfolding any_special
  any_none h = rw (drop_of_length-le l h)

  pub any_here : i < length l → special (get_or l i 0) ≡ true → any_special (drop i l) ≡ true
  any_here h e = rw (drop-cons l i 0) (any-cons _ _ e)

  pub any_on : i < length l → special (get_or l i 0) ≡ false → any_special (drop i l) ≡ any_special (drop (i + 1) l)
  any_on h e = rw (add-one i, drop-cons l i 0) (any-rest _ _ e)

  pub double_none : length l ≤ i → double (drop i l) ≡ []
  unfolding double
  double_none h = rw (drop_of_length-le l h)

  pub double_on : i < length l → double (drop i l) ≡ double (get_or l i 0 ∷ []) ++ double (drop (i + 1) l)
  double_on h = rw (add-one i, drop-cons l i 0) (double-cons _ _)

  pub size_on : i < length l → length (double (drop i l)) ≡ length (double (get_or l i 0 ∷ [])) + length (double (drop (i + 1) l))
  size_on h = ap length (double_on h) ∙ length-append (double (get_or l i 0 ∷ [])) (double (drop (i + 1) l))

  pub put_on : i < length l → (t t' : List ℕ) (j j' : ℕ) → j' ≡ j + length (double (get_or l i 0 ∷ [])) → t' ≡ sets t j (double (get_or l i 0 ∷ []))
      → sets t' j' (double (drop (i + 1) l)) ≡ sets t j (double (drop i l))
  put_on h t t' j j' p q =
      rw (q, p) (sym (ap (sets t j) (double_on h) ∙ sets-append (double (get_or l i 0 ∷ [])) (double (drop (i + 1) l)) t j))

pub ruleset any_steps = (any_none, any_here, any_on)

pub size_quote : (x : ℕ) → x ≡ 34 → length (double (x ∷ [])) ≡ 2
size_quote x e = rw (double-quote x e)

pub size_other : (x : ℕ) → (x ≡ 34 → ⊥) → length (double (x ∷ [])) ≡ 1
size_other x n = rw (double-other x n)

pub ruleset double_sizes = (double_none, size_on, size_quote, size_other)

pub ruleset doubles = (double-quote, double-other, size_quote, size_other, add-one)

-- ---- the cell

module _ (l : List ℕ) where
  pub quoted_length : any_special l ≡ true → length (write_cell l) ≡ length (double l) + 2
  quoted_length e =
      let a = ap length (cell-quoted l e) in
      let b = length-append (double l) (34 ∷ []) in
      omega arith

  pub plain_length : any_special l ≡ false → length (write_cell l) ≡ length l
  plain_length e = ap length (cell-plain l e)

  pub plain_double : any_special l ≡ false → write_cell l ≡ double l
  plain_double e = cell-plain l e ∙ sym (double-plain l e)

  pub put_quoted : (t t' : List ℕ) (to close : ℕ) → any_special l ≡ true
      → (close ≡ to + 1 + length (double l)) × (t' ≡ sets (set t to 34) (to + 1) (double l))
      → (close + 1 ≡ to + length (write_cell l)) × (set t' close 34 ≡ sets t to (write_cell l))
  put_quoted t t' to close e q =
      let d = double l in
      let a = quoted_length e in (
        omega (arith, q.0),
        rw (cell-quoted l e) (rw (q.0, q.1, add-one to) (sym (sets-append d (34 ∷ []) (set t to 34) (suc to)))),
      )

pub ruleset cell_sizes = (quoted_length, plain_length)
