-- The rows of a text, passed and to come: a whole row goes from one side to the other. The first with a fault ends it. Assumes nothing.
use mathlib.Core.Path.{◌≡◌, refl, ap, sym, ◌∙◌}
use mathlib.Core.Bool.{Bool, true, false}
use mathlib.Core.List.{List, [], ◌∷◌, ◌++◌, append-nil, append_assoc}
use Prim.Native.Nat.{ℕ, zero, suc, ◌+◌, ◌≤◌, ◌<◌}
use native.Mathlib.Omega.{arith}
use lib.ListN.{length}
use borrow.Author.Tests.{lt-ltb, le-ltb}
use Rattle.rows.specs.Text.{TextRow, split_at, rows_from, rows_of}
use Rattle.rows.specs.Columns.{row_number}
use Rattle.rows.specs.Reading.{faulty, sound, reading_from}
use Rattle.reading.specs.Counted.{row_at, Goes}

-- ---- where the rows to come begin

-- those before a position, and the position
pub record Passed (s : List ℕ) (at : ℕ) (before : List TextRow) : Type 0 where
  pub fuel : ℕ
  pub enough : length s < at + fuel
  pub is : rows_of s ≡ before ++ rows_from fuel s at

-- the row at a position comes next
pub record Comes (s : List ℕ) (at : ℕ) (before : List TextRow) : Type 0 where
  pub rest : List TextRow
  pub is : rows_of s ≡ before ++ (row_at s at ∷ rest)

pub none_passed : (s : List ℕ) → Passed s 0 []
unfolding rows_of
none_passed s = record { fuel = suc (length s); enough = omega arith; is = refl }

abbrev behind : ℕ → List ℕ → ℕ → List TextRow
behind f s at = elim (split_at s at).whole [ true ↦ rows_from f s (split_at s at).next | false ↦ [] ]

rows_next : (f : ℕ) (s : List ℕ) (at : ℕ) → at < length s → rows_from (suc f) s at ≡ row_at s at ∷ behind f s at
unfolding rows_from
rows_next f s at h = rw (lt-ltb at (length s) h, rows_from)

rows_none : (f : ℕ) (s : List ℕ) (at : ℕ) → length s ≤ at → rows_from f s at ≡ []
unfolding rows_from
rows_none zero s at h = refl
rows_none (suc f) s at h = rw (le-ltb at (length s) h, rows_from)

module _ (s : List ℕ) (at : ℕ) (before : List TextRow) where
  pub all-passed : length s ≤ at → Passed s at before → rows_of s ≡ before
  all-passed h p = p.is ∙ ap (λ l. before ++ l) (rows_none p.fuel s at h) ∙ append-nil before

  module _ (h : at < length s) where
    comes-with : (f : ℕ) → length s < at + f → rows_of s ≡ before ++ rows_from f s at → Comes s at before
    comes-with zero e p = absurd (omega arith)
    comes-with (suc f) e p = record { rest = behind f s at; is = p ∙ ap (λ l. before ++ l) (rows_next f s at h) }

    pub row-comes : Passed s at before → Comes s at before
    row-comes p = comes-with p.fuel p.enough p.is

    goes_with : (f next : ℕ) → Goes s at next → length s < at + f → rows_of s ≡ before ++ rows_from f s at
        → Passed s next (before ++ (row_at s at ∷ []))
    goes_with zero next g e p = absurd (omega arith)
    goes_with (suc f) next g e p =
        let b : behind f s at ≡ rows_from f s next =
        ap (λ (w : Bool). elim w [ true ↦ rows_from f s (split_at s at).next | false ↦ [] ]) g.whole
        ∙ ap (λ (n : ℕ). rows_from f s n) (sym g.is) in
        let o : at < next = g.on in
        record {
          fuel = f;
          enough = omega arith;
          is =
              p
              ∙ ap (λ l. before ++ l) (rows_next f s at h ∙ ap (λ l. row_at s at ∷ l) b)
              ∙ sym (append_assoc before (row_at s at ∷ []) (rows_from f s next));
        }

    pub one_more : (next : ℕ) → Goes s at next → Passed s at before → Passed s next (before ++ (row_at s at ∷ []))
    one_more next g p = goes_with p.fuel next g p.enough p.is

-- ---- the first row with a fault

fault-free : (k n : ℕ) (r : TextRow) (l : List TextRow) → row_number r ≡ n → reading_from k (r ∷ l) ≡ sound → row_number r ≡ 0
unfolding reading_from
fault-free k zero r l e p = e
fault-free k (suc m) r l e p =
    let q : faulty (suc m) k ≡ sound = rw (e, reading_from) at p in
    absurd (let z : ◌≡◌ {A = ℕ} 0 1 = cc in omega arith)

first-sound : (k : ℕ) (r : TextRow) (l : List TextRow) → reading_from k (r ∷ l) ≡ sound → row_number r ≡ 0
first-sound k r l p = fault-free k (row_number r) r l refl p

reading-on : (k : ℕ) (r : TextRow) (l : List TextRow) → row_number r ≡ 0 → reading_from k (r ∷ l) ≡ reading_from (suc k) l
unfolding reading_from
reading-on k r l e = rw (e, reading_from)

fault-at : (k n : ℕ) (r : TextRow) (l : List TextRow) → n ≡ row_number r → (n ≡ 0 → ⊥) → reading_from k (r ∷ l) ≡ faulty n k
unfolding reading_from
fault-at k zero r l e h = absurd (h refl)
fault-at k (suc m) r l e h = rw (sym e, reading_from)

reading-behind : (k : ℕ) (before l : List TextRow) → reading_from k before ≡ sound → reading_from k (before ++ l) ≡ reading_from (k + length before) l
unfolding reading_from
reading-behind k [] l p = ap (λ (n : ℕ). reading_from n l) (omega arith)
reading-behind k (r ∷ b) l p =
    let e = first-sound k r b p in
    let q : reading_from (suc k) b ≡ sound = sym (reading-on k r b e) ∙ p in
    reading-on k r (b ++ l) e
    ∙ reading-behind (suc k) b l q
    ∙ ap (λ (n : ℕ). reading_from n l) (omega arith)

-- a row without a fault behind such rows
pub sound_more : (before : List TextRow) (r : TextRow) → reading_from 1 before ≡ sound → row_number r ≡ 0
    → reading_from 1 (before ++ (r ∷ [])) ≡ sound
unfolding reading_from
sound_more before r p e = reading-behind 1 before (r ∷ []) p ∙ reading-on (1 + length before) r [] e

-- one with a fault
pub fault-behind : (before : List TextRow) (r : TextRow) (l : List TextRow) (n : ℕ) → reading_from 1 before ≡ sound → n ≡ row_number r
    → (n ≡ 0 → ⊥) → reading_from 1 (before ++ (r ∷ l)) ≡ faulty n (1 + length before)
fault-behind before r l n p e h = reading-behind 1 before (r ∷ l) p ∙ fault-at (1 + length before) n r l e h

-- where all are without a fault, so is each
pub sound-each : (k : ℕ) (before : List TextRow) (r : TextRow) (l : List TextRow) → reading_from k (before ++ (r ∷ l)) ≡ sound → row_number r ≡ 0
sound-each k [] r l p = first-sound k r l p
sound-each k (x ∷ b) r l p =
    sound-each (suc k) b r l (sym (reading-on k x (b ++ (r ∷ l)) (first-sound k x (b ++ (r ∷ l)) p)) ∙ p)
