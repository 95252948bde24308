-- Laws that a page names: the bytes of a part of a list that want quotes or double, a number with its comma, what is free of the room once a
-- row is measured, and that all rows fit once none is left. Assumes nothing.
use mathlib.Core.Path.{◌≡◌, ap, sym, ◌∙◌}
use mathlib.Core.Bool.{Bool, true, false}
use mathlib.Core.List.{List, [], ◌∷◌, ◌++◌}
use Prim.Native.Nat.{ℕ, ◌+◌, ◌-◌, ◌≤◌, ◌<◌}
use native.Mathlib.Numerals.{add-one}
use native.Mathlib.Nat.{sub-zero}
use native.Mathlib.Omega.{arith}
use lib.Dec.{ltb}
use lib.ListN.{length, get_or, set}
use lib.Seq.{sets}
use mir.Syntax.{w32}
use mir.Val.{to_z}
use borrow.Author.Tests.{le-ltb}
use Rattle.digits.specs.Numbers.{signed_decimal}
use Rattle.digits.proofs.Kept.{part_none, part-cons}
use Rattle.cells.specs.Cells.{double, special, any_special}
use Rattle.rows.proofs.Laid.{sets-append}
use Rattle.writing.specs.Walked.{between, number_text, row_at, next_at, rows_at}
use Rattle.writing.proofs.Cell.{double-cons}
use Rattle.writing.proofs.Row.{rows_done, rows_length}

-- ---- a part of a label

any-cons : (x : ℕ) (l : List ℕ) → special x ≡ true → any_special (x ∷ l) ≡ true
unfolding any_special
any-cons x l e = rw e

module _ (s : List ℕ) (i end : ℕ) where
  pub any_none : end ≤ i → false ≡ any_special (between s i end)
  unfolding any_special
  any_none h = rw (part_none s i end h)

module _ (s : List ℕ) (i end : ℕ) (h : i < end) (g : end ≤ length s) where
  pub any_here : special (get_or s i 0) ≡ true → true ≡ any_special (between s i end)
  any_here e = rw (part-cons s i end h g) (sym (any-cons _ _ e))

  double-on : double (between s i end) ≡ double (get_or s i 0 ∷ []) ++ double (between s (i + 1) end)
  double-on = rw (part-cons s i end h g) (double-cons _ _)

  pub put_on : (t t' : List ℕ) (j j' : ℕ) → j' ≡ j + length (double (get_or s i 0 ∷ [])) → t' ≡ sets t j (double (get_or s i 0 ∷ []))
      → sets t' j' (double (between s (i + 1) end)) ≡ sets t j (double (between s i end))
  put_on t t' j j' p q =
      rw (q, p) (sym (ap (sets t j) double-on ∙ sets-append (double (get_or s i 0 ∷ [])) (double (between s (i + 1) end)) t j))

-- ---- a number

module _ (bits n : ℕ) (e : bits ≡ n) where
  pub number_put : (t t' : List ℕ) (to r : ℕ)
      → (r ≡ to + 1 + length (signed_decimal (to_z w32 bits))) × (t' ≡ sets (set t to 44) (to + 1) (signed_decimal (to_z w32 bits)))
      → (r ≡ to + length (number_text (to_z w32 n))) × (t' ≡ sets t to (number_text (to_z w32 n)))
  unfolding number_text
  number_put t t' to r q =
      let p = ap (λ (b : ℕ). length (signed_decimal (to_z w32 b))) e in
      (omega (arith, q.0), q.1 ∙ rw (e, add-one to))

-- ---- the rows in the room for them

module _ (s : List ℕ) (room free left at : ℕ) (total : ℕ) (spent : free + total ≡ room + length (rows_at s left at)) where
  pub free_on : 0 < left → (size next : ℕ) → size ≡ length (row_at s at) → next ≡ next_at s at → size ≤ free
      → free - size + total ≡ room + length (rows_at s (left - 1) next)
  free_on h size next e f g =
      let l : length (rows_at s left at) ≡ length (row_at s at) + length (rows_at s (left - 1) next) = rw sub-zero at (rows_length s left 0 at h next f) in
      omega arith

  pub fits_all : left ≤ 0 → (false ≡ ltb room total) × (◌≡◌ {A = Bool} false false → free + total ≡ room)
  fits_all h =
      let l = ap length (rows_done s left at h) in
      (sym (le-ltb room total (omega arith)), λ z. omega arith)
