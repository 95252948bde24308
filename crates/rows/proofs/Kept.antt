-- Laws that a page names: what a number of one byte, or of one byte or two, may not go beyond. Assumes nothing.
use mathlib.Core.Path.{◌≡◌}
use Prim.Native.Nat.{ℕ}
use borrow.Author.Tests.{ne_eqb}
use Rattle.rows.specs.Columns.{below_of, above_of}

pub below_other : (w : ℕ) → (w ≡ 4 → ⊥) → 0 ≡ below_of w
unfolding below_of
below_other w n = rw (ne_eqb w 4 n)

pub above_other : (w : ℕ) → (w ≡ 4 → ⊥) → (w ≡ 2 → ⊥) → 255 ≡ above_of w
unfolding above_of
above_other w n m = rw (ne_eqb w 4 n, ne_eqb w 2 m)
