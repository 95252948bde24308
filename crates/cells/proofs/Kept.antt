-- Laws that a page names: how a cell ends by the byte at a place, and where no byte is left. Assumes nothing.
use mathlib.Core.Path.{◌≡◌}
use mathlib.Core.Bool.{cond}
use mathlib.Core.List.{List}
use Prim.Native.Nat.{ℕ, ◌+◌, ◌≤◌, ◌<◌}
use native.Mathlib.Numerals.{add-one}
use lib.ListN.{length, get_or, drop, drop_of_length-le}
use lib.Seq.{drop-cons}
use lib.Dec.{eqb}
use Rattle.cells.specs.Cells.{starts, none, ending}

pub ending_at : (s : List ℕ) (i : ℕ) → i < length s
    → ending (drop i s) ≡ cond (eqb (get_or s i 0) 44) 1 (cond (eqb (get_or s i 0) 10) 2 (cond (eqb (get_or s i 0) 13) (cond (starts 10 (drop (i + 1) s)) 3 30) 30))
unfolding ending starts none
ending_at s i h = rw (add-one, drop-cons s i 0)

pub ending-past : (s : List ℕ) (i : ℕ) → length s ≤ i → ending (drop i s) ≡ 0
unfolding ending starts none
ending-past s i h = rw (drop_of_length-le s h)

-- how a cell ends, wherever it ends
pub ruleset endings = (ending_at, ending-past)
