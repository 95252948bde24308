-- A law that a page names: any part of the slots of a circuit's rows, not its front or back alone. Assumes nothing.
use Prim.Native.Nat.{ℕ, ◌+◌, ◌≤◌}
use native.Mathlib.Omega.{arith}
use mathlib.Core.Path.{◌≡◌, ap, ◌∙◌}
use mathlib.Core.List.{List}
use lib.ListN.{length, take, drop, length-take, length-drop}
use lib.Seq.{get_or-take, get_or-drop}
use lib.IntN.{ℤ, pos}
use Rattle.decoding.specs.Decoded.{Row}
use Rattle.record.specs.Places.{at}
use Rattle.destinations.specs.Slots.{filled}
use Rattle.destinations.proofs.Filled.{Part, filled-length}

pub part_of : (rows : List Row) (l slots : List ℤ) (a m : ℕ) → slots ≡ filled rows l → a + m ≤ 156 → Part (filled rows l) a m (take m (drop a slots))
part_of rows l slots a m e b =
    let f : length slots ≡ 156 = ap length e ∙ filled-length rows l in
    record {
      long = simp (length-take, length-drop) (omega arith);
      words = λ k c. get_or-take m (drop a slots) k (pos 0) c ∙ get_or-drop a slots k (pos 0) ∙ ap (λ (x : List ℤ). at x (a + k)) e;
    }
