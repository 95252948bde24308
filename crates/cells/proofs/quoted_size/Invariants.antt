use Rattle.std.proofs.Common.{◌≡◌, ◌+◌, ◌-◌, ◌≤◌, length, drop}
use Rattle.cells.specs.Cells.{quoted_size}
use Rattle.cells.proofs.quoted_size.Given as goal

abbrev pub invariant-loop-size : goal.invariant-loop-size
invariant-loop-size l = (l.size ≤ length l.rest) × (l.size + quoted_size (drop l.size l.rest) ≡ quoted_size l.rest)

abbrev pub decreases-loop-size : goal.decreases-loop-size
decreases-loop-size l = length l.rest - l.size
