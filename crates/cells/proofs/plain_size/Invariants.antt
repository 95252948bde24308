use Rattle.std.proofs.Common.{◌≡◌, ◌+◌, drop}
use Rattle.cells.specs.Cells.{plain_size}
use Rattle.cells.proofs.plain_size.Given as goal

abbrev pub invariant-loop-i : goal.invariant-loop-i
invariant-loop-i l = l.i + plain_size (drop l.i l.rest) ≡ plain_size l.rest
