use Rattle.std.proofs.Common.{◌≡◌, ◌+◌, ◌*◌, ◌≤◌, length, drop}
use Rattle.cells.specs.Cells.{double}
use Rattle.writing.proofs.label.double_size.Given as goal

abbrev pub invariant-loop-x : goal.invariant-loop-x
invariant-loop-x l = (l.size ≤ 2 * l.x-index) × (l.size + length (double (drop l.x-index l.label)) ≡ length (double l.label))
