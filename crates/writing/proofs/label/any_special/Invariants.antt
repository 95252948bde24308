use Rattle.std.proofs.Common.{◌≡◌, drop}
use Rattle.cells.specs.Cells.{any_special}
use Rattle.writing.proofs.label.any_special.Given as goal

abbrev pub invariant-loop-x : goal.invariant-loop-x
invariant-loop-x l = any_special (drop l.x-index l.label) ≡ any_special l.label
