use Rattle.std.proofs.Common.{◌≡◌, ◌+◌, length, drop}
use lib.Seq.{sets}
use Rattle.cells.specs.Cells.{double}
use Rattle.writing.proofs.label.put_double.Given as goal

abbrev pub invariant-loop-x : goal.invariant-loop-x
invariant-loop-x l = (l.behind + length (double (drop l.x-index l.label)) ≡ l.to + length (double l.label))
    × (sets l.text l.behind (double (drop l.x-index l.label)) ≡ sets l.initial.text l.to (double l.label))
