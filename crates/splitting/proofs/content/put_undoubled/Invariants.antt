use Rattle.std.proofs.Common.{◌≡◌, ◌+◌, length}
use lib.Seq.{sets}
use Rattle.cells.specs.Cells.{undouble}
use Rattle.splitting.proofs.content.put_undoubled.Given as goal

abbrev pub invariant-loop-x : goal.invariant-loop-x
invariant-loop-x l = (l.place + length (undouble l.rest) ≡ l.to + length (undouble l.cell))
    × (sets l.circuit l.place (undouble l.rest) ≡ sets l.initial.circuit l.to (undouble l.cell))

abbrev pub decreases-loop-x : goal.decreases-loop-x
decreases-loop-x l = length l.rest
