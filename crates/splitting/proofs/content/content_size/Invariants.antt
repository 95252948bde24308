use Rattle.std.proofs.Common.{◌≡◌, ◌+◌, length}
use Rattle.cells.specs.Cells.{undouble}
use Rattle.splitting.proofs.content.content_size.Given as goal

abbrev pub invariant-loop-behind : goal.invariant-loop-behind
invariant-loop-behind l = l.size + length (undouble l.rest) ≡ length (undouble l.cell)

abbrev pub decreases-loop-behind : goal.decreases-loop-behind
decreases-loop-behind l = length l.rest
