use Rattle.std.proofs.Common.{◌≡◌, ◌+◌, length}
use lib.Seq.{sets}
use Rattle.splitting.proofs.content.put_plain.Given as goal

abbrev pub invariant-loop-rest : goal.invariant-loop-rest
invariant-loop-rest l = (l.place + length l.rest ≡ l.to + length l.cell) × (sets l.circuit l.place l.rest ≡ sets l.initial.circuit l.to l.cell)

abbrev pub decreases-loop-rest : goal.decreases-loop-rest
decreases-loop-rest l = length l.rest
