use Rattle.std.proofs.Common.{◌≡◌, ◌-◌, length}
use Rattle.reading.proofs.Surveying.{Written}
use Rattle.reading.proofs.second_pass.fill.Given as goal

abbrev pub invariant-loop-at : goal.invariant-loop-at
invariant-loop-at l = (l.held.text ≡ l.initial.held.text) × Written l.initial.held.text.now l.initial.circuit l.at l.to l.circuit

abbrev pub decreases-loop-at : goal.decreases-loop-at
decreases-loop-at l = length l.initial.held.text.now - l.at
