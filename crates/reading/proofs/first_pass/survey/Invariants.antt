use Rattle.std.proofs.Common.{◌≡◌, ◌-◌, length}
use Rattle.reading.specs.Counted.{counted_of}
use Rattle.reading.proofs.Surveying.{Surveyed}
use Rattle.reading.proofs.first_pass.survey.Given as goal

abbrev pub invariant-loop-at : goal.invariant-loop-at
invariant-loop-at l = (l.held.text ≡ l.initial.held.text) × Surveyed l.initial.held.text.now l.room l.at (counted_of l.counted)

abbrev pub decreases-loop-at : goal.decreases-loop-at
decreases-loop-at l = length l.initial.held.text.now - l.at
