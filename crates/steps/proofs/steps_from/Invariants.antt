use mathlib.Core.Path.{◌≡◌}
use Rattle.record.specs.Written.{lines_at}
use Rattle.steps.specs.Steps.{steps_from}
use Rattle.steps.proofs.steps_from.Given as goal

abbrev pub invariant-loop-i : goal.invariant-loop-i
invariant-loop-i l = l.rec ≡ steps_from (lines_at l.plan.bytes.now l.plan.n l.plan.offsets.now) l.d l.i l.initial.rec
