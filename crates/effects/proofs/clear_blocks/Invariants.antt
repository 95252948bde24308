use mathlib.Core.Path.{◌≡◌}
use Rattle.effects.specs.Cleared.{cleared_up_to}
use Rattle.effects.proofs.clear_blocks.Given as goal

abbrev pub invariant-loop-d : goal.invariant-loop-d
invariant-loop-d l = l.rec ≡ cleared_up_to l.plan.bytes.now l.plan.offsets.now l.d l.initial.rec
