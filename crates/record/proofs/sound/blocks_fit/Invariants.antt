use mathlib.Core.Path.{◌≡◌}
use Rattle.record.specs.Written.{blocks_fit}
use Rattle.record.proofs.sound.blocks_fit.Given as goal

abbrev pub invariant-loop-d : goal.invariant-loop-d
invariant-loop-d l = l.ok ≡ blocks_fit l.plan.bytes.now l.d l.plan.offsets.now l.rec
