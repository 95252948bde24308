-- `effects::clear_blocks` meets its contract: after d turns of the loop the first d blocks are gone through. Assumes nothing.
use native.Mathlib.Numerals.{add-one}
use Rattle.std.proofs.Common.{ap, ◌∙◌, refl, rules}
use Prim.Native.Nat.{ℕ}
use Rattle.effects.specs.Cleared.{cleared_up_to}
use Rattle.effects.proofs.clear_blocks.Goals as goal

pub loop-d-init : goal.loop-d-init
unfolding cleared_up_to
loop-d-init c = refl

pub loop-d-preserved : goal.loop-d-preserved
unfolding cleared_up_to
loop-d-preserved c = rw (add-one, ← c.loop-d.invariant) c.clear_block.ensures

pub returns : goal.returns
returns c =
    let plan = c.args.plan.now in
    c.loop-d.invariant ∙ ap (λ (m : ℕ). cleared_up_to plan.bytes.now plan.offsets.now m c.args.rec.now) (search rules)
