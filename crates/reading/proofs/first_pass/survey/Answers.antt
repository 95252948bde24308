-- The loop holds what `Surveyed` says, and each row brings it nearer to the end. Assumes nothing.
use Rattle.std.proofs.Common.{refl, ◌∙◌, length, arith, ap}
use Rattle.reading.proofs.Surveying.{surveyed-none, surveyed-more, surveyed-fault, surveyed-all, fewer-blocks}
use Rattle.reading.proofs.first_pass.survey.Goals as goal

pub loop-at-init : goal.loop-at-init
loop-at-init c = (refl, surveyed-none _ _ _ c.new-counted.ensures)

pub with-counted-requires : goal.with-counted-requires
with-counted-requires c =
    let v = c.loop-at.invariant.1 in
    let t = ap (λ b. length b.now) c.loop-at.invariant.0 in
    (omega (arith, v.few, c.loop-at-test.true, c.well_formed), fewer-blocks _ _ _ _ v)

pub loop-at-preserved : goal.loop-at-preserved
loop-at-preserved c =
    let t = c.loop-at.invariant.0 in
    (c.judge.ensures.text ∙ t, surveyed-more _ _ _ _ c.loop-at.invariant.1 (rw t at c.loop-at-test.true) _ (rw t at c.in-Ok.ensures.judges) refl _ c.with-counted.ensures)

pub returns-in-Err-clause-surveys : goal.returns-in-Err-clause-surveys
returns-in-Err-clause-surveys c =
    let t = c.loop-at.invariant.0 in
    rw c.at.ensures (surveyed-fault _ _ _ _ c.loop-at.invariant.1 (rw t at c.loop-at-test.true) _ (rw t at c.in-Err.ensures.judges))

pub returns-clause-surveys : goal.returns-clause-surveys
returns-clause-surveys c = surveyed-all _ _ _ _ c.loop-at.invariant.1 (rw c.loop-at.invariant.0 at c.loop-at-test.false)
