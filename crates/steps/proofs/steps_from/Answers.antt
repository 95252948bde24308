-- `steps::steps_from` meets its contract: after i turns of the loop the first i steps are done. Assumes nothing.
use native.Mathlib.Omega.{arith}
use mathlib.Core.Path.{sym}
use Rattle.record.specs.Written.{lines_at}
use Rattle.steps.proofs.Keeps.{steps-zero}
use Rattle.steps.proofs.Running.{next-ready, next-is}
use Rattle.steps.proofs.steps_from.Goals as goal

pub loop-i-init : goal.loop-i-init
loop-i-init c =
    let plan = c.args.plan.now in
    sym (steps-zero (lines_at plan.bytes.now plan.n plan.offsets.now) c.args.d c.args.rec.now)

pub step_at-requires : goal.step_at-requires
step_at-requires c =
    let plan = c.args.plan.now in
    let ready = next-ready plan.bytes.now plan.n plan.offsets.now c.args.rec.now c.requires.0 c.args.d c.loop-i.i (omega arith) in
    (rw c.loop-i.invariant ready, omega arith)

pub loop-i-preserved : goal.loop-i-preserved
loop-i-preserved c =
    let plan = c.args.plan.now in
    let is = next-is plan.bytes.now plan.n plan.offsets.now c.args.rec.now c.requires.0 c.args.d c.loop-i.i (omega arith) in
    rw (← is, ← c.loop-i.invariant) c.step_at.ensures
