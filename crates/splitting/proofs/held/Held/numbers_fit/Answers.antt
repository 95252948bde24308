-- What is left to test from place j on says what all places say. Assumes nothing.
use Rattle.std.proofs.Common.{sym, ◌∙◌, ◌+◌, true, false, drop, arith}
use Rattle.splitting.proofs.Numbers.{said-on, fit_on, fit-done, is_said}
use Rattle.splitting.proofs.held.Held.numbers_fit.Goals as goal

pub returns-then-is_none : goal.returns-then-is_none
returns-then-is_none c =
    λ cells says long.
    let is = said-on _ _ _ cells _ _ c.loop-j.j c.width_at.result _ c.args.shape.few.1 says long (omega arith) c.said.ensures in
    sym (fit_on _ _ c.loop-j.j (omega arith) cells long c.width_at.result _ false c.width_at.ensures is (is_said _ _ c.if-is_none.ensures))
    ∙ c.loop-j.invariant cells says long

pub loop-j-preserved : goal.loop-j-preserved
loop-j-preserved c =
    λ cells says long.
    let is = said-on _ _ _ cells _ _ c.loop-j.j c.width_at.result _ c.args.shape.few.1 says long (omega arith) c.said.ensures in
    sym (fit_on _ _ c.loop-j.j (omega arith) cells long c.width_at.result _ true c.width_at.ensures is (is_said _ _ c.if-is_none.ensures))
    ∙ c.loop-j.invariant cells says long

pub returns : goal.returns
returns c =
    λ cells says long. sym (fit-done c.args.shape.inputs c.args.shape.parameters c.loop-j.j (omega arith) (drop (c.loop-j.j + 1) cells)) ∙ c.loop-j.invariant cells says long
