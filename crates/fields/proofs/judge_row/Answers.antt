-- `fields::judge_row` meets its contract: the tests come in the order of the numbers; behind all blocks no number is later, so a
-- fault of the connector is 6. Assumes nothing.
use mathlib.Core.Path.{◌≡◌, ◌∙◌, refl}
use native.Mathlib.Omega.{arith}
use Rattle.std.proofs.lemmas.Grind.{common_steps}
use Rattle.refusals.specs.Refusals.{number_of, number_in as refusal_in}
use Rattle.refusals.proofs.Numbers.{number-above}
use Rattle.fields.specs.Fields.{row_faults}
use Rattle.fields.proofs.Laws.{row-wrong, row-right, row-six}
use Rattle.fields.proofs.judge_row.Goals as goal

pub returns-in_err-judge-clause-number : goal.returns-in_err-judge-clause-number
unfolding row_faults
returns-in_err-judge-clause-number c =
    let w = row-wrong _ _ _ _ _ _ _ _ c.spot_at.ensures c.in_err-judge.ensures (omega arith) (number-above _) in
    let six = row-six _ _ _ _ _ _ _ _ c.spot_at.ensures c.in_err-judge.ensures (omega arith) (number-above _) in
    let e : refusal_in c.from_residual.result ≡ number_of c.in_err-judge.field-0.0 = grind (arith, common_steps) in
    e ∙ six ∙ grind (arith, common_steps, w)

pub returns-in_err-mark-clause-number : goal.returns-in_err-mark-clause-number
unfolding row_faults
returns-in_err-mark-clause-number c =
    let w = row-right _ _ _ _ _ _ _ _ c.spot_at.ensures c.in_ok-judge.ensures refl in
    grind (arith, common_steps, w)

pub returns-then-used-mark-clause-number : goal.returns-then-used-mark-clause-number
unfolding row_faults
returns-then-used-mark-clause-number c =
    let w = row-right _ _ _ _ _ _ _ _ c.spot_at.ensures c.in_ok-judge.ensures refl in
    grind (arith, common_steps, w)

pub returns-clause-number : goal.returns-clause-number
unfolding row_faults
returns-clause-number c =
    let w = row-right _ _ _ _ _ _ _ _ c.spot_at.ensures c.in_ok-judge.ensures refl in
    grind (arith, common_steps, w)
