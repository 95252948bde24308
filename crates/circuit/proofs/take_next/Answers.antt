-- `take_next` meets its contract: a field that is cut short is 1; else its tag tells which method takes it. Assumes nothing.
use mathlib.Core.Path.{◌≡◌, refl, ap, ◌∙◌}
use Rattle.std.proofs.Common.{Err, rules}
use native.Mathlib.Omega.{arith}
use Rattle.refusals.specs.Refusals.{number_of, number_in}
use Rattle.decoding.proofs.Steps.{refuses}
use Rattle.circuit.proofs.Walk.{cut-short, field-header, field-block, field-label, field_row, field_end, field-other}
use Rattle.circuit.proofs.take_next.Goals as goal

pub returns-in_err-field-clause-answers : goal.returns-in_err-field-clause-answers
returns-in_err-field-clause-answers c =
    let is : c.from_residual.result ≡ Err c.in_err-field.field-0.0 = search rules in
    let number = ap number_in is ∙ ap number_of c.in_err-field.ensures.reads.0 in
    λ st h. refuses (number ∙ cut-short _ _ _ st c.in_err-field.ensures.reads.1) (λ z. omega (arith, number))

pub returns-in-1-clause-answers : goal.returns-in-1-clause-answers
returns-in-1-clause-answers c = field-header _ _ _ _ c.in_ok-field.field c.in_ok-field.ensures.reads _ _ _ (search rules) c.header.ensures.takes

pub returns-in-16-clause-answers : goal.returns-in-16-clause-answers
returns-in-16-clause-answers c = field-block _ _ _ _ c.in_ok-field.field c.in_ok-field.ensures.reads _ _ _ (search rules) c.block.ensures.takes

pub returns-in-32-clause-answers : goal.returns-in-32-clause-answers
returns-in-32-clause-answers c = field-label _ _ _ _ c.in_ok-field.field c.in_ok-field.ensures.reads _ _ _ (search rules) (c.label.ensures.takes c.args.limits.now c.in_ok-field.field.bytes.now)

pub returns-in-48-clause-answers : goal.returns-in-48-clause-answers
returns-in-48-clause-answers c = field_row _ _ _ _ c.in_ok-field.field c.in_ok-field.ensures.reads _ _ _ (search rules) c.row.ensures.takes

pub returns-in-127-clause-answers : goal.returns-in-127-clause-answers
returns-in-127-clause-answers c = field_end _ _ _ _ c.in_ok-field.field c.in_ok-field.ensures.reads _ _ _ (search rules) (c.end.ensures.takes c.args.limits.now c.in_ok-field.field.bytes.now)

pub returns-in_default-clause-answers : goal.returns-in_default-clause-answers
returns-in_default-clause-answers c =
    field-other _ _ _ _ c.in_ok-field.field c.in_ok-field.ensures.reads _ _ _ (λ z. search (rules, z)) (λ z. search (rules, z)) (λ z. search (rules, z)) (λ z. search (rules, z)) (λ z. search (rules, z)) refl
