-- `counts` meets its contract: the answer of the verdict that the judging says. Assumes nothing.
use Rattle.std.proofs.Common.{◌≡◌, sym, ap, ap₂, ◌∙◌, Err, rules}
use Rattle.refusals.specs.Answers.{accepted_with, answer_of}
use Rattle.circuit.specs.Circuit.{answer_to, answer_at}
use Rattle.circuit.proofs.counts.Goals as goal

pub returns-in_err-judge : goal.returns-in_err-judge
unfolding answer_at answer_to
returns-in_err-judge c =
    let is : c.from_residual.result ≡ Err c.in_err-judge.field-0.0 = search rules in
    ap answer_of is ∙ ap answer_to (sym (c.judge.ensures.refuses _ c.in_err-judge.was))

pub returns : goal.returns
unfolding answer_at answer_to
returns c =
    let a = c.judge.ensures.accepts c.in_ok-judge.was in
    ap₂ accepted_with a.n a.rows ∙ ap answer_to (sym a.is)
