-- `fields::destination::mark_at` meets its contract: of an unknown class no number is known. Assumes nothing.
use mathlib.Core.Path.{◌≡◌, ◌∙◌}
use native.Mathlib.Omega.{arith}
use Rattle.std.proofs.lemmas.Grind.{common_steps}
use Rattle.refusals.specs.Refusals.{number_in}
use Rattle.fields.proofs.Laws.{unknown-of-none}
use Rattle.fields.proofs.destination.mark_at.Goals as goal

pub returns-in_err-try_from-clause-number : goal.returns-in_err-try_from-clause-number
returns-in_err-try_from-clause-number c =
    let e : number_in c.from_residual.result ≡ 9 = grind (arith, common_steps) in
    e ∙ simp (unknown-of-none c.args.limits.now c.args.code c.args.number c.in_err-try_from.ensures.1)
