-- `fields::limit_of` meets its contract: what is no class has no destination. Assumes nothing.
use mathlib.Core.Path.{◌≡◌}
use native.Mathlib.Omega.{arith}
use Rattle.fields.proofs.Laws.{limit-of-none, limit-above}
use Rattle.fields.proofs.destination.limit_of.Goals as goal

pub returns-in_default : goal.returns-in_default
returns-in_default c = omega (arith, limit-above c.args.limits c.args.class (omega (arith, c.in_default.ensures)))

pub returns-in-Err : goal.returns-in-Err
returns-in-Err c =
    let e : c.in-Ok.code ≡ c.args.class = omega (arith, c.in-Ok.ensures) in
    omega (arith, limit-of-none c.args.limits c.args.class (rw e at c.in-Err.ensures.1))
