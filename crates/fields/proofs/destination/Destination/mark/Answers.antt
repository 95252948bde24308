-- `fields::Destination::mark` meets its contract: a number up to the limit fits the room of its class. Assumes nothing.
use native.Mathlib.Omega.{arith}
use Rattle.fields.specs.Codes.{class_code}
use Rattle.fields.proofs.Laws.{Known, mark-below}
use Rattle.fields.proofs.destination.Destination.mark.Goals as goal

pub overflow_add-result : goal.overflow_add-result
overflow_add-result c =
    let a = c.args in
    let d : Known a.limits.now (class_code a.self) a.number = record { low = omega arith; high = omega (arith, c.limit.ensures) } in
    omega (arith, mark-below _ _ _ c.requires d, c.base.ensures.is)

pub returns-clause-mark : goal.returns-clause-mark
returns-clause-mark c =
    let a = c.args in
    let d : Known a.limits.now (class_code a.self) a.number = record { low = omega arith; high = omega (arith, c.limit.ensures) } in
    (omega (arith, c.base.ensures.is), omega (arith, mark-below _ _ _ c.requires d, c.base.ensures.is))
