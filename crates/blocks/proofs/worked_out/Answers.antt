-- `blocks::worked_out` meets its contract: a number that is no kind has no rule. Assumes nothing.
use native.Mathlib.Omega.{arith}
use Rattle.blocks.proofs.NoRule.{none-known, no-rule}
use Rattle.blocks.proofs.worked_out.Goals as goal

pub returns-in-Err : goal.returns-in-Err
returns-in-Err c = rw (no-rule c.args.kind (none-known c.args.kind c.in-Err.ensures 19 (omega arith))) c.three_of.ensures
