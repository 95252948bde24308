-- `steps::plain_bit` meets its contract: by the class, or none. Assumes nothing.
use Rattle.lines.specs.Lines.{input_said}
use Rattle.steps.proofs.Sources.{plain_by}
use Rattle.steps.proofs.plain_bit.Goals as goal

pub returns-in-Ok : goal.returns-in-Ok
returns-in-Ok c = rw (plain_by (input_said c.args.input) c.args.rec.now c.args.unused c.try_from.result c.try_from.ensures, c.in-Ok.is) c.bit_of.ensures

pub returns-in-Err : goal.returns-in-Err
returns-in-Err c = rw (plain_by (input_said c.args.input) c.args.rec.now c.args.unused c.try_from.result c.try_from.ensures, c.in-Err.is)
