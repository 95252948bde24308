-- `steps::value_from` meets its contract: by the class, or none. Assumes nothing.
use Rattle.std.proofs.Common.{rules}
use Rattle.lines.specs.Lines.{input_said}
use Rattle.steps.proofs.Sources.{source_by}
use Rattle.steps.proofs.value_from.Goals as goal

pub returns-in-Ok : goal.returns-in-Ok
returns-in-Ok c = rw (source_by (input_said c.args.input) c.try_from.result c.try_from.ensures, c.in-Ok.is, ← c.word_of.ensures) (search rules)

pub returns-in-Err : goal.returns-in-Err
returns-in-Err c = rw (source_by (input_said c.args.input) c.try_from.result c.try_from.ensures, c.in-Err.is)
