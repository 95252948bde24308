-- A byte is its number. Assumes nothing.
use Rattle.writing.proofs.Field.{byte_is}
use Rattle.writing.proofs.numbers.number_at.Goals as goal

pub returns-in-1 : goal.returns-in-1
returns-in-1 c = byte_is c.args.bytes.now c.args.at c.args.width c.in-1.is
