-- `Kind::row` meets its contract: the row at the kind's place. Assumes nothing.
use Rattle.kinds.proofs.Rows.{table_is}
use Rattle.kinds.proofs.kind.Kind.row.Goals as goal

pub returns : goal.returns
returns c = rw c.code-place.ensures.is (table_is c.args.self _)
