-- Its fields are taken from the room. Assumes nothing.
use Rattle.reading.specs.Counted.{counted_of, judged_of}
use Rattle.std.specs.Prelude.{Ok}
use Rattle.reading.proofs.Counting.{counted-as}
use Rattle.reading.proofs.first_pass.Counted.with.Goals as goal

pub returns : goal.returns
returns c = counted-as (counted_of c.args.self) (judged_of (Ok c.args.row)) _ _ c.left_of.ensures.over c.left_of.ensures.rest
