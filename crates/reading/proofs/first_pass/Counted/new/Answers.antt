-- Header and end are taken from the room. Assumes nothing.
use Rattle.reading.proofs.Counting.{opened-as}
use Rattle.reading.proofs.first_pass.Counted.new.Goals as goal

pub returns : goal.returns
returns c = opened-as c.args.room _ _ c.left_of.ensures.over c.left_of.ensures.rest
