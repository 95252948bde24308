-- The head of the field, its version, and how many blocks. Assumes nothing.
use Rattle.reading.proofs.Putting.{header-put}
use Rattle.reading.proofs.second_pass.put_header.Goals as goal

pub returns : goal.returns
returns c = header-put _ c.put_head.new.circuit _ _ c.put_head.ensures c.put_two.ensures
