-- `steps::bits_of` meets its contract: the four are resolved one beside the other. Assumes nothing.
use Rattle.steps.specs.Steps.{bits_of}
use Rattle.steps.proofs.bits_of.Goals as goal

pub returns : goal.returns
unfolding bits_of
returns c = rw (← c.unused_counts-unused.ensures, c.bit_from.ensures, c.bit_from-2.ensures, c.bit_from-3.ensures, c.bit_from-4.ensures)
