-- `record::sound::blocks_fit` meets its contract: one block more is tested at each turn. Assumes nothing.
use native.Mathlib.Numerals.{add-one}
use mathlib.Core.Path.{refl}
use Rattle.record.specs.Sound.{every}
use Rattle.record.proofs.Runs.{and_same}
use Rattle.record.proofs.sound.blocks_fit.Goals as goal

pub loop-d-init : goal.loop-d-init
unfolding every
loop-d-init c = refl

pub loop-d-preserved : goal.loop-d-preserved
unfolding every
loop-d-preserved c = rw add-one (and_same c.loop-d.invariant c.block_fits-ok.ensures)
