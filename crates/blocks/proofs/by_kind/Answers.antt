-- `blocks::by_kind` meets its contract: what each rule counts on follows from the kind. Assumes nothing.
use Rattle.blocks.specs.Blocks.{rules, worked_out}
use Rattle.blocks.proofs.Ready.{by_threshold, by_comparator, by_differential, by_amplifier}
use Rattle.blocks.proofs.by_kind.Goals as goal

pub trigger_block-requires : goal.trigger_block-requires
trigger_block-requires c = (c.requires.1, by_threshold _ _ c.requires.0 c.in-ThresholdTrigger.is)

pub compare_block-requires : goal.compare_block-requires
compare_block-requires c = (c.requires.1, by_comparator _ _ c.requires.0 c.in-Comparator.is)

pub trigger_block-requires-in-DifferentialTrigger : goal.trigger_block-requires-in-DifferentialTrigger
trigger_block-requires-in-DifferentialTrigger c = (c.requires.1, by_differential _ _ c.requires.0 c.in-DifferentialTrigger.is)

pub amplify_block-requires : goal.amplify_block-requires
amplify_block-requires c = (c.requires.1, by_amplifier _ _ c.requires.0 c.in-Amplifier.is)

pub returns-in-AndEdge : goal.returns-in-AndEdge
unfolding worked_out rules
returns-in-AndEdge c = rw c.in-AndEdge.is (rw c.was_bit.ensures at c.and_edge.ensures)
