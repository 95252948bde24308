-- `record::sound::fixed_fit` meets its contract: the runs stand one after the other. Assumes nothing.
use Rattle.std.proofs.Common.{◌∙◌, arith}
use lib.IntN.{pos}
use Rattle.kinds.specs.Kinds.{◌to◌, sixteen}
use Rattle.record.specs.Places.{index_of}
use Rattle.record.specs.Written.{fixed_fit}
use Rattle.record.proofs.Runs.{and_same, part_fits}
use Rattle.record.proofs.sound.fixed_fit.Goals as goal

pub returns : goal.returns
unfolding index_of fixed_fit
returns c =
    let l = c.args.rec.now in
    and_same
    (and_same
    (and_same
    (and_same c.head_fits.ensures (c.are_within.ensures ∙ part_fits (pos 0 to pos 1) l 4 28 (omega arith) (omega arith)))
    (c.are_within-2.ensures ∙ part_fits (pos 0 to pos 1000) l 28 36 (omega arith) (omega arith)))
    (c.are_within-3.ensures ∙ part_fits (pos 0 to pos 1) l 36 100 (omega arith) (omega arith)))
    (c.are_within-4.ensures ∙ part_fits sixteen l 100 164 (omega arith) (omega arith))
