-- `effects::warm_words` meets its contract: the blocks that are not retentive, the words before them, mark and M8. Assumes nothing.
use mathlib.Core.Path.{◌∙◌, ap}
use mathlib.Core.List.{List}
use lib.IntN.{ℤ, pos}
use Rattle.record.specs.Places.{mark, flag, phase, size_of, index_of, put}
use Rattle.record.specs.Written.{put_all, nothing}
use Rattle.effects.proofs.Stored.{warm-is}
use Rattle.effects.proofs.warm_words.Goals as goal

pub returns : goal.returns
unfolding index_of
returns c =
    let plan = c.args.plan.now in
    let cleared = c.clear_before.ensures ∙ ap (λ (l : List ℤ). put_all l (index_of phase) (size_of 0) nothing) c.clear_blocks.ensures in
    c.begin.ensures
    ∙ ap (λ (l : List ℤ). put (put l mark (pos 1)) (flag 8) (pos 1)) cleared
    ∙ warm-is plan.bytes.now plan.n plan.offsets.now plan.stand c.args.rec.now c.requires
