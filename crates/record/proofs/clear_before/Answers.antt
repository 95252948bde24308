-- `record::clear_before` meets its contract: the words before the place, where they are. Assumes nothing.
use Rattle.std.proofs.Common.{◌∙◌, ap, arith}
use lib.ListN.{replicate, length-take}
use lib.IntN.{pos}
use Rattle.record.specs.Places.{index_of}
use Rattle.record.proofs.Runs.{front_cleared}
use Rattle.record.proofs.clear_before.Goals as goal

pub returns : goal.returns
unfolding index_of
returns c =
    front_cleared c.args.rec.now c.fill.new.self _ _ (rw c.index.ensures at c.min-end.ensures)
    (c.fill.ensures.after (λ y h. h) ∙ ap (λ n. replicate n (pos 0)) (simp length-take (omega arith)))
