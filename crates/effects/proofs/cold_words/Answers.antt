-- `effects::cold_words` meets its contract: all words zeroed, then mark and M8. Assumes nothing.
use mathlib.Core.Path.{◌∙◌, ap}
use mathlib.Core.List.{List}
use lib.IntN.{ℤ, pos}
use Rattle.record.specs.Places.{mark, flag, put}
use Rattle.effects.proofs.Stored.{cold_is}
use Rattle.effects.proofs.cold_words.Goals as goal

pub returns : goal.returns
returns c =
    c.begin.ensures
    ∙ ap (λ (l : List ℤ). put (put l mark (pos 1)) (flag 8) (pos 1)) (c.fill.ensures.after (λ y h. h))
    ∙ cold_is c.args.rec.now c.requires
