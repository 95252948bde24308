-- `effects::latch_words` meets its contract: the reading, e, the phase. Assumes nothing.
use mathlib.Core.Path.{◌∙◌, ap}
use mathlib.Core.List.{List}
use lib.IntN.{ℤ, pos}
use mir.Syntax.{w32}
use Rattle.std.proofs.lemmas.Int.{to_z-of_z}
use Rattle.record.specs.Places.{elapsed, phase, put}
use Rattle.effects.proofs.Stored.{latch-is}
use Rattle.effects.proofs.latch_words.Goals as goal

pub returns : goal.returns
returns c =
    let reading = rw c.requires.1 at c.put_all.ensures in
    let time = rw (to_z-of_z w32 c.args.e c.ranges.e) at c.put.ensures in
    c.put-2.ensures
    ∙ ap (λ (l : List ℤ). put l phase (pos 1)) (time ∙ ap (λ (l : List ℤ). put l elapsed c.args.e) reading)
    ∙ latch-is c.args.inputs.now c.args.e c.args.rec.now c.requires.0
