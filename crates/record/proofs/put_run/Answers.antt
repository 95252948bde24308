-- `record::put_run` meets its contract: one word more is stored at each turn. Assumes nothing.
use native.Mathlib.Numerals.{add-one}
use native.Mathlib.Omega.{arith}
use mathlib.Core.Path.{◌≡◌, refl}
use lib.ListN.{length}
use Rattle.words.proofs.Locals.{back-ok}
use Rattle.record.specs.Written.{put_all}
use Rattle.record.proofs.put_run.Goals as goal

pub loop-i-init : goal.loop-i-init
unfolding put_all
loop-i-init c = refl

pub loop-i-preserved : goal.loop-i-preserved
unfolding put_all
loop-i-preserved c =
    let word = c.word_at in
    rw (add-one, ← c.loop-i.invariant, ← word.ensures) (rw (back-ok word.result word.type_inv) at c.put_word.ensures)

pub returns : goal.returns
returns c =
    let e : c.loop-i.i ≡ length c.args.from.now = omega arith in
    rw (← e) c.loop-i.invariant
