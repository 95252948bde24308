-- The loop holds what `Written` says, and each row brings it nearer to the end. Assumes nothing.
use Rattle.std.proofs.Common.{refl, ◌∙◌}
use Rattle.reading.proofs.Surveying.{written_none, written-more, written_all, sound-row, row_room}
use Rattle.reading.proofs.second_pass.fill.Goals as goal

pub loop-at-init : goal.loop-at-init
loop-at-init c = (refl, written_none _ _)

pub put_row-placed-requires-clause-sound : goal.put_row-placed-requires-clause-sound
put_row-placed-requires-clause-sound c =
    let t = c.loop-at.invariant.0 in
    rw t (sound-row _ _ _ _ _ c.loop-at.invariant.1 (rw t at c.loop-at-test.true) c.requires.sound)

pub put_row-placed-requires-clause-room : goal.put_row-placed-requires-clause-room
put_row-placed-requires-clause-room c =
    let t = c.loop-at.invariant.0 in
    rw t (row_room _ _ _ _ _ c.loop-at.invariant.1 (rw t at c.loop-at-test.true) c.requires.room)

pub loop-at-preserved : goal.loop-at-preserved
loop-at-preserved c =
    let t = c.loop-at.invariant.0 in
    (c.put_row-placed.ensures.text ∙ t, written-more _ _ _ _ _ c.loop-at.invariant.1 (rw t at c.loop-at-test.true) _ _ (rw t at c.put_row-placed.ensures.puts))

pub returns : goal.returns
returns c = written_all _ _ _ _ _ c.loop-at.invariant.1 (rw c.loop-at.invariant.0 at c.loop-at-test.false)
