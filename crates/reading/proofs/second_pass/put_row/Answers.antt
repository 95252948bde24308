-- The field of the numbers, and behind it that of the label. Assumes nothing.
use Rattle.std.proofs.Common.{Some, refl, arith}
use Rattle.rows.specs.Shape.{shape_said}
use Rattle.splitting.specs.Spans.{starts_of, sizes_of}
use Rattle.splitting.specs.Found.{found_of}
use Rattle.reading.proofs.Judging.{Fills, holds, some_row, some_shape, whole-faultless, fills-faultless, says, numbers-many, field_room, label-count, label-few, both-size, puts-output, puts-block}
use Rattle.reading.proofs.Rules.{shaped-known}
use Rattle.reading.proofs.second_pass.put_row.Goals as goal
use Rattle.reading.proofs.second_pass.put_row.Goals.{After-shape}

-- the row and what is found of its shape
filled : (c : After-shape) → Fills c.args.held.now.text.now c.args.at (found_of (Some c.unwrap-row.result)) (starts_of c.split.new.self.spans) (sizes_of c.split.new.self.spans) (shape_said c.shape.result)
filled c =
    fills-faultless _ _ _ _ _ _
    (holds _ _ _ _ c.shape.result (rw c.unwrap-row.ensures at c.split.ensures.finds) (rw c.split.ensures.text at c.shape.ensures)) c.requires.sound

pub unwrap-row-requires : goal.unwrap-row-requires
unwrap-row-requires c = some_row _ (whole-faultless _ _ _ _ _ c.split.ensures.finds c.requires.sound)

pub unwrap-shape-requires : goal.unwrap-shape-requires
unwrap-shape-requires c = some_shape _ (shaped-known _ _ (filled c).shaped)

pub put_field-end-requires : goal.put_field-end-requires
put_field-end-requires c =
    let K = rw c.unwrap-shape.ensures at (filled (goal.at.put_field-end-requires c).After-shape) in
    omega (arith, field_room _ _ _ _ _ _ K, c.requires.room)

pub overflow_sub-row : goal.overflow_sub-row
overflow_sub-row c =
    let K = rw c.unwrap-shape.ensures at (filled (goal.at.overflow_sub-row c).After-shape) in
    omega (arith, label-count _ _ _ _ _ _ K c.if-shape.true)

pub put_label-end-requires-clause-few : goal.put_label-end-requires-clause-few
put_label-end-requires-clause-few c =
    let K = rw c.unwrap-shape.ensures at (filled (goal.at.put_label-end-requires-clause-few c).After-shape) in
    label-few _ _ _ _ _ _ K c.if-shape.true

pub put_label-end-requires-clause-room : goal.put_label-end-requires-clause-room
put_label-end-requires-clause-room c =
    let K = rw c.unwrap-shape.ensures at (filled (goal.at.put_label-end-requires-clause-room c).After-shape) in
    rw c.split.ensures.text (omega (arith, both-size _ _ _ _ _ _ K c.if-shape.true, c.put_field-end.ensures.1, c.put_field-end.auto.circuit, c.requires.room))

pub returns-then-shape-clause-puts : goal.returns-then-shape-clause-puts
returns-then-shape-clause-puts c =
    let K = rw c.unwrap-shape.ensures at (filled (goal.at.returns-then-shape-clause-puts c).After-shape) in
    let field = rw c.split.ensures.text at c.put_field-end.ensures in
    let label = rw c.split.ensures.text at c.put_label-end.ensures in
    puts-block _ _ _ _ _ _ K c.if-shape.true _ c.args.to _ _ _ _ (field.0 _ (says _ _ _ _ _ _ K) (numbers-many _ _ _ _ _ _ K)) field.1 label.0 label.1 refl

pub returns-else-shape-clause-puts : goal.returns-else-shape-clause-puts
returns-else-shape-clause-puts c =
    let K = rw c.unwrap-shape.ensures at (filled (goal.at.returns-else-shape-clause-puts c).After-shape) in
    let field = rw c.split.ensures.text at c.put_field-end.ensures in
    puts-output _ _ _ _ _ _ K _ c.args.to _ _ c.if-shape.false (field.0 _ (says _ _ _ _ _ _ K) (numbers-many _ _ _ _ _ _ K)) field.1 refl
