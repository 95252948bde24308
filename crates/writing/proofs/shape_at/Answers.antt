-- By the tag, and a block's kind. Assumes nothing.
use Rattle.std.proofs.Common.{ap, sym, ◌∙◌, arith}
use Rattle.rows.specs.Columns.{block_shape}
use Rattle.writing.specs.Walked.{shape_at}
use Rattle.writing.proofs.Row.{field-least, shape-block, shape-output, decodes}
use Rattle.writing.proofs.shape_at.Goals as goal

pub bounds-bytes-at : goal.bounds-bytes-at
bounds-bytes-at c = omega (arith, field-least (shape_at c.args.bytes.now c.args.at) c.args.at, c.requires.field)

pub bounds-bytes-at-2 : goal.bounds-bytes-at-2
bounds-bytes-at-2 c = omega (arith, field-least (shape_at c.args.bytes.now c.args.at) c.args.at, c.requires.field)

pub overflow_add-at : goal.overflow_add-at
overflow_add-at c = omega (arith, field-least (shape_at c.args.bytes.now c.args.at) c.args.at, c.requires.field)

pub returns-then-bytes-at-ne16 : goal.returns-then-bytes-at-ne16
returns-then-bytes-at-ne16 c = c.output_shape.ensures ∙ sym (shape-output c.args.bytes.now c.args.at c.if-bytes-at-ne16.true)

pub unwrap-requires : goal.unwrap-requires
unwrap-requires c = decodes _ _ c.try_from.ensures (c.requires.kind c.if-bytes-at-ne16.false)

pub returns : goal.returns
returns c =
    let decoded = rw c.unwrap.ensures at c.try_from.ensures in
    c.block_shape.ensures.0 ∙ ap block_shape decoded.0 ∙ sym (shape-block c.args.bytes.now c.args.at c.if-bytes-at-ne16.false)
