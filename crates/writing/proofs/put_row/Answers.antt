-- Tag, numbers, mark and label and line end, one behind the other. Assumes nothing.
use native.Mathlib.Omega.{arith}
use Rattle.writing.specs.Walked.{shape_at}
use Rattle.writing.proofs.Row.{field-least, counted, numbers_fit_lem, tail-fits, tag-room, numbers-room, tail-room, line-end-room, row_put}
use Rattle.writing.proofs.put_row.Goals as goal

pub put_decimal-tag-requires : goal.put_decimal-tag-requires
put_decimal-tag-requires c = tag-room (counted c.shape_at-shape.ensures c.numbers_in-count.ensures) _ c.args.to c.requires.1

pub overflow_add-at : goal.overflow_add-at
overflow_add-at c = omega (arith, field-least (shape_at c.args.bytes.now c.args.at) c.args.at, c.requires.0.field)

pub put_numbers-numbers-requires : goal.put_numbers-numbers-requires
put_numbers-numbers-requires c =
    let k = counted c.shape_at-shape.ensures c.numbers_in-count.ensures in
    let m = numbers-room k _ c.args.to c.requires.1 c.put_decimal-tag.ensures.0 in
    (c.shape_at-shape.result.few.0, numbers_fit_lem k c.requires.0, omega (arith, c.put_decimal-tag.auto.t))

pub put_tail-tail-requires : goal.put_tail-tail-requires
put_tail-tail-requires c =
    let tag = c.put_decimal-tag in
    let numbers = c.put_numbers-numbers in
    let k = counted c.shape_at-shape.ensures c.numbers_in-count.ensures in
    let m = tail-room k _ c.args.to c.requires.1 tag.ensures.0 numbers.ensures.0 numbers.ensures.1 in
    let f = tail-fits k c.requires.0 numbers.ensures.1 in
    (f.0, f.1, omega (arith, tag.auto.t, numbers.auto.text))

pub put_line_end-behind-requires : goal.put_line_end-behind-requires
put_line_end-behind-requires c =
    let tag = c.put_decimal-tag in
    let numbers = c.put_numbers-numbers in
    let tail = c.put_tail-tail in
    let k = counted c.shape_at-shape.ensures c.numbers_in-count.ensures in
    let m = line-end-room k _ c.args.to c.requires.1 tag.ensures.0 numbers.ensures.0 numbers.ensures.1 tail.ensures.0 in
    omega (arith, tag.auto.t, numbers.auto.text, tail.auto.text)

pub returns : goal.returns
returns c =
    row_put (counted c.shape_at-shape.ensures c.numbers_in-count.ensures) c.args.text.now c.args.to c.put_decimal-tag.ensures c.put_numbers-numbers.ensures c.put_tail-tail.ensures c.put_line_end-behind.ensures
