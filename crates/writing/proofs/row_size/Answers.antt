-- Its parts, and four bytes for tag and line end. Assumes nothing.
use native.Mathlib.Omega.{arith}
use Rattle.writing.specs.Walked.{shape_at}
use Rattle.writing.proofs.Row.{field-least, counted, numbers_fit_lem, tail-fits, row-size-is}
use Rattle.writing.proofs.row_size.Goals as goal

pub overflow_add-at : goal.overflow_add-at
overflow_add-at c = omega (arith, field-least (shape_at c.args.bytes.now c.args.at) c.args.at, c.requires.field)

pub numbers_size-numbers-requires : goal.numbers_size-numbers-requires
numbers_size-numbers-requires c =
    let few = c.shape_at-shape.result.few in
    (few.0, omega (arith, few.1, c.numbers_in-count.ensures), numbers_fit_lem (counted c.shape_at-shape.ensures c.numbers_in-count.ensures) c.requires)

pub tail_size-tail-requires : goal.tail_size-tail-requires
tail_size-tail-requires c =
    tail-fits (counted c.shape_at-shape.ensures c.numbers_in-count.ensures) c.requires c.numbers_size-numbers.ensures.1

pub returns : goal.returns
returns c =
    let numbers = c.numbers_size-numbers.ensures in
    let tail = c.tail_size-tail.ensures in
    row-size-is (counted c.shape_at-shape.ensures c.numbers_in-count.ensures) numbers.0 numbers.1 tail.0 tail.1
