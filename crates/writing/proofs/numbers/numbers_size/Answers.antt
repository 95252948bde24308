-- The size so far, and what is left. Assumes nothing.
use Rattle.std.proofs.Common.{length, ap, sym, ◌∙◌, arith}
use Rattle.writing.proofs.Field.{text-done, end-done, turn}
use Rattle.writing.proofs.numbers.numbers_size.Goals as goal

pub number_size-size-requires : goal.number_size-size-requires
number_size-size-requires c =
    let t = turn c.args.inputs c.args.bytes.now c.args.count c.loop-j.j c.loop-j.place c.width_at-width.result c.width_at-width.ensures (omega arith) in
    (omega (arith, t.reaches, c.loop-j.invariant.2, c.requires.2), t.wide)

pub overflow_add-place : goal.overflow_add-place
overflow_add-place c =
    let t = turn c.args.inputs c.args.bytes.now c.args.count c.loop-j.j c.loop-j.place c.width_at-width.result c.width_at-width.ensures (omega arith) in
    omega (arith, t.reaches, c.loop-j.invariant.2, c.requires.2)

pub loop-j-preserved : goal.loop-j-preserved
loop-j-preserved c =
    let loop = c.loop-j in
    let b = c.number_size-size.ensures in
    let t = turn c.args.inputs c.args.bytes.now c.args.count loop.j loop.place c.width_at-width.result c.width_at-width.ensures (omega arith) in
    (omega (arith, b.1), omega (arith, b.0, t.size, loop.invariant.1), t.ends ∙ loop.invariant.2)

pub returns : goal.returns
returns c =
    let loop = c.loop-j in
    let e = ap length (text-done c.args.inputs c.args.bytes.now c.args.count loop.j loop.place (omega arith)) in
    (omega (arith, e, loop.invariant.1), sym (end-done c.args.inputs c.args.bytes.now c.args.count loop.j loop.place (omega arith)) ∙ loop.invariant.2, omega arith)
