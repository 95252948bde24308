-- What is left to put, from here on, is what was to be put. Assumes nothing.
use Rattle.std.proofs.Common.{length, ap, sym, ◌∙◌, arith}
use lib.Seq.{sets}
use Rattle.writing.proofs.Field.{text-done, end-done, turn}
use Rattle.writing.proofs.numbers.put_numbers.Goals as goal

pub put_number-behind-requires : goal.put_number-behind-requires
put_number-behind-requires c =
    let loop = c.loop-j in
    let t = turn c.args.inputs c.args.bytes.now c.args.count loop.j loop.place c.width_at-width.result c.width_at-width.ensures (omega arith) in
    (omega (arith, t.reaches, loop.invariant.1, c.requires.1), t.wide, omega (arith, t.size, loop.invariant.0, c.requires.2))

pub overflow_add-place : goal.overflow_add-place
overflow_add-place c =
    let t = turn c.args.inputs c.args.bytes.now c.args.count c.loop-j.j c.loop-j.place c.width_at-width.result c.width_at-width.ensures (omega arith) in
    omega (arith, t.reaches, c.loop-j.invariant.1, c.requires.1)

pub loop-j-preserved : goal.loop-j-preserved
loop-j-preserved c =
    let loop = c.loop-j in
    let p = c.put_number-behind in
    let t = turn c.args.inputs c.args.bytes.now c.args.count loop.j loop.place c.width_at-width.result c.width_at-width.ensures (omega arith) in (
      omega (arith, t.size, p.ensures.0, loop.invariant.0),
      t.ends ∙ loop.invariant.1,
      t.put loop.text p.new.text loop.behind p.result p.ensures.0 p.ensures.1 ∙ loop.invariant.2,
    )

pub returns : goal.returns
returns c =
    let loop = c.loop-j in
    let e = text-done c.args.inputs c.args.bytes.now c.args.count loop.j loop.place (omega arith) in
    (omega (arith, ap length e, loop.invariant.0), sym (end-done c.args.inputs c.args.bytes.now c.args.count loop.j loop.place (omega arith)) ∙ loop.invariant.1, sym (ap (sets loop.text loop.behind) e) ∙ loop.invariant.2)
