-- What is left to put, from here on, is what was to be put. Assumes nothing.
use Rattle.std.proofs.Common.{length, ap, sym, ◌∙◌, arith}
use lib.Seq.{sets}
use Rattle.writing.proofs.Cell.{size_on, put_on, double_none}
use Rattle.writing.proofs.label.put_double.Goals as goal

pub put_byte-behind-requires : goal.put_byte-behind-requires
put_byte-behind-requires c =
    omega (arith, size_on c.args.label.now c.loop-x.x-index c.loop-x-test.true, c.loop-x.invariant.0, c.requires)

pub loop-x-preserved : goal.loop-x-preserved
loop-x-preserved c =
    let loop = c.loop-x in
    let put = c.put_byte-behind in (
      omega (arith, size_on c.args.label.now loop.x-index c.loop-x-test.true, put.ensures.0, loop.invariant.0),
      put_on c.args.label.now loop.x-index c.loop-x-test.true _ _ _ _ put.ensures.0 put.ensures.1 ∙ loop.invariant.1,
    )

pub returns : goal.returns
returns c =
    let loop = c.loop-x in
    let e = double_none c.args.label.now loop.x-index c.loop-x-test.false in
    (omega (arith, ap length e, loop.invariant.0), sym (ap (sets loop.text loop.behind) e) ∙ loop.invariant.1)
