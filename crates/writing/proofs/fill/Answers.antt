-- What is left to put, from here on, is what was to be put. Assumes nothing.
use Rattle.std.proofs.Common.{◌-◌, ◌≤◌, refl, sym, ap, ◌∙◌, arith}
use lib.Seq.{sets}
use Rattle.writing.specs.Walked.{next_at}
use Rattle.writing.proofs.Row.{run_here, run_on, rows_length, rows_done, put_on}
use Rattle.writing.proofs.fill.Goals as goal

pub put_row-row-requires : goal.put_row-row-requires
put_row-row-requires c =
    let l = rows_length c.args.bytes.now c.args.entries c.loop.counter c.loop.at c.loop-test.true (next_at c.args.bytes.now c.loop.at) refl in
    (run_here _ c.args.entries c.loop.counter _ c.loop-test.true c.loop.invariant.0, omega (arith, l, c.requires.1, c.loop.invariant.1))

pub loop-preserved : goal.loop-preserved
loop-preserved c =
    let put = c.put_row-row.ensures in
    let l = rows_length c.args.bytes.now c.args.entries c.loop.counter c.loop.at c.loop-test.true _ put.1 in (
      run_on _ c.args.entries c.loop.counter _ c.loop-test.true _ put.1 c.loop.invariant.0,
      omega (arith, l, put.0, c.loop.invariant.1),
      put_on _ c.args.entries c.loop.counter _ c.loop-test.true _ put.1 c.loop.text _ c.loop.to _ put.0 put.2 ∙ c.loop.invariant.2,
    )

pub returns : goal.returns
returns c =
    let none : c.args.entries - c.loop.counter ≤ 0 = omega arith in
    sym (ap (sets c.loop.text c.loop.to) (rows_done c.args.bytes.now _ c.loop.at none)) ∙ c.loop.invariant.2
