-- What is free and what is left to put. Assumes nothing.
use Rattle.std.proofs.Common.{◌≡◌, ◌-◌, ◌≤◌, None, refl, ap, arith, rules, length}
use Rattle.writing.specs.Walked.{next_at}
use Rattle.writing.proofs.Row.{run_here, run_on, rows_length, rows_done}
use Rattle.writing.proofs.measure.Goals as goal

pub row_size-row-requires : goal.row_size-row-requires
row_size-row-requires c = run_here _ c.args.count c.loop.counter _ c.loop-test.true c.loop.invariant.0

pub returns-in_err-free : goal.returns-in_err-free
returns-in_err-free c =
    let l = rows_length c.args.bytes.now c.args.count c.loop.counter c.loop.at c.loop-test.true (next_at c.args.bytes.now c.loop.at) refl in
    let none : c.left_of.result ≡ None = search rules in
    let short = rw none at c.left_of.ensures in
    rw c.from_residual.ensures (omega (arith, l, c.row_size-row.ensures.0, c.loop.invariant.1, short))

pub loop-preserved : goal.loop-preserved
loop-preserved c =
    let l = rows_length c.args.bytes.now c.args.count c.loop.counter c.loop.at c.loop-test.true _ c.row_size-row.ensures.1 in (
      run_on _ c.args.count c.loop.counter _ c.loop-test.true _ c.row_size-row.ensures.1 c.loop.invariant.0,
      omega (arith, l, c.row_size-row.ensures.0, c.loop.invariant.1, c.in_ok-free.ensures),
    )

pub returns : goal.returns
returns c =
    let none : c.args.count - c.loop.counter ≤ 0 = omega arith in
    omega (arith, ap length (rows_done c.args.bytes.now _ c.loop.at none), c.loop.invariant.1)
