-- The verdict on the circuit, then the room for its rows, then the rows. Assumes nothing.
use Rattle.std.proofs.Common.{◌≡◌, Ok, Err, Some, None, arith, rules}
use Rattle.refusals.specs.declared.Refusal.TheVariants.{NoRoom}
use Rattle.writing.proofs.Answered.{refused-answer, Rows, rows_run, over-answer, written-answer}
use Rattle.writing.proofs.write.Goals as goal
use Rattle.writing.proofs.write.Goals.{In_ok-judge, In_ok-left}

rows : (c : In_ok-judge) → Rows c.judge.ensures
rows c =
    let is : c.judge.result ≡ Ok tt = search rules in
    rows_run c.judge.ensures (λ i. (c.type_inv.circuit i).fits) is

pub returns-in_err-judge-clause-answer : goal.returns-in_err-judge-clause-answer
returns-in_err-judge-clause-answer c =
    let is : c.judge.result ≡ Err c.in_err-judge.field-0.0 = search rules in
    let out : c.from_residual.result ≡ Err c.in_err-judge.field-0.0 = search rules in
    rw out (refused-answer c.judge.ensures _ is c.args.text.now).0

pub returns-in_err-judge-clause-text : goal.returns-in_err-judge-clause-text
returns-in_err-judge-clause-text c =
    let is : c.judge.result ≡ Err c.in_err-judge.field-0.0 = search rules in
    (refused-answer c.judge.ensures _ is c.args.text.now).1

pub measure-requires : goal.measure-requires
measure-requires c = (rows (goal.at.measure-requires c).In_ok-judge).run

pub returns-in_err-left-clause-answer : goal.returns-in_err-left-clause-answer
returns-in_err-left-clause-answer c =
    let is : c.judge.result ≡ Ok tt = search rules in
    let none : c.measure.result ≡ None = search rules in
    let short = rw none at c.measure.ensures in
    let out : c.from_residual-in_err-left.result ≡ Err (record { refusal = NoRoom; place = 0 }) = search rules in
    rw out (over-answer c.judge.ensures (λ i. (c.type_inv.circuit i).fits) is c.args.text.now short).0

pub returns-in_err-left-clause-text : goal.returns-in_err-left-clause-text
returns-in_err-left-clause-text c =
    let is : c.judge.result ≡ Ok tt = search rules in
    let none : c.measure.result ≡ None = search rules in
    let short = rw none at c.measure.ensures in
    (over-answer c.judge.ensures (λ i. (c.type_inv.circuit i).fits) is c.args.text.now short).1

pub fill-requires : goal.fill-requires
fill-requires c =
    let some : c.measure.result ≡ Some c.in_ok-left.left = search rules in
    let long = rw some at c.measure.ensures in
    ((rows (goal.at.fill-requires c).In_ok-judge).run, omega (arith, long))

pub returns-clause-answer : goal.returns-clause-answer
returns-clause-answer c =
    let is : c.judge.result ≡ Ok tt = search rules in
    let some : c.measure.result ≡ Some c.in_ok-left.left = search rules in
    let long = rw some at c.measure.ensures in
    (written-answer c.judge.ensures (λ i. (c.type_inv.circuit i).fits) is c.args.text.now _ _ long c.fill.ensures).0

pub returns-clause-text : goal.returns-clause-text
returns-clause-text c =
    let is : c.judge.result ≡ Ok tt = search rules in
    let some : c.measure.result ≡ Some c.in_ok-left.left = search rules in
    let long = rw some at c.measure.ensures in
    (written-answer c.judge.ensures (λ i. (c.type_inv.circuit i).fits) is c.args.text.now _ _ long c.fill.ensures).1
