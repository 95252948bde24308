-- `open` meets its contract: the verdict on the circuit, then on the record. Assumes nothing.
use Rattle.std.proofs.Common.{◌≡◌, Err, rules}
use Rattle.decoding.specs.Held.{head_of}
use Rattle.scan.proofs.Opening.{circuit-refused, refused_so, accepted_so, opens-not, opens}
use Rattle.scan.proofs.judged.open.Goals as goal

pub returns-in_err-judge : goal.returns-in_err-judge
returns-in_err-judge c =
    let s = c.args.circuit.now in
    let l = c.args.rec.now in
    let e = c.in_err-judge.field-0.0 in
    let is : c.from_residual.result ≡ Err e = search rules in
    rw is (opens-not s l c.judge.new.known e (λ x asks. circuit-refused s _ _ (c.judge.ensures.refuses e c.in_err-judge.was) x l))

pub returns-in_err-judge_record : goal.returns-in_err-judge_record
returns-in_err-judge_record c =
    let s = c.args.circuit.now in
    let l = c.args.rec.now in
    let known = c.judge.new.known in
    let refusal = c.in_err-judge_record.field-0.0 in
    let is : c.from_residual-in_err-judge_record.result ≡ Err (record { refusal = refusal; place = 0 }) = search rules in
    rw is (opens-not s l known _ (refused_so s (head_of known) known.offsets (c.judge.ensures.accepts c.in_ok-judge.was) l refusal c.in_err-judge_record.ensures))

pub returns : goal.returns
returns c =
    let s = c.args.circuit.now in
    let l = c.args.rec.now in
    let known = c.judge.new.known in
    opens s l known
    (accepted_so s (head_of known) known.offsets (c.judge.ensures.accepts c.in_ok-judge.was) l (λ i. (c.type_inv.circuit i).fits) c.in_ok-judge_record.ensures)
