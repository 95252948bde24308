-- `cold_start` meets its contract: circuit and length are judged, then the words stored. Assumes nothing.
use Rattle.std.proofs.Common.{◌≡◌, sym, ◌∙◌, Err, rules}
use Rattle.refusals.specs.declared.Refusal.TheVariants.{RecordLength}
use Rattle.decoding.specs.Held.{head_of}
use Rattle.calls.specs.Calls.{cold_start}
use Rattle.scan.proofs.Opening.{circuit-refused, refused_so_far, refused_here}
use Rattle.scan.proofs.Answered.{cold-20, cold-done}
use Rattle.scan.proofs.judged.cold_start.Goals as goal

pub returns-in_err-judge : goal.returns-in_err-judge
returns-in_err-judge c =
    let s = c.args.circuit.now in
    let l = c.args.rec.now in
    let is : c.from_residual.result ≡ Err c.in_err-judge.field-0.0 = search rules in
    let r = refused_so_far s cold_start l _ is (circuit-refused s _ _ (c.judge.ensures.refuses _ c.in_err-judge.was) cold_start l) in
    (r.0, r.1)

pub returns-then-rec-size_of : goal.returns-then-rec-size_of
returns-then-rec-size_of c =
    let s = c.args.circuit.now in
    let l = c.args.rec.now in
    let known = c.judge.new.known in
    let long = rw c.size_of.ensures at c.if-rec-size_of.true in
    let r = refused_here s cold_start l RecordLength c.into.ensures (cold-20 s (head_of known) known.offsets (c.judge.ensures.accepts c.in_ok-judge.was) l long) in
    (r.0, r.1)

pub returns : goal.returns
returns c =
    let s = c.args.circuit.now in
    let l = c.args.rec.now in
    let known = c.judge.new.known in
    let long = rw c.size_of.ensures at c.if-rec-size_of.false in
    let r = cold-done s (head_of known) known.offsets (c.judge.ensures.accepts c.in_ok-judge.was) l long in
    (sym r.0, c.cold_words.ensures ∙ sym r.1)
