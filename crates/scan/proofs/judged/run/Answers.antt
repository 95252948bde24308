-- `run` meets its contract: circuit, record and phase are judged, then the turn is worked out. Assumes nothing.
use Rattle.std.proofs.Common.{◌≡◌, sym, ◌∙◌, refl, Err, rules}
use Rattle.refusals.specs.declared.Refusal.TheVariants.{WrongPhase}
use Rattle.decoding.specs.Held.{head_of}
use Rattle.calls.specs.Calls.{run}
use Rattle.scan.proofs.Opening.{refused_so_far, refused_here}
use Rattle.scan.proofs.Answered.{run-22, run-done}
use Rattle.scan.proofs.judged.run.Goals as goal

pub returns-in_err-open : goal.returns-in_err-open
returns-in_err-open c =
    let x = run c.args.c in
    let is : c.from_residual.result ≡ Err c.in_err-open.field-0.0 = search rules in
    let r = refused_so_far c.args.circuit.now x c.args.rec.now _ is (c.open.ensures.refuses _ c.in_err-open.was x refl) in
    (r.0, r.1)

pub returns-then-not-in_scan : goal.returns-then-not-in_scan
returns-then-not-in_scan c =
    let s = c.args.circuit.now in
    let l = c.args.rec.now in
    let known = c.open.new.known in
    let r = refused_here s (run c.args.c) l WrongPhase c.into.ensures (run-22 s l (head_of known) known.offsets (c.open.ensures.accepts c.in_ok-open.was) c.args.c (sym c.in_scan.ensures ∙ c.if-not-in_scan.true)) in
    (r.0, r.1)

pub returns : goal.returns
returns c =
    let known = c.open.new.known in
    let r = run-done c.args.circuit.now c.args.rec.now (head_of known) known.offsets (c.open.ensures.accepts c.in_ok-open.was) c.args.c (sym c.in_scan.ensures ∙ c.if-not-in_scan.false) in
    (rw (c.turn-done.ensures.1, c.turn-done.ensures.0) (sym r.0), c.turn-done.ensures.2 ∙ sym r.1)
