-- `warm_start` meets its contract: circuit, record and phase are judged, then the words stored. Assumes nothing.
use Rattle.std.proofs.Common.{◌≡◌, sym, ◌∙◌, refl, Err, rules}
use Rattle.refusals.specs.declared.Refusal.TheVariants.{WrongPhase}
use Rattle.decoding.specs.Held.{head_of}
use Rattle.calls.specs.Calls.{warm_start}
use Rattle.scan.proofs.Opening.{refused_so_far, refused_here}
use Rattle.scan.proofs.Answered.{warm-22, warm-done}
use Rattle.scan.proofs.judged.warm_start.Goals as goal

pub returns-in_err-open : goal.returns-in_err-open
returns-in_err-open c =
    let is : c.from_residual.result ≡ Err c.in_err-open.field-0.0 = search rules in
    let r = refused_so_far c.args.circuit.now warm_start c.args.rec.now _ is (c.open.ensures.refuses _ c.in_err-open.was warm_start refl) in
    (r.0, r.1)

pub returns-then-in_scan : goal.returns-then-in_scan
returns-then-in_scan c =
    let s = c.args.circuit.now in
    let l = c.args.rec.now in
    let known = c.open.new.known in
    let r = refused_here s warm_start l WrongPhase c.into.ensures (warm-22 s l (head_of known) known.offsets (c.open.ensures.accepts c.in_ok-open.was) (sym c.in_scan.ensures ∙ c.if-in_scan.true)) in
    (r.0, r.1)

pub returns : goal.returns
returns c =
    let known = c.open.new.known in
    let r = warm-done c.args.circuit.now c.args.rec.now (head_of known) known.offsets (c.open.ensures.accepts c.in_ok-open.was) (sym c.in_scan.ensures ∙ c.if-in_scan.false) in
    (sym r.0, c.warm_words.ensures ∙ sym r.1)
