-- `publish` meets its contract: circuit, record, phase and outputs are judged, then the words stored. Assumes nothing.
use Rattle.std.proofs.Common.{◌≡◌, sym, ◌∙◌, refl, Err, rules}
use lib.ListN.{length}
use Rattle.refusals.specs.declared.Refusal.TheVariants.{WrongPhase, OutputWords}
use Rattle.decoding.specs.Held.{head_of}
use Rattle.calls.specs.Calls.{publish}
use Rattle.scan.proofs.Opening.{refused_so_far, refused_here}
use Rattle.scan.proofs.Answered.{publish-22, publish-24, publish-done}
use Rattle.scan.proofs.judged.publish.Goals as goal

pub returns-in_err-open : goal.returns-in_err-open
returns-in_err-open c =
    let x = publish (length c.args.outs.now) in
    let is : c.from_residual.result ≡ Err c.in_err-open.field-0.0 = search rules in
    let r = refused_so_far c.args.circuit.now x c.args.rec.now _ is (c.open.ensures.refuses _ c.in_err-open.was x refl) in
    (r.0, r.1, r.2 c.args.outs.now)

pub returns-then-not-is_finished : goal.returns-then-not-is_finished
returns-then-not-is_finished c =
    let s = c.args.circuit.now in
    let l = c.args.rec.now in
    let k = length c.args.outs.now in
    let known = c.open.new.known in
    let r = refused_here s (publish k) l WrongPhase c.into.ensures (publish-22 s l (head_of known) known.offsets (c.open.ensures.accepts c.in_ok-open.was) k (sym c.is_finished.ensures ∙ c.if-not-is_finished.true)) in
    (r.0, r.1, r.2 c.args.outs.now)

pub returns-then-outs-ne-OUTPUTS : goal.returns-then-outs-ne-OUTPUTS
returns-then-outs-ne-OUTPUTS c =
    let s = c.args.circuit.now in
    let l = c.args.rec.now in
    let k = length c.args.outs.now in
    let known = c.open.new.known in
    let r = refused_here s (publish k) l OutputWords c.into-then-outs-ne-OUTPUTS.ensures (publish-24 s l (head_of known) known.offsets (c.open.ensures.accepts c.in_ok-open.was) k (sym c.is_finished.ensures ∙ c.if-not-is_finished.false) c.if-outs-ne-OUTPUTS.true) in
    (r.0, r.1, r.2 c.args.outs.now)

pub returns : goal.returns
returns c =
    let known = c.open.new.known in
    let r = publish-done c.args.circuit.now c.args.rec.now (head_of known) known.offsets (c.open.ensures.accepts c.in_ok-open.was) (length c.args.outs.now) (sym c.is_finished.ensures ∙ c.if-not-is_finished.false) c.if-outs-ne-OUTPUTS.false in
    (sym r.0, c.publish_words.ensures.0 ∙ sym r.1, c.publish_words.ensures.1 ∙ sym (r.2 c.args.outs.now))
