-- `latch` meets its contract: circuit, record, phase and reading are judged, then the words stored. Assumes nothing.
use Rattle.std.proofs.Common.{◌≡◌, sym, ◌∙◌, refl, Err, rules, arith}
use mir.Syntax.{w32}
use Rattle.std.proofs.lemmas.Int.{to_z-of_z}
use Rattle.refusals.specs.declared.Refusal.TheVariants.{WrongPhase, InputWords}
use Rattle.decoding.specs.Held.{head_of}
use Rattle.calls.specs.Calls.{latch}
use Rattle.calls.proofs.Fits.{reading}
use Rattle.scan.proofs.Opening.{refused_so_far, refused_here}
use Rattle.scan.proofs.Answered.{latch-22, latch-23, latch-done}
use Rattle.scan.proofs.judged.latch.Goals as goal

pub returns-in_err-open : goal.returns-in_err-open
returns-in_err-open c =
    let x = latch c.args.inputs.now c.args.e in
    let is : c.from_residual.result ≡ Err c.in_err-open.field-0.0 = search rules in
    let r = refused_so_far c.args.circuit.now x c.args.rec.now _ is (c.open.ensures.refuses _ c.in_err-open.was x refl) in
    (r.0, r.1)

pub returns-then-in_scan : goal.returns-then-in_scan
returns-then-in_scan c =
    let s = c.args.circuit.now in
    let l = c.args.rec.now in
    let q = c.args.inputs.now in
    let known = c.open.new.known in
    let r = refused_here s (latch q c.args.e) l WrongPhase c.into.ensures (latch-22 s l (head_of known) known.offsets (c.open.ensures.accepts c.in_ok-open.was) q c.args.e (sym c.in_scan.ensures ∙ c.if-in_scan.true)) in
    (r.0, r.1)

pub returns-then-not-is_reading : goal.returns-then-not-is_reading
returns-then-not-is_reading c =
    let s = c.args.circuit.now in
    let l = c.args.rec.now in
    let q = c.args.inputs.now in
    let known = c.open.new.known in
    let is = rw (to_z-of_z w32 c.args.e c.ranges.e) at c.is_reading.ensures in
    let r = refused_here s (latch q c.args.e) l InputWords c.into-then-not-is_reading.ensures (latch-23 s l (head_of known) known.offsets (c.open.ensures.accepts c.in_ok-open.was) q c.args.e (sym c.in_scan.ensures ∙ c.if-in_scan.false) (sym is ∙ c.if-not-is_reading.true)) in
    (r.0, r.1)

pub latch_words-requires : goal.latch_words-requires
latch_words-requires c =
    let is = rw (to_z-of_z w32 c.args.e c.ranges.e) at c.is_reading.ensures in
    (omega (arith, (c.open.ensures.accepts c.in_ok-open.was).runs.long), (reading c.args.inputs.now c.args.e (sym is ∙ c.if-not-is_reading.false)).long)

pub returns : goal.returns
returns c =
    let known = c.open.new.known in
    let is = rw (to_z-of_z w32 c.args.e c.ranges.e) at c.is_reading.ensures in
    let stored = rw (to_z-of_z w32 c.args.e c.ranges.e) at c.latch_words.ensures in
    let r = latch-done c.args.circuit.now c.args.rec.now (head_of known) known.offsets (c.open.ensures.accepts c.in_ok-open.was) c.args.inputs.now c.args.e (sym c.in_scan.ensures ∙ c.if-in_scan.false) (sym is ∙ c.if-not-is_reading.false) in
    (sym r.0, stored ∙ sym r.1)
