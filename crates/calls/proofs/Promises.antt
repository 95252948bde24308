-- The promises, proved: over the definitions that the contracts of the calls cite. Assumes nothing.
use Prim.Native.Nat.{ℕ, ◌<◌}
use native.Mathlib.Omega.{arith}
use mathlib.Core.Path.{◌≡◌, refl, ap, ◌∙◌}
use mathlib.Core.Logic.{◌⊎◌, inl, inr}
use mathlib.Core.List.{List, ◌++◌}
use lib.ListN.{length, take, drop, take-append-drop}
use lib.Seq.{length-take-le}
use lib.IntN.{ℤ}
use Rattle.refusals.specs.Limited.{ours}
use Rattle.refusals.specs.Answers.{accepted_with}
use Rattle.decoding.specs.Decoded.{Circuit}
use Rattle.circuit.specs.Circuit.{Verdict, verdict, refused, accepted, answer_to, answer_at}
use Rattle.circuit.proofs.Listed.{refusal-listed}
use Rattle.circuit.proofs.Rising.{field-lowest}
use Rattle.kept.proofs.Exactly.{accepted-exactly, kept-accepted}
use Rattle.lines.specs.Lines.{Line, lines_of}
use Rattle.record.specs.Places.{index_of, place_of, change}
use Rattle.record.specs.Sound.{in_scan}
use Rattle.record.proofs.Located.{change-at}
use Rattle.record.proofs.Held.{Sound, told, tested}
use Rattle.steps.specs.Steps.{to_go}
use Rattle.destinations.specs.Destinations.{publish_word}
use Rattle.calls.specs.Calls.{Call, cold_start, warm_start, latch, run, publish, Plan, plan_of, cold_word, refusal, gives, leaves, shows, record_on, answer_after, record_after, outputs_after}
use Rattle.calls.specs.Play.{AnyCall, check, on, Moment, moment, lends, made, reply_to, after}
use Rattle.calls.specs.InTurns.{Good}
use Rattle.calls.specs.Promises.{Listed, of-circuit, of-record, Answered, accepts, refuses, EveryCallAnswers, CheckTells, StaysSound, ColdStartSound, CanBeClosed, Promises}
use Rattle.calls.proofs.Accepts.{OnRecord, cold-right, answer-refused, answer-after, record-after, either_way}
use Rattle.calls.proofs.Accepts as on-plan
use Rattle.calls.proofs.Fine.{accepted-fine}
use Rattle.calls.proofs.Fits.{cold-sound}
use Rattle.calls.proofs.Turns.{turned-length}
use Rattle.calls.proofs.Play.{same-moment, reply-number, reply-is, after_is, after_none}
use Rattle.calls.proofs.InTurns.{scan-in-turns}
use Rattle.calls.proofs.ByRules.{by-its-rule, rules-decide}
use Rattle.calls.proofs.OnPlan.{after-sound, run_ends, publish-ends}

-- ---- every call answers

gives-accepted : (p : Plan) (x : Call) (l : List ℤ) → gives p x l ≡ accepted_with (gives p x l).first (gives p x l).second
unfolding gives
gives-accepted p cold_start l = refl
gives-accepted p warm_start l = refl
gives-accepted p (latch r e) l = refl
gives-accepted p (run c) l = refl
gives-accepted p (publish k) l = refl

-- a circuit that is refused
module _ (s : List ℕ) (number place : ℕ) (e : verdict s ≡ refused number place) where
  listed : (x : AnyCall) → Listed s x number place
  listed x = let r = refusal-listed ours s number place e in of-circuit r.some r.most r.within

  record-untouched : (x : Call) (l : List ℤ) → record_after s x l ≡ l
  unfolding record_after
  record-untouched x l = rw e

  outputs-untouched : (x : Call) (l o : List ℤ) → outputs_after s x l o ≡ o
  unfolding outputs_after
  outputs-untouched x l o = rw e

  nothing-changes : (x : Call) (m : Moment) → after s (on x) m ≡ m
  nothing-changes x m =
      same-moment (record-untouched (made x m.outputs) m.rec)
      (ap (λ o. o ++ drop (lends x) m.outputs) (outputs-untouched (made x m.outputs) m.rec (take (lends x) m.outputs))
      ∙ take-append-drop (lends x) m.outputs)

  refused-answers : (x : AnyCall) (m : Moment) → Answered s x m
  unfolding answer_at answer_to answer_after
  refused-answers check m = refuses number place (rw e) (listed check) refl
  refused-answers (on x) m = refuses number place (rw e) (listed (on x)) (nothing-changes x m)

-- a circuit that is accepted
module _ (s : List ℕ) (c : Circuit) (e : verdict s ≡ accepted c) where
  of-list : (x : Call) (k : ℕ) → (k ≡ 0 → ⊥) → (k ≡ 0) ⊎ OnRecord k → Listed s (on x) k 0
  of-list x k ne (inl z) = absurd (ne z)
  of-list x k ne (inr b) = of-record x refl b.0 b.1 refl

  call-answers : (x : Call) (m : Moment) → Answered s (on x) m
  call-answers x m =
      let p = plan_of c in
      let y = made x m.outputs in
      either_way (refusal p y m.rec)
      (λ z. accepts (gives p y m.rec).first (gives p y m.rec).second (reply-is s c e x m z ∙ gives-accepted p y m.rec))
      (λ ne.
      refuses (refusal p y m.rec) 0 (answer-after s c e y m.rec ∙ answer-refused p y m.rec ne)
      (of-list x (refusal p y m.rec) ne (on-plan.refusal-listed p y m.rec))
      (after_none s c e x m ne))

  accepted-answers : (x : AnyCall) (m : Moment) → Answered s x m
  unfolding answer_at answer_to
  accepted-answers check m = accepts c.n (length c.rows) (rw e)
  accepted-answers (on x) m = call-answers x m

pub every-call-answers : EveryCallAnswers
every-call-answers s x m = go (verdict s) refl
  where
    go : (v : Verdict) → verdict s ≡ v → Answered s x m
    go (refused number place) e = refused-answers s number place e x m
    go (accepted c) e = accepted-answers s c e x m

-- ---- a record of a circuit

good : (lines : List Line) (l : List ℤ) → Sound lines l → Good lines l
good lines l s = (s.long, tested lines l s)

pub stays-sound : StaysSound
stays-sound s small c e check m g = g
stays-sound s small c e (on x) m g =
    let p = plan_of c in
    let y = made x m.outputs in
    rw (record-after s c e y m.rec)
    (good (lines_of c) (record_on p y m.rec) (after-sound p (accepted-fine s small c e) y m.rec (told (lines_of c) m.rec g.0 g.1)))

pub cold-start-sound : ColdStartSound
unfolding gives leaves index_of place_of
cold-start-sound s c e m long =
    let p = plan_of c in
    let right = cold-right p m.rec long in
    let now : (after s (on cold_start) m).rec ≡ change cold_word m.rec = ap (λ u. u.rec) (after_is s c e cold_start m right) in (
      reply-is s c e cold_start m right,
      rw now (good (lines_of c) (change cold_word m.rec) (cold-sound (lines_of c) m.rec long)),
      rw (now, change-at cold_word m.rec 0 (rw long (omega arith))),
    )

pub can-be-closed : CanBeClosed
unfolding shows leaves index_of place_of
can-be-closed s small c e m g scan enough =
    let p = plan_of c in
    let fine = accepted-fine s small c e in
    let h = told (lines_of c) m.rec g.0 g.1 in
    let x = run (to_go (lines_of c) m.rec) in
    let t = leaves p x m.rec in
    let ends = run_ends p fine m.rec h scan in
    let now : after s (on x) m ≡ moment t m.outputs = after_is s c e x m ends in
    let closes : refusal p (made (publish 28) m.outputs) t ≡ 0 =
    ap (λ (k : ℕ). refusal p (publish k) t) (length-take-le 28 m.outputs enough) ∙ publish-ends p fine m.rec h scan in
    let there : 0 < length t = rw (turned-length (lines_of c) (to_go (lines_of c) m.rec) m.rec, g.0) (omega arith) in
    let closed = after_is s c e (publish 28) (moment t m.outputs) closes in (
      reply-number s c e x m ∙ ends,
      ap (λ u. (reply_to s (on (publish 28)) u).number) now ∙ reply-number s c e (publish 28) (moment t m.outputs) ∙ closes,
      ap (λ u. in_scan (after s (on (publish 28)) u).rec) now ∙ ap (λ u. in_scan u.rec) closed ∙ rw (change-at (publish_word c.rows t) t 0 there),
    )

-- ---- check

pub check-tells : CheckTells
unfolding answer_at answer_to
check-tells c keeps m = ap answer_to (kept-accepted ours c keeps)

-- ---- all of them

pub promises : Promises
promises =
    record {
      every-call-answers = every-call-answers;
      lowest-told = (field-lowest ours, on-plan.refusal-lowest);
      accepted-exactly = accepted-exactly ours;
      check-tells = check-tells;
      by-its-rule = by-its-rule;
      rules-decide = rules-decide;
      scan-in-turns = scan-in-turns;
      stays-sound = stays-sound;
      cold-start-sound = cold-start-sound;
      can-be-closed = can-be-closed;
    }
