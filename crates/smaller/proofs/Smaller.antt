-- The promises of `Smaller` hold: one verdict, so one answer, one play and one text. Assumes nothing.
use mathlib.Core.Path.{◌≡◌, refl, sym, ◌∙◌, ap}
use mathlib.Core.List.{List, [], ◌∷◌}
use Prim.Native.Nat.{ℕ}
use native.Mathlib.Omega.{arith}
use lib.ListN.{length}
use Rattle.refusals.specs.Limited.{ours, older}
use Rattle.refusals.specs.declared.Limits.{Limits}
use Rattle.refusals.proofs.Laws.{older-modest}
use Rattle.decoding.specs.Decoded.{Circuit}
use Rattle.circuit.specs.Circuit.{Verdict, refused, accepted, verdict_at, answer_to, answer_at}
use Rattle.circuit.proofs.Listed.{refusal-listed}
use Rattle.circuit.proofs.Rising.{field-lowest}
use Rattle.kept.proofs.Exactly.{accepted-exactly}
use Rattle.rows.specs.Writing.{answer_for, text_for}
use Rattle.calls.specs.Calls.{answer_after, record_after, outputs_after}
use Rattle.calls.specs.Play.{AnyCall, check, on, Moment, reply_to, after, play}
use Rattle.smaller.specs.Smaller.{AnsweredAt, accepts, refuses, EveryLimitAnswers, LowestAtLimits, ExactlyAtLimits, reply_by, after_by, play_by, play_at, AtOurs, AcceptedAtSmall, SmallerAccepted, SameScans, SameRows, OlderNoLarger, Elsewhere, taken-too, stopped, OnlyAtLimits, AcceptedAlike, AnsweredElsewhere, alike, refused-here, RefusedAtLimits, ProfileAndCheck, FitsExactly}
use Rattle.smaller.proofs.Walked.{verdict-eased, verdict-judged}
use Rattle.smaller.proofs.Fitting.{kept-fits, fits_kept}

-- ---- a check at any limits

pub every-limit-answers : EveryLimitAnswers
unfolding answer_at answer_to
every-limit-answers limits s = go (verdict_at limits s) refl
  where
    go : (v : Verdict) → verdict_at limits s ≡ v → AnsweredAt limits s
    go (refused number place) e =
        let r = refusal-listed limits s number place e in
        refuses number place (ap answer_to e) r.some r.most r.within
    go (accepted c) e = accepts c.n (length c.rows) (ap answer_to e)

pub lowest-at-limits : LowestAtLimits
lowest-at-limits = field-lowest

pub exactly-at-limits : ExactlyAtLimits
exactly-at-limits = accepted-exactly

-- ---- the calls at ours

reply-at-ours : (s : List ℕ) (x : AnyCall) (m : Moment) → reply_by (verdict_at ours s) x m ≡ reply_to s x m
unfolding answer_after answer_at
reply-at-ours s check m = refl
reply-at-ours s (on x) m = refl

after-at-ours : (s : List ℕ) (x : AnyCall) (m : Moment) → after_by (verdict_at ours s) x m ≡ after s x m
unfolding record_after outputs_after
after-at-ours s check m = refl
after-at-ours s (on x) m = refl

pub at-ours : AtOurs
at-ours s [] m = refl
at-ours s (x ∷ xs) m =
    let rest : play_at ours s xs (after_by (verdict_at ours s) x m) ≡ play s xs (after s x m) =
    ap (play_at ours s xs) (after-at-ours s x m) ∙ at-ours s xs (after s x m) in
    rw (reply-at-ours s x m, rest)

-- ---- accepted at smaller limits

accepted-at-large : (small large : Limits) (s : List ℕ) (c : Circuit) → AcceptedAtSmall small large s c → verdict_at large s ≡ accepted c
accepted-at-large small large s c a = verdict-eased small large a.no-larger s c a.is

same-verdict : (small large : Limits) (s : List ℕ) (c : Circuit) → AcceptedAtSmall small large s c → verdict_at small s ≡ verdict_at large s
same-verdict small large s c a = a.is ∙ sym (accepted-at-large small large s c a)

pub smaller-accepted : SmallerAccepted
unfolding answer_at
smaller-accepted small large s c a = (accepted-at-large small large s c a, ap answer_to (same-verdict small large s c a))

pub same-scans : SameScans
same-scans small large s c a xs m = ap (λ (v : Verdict). play_by v xs m) (same-verdict small large s c a)

pub same_rows : SameRows
same_rows small large s c a lent =
    let v = same-verdict small large s c a in
    (ap (λ (x : Verdict). answer_for x (length lent)) v, ap (λ (x : Verdict). text_for x lent) v)

pub older-no-larger : OlderNoLarger
older-no-larger = older-modest

-- ---- accepted at other limits

pub only-at-limits : OnlyAtLimits
only-at-limits these others s c e = verdict-judged these others s c e

-- ---- the answers

-- a number of 0 is told of accepted bytes alone
is-accepted : (limits : Limits) (s : List ℕ) → (answer_at limits s).number ≡ 0 → (c : Circuit) × (verdict_at limits s ≡ accepted c)
unfolding answer_at answer_to
is-accepted limits s = go (verdict_at limits s) refl
  where
    go : (v : Verdict) → verdict_at limits s ≡ v → (answer_to v).number ≡ 0 → (c : Circuit) × (verdict_at limits s ≡ accepted c)
    go (refused number place) e z =
        let r = refusal-listed limits s number place e in
        let none : ⊥ = omega (arith, r.some) in
        absurd none
    go (accepted c) e z = (c, e)

pub accepted-alike : AcceptedAlike
accepted-alike small large less s z =
    let a = is-accepted small s z in
    sym (smaller-accepted small large s a.0 (record { no-larger = less; is = a.1 })).1

pub refused-at-limits : RefusedAtLimits
unfolding answer_at answer_to
refused-at-limits these others s z = let a = is-accepted others s z in go a.0 a.1 (only-at-limits these others s a.0 a.1)
  where
    go : (c : Circuit) → verdict_at others s ≡ accepted c → Elsewhere (verdict_at these s) c → AnsweredElsewhere (answer_at these s) (answer_at others s)
    go c e (taken-too d) = alike (ap answer_to (d ∙ sym e))
    go c e (stopped number place d l) = refused-here number place (ap answer_to d) l

pub profile-and-check : ProfileAndCheck
profile-and-check s =
    record {
      accepts = accepted-alike older ours older-modest s;
      scans =
          λ z xs m.
          let a = is-accepted older s z in
          same-scans older ours s a.0 (record { no-larger = older-modest; is = a.1 }) xs m ∙ at-ours s xs m;
      refuses = refused-at-limits older ours s;
    }

-- ---- what fits

pub fits-exactly : FitsExactly
fits-exactly these others s bytes c e =
    let k = (accepted-exactly others s bytes c).0 e in (
      λ d. kept-fits these c ((accepted-exactly these s bytes c).0 d).0,
      λ f. (accepted-exactly these s bytes c).1 (fits_kept these others c k.0 f, k.1),
    )
