-- No call but publish writes an output word; what a call leaves of a moment, from its own contract. Assumes nothing.
use Prim.Native.Nat.{ℕ, ◌≤◌}
use mathlib.Core.Path.{◌≡◌, refl}
use mathlib.Core.Bool.{Bool, true, false, cond}
use mathlib.Core.List.{List, append-nil}
use lib.Dec.{eqb}
use lib.ListN.{length, drop_of_length-le}
use lib.Seq.{take_all}
use lib.IntN.{ℤ}
use Rattle.circuit.specs.Circuit.{Verdict, refused, accepted, verdict}
use Rattle.calls.specs.Calls.{Call, cold_start, warm_start, latch, run, publish, Plan, plan_of, refusal, shows, outputs_on, outputs_by, answer_after, record_after, outputs_after}
use Rattle.calls.specs.Play.{on, moment, reply_to, after}

-- ---- outputs change when a scan is closed, and not before

abbrev pub closes : Call → Bool
closes cold_start = false
closes warm_start = false
closes (latch r e) = false
closes (run c) = false
closes (publish k) = true

either_same : (t : Bool) (o : List ℤ) → cond t o o ≡ o
either_same true o = refl
either_same false o = refl

pub outputs-stay : (p : Plan) (x : Call) (l o : List ℤ) → closes x ≡ false → outputs_on p x l o ≡ o
unfolding outputs_on shows
outputs-stay p cold_start l o e = either_same (eqb (refusal p cold_start l) 0) o
outputs-stay p warm_start l o e = either_same (eqb (refusal p warm_start l) 0) o
outputs-stay p (latch r t) l o e = either_same (eqb (refusal p (latch r t) l) 0) o
outputs-stay p (run c) l o e = either_same (eqb (refusal p (run c) l) 0) o
outputs-stay p (publish k) l o e = cc

-- no call but publish writes an output word, on any bytes
pub outputs-kept : (s : List ℕ) (x : Call) (l o : List ℤ) → closes x ≡ false → outputs_after s x l o ≡ o
unfolding outputs_after
outputs-kept s x l o e = by (verdict s)
  where
    by : (v : Verdict) → outputs_by v x l o ≡ o
    by (refused number place) = refl
    by (accepted c) = outputs-stay (plan_of c) x l o e

-- the calls that are lent none of them
pub reply-kept : (s : List ℕ) (x : Call) (l o : List ℤ) → closes x ≡ false → reply_to s (on x) (moment l o) ≡ answer_after s x l
reply-kept s cold_start l o e = refl
reply-kept s warm_start l o e = refl
reply-kept s (latch r t) l o e = refl
reply-kept s (run c) l o e = refl
reply-kept s (publish k) l o e = cc

pub after_kept : (s : List ℕ) (x : Call) (l o : List ℤ) → closes x ≡ false → after s (on x) (moment l o) ≡ moment (record_after s x l) o
after_kept s cold_start l o e = rw (outputs-kept s cold_start l _ e)
after_kept s warm_start l o e = rw (outputs-kept s warm_start l _ e)
after_kept s (latch r t) l o e = rw (outputs-kept s (latch r t) l _ e)
after_kept s (run c) l o e = rw (outputs-kept s (run c) l _ e)
after_kept s (publish k) l o e = cc

-- publish that is lent all output words
module _ (s : List ℕ) (k : ℕ) (l o : List ℤ) (all : length o ≤ k) where
  pub reply-publish : reply_to s (on (publish k)) (moment l o) ≡ answer_after s (publish (length o)) l
  reply-publish = rw (take_all k o)

  pub after-publish : after s (on (publish k)) (moment l o) ≡ moment (record_after s (publish (length o)) l) (outputs_after s (publish (length o)) l o)
  after-publish = rw (take_all k o, drop_of_length-le o all, append-nil)
