-- One call of a play, on the bytes of an accepted circuit: accepted it has its effect, refused it leaves the moment as it was. Both are
-- what the contracts say (`answer-after`, `record-after`, `outputs-after`). Assumes nothing.
use Prim.Native.Nat.{ℕ}
use mathlib.Core.Path.{◌≡◌, ap, ◌∙◌}
use mathlib.Core.List.{List, ◌++◌}
use lib.ListN.{take, drop, take-append-drop}
use lib.IntN.{ℤ}
use Rattle.decoding.specs.Decoded.{Circuit}
use Rattle.circuit.specs.Circuit.{verdict, accepted}
use Rattle.calls.specs.Calls.{Call, plan_of, refusal, gives, leaves, shows}
use Rattle.calls.specs.Play.{on, Moment, moment, lends, made, reply_to, after}
use Rattle.calls.proofs.Accepts.{answer-accepted, record-accepted, outputs-accepted, record-refused, outputs-refused, answer-after, record-after, outputs-after, number-after}

pub same-moment : {l k o q : List ℤ} → l ≡ k → o ≡ q → moment l o ≡ moment k q
same-moment e f = rw (e, f)

module _ (s : List ℕ) (c : Circuit) (e : verdict s ≡ accepted c) (x : Call) (m : Moment) where
  abbrev y : Call
  y = made x m.outputs

  abbrev lent : List ℤ
  lent = take (lends x) m.outputs

  abbrev kept : List ℤ
  kept = drop (lends x) m.outputs

  pub reply-number : (reply_to s (on x) m).number ≡ refusal (plan_of c) y m.rec
  reply-number = number-after s c e y m.rec

  module _ (accepts : refusal (plan_of c) y m.rec ≡ 0) where
    pub reply-is : reply_to s (on x) m ≡ gives (plan_of c) y m.rec
    reply-is = answer-after s c e y m.rec ∙ answer-accepted (plan_of c) y m.rec accepts

    pub after_is : after s (on x) m ≡ moment (leaves (plan_of c) y m.rec) (shows (plan_of c) y m.rec lent ++ kept)
    after_is =
        same-moment (record-after s c e y m.rec ∙ record-accepted (plan_of c) y m.rec accepts)
        (ap (λ o. o ++ kept) (outputs-after s c e y m.rec lent ∙ outputs-accepted (plan_of c) y m.rec accepts lent))

  pub after_none : (refusal (plan_of c) y m.rec ≡ 0 → ⊥) → after s (on x) m ≡ m
  after_none refuses =
      same-moment (record-after s c e y m.rec ∙ record-refused (plan_of c) y m.rec refuses)
      (ap (λ o. o ++ kept) (outputs-after s c e y m.rec lent ∙ outputs-refused (plan_of c) y m.rec refuses lent)
      ∙ take-append-drop (lends x) m.outputs)
