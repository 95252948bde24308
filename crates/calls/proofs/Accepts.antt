-- What an accepted call may count on, and when a call is accepted; an accepted call has its effect, a refused one none. Assumes nothing.
use Prim.Native.Nat.{ℕ, ◌≤◌}
use mathlib.Core.Path.{◌≡◌, refl, sym, ◌∙◌}
use mathlib.Core.Logic.{◌⊎◌, inl, inr}
use mathlib.Core.Bool.{Bool, true, false, not, cond, ◌&&◌}
use mathlib.Core.List.{List, [], ◌∷◌}
use lib.Dec.{eqb, leb}
use lib.ListN.{length}
use lib.IntN.{ℤ}
use borrow.Author.Tests.{eqb-true, eqb-false, eq-eqb, ne_eqb, leb-true}
use Rattle.words.proofs.Bounds.{and-true}
use Rattle.refusals.specs.Faults.{Fault, AtMost, rises, lowest}
use Rattle.refusals.specs.Answers.{refused_at}
use Rattle.refusals.proofs.Tests.{or-false, not_is, None, none-holds}
use Rattle.refusals.proofs.Laws.{least-of-rising}
use Rattle.decoding.specs.Decoded.{Circuit}
use Rattle.circuit.specs.Circuit.{verdict, accepted}
use Rattle.record.specs.Places.{size_of}
use Rattle.record.specs.Sound.{in_scan, sound}
use Rattle.record.proofs.Held.{Sound, told, tested}
use Rattle.steps.specs.Steps.{to_go}
use Rattle.calls.specs.Calls.{Call, cold_start, warm_start, latch, run, publish, Plan, plan_of, wrong_size, not_sound, is_reading, faults, refusal, gives, leaves, shows, answer_on, record_on, outputs_on, answer_after, record_after, outputs_after}

-- ---- the numbers

module _ (p : Plan) where
  -- in their order
  pub faults-rise : (x : Call) (l : List ℤ) → rises (faults p x l) ≡ true
  unfolding faults
  faults-rise cold_start l = refl
  faults-rise warm_start l = refl
  faults-rise (latch r e) l = refl
  faults-rise (run c) l = refl
  faults-rise (publish k) l = refl

  -- so the one that is named is the lowest that holds
  pub refusal-lowest : (x : Call) (l : List ℤ) → AtMost (refusal p x l) (faults p x l)
  unfolding refusal
  refusal-lowest x l = least-of-rising (faults p x l) (faults-rise x l)

  pub accepts : (x : Call) (l : List ℤ) → refusal p x l ≡ 0 → None (faults p x l)
  unfolding refusal
  accepts x l e = (none-holds (faults p x l) (faults-rise x l)).0 e

  pub accepted-by : (x : Call) (l : List ℤ) → None (faults p x l) → refusal p x l ≡ 0
  unfolding refusal
  accepted-by x l n = (none-holds (faults p x l) (faults-rise x l)).1 n

-- ---- call by call

module _ (p : Plan) (l : List ℤ) where
  right-length : (wrong_size p l).holds ≡ false → length l ≡ size_of (length p.lines)
  right-length e = eqb-true (length l) (size_of (length p.lines)) ((not_is _).0 e)

  is_right : (wrong_size p l).holds ≡ false → (not_sound p l).holds ≡ false → Sound p.lines l
  is_right e f = told p.lines l (right-length e) ((not_is (sound p.lines l)).0 f)

  length-right : length l ≡ size_of (length p.lines) → (wrong_size p l).holds ≡ false
  length-right e = rw (eq-eqb (length l) (size_of (length p.lines)) e)

  sound-right : Sound p.lines l → (not_sound p l).holds ≡ false
  sound-right s = rw (tested p.lines l s)

  pub cold-told : refusal p cold_start l ≡ 0 → length l ≡ size_of (length p.lines)
  unfolding faults
  cold-told e = right-length (accepts p cold_start l e).0

  pub cold-right : length l ≡ size_of (length p.lines) → refusal p cold_start l ≡ 0
  unfolding faults
  cold-right e = accepted-by p cold_start l (length-right e, tt)

  pub warm-told : refusal p warm_start l ≡ 0 → Sound p.lines l × (in_scan l ≡ false)
  unfolding faults
  warm-told e = let n = accepts p warm_start l e in (is_right n.0 n.1.0, n.1.1.0)

  pub warm-right : Sound p.lines l → in_scan l ≡ false → refusal p warm_start l ≡ 0
  unfolding faults
  warm-right s h = accepted-by p warm_start l (length-right s.long, (sound-right s, (h, tt)))

  pub latch-told : (r : List ℤ) (t : ℤ) → refusal p (latch r t) l ≡ 0 → Sound p.lines l × (in_scan l ≡ false) × (is_reading r t ≡ true)
  unfolding faults
  latch-told r t e =
      let n = accepts p (latch r t) l e in
      (is_right n.0 n.1.0, n.1.1.0, (not_is (is_reading r t)).0 n.1.1.1.0)

  pub latch-right : (r : List ℤ) (t : ℤ) → Sound p.lines l → in_scan l ≡ false → is_reading r t ≡ true → refusal p (latch r t) l ≡ 0
  unfolding faults
  latch-right r t s h k =
      accepted-by p (latch r t) l (length-right s.long, (sound-right s, (h, ((not_is (is_reading r t)).1 k, tt))))

  pub run-told : (c : ℕ) → refusal p (run c) l ≡ 0 → Sound p.lines l × (in_scan l ≡ true)
  unfolding faults
  run-told c e = let n = accepts p (run c) l e in (is_right n.0 n.1.0, (not_is (in_scan l)).0 n.1.1.0)

  pub run-right : (c : ℕ) → Sound p.lines l → in_scan l ≡ true → refusal p (run c) l ≡ 0
  unfolding faults
  run-right c s h = accepted-by p (run c) l (length-right s.long, (sound-right s, ((not_is (in_scan l)).1 h, tt)))

  pub publish-told : (k : ℕ) → refusal p (publish k) l ≡ 0 → Sound p.lines l × (in_scan l ≡ true) × (to_go p.lines l ≡ 0) × (k ≡ 28)
  unfolding faults
  publish-told k e =
      let n = accepts p (publish k) l e in
      let ready = (or-false (not (in_scan l)) (not (eqb (to_go p.lines l) 0))).0 n.1.1.0 in (
        is_right n.0 n.1.0,
        (not_is (in_scan l)).0 ready.0,
        eqb-true (to_go p.lines l) 0 ((not_is _).0 ready.1),
        eqb-true k 28 ((not_is _).0 n.1.1.1.0),
      )

  pub publish-right : Sound p.lines l → in_scan l ≡ true → to_go p.lines l ≡ 0 → refusal p (publish 28) l ≡ 0
  unfolding faults
  publish-right s h g =
      let ready = (or-false (not (in_scan l)) (not (eqb (to_go p.lines l) 0))).1 ((not_is (in_scan l)).1 h, (not_is _).1 (eq-eqb (to_go p.lines l) 0 g)) in
      accepted-by p (publish 28) l (length-right s.long, (sound-right s, (ready, (refl, tt))))

-- ---- which numbers there are

-- from 20 to 24
abbrev pub OnRecord : ℕ → Type 0
OnRecord k = (20 ≤ k) × (k ≤ 24)

-- all numbers of a list are
abbrev on_record : List Fault → Bool
on_record [] = true
on_record (f ∷ l) = (leb 20 f.number && leb f.number 24) && on_record l

lowest-listed : (l : List Fault) → on_record l ≡ true → (lowest l ≡ 0) ⊎ OnRecord (lowest l)
lowest-listed [] e = inl refl
lowest-listed (f ∷ l) e =
    let both = and-true (leb 20 f.number && leb f.number 24) (on_record l) e in
    let ends = and-true (leb 20 f.number) (leb f.number 24) both.0 in
    go f.holds (leb-true 20 f.number ends.0, leb-true f.number 24 ends.1) (lowest-listed l both.1)
  where
    go : (b : Bool) → OnRecord f.number → (lowest l ≡ 0) ⊎ OnRecord (lowest l) → (cond b f.number (lowest l) ≡ 0) ⊎ OnRecord (cond b f.number (lowest l))
    go true h rest = inr h
    go false h rest = rest

faults-listed : (p : Plan) (x : Call) (l : List ℤ) → on_record (faults p x l) ≡ true
unfolding faults
faults-listed p cold_start l = refl
faults-listed p warm_start l = refl
faults-listed p (latch r e) l = refl
faults-listed p (run c) l = refl
faults-listed p (publish k) l = refl

pub refusal-listed : (p : Plan) (x : Call) (l : List ℤ) → (refusal p x l ≡ 0) ⊎ OnRecord (refusal p x l)
unfolding refusal
refusal-listed p x l = lowest-listed (faults p x l) (faults-listed p x l)

-- ---- an accepted call has its effect, a refused one none

module _ (p : Plan) (x : Call) (l : List ℤ) where
  module _ (e : refusal p x l ≡ 0) where
    pub answer-accepted : answer_on p x l ≡ gives p x l
    unfolding answer_on
    answer-accepted = rw e

    pub record-accepted : record_on p x l ≡ leaves p x l
    unfolding record_on
    record-accepted = rw e

    pub outputs-accepted : (o : List ℤ) → outputs_on p x l o ≡ shows p x l o
    unfolding outputs_on
    outputs-accepted o = rw e

  module _ (ne : refusal p x l ≡ 0 → ⊥) where
    pub answer-refused : answer_on p x l ≡ refused_at (refusal p x l) 0
    unfolding answer_on
    answer-refused = rw (ne_eqb (refusal p x l) 0 ne)

    pub record-refused : record_on p x l ≡ l
    unfolding record_on
    record-refused = rw (ne_eqb (refusal p x l) 0 ne)

    pub outputs-refused : (o : List ℤ) → outputs_on p x l o ≡ o
    unfolding outputs_on
    outputs-refused o = rw (ne_eqb (refusal p x l) 0 ne)

-- ---- the answer's first number is the refusal

gives-zero : (p : Plan) (x : Call) (l : List ℤ) → (gives p x l).number ≡ 0
unfolding gives
gives-zero p cold_start l = refl
gives-zero p warm_start l = refl
gives-zero p (latch r e) l = refl
gives-zero p (run c) l = refl
gives-zero p (publish k) l = refl

-- a call is accepted or refused
pub either_way : {A : Type 0} (k : ℕ) → (k ≡ 0 → A) → ((k ≡ 0 → ⊥) → A) → A
either_way {A} k zero_is other = go (eqb k 0) refl
  where
    go : (b : Bool) → eqb k 0 ≡ b → A
    go true e = zero_is (eqb-true k 0 e)
    go false e = other (eqb-false k 0 e)

pub answer-number : (p : Plan) (x : Call) (l : List ℤ) → (answer_on p x l).number ≡ refusal p x l
answer-number p x l =
    either_way (refusal p x l) (λ e. rw (answer-accepted p x l e) (gives-zero p x l ∙ sym e)) (λ ne. rw (answer-refused p x l ne))

-- ---- for the bytes of an accepted circuit

module _ (s : List ℕ) (c : Circuit) (e : verdict s ≡ accepted c) where
  pub answer-after : (x : Call) (l : List ℤ) → answer_after s x l ≡ answer_on (plan_of c) x l
  unfolding answer_after
  answer-after x l = rw e

  pub record-after : (x : Call) (l : List ℤ) → record_after s x l ≡ record_on (plan_of c) x l
  unfolding record_after
  record-after x l = rw e

  pub outputs-after : (x : Call) (l o : List ℤ) → outputs_after s x l o ≡ outputs_on (plan_of c) x l o
  unfolding outputs_after
  outputs-after x l o = rw e

  pub number-after : (x : Call) (l : List ℤ) → (answer_after s x l).number ≡ refusal (plan_of c) x l
  number-after x l = rw (answer-after x l) (answer-number (plan_of c) x l)
