-- The same fields are walked at all limits, since what a field adds does not ask for them: to the end, or to the first field that is told at
-- one of them. Assumes nothing.
use mathlib.Core.Path.{◌≡◌, refl, sym, ◌∙◌, subst}
use mathlib.Core.Bool.{Bool, true, false, true≢false}
use mathlib.Core.List.{List}
use Prim.Native.Nat.{ℕ, zero, suc}
use native.Mathlib.Omega.{arith}
use lib.Dec.{eqb}
use lib.ListN.{length, get_or}
use borrow.Author.Tests.{eqb-true, eqb-false}
use Rattle.refusals.specs.Stages.{opening, ended}
use Rattle.refusals.specs.Limited.{NoLarger}
use Rattle.refusals.specs.declared.Limits.{Limits}
use Rattle.refusals.proofs.Tests.{None, none-holds}
use Rattle.decoding.specs.Decoded.{Circuit, State, nothing, next_at}
use Rattle.circuit.specs.Circuit.{Verdict, refused, accepted, field_faults, field_number, tag_faults, taken, walk, verdict_at}
use Rattle.circuit.proofs.Tags.{each-tag}
use Rattle.circuit.proofs.Rising.{field-rises}
use Rattle.circuit.proofs.Walk.{walk-ended, walk_refused, walk-on}
use Rattle.smaller.specs.Smaller.{AtLimit, blocks, connector, destination, Elsewhere, taken-too, stopped}
use Rattle.smaller.proofs.Eased.{tag-eased}
use Rattle.smaller.proofs.Told as told

-- a refusal is no acceptance
abbrev IsRefused : Verdict → Type 0
IsRefused (refused number place) = Unit {0}
IsRefused (accepted c) = ⊥

not-accepted : {A : Type 0} (number place : ℕ) (c : Circuit) → refused number place ≡ accepted c → A
not-accepted number place c e = absurd (subst IsRefused e tt)

-- no fault holds of a field without one
free : (limits : Limits) (s : List ℕ) (at : ℕ) (st : State) → field_number limits s at st ≡ 0 → None (field_faults limits s at st)
unfolding field_number
free limits s at st = (none-holds (field_faults limits s at st) (field-rises limits s at st)).0

-- ---- accepted at smaller limits

module _ (small large : Limits) (less : NoLarger small large) (s : List ℕ) (c : Circuit) where
  field-eased : (at : ℕ) (st : State) → field_number small s at st ≡ 0 → field_number large s at st ≡ 0
  unfolding field_number field_faults
  field-eased at st e =
      let none = free small s at st e in
      (none-holds (field_faults large s at st) (field-rises large s at st)).1 (none.0, tag-eased small large less s at st none.1)

  -- one field, and what is behind it
  step-eased : (f at : ℕ) (st : State)
      → (walk f small s (next_at s at) (taken s at st) ≡ accepted c → walk f large s (next_at s at) (taken s at st) ≡ accepted c)
      → walk (suc f) small s at st ≡ accepted c → walk (suc f) large s at st ≡ accepted c
  step-eased f at st more e = go (eqb st.stage ended) refl (field_number small s at st) refl
    where
      go : (b : Bool) → eqb st.stage ended ≡ b → (k : ℕ) → field_number small s at st ≡ k → walk (suc f) large s at st ≡ accepted c
      go true q k h = let z = eqb-true _ _ q in walk-ended f large s at st z ∙ sym (walk-ended f small s at st z) ∙ e
      go false q zero h =
          let ne = eqb-false _ _ q in
          walk-on f large s at st ne (field-eased at st h) ∙ more (sym (walk-on f small s at st ne h) ∙ e)
      go false q (suc k) h =
          not-accepted (suc k) at c (sym (walk_refused f small s at st (eqb-false _ _ q) (suc k) (sym h) (λ z. omega arith)) ∙ e)

  walk-eased : (f at : ℕ) (st : State) → walk f small s at st ≡ accepted c → walk f large s at st ≡ accepted c
  unfolding walk
  walk-eased zero at st e = not-accepted 1 at c e
  walk-eased (suc f) at st e = step-eased f at st (walk-eased f (next_at s at) (taken s at st)) e

  pub verdict-eased : verdict_at small s ≡ accepted c → verdict_at large s ≡ accepted c
  unfolding verdict_at
  verdict-eased = walk-eased (suc (length s)) 0 nothing

-- ---- accepted at some limits, judged at others

module _ (these others : Limits) (s : List ℕ) (c : Circuit) where
  field_told : (at : ℕ) (st : State) → field_number others s at st ≡ 0 → told.Told st.stage (field_number these s at st)
  unfolding field_number field_faults
  field_told at st e = let none = free others s at st e in rw none.0 (told.tag-told these others s at st none.1)

  -- the header is the first field
  later-stage : (at : ℕ) (st : State) → field_number others s at st ≡ 0 → (taken s at st).stage ≡ opening → ⊥
  unfolding field_number field_faults taken tag_faults
  later-stage at st e =
      each-tag (λ l (t : State). None l → t.stage ≡ opening → ⊥) (get_or s at 0) _ _ _ _ _ _ _ _ _ _ _ _
      (λ q none z. omega arith)
      (λ q none z. omega arith)
      (λ q none z. omega arith)
      (λ q none z. omega arith)
      (λ q none z. omega arith)
      (λ none z. true≢false none.0)
      (free others s at st e).1

  at-limit : (at stage k : ℕ) → (stage ≡ opening → at ≡ 0) → (k ≡ 0 → ⊥) → told.Told stage k → AtLimit k at
  at-limit at stage k first some (told.nothing z) = absurd (some z)
  at-limit at stage k first some (told.blocks z h) = blocks z (first h)
  at-limit at stage k first some (told.connector z) = connector z
  at-limit at stage k first some (told.destination z) = destination z

  step-judged : (f at : ℕ) (st : State) → (st.stage ≡ opening → at ≡ 0)
      → (field_number others s at st ≡ 0 → walk f others s (next_at s at) (taken s at st) ≡ accepted c
      → Elsewhere (walk f these s (next_at s at) (taken s at st)) c)
      → walk (suc f) others s at st ≡ accepted c → Elsewhere (walk (suc f) these s at st) c
  step-judged f at st first more e = go (eqb st.stage ended) refl (field_number others s at st) refl
    where
      on : (eqb st.stage ended ≡ false) → field_number others s at st ≡ 0 → (k : ℕ) → field_number these s at st ≡ k
          → Elsewhere (walk (suc f) these s at st) c
      on q h zero p =
          let ne = eqb-false _ _ q in
          subst (λ (v : Verdict). Elsewhere v c) (sym (walk-on f these s at st ne p)) (more h (sym (walk-on f others s at st ne h) ∙ e))
      on q h (suc k) p =
          let some : suc k ≡ 0 → ⊥ = λ z. omega arith in
          stopped (suc k) at (walk_refused f these s at st (eqb-false _ _ q) (suc k) (sym p) some)
          (at-limit at st.stage (suc k) first some (subst (told.Told st.stage) p (field_told at st h)))

      go : (b : Bool) → eqb st.stage ended ≡ b → (k : ℕ) → field_number others s at st ≡ k → Elsewhere (walk (suc f) these s at st) c
      go true q k h = let z = eqb-true _ _ q in taken-too (walk-ended f these s at st z ∙ sym (walk-ended f others s at st z) ∙ e)
      go false q zero h = on q h (field_number these s at st) refl
      go false q (suc k) h =
          not-accepted (suc k) at c (sym (walk_refused f others s at st (eqb-false _ _ q) (suc k) (sym h) (λ z. omega arith)) ∙ e)

  walk-judged : (f at : ℕ) (st : State) → (st.stage ≡ opening → at ≡ 0) → walk f others s at st ≡ accepted c → Elsewhere (walk f these s at st) c
  unfolding walk
  walk-judged zero at st first e = not-accepted 1 at c e
  walk-judged (suc f) at st first e =
      step-judged f at st first (λ h. walk-judged f (next_at s at) (taken s at st) (λ z. absurd (later-stage at st h z))) e

  pub verdict-judged : verdict_at others s ≡ accepted c → Elsewhere (verdict_at these s) c
  unfolding verdict_at
  verdict-judged = walk-judged (suc (length s)) 0 nothing (λ z. refl)
