-- A refusal carries a number of document 01's list, 1 to 11, and a place within the bytes or at their end. Assumes nothing.
use mathlib.Core.Path.{◌≡◌, refl, sym, subst}
use mathlib.Core.Bool.{Bool, true, false, ◌&&◌}
use mathlib.Core.List.{List, [], ◌∷◌}
use Prim.Native.Nat.{ℕ, zero, suc, ◌≤◌}
use native.Mathlib.Omega.{arith}
use lib.Dec.{eqb, leb, ltb}
use lib.ListN.{length, get_or}
use borrow.Author.Tests.{eqb-true, eqb-false, leb-true}
use Rattle.words.proofs.Bounds.{and-true}
use Rattle.refusals.specs.Faults.{Fault, lowest}
use Rattle.refusals.specs.Stages.{ended}
use Rattle.refusals.specs.declared.Limits.{Limits}
use Rattle.blockfield.specs.BlockField.{block_faults}
use Rattle.fields.specs.Fields.{header_faults, label_faults, row_faults, end_faults}
use Rattle.decoding.specs.Decoded.{State, nothing, next_at}
use Rattle.circuit.specs.Circuit.{Verdict, refused, accepted, tag_faults, field_faults, field_number, taken, closing, walk, verdict_at}
use Rattle.circuit.proofs.Tags.{by-tag}
use Rattle.circuit.proofs.Walk.{field_fits, walk-ended, walk_refused, walk-on}

-- no number of a list is above another one
abbrev up_to : ℕ → List Fault → Bool
up_to m [] = true
up_to m (f ∷ l) = leb f.number m && up_to m l

lowest-most : (m : ℕ) (l : List Fault) → up_to m l ≡ true → lowest l ≤ m
lowest-most m [] e = omega arith
lowest-most m (f ∷ l) e = go f.holds refl (lowest-most m l (and-true (leb f.number m) (up_to m l) e).1)
  where
    go : (b : Bool) → f.holds ≡ b → lowest l ≤ m → lowest (f ∷ l) ≤ m
    go true h rest = rw h (leb-true f.number m (and-true (leb f.number m) (up_to m l) e).0)
    go false h rest = rw h rest

-- of a field, 10 is the greatest
field-up : (limits : Limits) (s : List ℕ) (at : ℕ) (st : State) → up_to 10 (field_faults limits s at st) ≡ true
unfolding field_faults tag_faults header_faults block_faults label_faults row_faults end_faults
field-up limits s at st = by-tag (λ (l : List Fault). up_to 10 l ≡ true) (get_or s at 0) _ _ _ _ _ _ refl refl refl refl refl refl

field-most : (limits : Limits) (s : List ℕ) (at : ℕ) (st : State) → field_number limits s at st ≤ 10
unfolding field_number
field-most limits s at st = lowest-most 10 (field_faults limits s at st) (field-up limits s at st)

-- a refusal of the list
pub record Refusal (s : List ℕ) (number place : ℕ) : Type 0 where
  pub some : 1 ≤ number
  pub most : number ≤ 11
  pub within : place ≤ length s

abbrev Listed : List ℕ → Verdict → Type 0
Listed s (refused number place) = Refusal s number place
Listed s (accepted c) = Unit {0}

module _ (limits : Limits) (s : List ℕ) where
  closing-listed : (at : ℕ) (st : State) → at ≤ length s → Listed s (closing s at st)
  unfolding closing
  closing-listed at st h = go (ltb at (length s)) refl
    where
      go : (b : Bool) → ltb at (length s) ≡ b → Listed s (closing s at st)
      go true e = rw e (record { some = omega arith; most = omega arith; within = h })
      go false e = rw e tt

  one-step : (f at : ℕ) (st : State) → at ≤ length s → (field_number limits s at st ≡ 0 → Listed s (walk f limits s (next_at s at) (taken s at st))) → Listed s (walk (suc f) limits s at st)
  one-step f at st h more = go (eqb st.stage ended) refl (field_number limits s at st) refl
    where
      go : (b : Bool) → eqb st.stage ended ≡ b → (k : ℕ) → field_number limits s at st ≡ k → Listed s (walk (suc f) limits s at st)
      go true e k q = subst (Listed s) (sym (walk-ended f limits s at st (eqb-true _ _ e))) (closing-listed at st h)
      go false e zero q = subst (Listed s) (sym (walk-on f limits s at st (eqb-false _ _ e) q)) (more q)
      go false e (suc k) q =
          let top : suc k ≤ 10 = subst (λ (x : ℕ). x ≤ 10) q (field-most limits s at st) in
          let nz : (suc k ≡ 0 → ⊥) = λ z. omega arith in
          subst (Listed s) (sym (walk_refused f limits s at st (eqb-false _ _ e) (suc k) (sym q) nz))
          (record { some = omega arith; most = omega arith; within = h })

  walk-listed : (f at : ℕ) (st : State) → at ≤ length s → Listed s (walk f limits s at st)
  unfolding walk
  walk-listed zero at st h = record { some = omega arith; most = omega arith; within = h }
  walk-listed (suc f) at st h =
      one-step f at st h (λ z. walk-listed f (next_at s at) (taken s at st) (field_fits limits s at st z))

  -- "A refusal carries a number and a place from the fixed list"
  pub refusal-listed : (number place : ℕ) → verdict_at limits s ≡ refused number place → Refusal s number place
  unfolding verdict_at
  refusal-listed number place e = subst (Listed s) e (walk-listed (suc (length s)) 0 nothing (omega arith))
