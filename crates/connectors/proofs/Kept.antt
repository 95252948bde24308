-- What a page names: the number of several connectors at once, 6 of either sort before 7 of either, and how it grows by one. Assumes nothing.
use mathlib.Core.Path.{◌≡◌, refl}
use mathlib.Core.Bool.{Bool, true, false, ◌||◌, cond}
use mathlib.Core.List.{List}
use Prim.Native.Nat.{ℕ, suc, ◌+◌, ◌-◌, ◌*◌, ◌≤◌, ◌<◌}
use native.Mathlib.Nat.{sub_self}
use native.Mathlib.Omega.{arith}
use lib.Dec.{eqb, ltb}
use Rattle.refusals.specs.declared.Limits.{Limits}
use Rattle.connectors.specs.Connectors.{connector_at, connectors_at, wrong, later, any_of}
use Rattle.connectors.specs.Named.{six_or_seven}

-- the lower of two refusal numbers; 0 is none
unfoldable pub lower : ℕ → ℕ → ℕ
lower a b = cond (eqb a 0) b (cond (eqb b 0) a (cond (ltb a b) a b))

-- what holds for one of two holds for both together
pub lower-either : (w l w' l' : Bool) → lower (six_or_seven w l) (six_or_seven w' l') ≡ six_or_seven (w || w') (l || l')
unfolding lower six_or_seven
lower-either true l true l' = refl
lower-either true l false true = refl
lower-either true l false false = refl
lower-either false true true l' = refl
lower-either false true false true = refl
lower-either false true false false = refl
lower-either false false true l' = refl
lower-either false false false true = refl
lower-either false false false false = refl

-- a block's inputs, from the last to the first
module _ (limits : Limits) (spot own n : ℕ) (sorts : List Bool) (s : List ℕ) (at count : ℕ) where
  -- the number of k of them from a place on
  abbrev pub number_of : ℕ → ℕ → ℕ
  number_of from k =
      six_or_seven (any_of (wrong limits spot own n sorts) (connectors_at s from k)) (any_of (later own) (connectors_at s from k))

  pub inputs-none : 0 ≡ number_of (at + 3 * count) (count - count)
  unfolding any_of connectors_at six_or_seven
  inputs-none = simp sub_self

  pub inputs-all : (left : ℕ) → left ≡ 0 → number_of (at + 3 * left) (count - left) ≡ number_of at count
  inputs-all left z =
      let p : at + 3 * left ≡ at = omega arith in
      let q : count - left ≡ count = omega arith in
      simp (p, q)

  pub inputs-more : (left : ℕ) → 0 < left → left ≤ count → lower (six_or_seven (wrong limits spot own n sorts (connector_at s (at + 3 * (left - 1)))) (later own (connector_at s (at + 3 * (left - 1))))) (number_of (at + 3 * left) (count - left)) ≡ number_of (at + 3 * (left - 1)) (count - (left - 1))
  unfolding any_of connectors_at
  inputs-more left h l =
      let p : at + 3 * (left - 1) + 3 ≡ at + 3 * left = omega arith in
      let q : count - (left - 1) ≡ suc (count - left) = omega arith in
      rw q (rw p (lower-either _ _ _ _))
