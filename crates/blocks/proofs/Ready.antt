-- What a block's rule counts on follows from its kind. Assumes nothing.
use mathlib.Core.Path.{◌≡◌, refl}
use mathlib.Core.Bool.{true}
use mathlib.Core.List.{List, ◌∷◌}
use Prim.Native.Nat.{ℕ, ◌<◌}
use native.Mathlib.Omega.{arith}
use lib.ListN.{get_or}
use lib.IntN.{ℤ, pos}
use Rattle.words.specs.Signed.{minus, Between}
use Rattle.kinds.specs.declared.kind.Kind.{Kind}
use Rattle.kinds.specs.declared.kind.Kind.TheVariants.{ShiftRegister, ThresholdTrigger, Comparator, DifferentialTrigger, Amplifier}
use Rattle.kinds.specs.Codes.{byte_of}
use Rattle.kinds.specs.Kinds.{Range, ◌to◌, kinds, kind_of, parameter, gain, offset, indexed, scaled, allowed}
use Rattle.kinds.proofs.Allowed.{param_in}
use Rattle.blocks.specs.declared.Prepared.{Prepared}
use Rattle.blocks.specs.Fit.{Fit, Scaling}

module _ {kind : ℕ} {p : Prepared} (f : Fit kind p) where
  -- a parameter in the range that its kind's list of parameters has
  param-at : (rs : List Range) → (kind_of kind).parameters ≡ rs → (j : ℕ) → j < 3 → Between (get_or rs j (pos 0 to pos 0)).least (get_or rs j (pos 0 to pos 0)).greatest (parameter p.params j)
  param-at rs e j h = rw e at (f.params_are j (omega arith) (λ is. h))

  -- kinds 13, 14, 16 and 19: A and B come first
  pub scaling : (rs : List Range) → (kind_of kind).parameters ≡ gain ∷ offset ∷ rs → Scaling p
  scaling rs e = record { gain-is = param-at _ e 0 (omega arith); offset-is = param-at _ e 1 (omega arith) }

module _ (k : Kind) (p : Prepared) (f : Fit (byte_of k) p) where
  scaled_by : (v : Kind) (rs : List Range) → (kind_of (byte_of v)).parameters ≡ gain ∷ offset ∷ rs → k ≡ v → Scaling p
  scaled_by v rs e is = scaling f rs (rw is e)

  pub by_threshold : k ≡ ThresholdTrigger → Scaling p
  unfolding kind_of kinds scaled
  by_threshold is = scaled_by ThresholdTrigger _ refl is

  pub by_comparator : k ≡ Comparator → Scaling p
  unfolding kind_of kinds scaled
  by_comparator is = scaled_by Comparator _ refl is

  pub by_differential : k ≡ DifferentialTrigger → Scaling p
  unfolding kind_of kinds scaled
  by_differential is = scaled_by DifferentialTrigger _ refl is

  pub by_amplifier : k ≡ Amplifier → Scaling p
  unfolding kind_of kinds
  by_amplifier is = scaled_by Amplifier _ refl is

  -- the bit of a shift register
  pub by_register : k ≡ ShiftRegister → Between (pos 1) (pos 8) (parameter p.params 1)
  unfolding kind_of kinds indexed
  by_register is = param-at f indexed (rw is refl) 1 (omega arith)

-- On and Δ of a differential trigger
module _ (k : Kind) (p : List ℤ) (a : allowed (byte_of k) p ≡ true) (is : k ≡ DifferentialTrigger) where
  pub on-in : Between (minus 20000) (pos 20000) (parameter p 2)
  unfolding kind_of kinds scaled
  on-in = rw is at (param_in (byte_of k) p a 2 (omega arith))

  pub delta-in : Between (minus 20000) (pos 20000) (parameter p 3)
  unfolding kind_of kinds scaled
  delta-in = rw is at (param_in (byte_of k) p a 3 (omega arith))

pub ruleset differences = (on-in, delta-in)
