-- Allowed parameters, made ready, are what the rules count on: at most 35,994,000 ticks, none of the settings more than the one before it.
-- Assumes nothing.
use mathlib.Core.Path.{◌≡◌, refl}
use mathlib.Core.Bool.{Bool, true, false, cond}
use mathlib.Core.List.{List}
use Prim.Native.Nat.{ℕ, zero, suc, ◌≤◌, ◌<◌}
use native.Mathlib.Omega.{arith}
use borrow.Author.Tests.{eqb-true, leb-true, le-leb}
use lib.Dec.{leb, eqb}
use lib.IntN.{ℤ}
use Rattle.kinds.specs.Kinds.{kinds, kind_of, parameter, allowed}
use Rattle.kinds.specs.Time.{ticks, setting_of, ticks_of}
use Rattle.kinds.proofs.Allowed.{param_in, ticks-most, ticks-less}
use Rattle.kinds.specs.declared.Ticks.{Ticks}
use Rattle.rules.specs.declared.BlockWords.{BlockWords}
use Rattle.rules.specs.Rules.{bit, on_delay, off_delay, threshold_trigger, with_off, stairway_switch}
use Rattle.blocks.specs.Blocks.{was_bit, was_on, was_pressed, was_running, was_number, time_of, prepared, rules, worked_out}
use Rattle.blocks.specs.Fit.{Fit}

-- Off aside, the parameters stay as they were
same-param : (is : Bool) (p : List ℤ) (j : ℕ) → (is ≡ true → j < 3) → parameter (cond is (with_off p) p) j ≡ parameter p j
same-param false p j h = refl
same-param true p zero h = refl
same-param true p (suc zero) h = refl
same-param true p (suc (suc zero)) h = refl
same-param true p (suc (suc (suc j))) h = let l = h refl in absurd (omega arith)

module _ (kind : ℕ) (p : List ℤ) (a : allowed kind p ≡ true) where
  -- the ticks of setting j, or none
  time-most : (j : ℕ) → 1 ≤ j → (time_of (kind_of kind).times j p).0 ≤ 35994000
  time-most j l = by (leb j (kind_of kind).times) refl
    where
      by : (b : Bool) → leb j (kind_of kind).times ≡ b → (cond b (ticks_of (setting_of (parameter p 0) (parameter p j))) (ticks 0)).0 ≤ 35994000
      by true e = ticks-most kind p a j l (leb-true j _ e)
      by false e = omega arith

  -- no more than those of the setting before it
  time-less : (j : ℕ) → 1 ≤ j → (time_of (kind_of kind).times (suc j) p).0 ≤ (time_of (kind_of kind).times j p).0
  time-less j l = by (leb (suc j) (kind_of kind).times) refl
    where
      set : ℕ → Ticks
      set i = ticks_of (setting_of (parameter p 0) (parameter p i))

      by : (b : Bool) → leb (suc j) (kind_of kind).times ≡ b → (cond b (set (suc j)) (ticks 0)).0 ≤ (time_of (kind_of kind).times j p).0
      by true e =
          let h : suc j ≤ (kind_of kind).times = leb-true (suc j) _ e in
          let before : j ≤ (kind_of kind).times = omega arith in
          rw (le-leb j (kind_of kind).times before) (ticks-less kind p a j l h)
      by false e = omega arith

  pub prepared-most : (prepared kind p).time.0 ≤ 35994000
  unfolding prepared
  prepared-most = time-most 1 (omega arith)

  pub prepared-fit : Fit kind (prepared kind p)
  unfolding prepared
  prepared-fit =
      record {
        time-is = let h = time-most 1 (omega arith) in omega arith;
        warning-is = time-less 1 (omega arith);
        dark-is = time-less 2 (omega arith);
        params_are = λ j h k. rw (same-param (eqb kind 16) p j (λ e. k (eqb-true kind 16 e))) (param_in kind p a j h);
      }

-- ---- on the parameters as the circuit has them, the dispatch is the rule of the kind

-- 16 differential trigger, on A, B, On, Δ: "as 13, Off = On + Δ"
abbrev differential_trigger : ℤ → List ℤ → Bool → BlockWords
differential_trigger ax p q = threshold_trigger ax (with_off p) q

module _ (b : List Bool) (a p : List ℤ) (was : BlockWords) (e : Ticks) where
  pub on-delay-is : worked_out 9 b a (prepared 9 p) was e ≡ on_delay (bit b 0) (was_bit was) (ticks (was_number was)) (ticks_of (setting_of (parameter p 0) (parameter p 1))) e
  unfolding worked_out rules prepared kind_of kinds
  on-delay-is = refl

  pub off-delay-is : worked_out 10 b a (prepared 10 p) was e ≡ off_delay (bit b 1) (bit b 0) (was_bit was) (was_on was) (ticks (was_number was)) (ticks_of (setting_of (parameter p 0) (parameter p 1))) e
  unfolding worked_out rules prepared kind_of kinds
  off-delay-is = refl

  pub stairway-is : worked_out 18 b a (prepared 18 p) was e ≡ stairway_switch (bit b 0) (was_pressed was) (was_running was) (ticks (was_number was)) (ticks_of (setting_of (parameter p 0) (parameter p 1))) (ticks_of (setting_of (parameter p 0) (parameter p 2))) (ticks_of (setting_of (parameter p 0) (parameter p 3))) e
  unfolding worked_out rules prepared kind_of kinds
  stairway-is = refl

  pub differential-is : worked_out 16 b a (prepared 16 p) was e ≡ differential_trigger (parameter a 0) p (was_on was)
  unfolding worked_out rules prepared
  differential-is = refl
