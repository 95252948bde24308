-- What allowed parameters are: each in its range, a setting in that of its timebase, and so at most 35,994,000 ticks; settings in their
-- order, and so their ticks.
-- Assumes nothing.
use mathlib.Core.Path.{◌≡◌, refl, sym, ap, ◌∙◌, subst}
use mathlib.Core.Bool.{Bool, true, false, not, ◌&&◌, ◌||◌}
use mathlib.Core.List.{List}
use Prim.Native.Nat.{ℕ, zero, suc, ◌*◌, ◌≤◌, ◌<◌}
use native.Mathlib.Nat.{mul-le-mul_left}
use native.Mathlib.Omega.{arith}
use borrow.Author.Tests.{le-leb, eqb-true, eqb-false}
use lib.Dec.{T, leb, eqb}
use lib.IntN.{ℤ, pos, negsuc}
use lib.Signed.{le_z}
use Rattle.words.specs.Signed.{over, Between}
use Rattle.words.proofs.Sides.{le_z-true}
use Rattle.words.proofs.Bounds.{and-true, amount-between}
use Rattle.words.proofs.Ranges.{wider}
use Rattle.kinds.specs.Time.{unit, longest, setting_of, ticks_of}
use Rattle.kinds.specs.Kinds.{Kind, In, kinds, kind_of, range_at, in_range, parameter, setting_fits, settings_fit, in_order, ranges_fit, allowed, scaled, timed, indexed, chosen}
use Rattle.kinds.proofs.Rows.{each-kind}

wider' : {l g x l' g' : ℤ} → Between l g x → le_z l' l ≡ true → le_z g g' ≡ true → Between l' g' x
wider' e h k = wider e (subst T (sym h) tt) (subst T (sym k) tt)

most : (base t : ℕ) → t ≤ longest base → unit base * t ≤ 35994000
most zero t h = omega arith
most (suc zero) t h = omega arith
most (suc (suc n)) t h = omega arith

longest-most : (base : ℕ) → le_z (pos (longest base)) (pos 9999) ≡ true
longest-most zero = refl
longest-most (suc n) = refl

four : (a b c d : Bool) → (a && (b && (c && d))) ≡ true → (a ≡ true) × (b ≡ true) × (c ≡ true) × (d ≡ true)
four a b c d e =
    let f = and-true a (b && (c && d)) e in
    let g = and-true b (c && d) f.1 in
    let h = and-true c d g.1 in
    (f.0, g.0, h.0, h.1)

-- of a kind with a setting, the first parameter is a timebase
timely : Kind → Bool
timely k = not (leb 1 k.times) || (le_z (pos 0) (range_at k 0).least && le_z (range_at k 0).greatest (pos 2))

timely-kind : (kind : ℕ) → timely (kind_of kind) ≡ true
unfolding timely kinds scaled timed indexed chosen
timely-kind kind = each-kind timely refl refl kind

-- ---- the settings, one by one

-- a test that holds of the last number and of those before it
last-or-before : (f : ℕ → Bool) (j n : ℕ) → j ≤ suc n → f (suc n) ≡ true → (j ≤ n → f j ≡ true) → f j ≡ true
last-or-before f j n h last before = by (eqb j (suc n)) refl
  where
    by : (b : Bool) → eqb j (suc n) ≡ b → f j ≡ true
    by true q = ap f (eqb-true j (suc n) q) ∙ last
    by false q = before (omega (arith, eqb-false j (suc n) q))

-- each is in the range of the timebase
pub each-setting : (n : ℕ) (p : List ℤ) → settings_fit n p ≡ true → (j : ℕ) → 1 ≤ j → j ≤ n → setting_fits (parameter p 0) (parameter p j) ≡ true
each-setting zero p e j l h = absurd (omega arith)
each-setting (suc n) p e j l h =
    let parts = and-true (setting_fits (parameter p 0) (parameter p (suc n))) (settings_fit n p) e in
    last-or-before (λ i. setting_fits (parameter p 0) (parameter p i)) j n h parts.0 (each-setting n p parts.1 j l)

-- each but the first is at most the one before it
pub each-ordered : (n : ℕ) (p : List ℤ) → in_order n p ≡ true → (j : ℕ) → 1 ≤ j → j < n → le_z (parameter p (suc j)) (parameter p j) ≡ true
each-ordered zero p e j l h = absurd (omega arith)
each-ordered (suc zero) p e j l h = absurd (omega arith)
each-ordered (suc (suc n)) p e j l h =
    let parts = and-true (le_z (parameter p (suc (suc n))) (parameter p (suc n))) (in_order (suc n) p) e in
    last-or-before (λ i. le_z (parameter p (suc i)) (parameter p i)) j n (omega arith) parts.0
    (λ less. each-ordered (suc n) p parts.1 j l (omega arith))

-- one that is not refuses them all
pub setting_fails : (n : ℕ) (p : List ℤ) (j : ℕ) → j < n → setting_fits (parameter p 0) (parameter p (suc j)) ≡ false → false ≡ settings_fit n p
setting_fails n p j h e = by (settings_fit n p) refl
  where
    by : (b : Bool) → settings_fit n p ≡ b → false ≡ b
    by true q = sym e ∙ each-setting n p q (suc j) (omega arith) (omega arith)
    by false q = refl

pub order_fails : (n : ℕ) (p : List ℤ) (j : ℕ) → 1 ≤ j → j < n → le_z (parameter p (suc j)) (parameter p j) ≡ false → false ≡ in_order n p
order_fails n p j l h e = by (in_order n p) refl
  where
    by : (b : Bool) → in_order n p ≡ b → false ≡ b
    by true q = sym e ∙ each-ordered n p q j l h
    by false q = refl

over-le : (x y : ℤ) → le_z x y ≡ true → over x ≤ over y
over-le (pos n) y e = omega (arith, le_z-true (pos n) y e)
over-le (negsuc n) y e = omega arith

module _ (kind : ℕ) (p : List ℤ) (a : allowed kind p ≡ true) where
  halves : (ranges_fit (kind_of kind) p ≡ true) × (settings_fit (kind_of kind).times p ≡ true) × (in_order (kind_of kind).times p ≡ true)
  unfolding allowed
  halves =
      let n = (kind_of kind).times in
      let e = and-true (ranges_fit (kind_of kind) p) (settings_fit n p && in_order n p) a in
      let f = and-true (settings_fit n p) (in_order n p) e.1 in
      (e.0, f.0, f.1)

  each : (in_range (range_at (kind_of kind) 0) (parameter p 0) ≡ true) × (in_range (range_at (kind_of kind) 1) (parameter p 1) ≡ true) × (in_range (range_at (kind_of kind) 2) (parameter p 2) ≡ true) × (in_range (range_at (kind_of kind) 3) (parameter p 3) ≡ true)
  each =
      four (in_range (range_at (kind_of kind) 0) (parameter p 0)) (in_range (range_at (kind_of kind) 1) (parameter p 1))
      (in_range (range_at (kind_of kind) 2) (parameter p 2)) (in_range (range_at (kind_of kind) 3) (parameter p 3)) halves.0

  -- each parameter is in its range
  pub param_in : (j : ℕ) → j < 4 → In (range_at (kind_of kind) j) (parameter p j)
  param_in zero h = record { between = each.0 }
  param_in (suc zero) h = record { between = each.1 }
  param_in (suc (suc zero)) h = record { between = each.2 }
  param_in (suc (suc (suc zero))) h = record { between = each.3 }
  param_in (suc (suc (suc (suc j)))) h = absurd (omega arith)

  -- setting j, from 1, is one in its timebase
  module _ (j : ℕ) (l : 1 ≤ j) (h : j ≤ (kind_of kind).times) where
    timely-is : (le_z (pos 0) (range_at (kind_of kind) 0).least ≡ true) × (le_z (range_at (kind_of kind) 0).greatest (pos 2) ≡ true)
    unfolding timely
    timely-is =
        let k = kind_of kind in
        let some : 1 ≤ k.times = omega arith in
        and-true (le_z (pos 0) (range_at k 0).least) (le_z (range_at k 0).greatest (pos 2)) (rw (le-leb 1 k.times some) at (timely-kind kind))

    pub base-in : Between (pos 0) (pos 2) (parameter p 0)
    base-in = wider' (param_in 0 (omega arith)) timely-is.0 timely-is.1

    fits-base : (over (parameter p j) ≤ longest (over (parameter p 0))) × Between (pos 0) (pos (longest (over (parameter p 0)))) (parameter p j)
    fits-base =
        let b : Between (pos 0) (pos (longest (over (parameter p 0)))) (parameter p j) = record { between = each-setting (kind_of kind).times p halves.1 j l h } in
        ((amount-between b).1, b)

    pub time-in : Between (pos 0) (pos 9999) (parameter p j)
    time-in = wider' fits-base.1 refl (longest-most (over (parameter p 0)))

    -- hours 5999 is the longest
    pub ticks-most : (ticks_of (setting_of (parameter p 0) (parameter p j))).0 ≤ 35994000
    unfolding ticks_of
    ticks-most = most (over (parameter p 0)) (over (parameter p j)) fits-base.0

  -- no setting sets more ticks than the one before it
  pub ticks-less : (j : ℕ) → 1 ≤ j → j < (kind_of kind).times → (ticks_of (setting_of (parameter p 0) (parameter p (suc j)))).0 ≤ (ticks_of (setting_of (parameter p 0) (parameter p j))).0
  unfolding ticks_of
  ticks-less j l h =
      mul-le-mul_left (unit (over (parameter p 0)))
      (over-le (parameter p (suc j)) (parameter p j) (each-ordered (kind_of kind).times p halves.2 j l h))
