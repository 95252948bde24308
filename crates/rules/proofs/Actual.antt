-- The actual value, held: always in 16 bits, the nearest there of what it was before, and the same where that was in 16 bits. And which
-- blocks cannot tell it from what it was before. Assumes nothing.
use mathlib.Core.Path.{◌≡◌, refl, ap}
use mathlib.Core.Bool.{Bool, true, false, not, cond, ◌&&◌}
use mathlib.Core.List.{List}
use native.Mathlib.Omega.{arith}
use lib.IntN.{ℤ, pos}
use lib.Signed.{le_z, lt_z}
use Rattle.words.specs.Signed.{minus, Between}
use Rattle.words.proofs.Sides.{le_z-true, le_z-false, lt_z-true, lt_z-false, le-le_z, lt-le_z, le-lt_z, lt-lt_z}
use Rattle.words.proofs.Bounds.{between-sides, sides-between}
use Rattle.words.proofs.Ranges.{wider}
use Rattle.kinds.specs.Kinds.{In, kinds, kind_of, scaled, sixteen, parameter, allowed}
use Rattle.kinds.proofs.Allowed.{param_in}
use Rattle.rules.specs.Rules.{shows, held_to, unheld_of, actual_of, triggers_on, triggered, threshold_trigger}

-- ---- a number held to 16 bits

-- it is the least, the greatest or the number itself: what holds of each, where it is that, holds of it
held-is : (P : ℤ → Type 0) (x : ℤ) → (lt_z x (minus 32768) ≡ true → P (minus 32768)) → (lt_z (pos 32767) x ≡ true → P (pos 32767)) → (lt_z x (minus 32768) ≡ false → lt_z (pos 32767) x ≡ false → P x) → P (held_to sixteen x)
held-is P x least greatest itself = by (lt_z x (minus 32768)) (lt_z (pos 32767) x) refl refl
  where
    by : (below above : Bool) → lt_z x (minus 32768) ≡ below → lt_z (pos 32767) x ≡ above → P (cond below (minus 32768) (cond above (pos 32767) x))
    by true above e f = least e
    by false true e f = greatest f
    by false false e f = itself e f

pub held_in : (x : ℤ) → In sixteen (held_to sixteen x)
held_in x =
    held-is (In sixteen) x (λ e. record { between = refl }) (λ e. record { between = refl })
    (λ e f. sides-between (omega (arith, lt_z-false x (minus 32768) e)) (omega (arith, lt_z-false (pos 32767) x f)))

pub held_same : {x : ℤ} → In sixteen x → held_to sixteen x ≡ x
held_same {x} i =
    let s = between-sides i in
    simp (le-lt_z x (minus 32768) (omega arith), le-lt_z (pos 32767) x (omega arith))

pub held_below : (x : ℤ) → lt_z x (minus 32768) ≡ true → held_to sixteen x ≡ minus 32768
held_below x e = simp e

pub held-above : (x : ℤ) → lt_z (pos 32767) x ≡ true → held_to sixteen x ≡ pos 32767
held-above x e = let above = lt_z-true (pos 32767) x e in simp (le-lt_z x (minus 32768) (omega arith), e)

-- ---- the actual value

module _ (x a b : ℤ) where
  pub actual-in : In sixteen (actual_of x a b)
  unfolding actual_of
  actual-in = held_in (unheld_of x a b)

  pub actual-same : In sixteen (unheld_of x a b) → actual_of x a b ≡ unheld_of x a b
  unfolding actual_of
  actual-same i = held_same i

  pub actual-below : lt_z (unheld_of x a b) (minus 32768) ≡ true → actual_of x a b ≡ minus 32768
  unfolding actual_of
  actual-below e = held_below (unheld_of x a b) e

  pub actual-above : lt_z (pos 32767) (unheld_of x a b) ≡ true → actual_of x a b ≡ pos 32767
  unfolding actual_of
  actual-above e = held-above (unheld_of x a b) e

-- ---- what cannot tell

-- a number below the greatest stands to a held one as to that number before it was held
under_same : (y x : ℤ) → Between (minus 32768) (pos 32766) y → lt_z y (held_to sixteen x) ≡ lt_z y x
under_same y x i =
    let s = between-sides i in
    held-is (λ h. lt_z y h ≡ lt_z y x) x
    (λ e. let b = lt_z-true x (minus 32768) e in simp (le-lt_z y (minus 32768) (omega arith), le-lt_z y x (omega arith)))
    (λ e. let a = lt_z-true (pos 32767) x e in simp (lt-lt_z y (pos 32767) (omega arith), lt-lt_z y x (omega arith)))
    (λ e f. refl)

-- and a held one to a number above the least
above_same : (y x : ℤ) → Between (minus 32767) (pos 32767) y → lt_z (held_to sixteen x) y ≡ lt_z x y
above_same y x i =
    let s = between-sides i in
    held-is (λ h. lt_z h y ≡ lt_z x y) x
    (λ e. let b = lt_z-true x (minus 32768) e in simp (lt-lt_z (minus 32768) y (omega arith), lt-lt_z x y (omega arith)))
    (λ e. let a = lt_z-true (pos 32767) x e in simp (le-lt_z (pos 32767) y (omega arith), le-lt_z x y (omega arith)))
    (λ e f. refl)

-- at most is not above
at_most : (x y : ℤ) → le_z x y ≡ not (lt_z y x)
at_most x y = by (lt_z y x) refl
  where
    by : (b : Bool) → lt_z y x ≡ b → le_z x y ≡ not b
    by true e = lt-le_z x y (lt_z-true y x e)
    by false e = le-le_z x y (lt_z-false y x e)

-- where On is neither end and Off is of 16 bits, a block triggers on a held value as on the value before
module _ (x on off : ℤ) (q : Bool) (i : Between (minus 32767) (pos 32766) on) (j : In sixteen off) where
  pub triggers-same : triggers_on (held_to sixteen x) on off q ≡ triggers_on x on off q
  unfolding triggers_on
  triggers-same = by (le_z off on) refl
    where
      by : (b : Bool) → le_z off on ≡ b → cond b (cond (lt_z on (held_to sixteen x)) true (cond (le_z (held_to sixteen x) off) false q)) (le_z on (held_to sixteen x) && lt_z (held_to sixteen x) off) ≡ cond b (cond (lt_z on x) true (cond (le_z x off) false q)) (le_z on x && lt_z x off)
      by true e =
          let s = between-sides i in
          let t = between-sides j in
          let u = le_z-true off on e in
          rw (at_most (held_to sixteen x) off, at_most x off, under_same on x (sides-between (omega arith) (omega arith)), under_same off x (sides-between (omega arith) (omega arith)))
      by false e =
          let s = between-sides i in
          let t = between-sides j in
          let u = le_z-false off on e in
          rw (at_most on (held_to sixteen x), at_most on x, above_same on x (sides-between (omega arith) (omega arith)), above_same off x (sides-between (omega arith) (omega arith)))

-- so kind 16, worked out as 13, does where its On + Δ is of 16 bits
pub trigger-same : (ax : ℤ) (p : List ℤ) (q : Bool) → Between (minus 32767) (pos 32766) (parameter p 2) → In sixteen (parameter p 3) → threshold_trigger ax p q ≡ triggered (unheld_of ax (parameter p 0) (parameter p 1)) p q
unfolding threshold_trigger actual_of
trigger-same ax p q i j = ap shows (triggers-same (unheld_of ax (parameter p 0) (parameter p 1)) (parameter p 2) (parameter p 3) q i j)

-- and kind 13 with any parameters that it may have
pub threshold-same : (ax : ℤ) (p : List ℤ) (q : Bool) → allowed 13 p ≡ true → threshold_trigger ax p q ≡ triggered (unheld_of ax (parameter p 0) (parameter p 1)) p q
unfolding kind_of kinds scaled
threshold-same ax p q a = trigger-same ax p q (wider (param_in 13 p a 2 (omega arith)) tt tt) (wider (param_in 13 p a 3 (omega arith)) tt tt)
