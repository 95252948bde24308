-- Signed numbers for `omega`. A whole number z is `over z` less `under z`, of which one is 0. Each fact about signed
-- numbers is a linear fact about these two naturals, which `omega` reads: list the laws of the terms that stand in the goal.
-- Assumes nothing.
use mathlib.Core.Path.{◌≡◌, refl, sym, ap, subst, ◌∙◌}
use mathlib.Core.Bool.{Bool, true, false, cond}
use mathlib.Core.Logic.{◌⊎◌, inl, inr}
use Prim.Native.Nat.{ℕ, zero, suc, ◌+◌, ◌-◌, ◌/◌, ◌^◌, ◌≤◌, ◌<◌}
use native.Mathlib.Nat.{add-zero, zero-add, zero-div}
use borrow.Author.Tests.{ltb-true, ltb-false, leb-true, leb-false, lt-ltb, le-ltb, le-leb, lt-leb}
use native.Mathlib.Omega.{arith}
use lib.Dec.{T, leb, ltb, leb→le, le→leb, leb-suc-suc}
use lib.IntN.{ℤ, pos, negsuc, nat_abs, neg_ℤ, sub_ℕ, ◌+ℤ◌, ◌-ℤ◌}
use lib.Signed.{le_z, lt_z, quot_z, ◌≤ℤ◌}
use mir.Syntax.{Width}
use mir.Val.{SFits, hbits}
use Rattle.words.specs.Signed.{over}

-- how far a number is under zero
abbrev pub under : ℤ → ℕ
under (pos n) = 0
under (negsuc n) = suc n

pub one_side : (z : ℤ) → (under z ≡ 0) ⊎ (over z ≡ 0)
one_side (pos n) = inl refl
one_side (negsuc n) = inr refl

pub abs_is : (z : ℤ) → nat_abs z ≡ over z + under z
abs_is (pos n) = omega arith
abs_is (negsuc n) = omega arith

-- two numbers with one difference are one number
pub same : (a b : ℤ) → over a + under b ≡ over b + under a → a ≡ b
same (pos a) (pos b) e = let h : a ≡ b = omega arith in ap pos h
same (pos a) (negsuc b) e = absurd (omega arith)
same (negsuc a) (pos b) e = absurd (omega arith)
same (negsuc a) (negsuc b) e = let h : a ≡ b = omega arith in ap negsuc h

-- ---- the range

pub fits-sides : {w : Width} (z : ℤ) → SFits w z → (over z < 2 ^ hbits w) × (under z ≤ 2 ^ hbits w)
fits-sides (pos n) f = let h = f.sfits in (omega arith, omega arith)
fits-sides (negsuc n) f = let h = f.sfits in (omega arith, omega arith)

pub sides-fit : {w : Width} (z : ℤ) → over z < 2 ^ hbits w + under z → under z ≤ 2 ^ hbits w + over z → SFits w z
sides-fit (pos n) h k = record { sfits = omega arith }
sides-fit (negsuc n) h k = record { sfits = omega arith }

-- ---- the tests

pub le_z-is : (a b : ℤ) → le_z a b ≡ leb (over a + under b) (over b + under a)
le_z-is (pos a) (pos b) = simp add-zero
le_z-is (pos a) (negsuc b) = sym (lt-leb (a + suc b) 0 (omega arith))
le_z-is (negsuc a) (pos b) = sym (le-leb 0 (b + suc a) (omega arith))
le_z-is (negsuc a) (negsuc b) = simp (zero-add, leb-suc-suc)

pub lt_z-is : (a b : ℤ) → lt_z a b ≡ ltb (over a + under b) (over b + under a)
lt_z-is (pos a) (pos b) = simp add-zero
lt_z-is (pos a) (negsuc b) = sym (le-ltb (a + suc b) 0 (omega arith))
lt_z-is (negsuc a) (pos b) = sym (lt-ltb 0 (b + suc a) (omega arith))
lt_z-is (negsuc a) (negsuc b) = simp (zero-add, leb-suc-suc)

-- a test that held, a test that failed
pub le_z-true : (a b : ℤ) → le_z a b ≡ true → over a + under b ≤ over b + under a
le_z-true a b e = leb-true _ _ (sym (le_z-is a b) ∙ e)

pub le_z-false : (a b : ℤ) → le_z a b ≡ false → over b + under a < over a + under b
le_z-false a b e = leb-false _ _ (sym (le_z-is a b) ∙ e)

pub lt_z-true : (a b : ℤ) → lt_z a b ≡ true → over a + under b < over b + under a
lt_z-true a b e = ltb-true _ _ (sym (lt_z-is a b) ∙ e)

pub lt_z-false : (a b : ℤ) → lt_z a b ≡ false → over b + under a ≤ over a + under b
lt_z-false a b e = ltb-false _ _ (sym (lt_z-is a b) ∙ e)

-- and back
pub le-le_z : (a b : ℤ) → over a + under b ≤ over b + under a → le_z a b ≡ true
le-le_z a b h = le_z-is a b ∙ le-leb _ _ h

pub lt-le_z : (a b : ℤ) → over b + under a < over a + under b → le_z a b ≡ false
lt-le_z a b h = le_z-is a b ∙ lt-leb _ _ h

pub lt-lt_z : (a b : ℤ) → over a + under b < over b + under a → lt_z a b ≡ true
lt-lt_z a b h = lt_z-is a b ∙ lt-ltb _ _ h

pub le-lt_z : (a b : ℤ) → over b + under a ≤ over a + under b → lt_z a b ≡ false
le-lt_z a b h = lt_z-is a b ∙ le-ltb _ _ h

-- ---- the operations

-- a − b has as much over as a over b, and as much under as b over a
pub sub-sides : (a b : ℕ) → over (sub_ℕ a b) + b ≡ a + under (sub_ℕ a b)
sub-sides a b = by (ltb a b) refl
  where
    by : (t : Bool) → ltb a b ≡ t → over (cond t (negsuc (b - suc a)) (pos (a - b))) + b ≡ a + under (cond t (negsuc (b - suc a)) (pos (a - b)))
    by true e = omega (arith, ltb-true a b e)
    by false e = omega (arith, ltb-false a b e)

pub neg-over : (z : ℤ) → over (neg_ℤ z) ≡ under z
neg-over (pos zero) = refl
neg-over (pos (suc n)) = refl
neg-over (negsuc n) = refl

pub neg-under : (z : ℤ) → under (neg_ℤ z) ≡ over z
neg-under (pos zero) = refl
neg-under (pos (suc n)) = refl
neg-under (negsuc n) = refl

pub add-sides : (a b : ℤ) → over (a +ℤ b) + (under a + under b) ≡ over a + over b + under (a +ℤ b)
add-sides (pos a) (pos b) = omega arith
add-sides (pos a) (negsuc b) = omega (arith, sub-sides a (suc b))
add-sides (negsuc a) (pos b) = omega (arith, sub-sides b (suc a))
add-sides (negsuc a) (negsuc b) = omega arith

pub sub-sides' : (a b : ℤ) → over (a -ℤ b) + (under a + over b) ≡ over a + under b + under (a -ℤ b)
sub-sides' a b = omega (arith, add-sides a (neg_ℤ b), neg-over b, neg-under b)

-- the quotient toward zero: side by side
pub quot-over : (z : ℤ) (k : ℕ) → over (quot_z z (pos k)) ≡ over z / k
quot-over (pos n) k = refl
quot-over (negsuc n) k = neg-over (pos (suc n / k)) ∙ sym (zero-div k)

pub quot-under : (z : ℤ) (k : ℕ) → under (quot_z z (pos k)) ≡ under z / k
quot-under (pos n) k = sym (zero-div k)
quot-under (negsuc n) k = neg-under (pos (suc n / k))

-- ---- the order, as a record

pub ≤-sides : {a b : ℤ} → a ≤ℤ b → over a + under b ≤ over b + under a
≤-sides {a} {b} h = leb→le _ _ (subst T (le_z-is a b) h.le)

pub sides-≤ : {a b : ℤ} → over a + under b ≤ over b + under a → a ≤ℤ b
sides-≤ {a} {b} h = record { le = subst T (sym (le_z-is a b)) (le→leb _ _ h) }

pub ≤-up : {z : ℤ} → under z ≤ over z → pos 0 ≤ℤ z
≤-up h = sides-≤ (omega arith)
