-- Sizes of signed numbers: what the size of a sum, a product and a quotient is bounded by, and that they fit 32 bits.
-- Assumes nothing.
use mathlib.Core.Path.{◌≡◌, refl}
use mathlib.Core.Bool.{Bool, true, false, ◌&&◌}
use Prim.Native.Nat.{ℕ, zero, suc, ◌+◌, ◌*◌, ◌/◌, ◌^◌, ◌≤◌, ◌<◌}
use native.Mathlib.Nat.{mul-le-mul, div-le_self}
use native.Mathlib.Omega.{arith}
use lib.Dec.{T}
use lib.IntN.{ℤ, pos, negsuc, nat_abs, neg_ℤ, ◌+ℤ◌, ◌-ℤ◌, ◌*ℤ◌}
use lib.Signed.{quot_z, non_neg}
use mir.Syntax.{Width}
use mir.Val.{Fits, SFits, hbits}
use mir.ValLaws.{half_full}
use Rattle.words.specs.Signed.{Between, over}
use Rattle.words.proofs.Sides.{under, abs_is, fits-sides, sides-fit, le_z-is, lt_z-is, neg-over, neg-under, add-sides, sub-sides', quot-over, quot-under}

-- ---- the size

pub abs_neg : (z : ℤ) → nat_abs (neg_ℤ z) ≡ nat_abs z
abs_neg (pos zero) = refl
abs_neg (pos (suc n)) = refl
abs_neg (negsuc n) = refl

pub abs-mul : (a b : ℤ) → nat_abs (a *ℤ b) ≡ nat_abs a * nat_abs b
abs-mul (pos a) (pos b) = refl
abs-mul (pos a) (negsuc b) = abs_neg (pos (a * suc b))
abs-mul (negsuc a) (pos b) = abs_neg (pos (suc a * b))
abs-mul (negsuc a) (negsuc b) = refl

pub abs-quot : (z : ℤ) (k : ℕ) → nat_abs (quot_z z (pos k)) ≡ nat_abs z / k
abs-quot (pos n) k = refl
abs-quot (negsuc n) k = abs_neg (pos (suc n / k))

-- between −m and m
pub abs-le : (z : ℤ) (m : ℕ) → under z ≤ over z + m → over z ≤ under z + m → nat_abs z ≤ m
abs-le (pos n) m h k = omega arith
abs-le (negsuc n) m h k = omega arith

pub abs-add : (a b : ℤ) → nat_abs (a +ℤ b) ≤ nat_abs a + nat_abs b
abs-add a b =
    let l = abs_is a in
    let r = abs_is b in
    let s = add-sides a b in
    abs-le (a +ℤ b) (nat_abs a + nat_abs b) (omega arith) (omega arith)

pub abs-sub : (a b : ℤ) → nat_abs (a -ℤ b) ≤ nat_abs a + nat_abs b
abs-sub a b =
    let l = abs_is a in
    let r = abs_is b in
    let s = sub-sides' a b in
    abs-le (a -ℤ b) (nat_abs a + nat_abs b) (omega arith) (omega arith)

-- ---- it fits

pub abs-fits : {w : Width} (z : ℤ) → nat_abs z < 2 ^ hbits w → SFits w z
abs-fits z h = sides-fit z (omega (arith, abs_is z)) (omega (arith, abs_is z))

pub mul-fits : {w : Width} (a b : ℤ) (m n : ℕ) → nat_abs a ≤ m → nat_abs b ≤ n → m * n < 2 ^ hbits w → SFits w (a *ℤ b)
mul-fits a b m n h k l = abs-fits (a *ℤ b) (omega (arith, abs-mul a b, mul-le-mul h k))

pub add-fits : {w : Width} (a b : ℤ) → nat_abs a + nat_abs b < 2 ^ hbits w → SFits w (a +ℤ b)
add-fits a b h = abs-fits (a +ℤ b) (omega (arith, abs-add a b))

pub sub-fits : {w : Width} (a b : ℤ) → nat_abs a + nat_abs b < 2 ^ hbits w → SFits w (a -ℤ b)
sub-fits a b h = abs-fits (a -ℤ b) (omega (arith, abs-sub a b))

pub quot_fits : {w : Width} (z : ℤ) (k : ℕ) → SFits w z → SFits w (quot_z z (pos k))
quot_fits z k f =
    let s = fits-sides z f in
    let o = quot-over z k in
    let u = quot-under z k in
    let p = div-le_self (over z) k in
    let q = div-le_self (under z) k in
    sides-fit (quot_z z (pos k)) (omega arith) (omega arith)

-- ---- what `within` says

pub and-true : (a b : Bool) → a && b ≡ true → (a ≡ true) × (b ≡ true)
and-true true true e = (refl, refl)
and-true true false e = (refl, e)
and-true false b e = (e, absurd (let z : ◌≡◌ {A = ℕ} 0 1 = cc in omega arith))

pub between-sides : {l g x : ℤ} → Between l g x → (over l + under x ≤ over x + under l) × (over x + under g ≤ over g + under x)
between-sides {l} {g} {x} e = let h = e.between in (grind (arith, le_z-is, lt_z-is), grind (arith, le_z-is, lt_z-is))

-- between two ends that are not negative, a number is its amount
pub amount-between : {l g : ℕ} {x : ℤ} → Between (pos l) (pos g) x → (l ≤ over x) × (over x ≤ g)
amount-between {x = pos n} e = let s = between-sides e in (omega arith, omega arith)
amount-between {x = negsuc n} e = let s = between-sides e in absurd (omega arith)

-- and back
pub sides-between : {l g x : ℤ} → over l + under x ≤ over x + under l → over x + under g ≤ over g + under x → Between l g x
sides-between {l} {g} {x} h k = record { between = grind (arith, le_z-is, lt_z-is) }

pub count-between : {n m : ℕ} → n ≤ m → Between (pos 0) (pos m) (pos n)
count-between h = sides-between (omega arith) (omega arith)

pub zero-between : {m : ℕ} → Between (pos 0) (pos m) (pos 0)
zero-between = count-between (omega arith)

-- at or over an end that is not negative, a number is a count
pub count-is : {l : ℕ} {g x : ℤ} → Between (pos l) g x → pos (over x) ≡ x
count-is {x = pos n} e = refl
count-is {x = negsuc n} e = let s = between-sides e in absurd (omega arith)

-- at two literals: `between-abs m e (lit≤ tt) (lit≤ tt)`
pub between-abs : {l g x : ℤ} (m : ℕ) → Between l g x → under l ≤ over l + m → over g ≤ under g + m → nat_abs x ≤ m
between-abs {l} {g} {x} m e h k = let s = between-sides e in abs-le x m (omega arith) (omega arith)

pub abs-between : (m : ℕ) {x : ℤ} → nat_abs x ≤ m → Between (neg_ℤ (pos m)) (pos m) x
abs-between m {x} h =
    let s = abs_is x in
    let o = neg-over (pos m) in
    let u = neg-under (pos m) in
    sides-between (omega arith) (omega arith)

pub between-fits : {w : Width} {l g x : ℤ} → Between l g x → SFits w l → SFits w g → SFits w x
between-fits {l} {g} {x} e h k =
    let s = between-sides e in
    let p = fits-sides l h in
    let q = fits-sides g k in
    sides-fit x (omega arith) (omega arith)

-- ---- a known sign

pub abs-up : (z : ℤ) → under z ≤ over z → nat_abs z + under z ≡ over z
abs-up (pos n) h = omega arith
abs-up (negsuc n) h = absurd (omega arith)

pub abs-down : (z : ℤ) → over z ≤ under z → nat_abs z + over z ≡ under z
abs-down (pos n) h = omega arith
abs-down (negsuc n) h = omega arith

-- what a cast to an unsigned type asks
pub cast-up : {w : Width} (z : ℤ) → under z ≤ over z → SFits w z → T (non_neg z) × Fits w (nat_abs z)
cast-up {w} (pos n) h f = (tt, record { fits = half_full w f.sfits })
cast-up (negsuc n) h f = absurd (omega arith)
