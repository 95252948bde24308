-- A number of 32 bits, multiplied and shifted down at 64: each step fits, for any multiplier up to 2 ^ 31 and any shift from 33 on. With
-- ours it is the hundredth toward zero, but one less below zero. Assumes nothing.
use mathlib.Core.Path.{◌≡◌, ap, ap₂, ◌∙◌}
use Prim.Native.Nat.{ℕ, zero, suc, ◌+◌, ◌-◌, ◌*◌, ◌/◌, ◌^◌, ◌≤◌}
use native.Mathlib.Nat.{add-zero, mul-le-mul, div-le_of_le-mul}
use native.Mathlib.Omega.{arith}
use lib.Dec.{lit<}
use lib.IntN.{ℤ, pos, negsuc, nat_abs, neg_ℤ, ◌+ℤ◌, ◌*ℤ◌}
use lib.Signed.{lt_z, quot_z, shr_z}
use mir.Syntax.{w32, w64}
use mir.Val.{SFits}
use Rattle.words.specs.Signed.{Between, word_of}
use Rattle.words.proofs.Sides.{fits-sides, sides-fit, same, neg-over, neg-under, add-sides, le-lt_z}
use Rattle.words.proofs.Bounds.{abs-le, abs-fits, mul-fits, add-fits}
use Rattle.words.proofs.Locals.{read, back}
use Rattle.words.proofs.Ranges.{between-reach, one-fits}

-- ---- any multiplier, any shift

quotient-small : (a d : ℕ) → a ≤ 2 ^ 62 → 2 ^ 33 ≤ d → a / d ≤ 2 ^ 29
quotient-small a d h l = div-le_of_le-mul d (omega arith)

below-small : (a d : ℕ) → a ≤ 2 ^ 62 → 2 ^ 33 ≤ d → nat_abs (shr_z (neg_ℤ (pos a)) d) ≤ 2 ^ 30
below-small zero d h l = omega (arith, quotient-small 0 d h l)
below-small (suc a) d h l = omega (arith, quotient-small a d (omega arith) l)

shifted-small : (x : ℤ) (m d : ℕ) → nat_abs x ≤ 2 ^ 31 → m ≤ 2 ^ 31 → 2 ^ 33 ≤ d → nat_abs (shr_z (x *ℤ pos m) d) ≤ 2 ^ 30
shifted-small (pos n) m d s h l = omega (arith, quotient-small (n * m) d (omega (arith, mul-le-mul s h)) l)
shifted-small (negsuc n) m d s h l = below-small (suc n * m) d (omega (arith, mul-le-mul s h)) l

module _ {x : ℤ} (f : SFits w32 x) where
  size : nat_abs x ≤ 2 ^ 31
  size = let s = fits-sides x f in abs-le x (2 ^ 31) (omega arith) (omega arith)

  pub wide_fits : SFits w64 (read w32 x)
  wide_fits = let s = fits-sides x f in rw (back f) (sides-fit x (omega arith) (omega arith))

  wide_is : read w64 (read w32 x) ≡ x
  wide_is = back wide_fits ∙ back f

  module _ {m : ℕ} (h : m ≤ 2 ^ 31) where
    pub product-fits : SFits w64 (read w64 (read w32 x) *ℤ pos m)
    product-fits = rw wide_is (mul-fits x (pos m) (2 ^ 31) (2 ^ 31) size h (lit< tt))

    product_is : read w64 (read w64 (read w32 x) *ℤ pos m) ≡ x *ℤ pos m
    product_is = back product-fits ∙ ap (λ (z : ℤ). z *ℤ pos m) wide_is

    module _ {d : ℕ} (l : 2 ^ 33 ≤ d) where
      small : nat_abs (shr_z (x *ℤ pos m) d) ≤ 2 ^ 30
      small = shifted-small x m d size h l

      shifted-is : read w64 (shr_z (read w64 (read w64 (read w32 x) *ℤ pos m)) d) ≡ shr_z (x *ℤ pos m) d
      shifted-is = ap (λ (z : ℤ). read w64 (shr_z z d)) product_is ∙ back (abs-fits {w = w64} (shr_z (x *ℤ pos m) d) (omega (arith, small)))

      pub shifted_fits : SFits w32 (read w64 (shr_z (read w64 (read w64 (read w32 x) *ℤ pos m)) d))
      shifted_fits = rw shifted-is (abs-fits (shr_z (x *ℤ pos m) d) (omega (arith, small)))

      -- and a bit more
      module _ {y : ℤ} (b : Between (pos 0) (pos 1) y) where
        pub sum_is : read w32 (read w64 (shr_z (read w64 (read w64 (read w32 x) *ℤ pos m)) d)) +ℤ read w32 y ≡ shr_z (x *ℤ pos m) d +ℤ y
        sum_is = ap₂ ◌+ℤ◌ (back shifted_fits ∙ shifted-is) (back (one-fits b tt))

        pub sum_fits : SFits w32 (read w32 (read w64 (shr_z (read w64 (read w64 (read w32 x) *ℤ pos m)) d)) +ℤ read w32 y)
        sum_fits = rw sum_is (add-fits (shr_z (x *ℤ pos m) d) y (omega (arith, small, between-reach b)))

-- ---- ours

abbrev multiplier : ℕ
multiplier = 1374389535

abbrev divisor : ℕ
divisor = 2 ^ 37

product-below : (n : ℕ) → negsuc n *ℤ pos multiplier ≡ negsuc (n * multiplier + (multiplier - 1))
product-below n = let e : suc n * multiplier ≡ suc (n * multiplier + (multiplier - 1)) = omega arith in ap (λ (k : ℕ). neg_ℤ (pos k)) e

one_more : (q : ℕ) → negsuc q +ℤ pos 1 ≡ neg_ℤ (pos q)
one_more q = same (negsuc q +ℤ pos 1) (neg_ℤ (pos q)) (omega (arith, add-sides (negsuc q) (pos 1), neg-over (pos q), neg-under (pos q)))

pub hundredth-is : {x : ℤ} → SFits w32 x → shr_z (x *ℤ pos multiplier) divisor +ℤ word_of (lt_z x (pos 0)) ≡ quot_z x (pos 100)
hundredth-is {x = pos n} f =
    let h = f.sfits in
    let q : n * multiplier / divisor ≡ n / 100 = omega arith in
    rw (le-lt_z (pos n) (pos 0) (omega arith), add-zero, q)
hundredth-is {x = negsuc n} f =
    let h = f.sfits in
    let k : ℕ = n * multiplier + (multiplier - 1) in
    let q : k / divisor ≡ suc n / 100 = omega arith in
    rw (product-below n) (one_more (k / divisor) ∙ ap (λ (k : ℕ). neg_ℤ (pos k)) q)
