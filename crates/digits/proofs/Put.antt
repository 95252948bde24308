-- A signed number in decimal: its size, and a minus before it where it is below 0. Assumes nothing.
use Rattle.std.proofs.Common.{◌≡◌, ℕ, suc, ◌+◌, ◌≤◌, ◌<◌, Bool, true, false, cond, List, ◌∷◌, ltb, length, refl, arith, add-one, length-set, ℤ, pos, negsuc, ◌≤ℤ◌, ◌<ℤ◌, unsigned_abs}
use Rattle.std.proofs.lemmas.Int.{ints}
use Rattle.digits.specs.Numbers.{width, decimal, signed_decimal}
use Rattle.digits.proofs.Decimal.{decimal-length}

at_most : (t : Bool) (a b c : ℕ) → a ≤ c → b ≤ c → cond t a b ≤ c
at_most true a b c h g = h
at_most false a b c h g = g

pub width-most : (n : ℕ) → width n ≤ 10
unfolding width
width-most n =
    at_most (ltb n 10) 1 _ 10 (omega arith)
    (at_most (ltb n 100) 2 _ 10 (omega arith)
    (at_most (ltb n 1000) 3 _ 10 (omega arith)
    (at_most (ltb n 10000) 4 _ 10 (omega arith)
    (at_most (ltb n 100000) 5 _ 10 (omega arith)
    (at_most (ltb n 1000000) 6 _ 10 (omega arith)
    (at_most (ltb n 10000000) 7 _ 10 (omega arith)
    (at_most (ltb n 100000000) 8 _ 10 (omega arith) (at_most (ltb n 1000000000) 9 10 10 (omega arith) (omega arith)))))))))

-- the number is not below 0, or a minus stands before its size
pub signed_from : (z : ℤ) → pos 0 ≤ℤ z → signed_decimal z ≡ decimal (unsigned_abs z)
unfolding signed_decimal
signed_from (pos n) h = refl
signed_from (negsuc n) h = absurd (omega (arith, ints))

pub signed_below : (z : ℤ) → z <ℤ pos 0 → signed_decimal z ≡ 45 ∷ decimal (unsigned_abs z)
unfolding signed_decimal
signed_below (pos n) h = absurd (omega (arith, ints))
signed_below (negsuc n) h = refl

-- and so its length
pub length_from : (z : ℤ) → pos 0 ≤ℤ z → length (signed_decimal z) ≡ length (decimal (unsigned_abs z))
length_from z h = rw (signed_from z h)

pub length_below : (z : ℤ) → z <ℤ pos 0 → length (signed_decimal z) ≡ 1 + length (decimal (unsigned_abs z))
length_below z h = rw (signed_below z h) (omega arith)

pub ruleset signed_sizes = (length_from, length_below, decimal-length, width-most)

pub ruleset signs = (signed_from, signed_below, length_from, length_below, length-set, add-one)
