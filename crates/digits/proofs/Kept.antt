-- Laws that a page names: the bytes of a part of a list, one more digit put, and a signed number by its 32 bits, of which the lower half is
-- the number and the upper half counts down from −1. Assumes nothing.
use mathlib.Core.Path.{◌≡◌, refl, ap, sym, ◌∙◌}
use mathlib.Core.Bool.{Bool, false}
use mathlib.Core.List.{List, [], ◌∷◌}
use Prim.Native.Nat.{ℕ, zero, suc, ◌+◌, ◌-◌, ◌/◌, ◌%◌, ◌≤◌, ◌<◌}
use native.Mathlib.Omega.{arith}
use native.Mathlib.Numerals.{add-one}
use lib.ListN.{length, get_or, set, take, drop}
use lib.Seq.{sets, drop-cons}
use mir.Syntax.{w32}
use mir.Val.{to_z}
use mir.Facts.{to_z_pos}
use Rattle.words.proofs.Complement.{upper}
use Rattle.digits.specs.Numbers.{digits, size_in, width, last_digits, decimal, signed_decimal}
use Rattle.digits.proofs.Decimal.{decimal-length, last-length, sets_last}

-- the bytes from a place up to an end, where there are none
pub part_none : (s : List ℕ) (i to : ℕ) → to ≤ i → take (to - i) (drop i s) ≡ []
part_none s i to h = let k : to - i ≡ 0 = omega arith in rw k

-- or where there is a first
pub part-cons : (s : List ℕ) (i to : ℕ) → i < to → to ≤ length s → take (to - i) (drop i s) ≡ get_or s i 0 ∷ take (to - (i + 1)) (drop (i + 1) s)
part-cons s i to h g =
    let k : to - i ≡ suc (to - (i + 1)) = omega arith in
    let f : i < length s = omega arith in rw (k, drop-cons s i 0, add-one i)

-- no bytes say no number
module _ (s : List ℕ) (from to : ℕ) (negative : Bool) (limit : ℕ) where
  pub size_none : to ≤ from → record { ok = false; negative = false; size = 0 } ≡ size_in negative limit (take (to - from) (drop from s))
  unfolding size_in digits
  size_none h = let k : to - from ≡ 0 = omega arith in rw k

pub signed_low : (bits : ℕ) → bits < 2147483648 → signed_decimal (to_z w32 bits) ≡ decimal bits
unfolding signed_decimal
signed_low bits h = rw (to_z_pos w32 {n = bits} h)

pub signed_high : (bits : ℕ) → 2147483648 ≤ bits → bits < 4294967296 → signed_decimal (to_z w32 bits) ≡ 45 ∷ decimal (4294967296 - bits)
unfolding signed_decimal
signed_high bits h g =
    let e : suc (4294967296 - suc bits) ≡ 4294967296 - bits = omega arith in
    rw (upper w32 bits h) (ap (λ (n : ℕ). 45 ∷ decimal n) e)

-- ---- what is put

-- one digit more, from the last on
pub put_on : (l : List ℕ) (at j m : ℕ) → 0 < j → sets (set l (at + (j - 1)) (48 + m % 10)) at (last_digits (j - 1) (m / 10)) ≡ sets l at (last_digits j m)
unfolding last_digits
put_on l at zero m h = absurd (omega arith)
put_on l at (suc j) m h =
    let k : suc j - 1 ≡ j = omega arith in
    rw k (ap (λ (i : ℕ). sets (set l (at + i) (48 + m % 10)) at (last_digits j (m / 10))) (sym (last-length j (m / 10))) ∙ sets_last (last_digits j (m / 10)) l at (48 + m % 10))

decimal-is : (n : ℕ) → last_digits (width n) n ≡ decimal n
unfolding decimal
decimal-is n = refl

-- all digits
pub put_whole : (t : List ℕ) (at n k : ℕ) (t' : List ℕ) → k ≡ width n → t' ≡ sets t at (last_digits k n)
    → (at + k ≡ at + length (decimal n)) × (t' ≡ sets t at (decimal n))
put_whole t at n k t' e q =
    (rw (e, decimal-length n), q ∙ ap (λ (j : ℕ). sets t at (last_digits j n)) e ∙ ap (sets t at) (decimal-is n))

-- a number that is not below 0
module _ (t : List ℕ) (at bits : ℕ) where
  pub put_low : (r : ℕ) (t' : List ℕ) → bits < 2147483648 → (r ≡ at + length (decimal bits)) × (t' ≡ sets t at (decimal bits))
      → (r ≡ at + length (signed_decimal (to_z w32 bits))) × (t' ≡ sets t at (signed_decimal (to_z w32 bits)))
  put_low r t' h q = rw (signed_low bits h) q
