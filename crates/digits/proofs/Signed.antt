-- A signed number, written in decimal and read in its range, is itself: its digits are digits, and their number is its size. What holds
-- a quote is no number. Assumes nothing.
use mathlib.Core.Path.{◌≡◌, refl, sym, ◌∙◌}
use mathlib.Core.Bool.{Bool, true, false, cond}
use mathlib.Core.List.{List, [], ◌∷◌}
use Prim.Native.Nat.{ℕ, zero, suc, ◌≤◌, ◌<◌}
use native.Mathlib.Omega.{arith}
use lib.Dec.{eqb, ltb}
use lib.ListN.{length}
use lib.IntN.{ℤ, pos, negsuc}
use borrow.Author.Tests.{le-leb, ltb-false, ne_eqb}
use Rattle.words.specs.Signed.{minus, over, Between}
use Rattle.words.proofs.Sides.{under}
use Rattle.words.proofs.Bounds.{between-sides}
use Rattle.digits.specs.Numbers.{digit, all_digits, digits, value_from, value, size_in, has_minus, number_of, value_of, width, decimal, signed_decimal}
use Rattle.digits.proofs.Laws.{digit-least}
use Rattle.digits.proofs.Decimal.{decimal-value, decimal-length, last_digits_lem}

-- ---- digits

first-digit : (x : ℕ) (l : List ℕ) → all_digits (x ∷ l) ≡ true → digit x ≡ true
unfolding all_digits
first-digit x l e = by (digit x) refl
  where
    by : (t : Bool) → digit x ≡ t → digit x ≡ true
    by true f = f
    by false f = let z : ◌≡◌ {A = Bool} false true = rw f at e in f ∙ z

pub other-digits : (x : ℕ) (l : List ℕ) → all_digits (x ∷ l) ≡ true → all_digits l ≡ true
unfolding all_digits
other-digits x l e = rw (first-digit x l e) at e

-- the first of some digits is at least the digit 0
pub digit_low : (x : ℕ) (l : List ℕ) → all_digits (x ∷ l) ≡ true → 48 ≤ x
digit_low x l e = digit-least x (first-digit x l e)

digits_of : (l : List ℕ) → (length l ≡ 0 → ⊥) → all_digits l ≡ true → digits l ≡ true
unfolding digits
digits_of [] h e = absurd (h refl)
digits_of (x ∷ l) h e = e

no_minus : (below : ℕ) (l : List ℕ) → all_digits l ≡ true → has_minus below l ≡ false
unfolding has_minus
no_minus below [] e = refl
no_minus below (x ∷ l) e =
    let low = digit_low x l e in
    let other : eqb x 45 ≡ false = ne_eqb x 45 (λ q. omega arith) in
    by (eqb below 0) other
  where
    by : (t : Bool) → eqb x 45 ≡ false → cond t false (eqb x 45) ≡ false
    by true f = refl
    by false f = f

-- ---- a number in decimal

pub decimal-digits : (n : ℕ) → all_digits (decimal n) ≡ true
unfolding decimal
decimal-digits n = last_digits_lem (width n) n

value-nil : (l : List ℕ) → length l ≡ 0 → value l ≡ 0
unfolding value_from
value-nil [] h = refl
value-nil (x ∷ l) h = absurd (omega arith)

decimal-some : (n : ℕ) → n < 10000000000 → length (decimal n) ≡ 0 → ⊥
unfolding width
decimal-some n h z = by (ltb n 10) refl
  where
    by : (t : Bool) → ltb n 10 ≡ t → ⊥
    by true e = let w : width n ≡ 1 = rw e in let l = decimal-length n in omega arith
    by false e =
        let low = ltb-false n 10 e in
        let v : n ≡ 0 = sym (decimal-value n h) ∙ value-nil (decimal n) z in
        omega arith

size-said : (negative : Bool) (limit n : ℕ) → n ≤ limit → n < 10000000000
    → size_in negative limit (decimal n) ≡ record { ok = true; negative = negative; size = n }
unfolding size_in
size-said negative limit n k h =
    rw (digits_of (decimal n) (decimal-some n h) (decimal-digits n), decimal-value n h, le-leb n limit k)

-- a count
pub count-said : (below above n : ℕ) → n ≤ above → n < 10000000000
    → number_of below above (decimal n) ≡ record { ok = true; negative = false; size = n }
unfolding number_of
count-said below above n k h = rw (no_minus below (decimal n) (decimal-digits n)) (size-said false above n k h)

-- a number below 0
pub minus-said : (below above n : ℕ) → suc n ≤ below → suc n < 10000000000
    → number_of below above (45 ∷ decimal (suc n)) ≡ record { ok = true; negative = true; size = suc n }
unfolding number_of has_minus
minus-said below above n k h =
    let some : eqb below 0 ≡ false = ne_eqb below 0 (λ q. omega arith) in
    rw some (size-said true below (suc n) k h)

-- what a cell says, as the number that was written there
pub record Says (below above : ℕ) (cell : List ℕ) (v : ℤ) : Type 0 where
  pub ok : (number_of below above cell).ok ≡ true
  pub same : value_of (number_of below above cell) ≡ v

-- −m is m under 0
minus-sides : (m : ℕ) → (over (minus m) ≡ 0) × (under (minus m) ≡ m)
minus-sides zero = (refl, refl)
minus-sides (suc m) = (refl, refl)

pub signed-said : (below above : ℕ) (v : ℤ) → Between (minus below) (pos above) v → below < 10000000000 → above < 10000000000
    → Says below above (signed_decimal v) v
unfolding signed_decimal
signed-said below above (pos n) b h k =
    let s = between-sides b in
    let low : n ≤ above = omega arith in
    let e = count-said below above n low (omega arith) in
    record { ok = rw e; same = rw e }
signed-said below above (negsuc n) b h k =
    let s = between-sides b in
    let m = minus-sides below in
    let low : suc n ≤ below = omega arith in
    let e = minus-said below above n low (omega arith) in
    record { ok = rw e; same = rw e }
