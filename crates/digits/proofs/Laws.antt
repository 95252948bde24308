-- Laws on numbers in digits. Assumes nothing.
use mathlib.Core.Path.{◌≡◌, refl}
use mathlib.Core.Bool.{Bool, true, false, cond}
use mathlib.Core.List.{List, [], ◌∷◌}
use Prim.Native.Nat.{ℕ, suc, ◌+◌, ◌-◌, ◌*◌, ◌≤◌, ◌<◌}
use native.Mathlib.Numerals.{add-one}
use native.Mathlib.Omega.{arith}
use lib.ListN.{drop_of_length-le, length, get_or, take, drop}
use lib.Seq.{drop-cons}
use lib.Dec.{eqb, leb}
use borrow.Author.Tests.{eq-eqb, ne_eqb, leb-true, le-leb, lt-leb}
use Rattle.digits.specs.Numbers.{Number, digit, all_digits, digits, value_from, value, size_in, has_minus, number_of}
use Rattle.digits.specs.Carried.{size_from, size_of}
use Rattle.std.specs.Char.{is_ascii_digit}
use Rattle.std.specs.Prelude.{◌&&◌}
use Rattle.std.specs.Prelude.{Option, Some, None}
use Rattle.std.proofs.lemmas.List.{take_rest}

pub digit-least : (x : ℕ) → digit x ≡ true → 48 ≤ x
unfolding digit
digit-least x e = by (leb 48 x) refl
  where
    by : (t : Bool) → leb 48 x ≡ t → 48 ≤ x
    by true f = leb-true 48 x f
    by false f = let z : ◌≡◌ {A = Bool} false true = rw f at e in let y : ◌≡◌ {A = ℕ} 0 1 = cc in absurd (omega arith)

value_grows : (a : ℕ) (l : List ℕ) → a ≤ value_from a l
unfolding value_from
value_grows a [] = omega arith
value_grows a (x ∷ l) = omega (arith, value_grows (a * 10 + (x - 48)) l)

-- the library's test
pub digit-is : (x : ℕ) → is_ascii_digit x ≡ digit x
unfolding digit
digit-is x = by (leb 48 x)
  where
    by : (t : Bool) → t && leb x 57 ≡ cond t (leb x 57) false
    by true = refl
    by false = refl

module _ (s : List ℕ) (limit a i : ℕ) where
  pub size-bad : i < length s → digit (get_or s i 0) ≡ false → size_from limit a (drop i s) ≡ None
  unfolding size_from all_digits
  size-bad h e = rw (drop-cons s i 0, e)

  pub size-on : i < length s → digit (get_or s i 0) ≡ true
      → size_from limit a (drop i s) ≡ size_from limit (a * 10 + (get_or s i 0 - 48)) (drop (i + 1) s)
  unfolding size_from all_digits value_from
  size-on h e = rw (add-one i, drop-cons s i 0, e)

  pub size-over : i < length s → limit < a * 10 + (get_or s i 0 - 48) → size_from limit a (drop i s) ≡ None
  unfolding size_from value_from
  size-over h g =
      let d : limit < value_from (a * 10 + (get_or s i 0 - 48)) (drop (suc i) s) = omega (arith, value_grows (a * 10 + (get_or s i 0 - 48)) (drop (suc i) s)) in
      rw (drop-cons s i 0, lt-leb _ _ d) (by (all_digits (get_or s i 0 ∷ drop (suc i) s)))
    where
      by : (t : Bool) → ◌≡◌ {A = Option ℕ} (cond t None None) None
      by true = refl
      by false = refl

  pub size-done : length s ≤ i → a ≤ limit → size_from limit a (drop i s) ≡ Some a
  unfolding size_from all_digits value_from
  size-done h g = rw (drop_of_length-le s h, le-leb _ _ g)

-- digits alone, of which there is one at least
pub size-of : (limit : ℕ) (l : List ℕ) → 0 < length l → size_of limit l ≡ size_from limit 0 l
unfolding size_from size_of digits
size-of limit [] h = absurd (omega arith)
size-of limit (x ∷ l) h = refl

pub size-none : (limit : ℕ) (l : List ℕ) → length l ≤ 0 → size_of limit l ≡ None
unfolding size_of digits
size-none limit [] h = refl
size-none limit (x ∷ l) h = absurd (omega arith)

pub ruleset size_steps = (digit-is, size-bad, size-on, size-over, size-done, size-of, size-none)

-- a size, and whether a minus stands before it
abbrev pub signed_size_of : Bool → Option ℕ → Number
signed_size_of negative None = record { ok = false; negative = false; size = 0 }
signed_size_of negative (Some size) = record { ok = true; negative = negative; size = size }

pub size_is : (negative : Bool) (limit : ℕ) (l : List ℕ) → size_in negative limit l ≡ signed_size_of negative (size_of limit l)
unfolding size_in size_of
size_is negative limit l = by (digits l) (leb (value l) limit)
  where
    by : (t u : Bool)
        → cond t (cond u (record { ok = true; negative = negative; size = value l }) (record { ok = false; negative = false; size = 0 })) (record { ok = false; negative = false; size = 0 }) ≡ signed_size_of negative (cond t (cond u (Some (value l)) None) None)
    by true true = refl
    by true false = refl
    by false u = refl

-- a minus where one may stand, or none
pub number-minus : (below above : ℕ) (l : List ℕ) → get_or l 0 0 ≡ 45 → (below ≡ 0 → ⊥)
    → number_of below above l ≡ size_in true below (take (length l - 1) (drop 1 l))
unfolding number_of has_minus
number-minus below above [] e n = absurd (omega arith)
number-minus below above (x ∷ l) e n = rw (e, ne_eqb below 0 n, take_rest (x ∷ l) 1)

pub number-other : (below above : ℕ) (l : List ℕ) → (get_or l 0 0 ≡ 45 → ⊥) → number_of below above l ≡ size_in false above l
unfolding number_of has_minus
number-other below above [] n = refl
number-other below above (x ∷ l) n = by (eqb below 0)
  where
    by : (t : Bool) → cond (cond t false (eqb x 45)) (size_in true below l) (size_in false above (x ∷ l)) ≡ size_in false above (x ∷ l)
    by true = refl
    by false = rw (ne_eqb x 45 n)

pub number-above : (below above : ℕ) (l : List ℕ) → below ≡ 0 → number_of below above l ≡ size_in false above l
unfolding number_of has_minus
number-above below above [] e = refl
number-above below above (x ∷ l) e = rw (eq-eqb _ _ e)

pub number-none : (below above : ℕ) (l : List ℕ) → length l < 1 → number_of below above l ≡ size_in false above l
unfolding number_of has_minus
number-none below above [] h = refl
number-none below above (x ∷ l) h = absurd (omega arith)

pub ruleset signs = (number-minus, number-other, number-above, number-none)
