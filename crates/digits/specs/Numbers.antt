-- Numbers in decimal digits: "Tag and numbers are decimal digits, a minus only in parameters." Bytes: 48 to 57 are the digits, 45 is the
-- minus.
use Rattle.std.specs.Prelude.{ℕ, zero, suc, ◌+◌, ◌-◌, ◌*◌, ◌/◌, ◌%◌, List, [], ◌∷◌, ◌++◌, Bool, true, false, cond, drop, eqb, ltb, leb, ℤ, pos, negsuc}
use Rattle.words.specs.Signed.{minus}
use Rattle.std.specs.Prelude.{Option, Some, None}
use Rattle.digits.specs.declared.Number.{Number as Handed}

-- what the bytes of a cell say: whether they are a number of its range; if so, whether a minus stands before it, and its size
pub record Number : Type 0 where
  pub ok : Bool
  pub negative : Bool
  pub size : ℕ

-- a number as the code hands it out
abbrev pub number_read : Option Handed → Number
number_read None = record { ok = false; negative = false; size = 0 }
number_read (Some n) = record { ok = true; negative = n.negative; size = n.size }

-- ---- read

unfoldable pub digit : ℕ → Bool
digit x = cond (leb 48 x) (leb x 57) false

unfoldable pub all_digits : List ℕ → Bool
all_digits [] = true
all_digits (x ∷ l) = cond (digit x) (all_digits l) false

-- at least one byte, and each a digit
unfoldable pub digits : List ℕ → Bool
digits [] = false
digits (x ∷ l) = all_digits (x ∷ l)

-- the number that the digits say behind those that say a
unfoldable pub value_from : ℕ → List ℕ → ℕ
value_from a [] = a
value_from a (x ∷ l) = value_from (a * 10 + (x - 48)) l

abbrev pub value : List ℕ → ℕ
value l = value_from 0 l

-- digits alone, whose number is at most the limit
unfoldable pub size_in : Bool → ℕ → List ℕ → Number
size_in negative limit l =
    cond (digits l)
    (cond (leb (value l) limit) (record { ok = true; negative = negative; size = value l })
    (record { ok = false; negative = false; size = 0 }))
    (record { ok = false; negative = false; size = 0 })

-- a minus stands first, where one may stand
unfoldable pub has_minus : ℕ → List ℕ → Bool
has_minus below [] = false
has_minus below (x ∷ l) = cond (eqb below 0) false (eqb x 45)

-- a number from −below to above; a minus only where below is not 0. Where it is none, `ok` is false
unfoldable pub number_of : ℕ → ℕ → List ℕ → Number
number_of below above l = cond (has_minus below l) (size_in true below (drop 1 l)) (size_in false above l)

-- the number that was read
abbrev pub value_of : Number → ℤ
value_of n = cond n.negative (minus n.size) (pos n.size)

-- ---- written: "no leading zeros"

-- the last k digits of n, the highest first
unfoldable pub last_digits : ℕ → ℕ → List ℕ
last_digits zero n = []
last_digits (suc k) n = last_digits k (n / 10) ++ ((48 + n % 10) ∷ [])

-- how many digits a number below ten thousand million has
unfoldable pub width : ℕ → ℕ
width n =
    cond (ltb n 10) 1
    (cond (ltb n 100) 2
    (cond (ltb n 1000) 3
    (cond (ltb n 10000) 4
    (cond (ltb n 100000) 5
    (cond (ltb n 1000000) 6
    (cond (ltb n 10000000) 7 (cond (ltb n 100000000) 8 (cond (ltb n 1000000000) 9 10))))))))

-- a number in decimal
unfoldable pub decimal : ℕ → List ℕ
decimal n = last_digits (width n) n

-- with a minus before a negative one
unfoldable pub signed_decimal : ℤ → List ℕ
signed_decimal (pos n) = decimal n
signed_decimal (negsuc n) = 45 ∷ decimal (suc n)
