-- What the code of a number carries. Not part of what a reader has to believe.
use Rattle.std.specs.Prelude.{ℕ, List, cond, leb, Option, Some, None}
use Rattle.digits.specs.Numbers.{all_digits, digits, value_from, value}

-- the number that digits say behind those that say a, if it is at most the limit
unfoldable pub size_from : ℕ → ℕ → List ℕ → Option ℕ
size_from limit a l = cond (all_digits l) (cond (leb (value_from a l) limit) (Some (value_from a l)) None) None

-- the number of one digit or more
unfoldable pub size_of : ℕ → List ℕ → Option ℕ
size_of limit l = cond (digits l) (cond (leb (value l) limit) (Some (value l)) None) None
