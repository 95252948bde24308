-- Signed words: as an amount, as a bit; a number between two ends.
use Rattle.std.specs.Prelude.{◌≡◌, Bool, true, false, ◌&&◌, ℕ, zero, suc, ℤ, pos, negsuc}
use Rattle.std.specs.Int.Signed.{le_z}

-- −n, as the papers write it
abbrev pub minus : ℕ → ℤ
minus zero = pos 0
minus (suc n) = negsuc n

-- the amount of a number, 0 for a negative one
abbrev pub over : ℤ → ℕ
over (pos n) = n
over (negsuc n) = 0

-- a word as a bit: 0 is false
abbrev pub bit_of : ℤ → Bool
bit_of (pos zero) = false
bit_of (pos (suc n)) = true
bit_of (negsuc n) = true

-- a bit as a word
abbrev pub word_of : Bool → ℤ
word_of true = pos 1
word_of false = pos 0

-- whether a number lies between two ends, both included
abbrev pub is_within : ℤ → ℤ → ℤ → Bool
is_within x least greatest = le_z least x && le_z x greatest

-- that it does: a record, so that all three are inferred from a hypothesis
pub record Between (least greatest x : ℤ) : Type 0 where
  pub between : is_within x least greatest ≡ true
