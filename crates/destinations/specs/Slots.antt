-- Where the code keeps what each destination gets, and what it counts on of the rows. Not part of what a reader has to believe.
use Rattle.std.specs.Prelude.{ℕ, ◌+◌, ◌-◌, ◌*◌, ◌/◌, ◌^◌, ◌≤◌, ◌≡◌, List, [], ◌∷◌, length, get_or, set, replicate, ℤ, pos, bit_and}
use Rattle.decoding.specs.Decoded.{Row}
use Rattle.decoding.specs.Held.{rows_at}
use Rattle.kept.specs.Keeps.{All}
use Rattle.destinations.specs.Destinations.{Q, M, AQ, AM, carried}

-- ---- the slots: Q, AQ, M, AM, the flags as they stand in a record

-- before the slots of a class: 20 Q, 8 AQ, 64 M, 64 AM
unfoldable pub base : ℕ → ℕ
base class = get_or (0 ∷ 0 ∷ 28 ∷ 20 ∷ 92 ∷ []) class 0

-- and as bits of one number, seven for each class
unfoldable pub base_in_bits : ℕ → ℕ
base_in_bits class = bit_and (24738463744 / 2 ^ (class * 7)) 127

abbrev pub slot : ℕ → ℕ → ℕ
slot class number = base class + (number - 1)

-- the slots with each row's word in them, that of the first row last
unfoldable pub filled : List Row → List ℤ → List ℤ
filled [] l = replicate 156 (pos 0)
filled (row ∷ rows) l = set (filled rows l) (slot row.class row.number) (carried l row)

-- ---- the rows

-- a destination that there is
pub data Aimed (class number : ℕ) : Type 0 where
  at-q : class ≡ Q → 1 ≤ number → number ≤ 20 → Aimed class number
  at-m : class ≡ M → 1 ≤ number → number ≤ 64 → Aimed class number
  at-aq : class ≡ AQ → 1 ≤ number → number ≤ 8 → Aimed class number
  at-am : class ≡ AM → 1 ≤ number → number ≤ 64 → Aimed class number

abbrev pub AimedRow : Row → Type 0
AimedRow row = Aimed row.class row.number

-- rows that stand in the bytes one behind the other, each to a destination that there is
pub record Rows (s : List ℕ) (start count : ℕ) : Type 0 where
  pub there : start + 8 * count ≤ length s
  pub fine : All AimedRow (rows_at s start count)
