-- What the functions that judge a connector answer. Not part of what a reader has to believe.
use Rattle.std.specs.Prelude.{ℕ, ◌+◌, ◌*◌, ◌/◌, ◌^◌, Bool, [], ◌∷◌, eqb, bit_and}
use Rattle.refusals.specs.Faults.{lowest, ◌when◌}

-- the lowest that holds for a connector, or for some of several
unfoldable pub six_or_seven : Bool → Bool → ℕ
six_or_seven is_wrong is_later = lowest (6 when is_wrong ∷ 7 when is_later ∷ [])

-- ---- the tables of classes, each as bits of one number

-- bit 10 * spot + class: whether the spot takes the class
unfoldable pub takes_in_bits : ℕ → ℕ → Bool
takes_in_bits spot class = eqb (bit_and (1089478683656287 / 2 ^ (spot * 10 + class)) 1) 1

-- bit of a class: whether it cannot be inverted
unfoldable pub plain_in_bits : ℕ → Bool
plain_in_bits class = eqb (bit_and (929 / 2 ^ class) 1) 1

-- bit of a class: its least number
unfoldable pub least_in_bits : ℕ → ℕ
least_in_bits class = bit_and (978 / 2 ^ class) 1
