-- Where the code marks a destination as used. Not part of what a reader has to believe.
use Rattle.std.specs.Prelude.{ℕ, ◌+◌, ◌-◌, ◌*◌, ◌/◌, ◌^◌, [], ◌∷◌, get_or, bit_and}

-- before the marks of a class: 20 Q, 64 M, 8 AQ, 64 AM
unfoldable pub base : ℕ → ℕ
base class = get_or (0 ∷ 0 ∷ 20 ∷ 84 ∷ 92 ∷ []) class 0

abbrev pub mark : ℕ → ℕ → ℕ
mark class number = base class + (number - 1)

-- ---- the tables of destination classes, each as bits of one number

-- seven bits of a class: the marks before its own
unfoldable pub base_in_bits : ℕ → ℕ
base_in_bits class = bit_and (24872550400 / 2 ^ (class * 7)) 127

-- three bits of a class: its connector's spot
unfoldable pub spot_in_bits : ℕ → ℕ
spot_in_bits class = bit_and (13972 / 2 ^ (class * 3)) 7
