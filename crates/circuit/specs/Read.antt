-- How the fields of a circuit are read, one behind the other. Not part of what a reader has to believe.
use Rattle.std.specs.Prelude.{ℕ, ◌≡◌, true, List, Result, Ok, Err}
use Rattle.refusals.specs.declared.Refusal.{Refusal}
use Rattle.refusals.specs.declared.Refusal.TheVariants.{CutShort}
use Rattle.decoding.specs.Decoded.{size_at, next_at}
use Rattle.refusals.specs.declared.Field.{Field}
use Rattle.circuit.specs.Circuit.{is_cut}

-- the field at a place and where the next one begins, or that the bytes end inside it
abbrev pub Reads : List ℕ → ℕ → Result Field Refusal → ℕ → Type 0
Reads s at (Ok f) next = (f.bytes.now ≡ s) × (f.at ≡ at) × (f.size ≡ size_at s at) × (next ≡ next_at s at)
Reads s at (Err refusal) next = (refusal ≡ CutShort) × (is_cut s at ≡ true)
