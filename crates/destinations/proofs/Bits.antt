-- The slots before a class of destinations as bits of one number. Assumes nothing.
use mathlib.Core.Path.{◌≡◌, refl, ◌∙◌}
use Prim.Native.Nat.{ℕ, ◌*◌, ◌/◌, ◌%◌, ◌^◌, ◌<◌}
use native.Mathlib.Omega.{arith}
use lib.Bits.{bit_and}
use Rattle.words.proofs.Masks.{low-seven-bits}
use Rattle.connectors.proofs.Laws.{same_at}
use Rattle.fields.specs.declared.destination.Destination.{Destination}
use Rattle.fields.specs.declared.destination.Destination.TheVariants.{Output, Flag, AnalogOutput, AnalogFlag}
use Rattle.fields.specs.Codes.{class_code}
use Rattle.destinations.specs.Slots.{base, base_in_bits}

-- seven bits for each class
pub base-bits : (class : ℕ) → class < 5 → bit_and (24738463744 / 2 ^ (class * 7)) 127 ≡ base class
unfolding base
base-bits class h = low-seven-bits _ ∙ same_at 5 (λ k. 24738463744 / 2 ^ (k * 7) % 128) base refl class h

-- of the classes of the code
code-below : (class : Destination) → class_code class < 5
code-below Output = omega arith
code-below Flag = omega arith
code-below AnalogOutput = omega arith
code-below AnalogFlag = omega arith

pub base_told : (class : Destination) → base_in_bits (class_code class) ≡ base (class_code class)
unfolding base_in_bits
base_told class = base-bits (class_code class) (code-below class)
