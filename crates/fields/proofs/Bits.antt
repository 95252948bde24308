-- The marks before a class of destinations, and the spot of its connector, each as bits of one number. Assumes nothing.
use mathlib.Core.Path.{◌≡◌, refl, ◌∙◌}
use Prim.Native.Nat.{ℕ, ◌*◌, ◌/◌, ◌%◌, ◌^◌, ◌<◌}
use native.Mathlib.Omega.{arith}
use lib.Bits.{bit_and}
use Rattle.words.proofs.Masks.{low-three-bits, low-seven-bits}
use Rattle.connectors.proofs.Laws.{same_at}
use Rattle.fields.specs.Fields.{spot_of}
use Rattle.fields.specs.Marks.{base, base_in_bits, spot_in_bits}
use Rattle.fields.specs.declared.destination.Destination.{Destination}
use Rattle.fields.specs.declared.destination.Destination.TheVariants.{Output, Flag, AnalogOutput, AnalogFlag}
use Rattle.fields.specs.Codes.{class_code}

pub base-bits : (class : ℕ) → class < 5 → bit_and (24872550400 / 2 ^ (class * 7)) 127 ≡ base class
unfolding base
base-bits k h = low-seven-bits _ ∙ same_at 5 (λ i. 24872550400 / 2 ^ (i * 7) % 128) base refl k h

pub spot-bits : (class : ℕ) → class < 5 → bit_and (13972 / 2 ^ (class * 3)) 7 ≡ spot_of class
unfolding spot_of
spot-bits k h = low-three-bits _ ∙ same_at 5 (λ i. 13972 / 2 ^ (i * 3) % 8) spot_of refl k h

-- ---- of the classes of the code

code-below : (class : Destination) → class_code class < 5
code-below Output = omega arith
code-below Flag = omega arith
code-below AnalogOutput = omega arith
code-below AnalogFlag = omega arith

pub base_told : (class : Destination) → base_in_bits (class_code class) ≡ base (class_code class)
unfolding base_in_bits
base_told class = base-bits (class_code class) (code-below class)

pub spot_told : (class : Destination) → spot_in_bits (class_code class) ≡ spot_of (class_code class)
unfolding spot_in_bits
spot_told class = spot-bits (class_code class) (code-below class)
