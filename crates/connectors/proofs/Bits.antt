-- The classes that a spot takes, those that cannot be inverted, and the least numbers, each as bits of one number. Assumes nothing.
use mathlib.Core.Path.{◌≡◌, refl, ap, ◌∙◌}
use mathlib.Core.Bool.{Bool, true, false, not, cond}
use Prim.Native.Nat.{ℕ, ◌+◌, ◌*◌, ◌/◌, ◌%◌, ◌^◌, ◌<◌}
use native.Mathlib.Omega.{arith}
use lib.Bits.{bit_and}
use lib.Dec.{eqb}
use Rattle.words.proofs.Masks.{low_bit}
use Rattle.connectors.specs.Connectors.{member, takes, inverts, least}
use Rattle.connectors.specs.declared.class.Class.{Class}
use Rattle.connectors.specs.declared.class.Class.TheVariants.{Unused, Input, Low, High, Flag, Block, AnalogInput, AnalogFlag, AnalogBlock}
use Rattle.connectors.specs.declared.class.Spot.{Spot}
use Rattle.connectors.specs.declared.class.Spot.TheVariants.{DigitalInput, AnalogInput as InAnalogInput, DigitalRow, AnalogRow, UnknownRow}
use Rattle.connectors.specs.Codes.{class_code, spot_code}
use Rattle.connectors.specs.Named.{takes_in_bits, plain_in_bits, least_in_bits}
use Rattle.connectors.proofs.Laws.{same_at}

one-test : (b : Bool) → eqb (cond b 1 0) 1 ≡ b
one-test true = refl
one-test false = refl

takes-bit : ℕ → ℕ
takes-bit i = cond (member (i % 10) (takes (i / 10))) 1 0

pub takes-bits : (spot class : ℕ) → spot < 5 → class < 10 → eqb (bit_and (1089478683656287 / 2 ^ (spot * 10 + class)) 1) 1 ≡ member class (takes spot)
unfolding takes-bit takes member
takes-bits p k h g =
    let l : p * 10 + k < 50 = omega arith in
    let d : (p * 10 + k) / 10 ≡ p = omega arith in
    let m : (p * 10 + k) % 10 ≡ k = omega arith in
    ap (λ (x : ℕ). eqb x 1) (low_bit _ ∙ same_at 50 (λ i. 1089478683656287 / 2 ^ i % 2) takes-bit refl (p * 10 + k) l)
    ∙ one-test (member ((p * 10 + k) % 10) (takes ((p * 10 + k) / 10)))
    ∙ ap (λ (x : ℕ). member x (takes ((p * 10 + k) / 10))) m
    ∙ ap (λ (y : ℕ). member k (takes y)) d

plain-bit : ℕ → ℕ
plain-bit i = cond (not (inverts i)) 1 0

pub plain-bits : (class : ℕ) → class < 10 → eqb (bit_and (929 / 2 ^ class) 1) 1 ≡ not (inverts class)
unfolding plain-bit inverts member
plain-bits k h = ap (λ (x : ℕ). eqb x 1) (low_bit _ ∙ same_at 10 (λ i. 929 / 2 ^ i % 2) plain-bit refl k h) ∙ one-test (not (inverts k))

pub least-bits : (class : ℕ) → class < 10 → bit_and (978 / 2 ^ class) 1 ≡ least class
unfolding least
least-bits k h = low_bit _ ∙ same_at 10 (λ i. 978 / 2 ^ i % 2) least refl k h

-- ---- of the classes and spots of the code

class-below : (class : Class) → class_code class < 10
class-below Unused = omega arith
class-below Input = omega arith
class-below Low = omega arith
class-below High = omega arith
class-below Flag = omega arith
class-below Block = omega arith
class-below AnalogInput = omega arith
class-below AnalogFlag = omega arith
class-below AnalogBlock = omega arith

spot-below : (spot : Spot) → spot_code spot < 5
spot-below DigitalInput = omega arith
spot-below InAnalogInput = omega arith
spot-below DigitalRow = omega arith
spot-below AnalogRow = omega arith
spot-below UnknownRow = omega arith

pub takes_told : (spot : Spot) (class : Class) → takes_in_bits (spot_code spot) (class_code class) ≡ member (class_code class) (takes (spot_code spot))
unfolding takes_in_bits
takes_told spot class = takes-bits (spot_code spot) (class_code class) (spot-below spot) (class-below class)

pub plain_told : (class : Class) → plain_in_bits (class_code class) ≡ not (inverts (class_code class))
unfolding plain_in_bits
plain_told class = plain-bits (class_code class) (class-below class)

pub least_told : (class : Class) → least_in_bits (class_code class) ≡ least (class_code class)
unfolding least_in_bits
least_told class = least-bits (class_code class) (class-below class)
