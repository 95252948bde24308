-- The shift register moves its bits as the paper says: up, bit j comes to j + 1 and In enters bit 1; down, bit j + 1 comes to j and In
-- enters bit 8. Assumes nothing.
use mathlib.Core.Path.{◌≡◌, refl, ap, ◌∙◌}
use mathlib.Core.Bool.{Bool, true, false}
use Prim.Native.Nat.{ℕ, zero, suc, ◌+◌, ◌*◌, ◌/◌, ◌%◌, ◌≤◌, ◌<◌}
use native.Mathlib.Omega.{arith}
use lib.Dec.{eqb}
use Rattle.rules.specs.Rules.{digit, shifted, register_bit}

one : (m n : ℕ) → m ≡ n → eqb m 1 ≡ eqb n 1
one m n e = ap (λ (k : ℕ). eqb k 1) e

pub digit-small : (x : Bool) → digit x ≤ 1
digit-small true = omega arith
digit-small false = omega arith

digit-bit : (x : Bool) → eqb (digit x) 1 ≡ x
digit-bit true = refl
digit-bit false = refl

-- ---- up

first-up : (d r : ℕ) → d ≤ 1 → (2 * r + d) % 256 / 1 % 2 ≡ d
first-up d r h = omega arith

each-up : (d r : ℕ) → d ≤ 1 → ((2 * r + d) % 256 / 2 % 2 ≡ r / 1 % 2) × ((2 * r + d) % 256 / 4 % 2 ≡ r / 2 % 2) × ((2 * r + d) % 256 / 8 % 2 ≡ r / 4 % 2) × ((2 * r + d) % 256 / 16 % 2 ≡ r / 8 % 2) × ((2 * r + d) % 256 / 32 % 2 ≡ r / 16 % 2) × ((2 * r + d) % 256 / 64 % 2 ≡ r / 32 % 2) × ((2 * r + d) % 256 / 128 % 2 ≡ r / 64 % 2)
each-up d r h = (omega arith, omega arith, omega arith, omega arith, omega arith, omega arith, omega arith)

pub up-enters : (x : Bool) (r : ℕ) → register_bit (shifted false x r) 1 ≡ x
up-enters x r = one _ _ (first-up (digit x) r (digit-small x)) ∙ digit-bit x

pub up-moves : (x : Bool) (r j : ℕ) → 1 ≤ j → j ≤ 7 → register_bit (shifted false x r) (suc j) ≡ register_bit r j
up-moves x r zero h k = absurd (omega arith)
up-moves x r (suc zero) h k = one _ _ (each-up (digit x) r (digit-small x)).0
up-moves x r (suc (suc zero)) h k = one _ _ (each-up (digit x) r (digit-small x)).1
up-moves x r (suc (suc (suc zero))) h k = one _ _ (each-up (digit x) r (digit-small x)).2
up-moves x r (suc (suc (suc (suc zero)))) h k = one _ _ (each-up (digit x) r (digit-small x)).3
up-moves x r (suc (suc (suc (suc (suc zero))))) h k = one _ _ (each-up (digit x) r (digit-small x)).4
up-moves x r (suc (suc (suc (suc (suc (suc zero)))))) h k = one _ _ (each-up (digit x) r (digit-small x)).5
up-moves x r (suc (suc (suc (suc (suc (suc (suc zero))))))) h k = one _ _ (each-up (digit x) r (digit-small x)).6
up-moves x r (suc (suc (suc (suc (suc (suc (suc (suc j)))))))) h k = absurd (omega arith)

-- ---- down

last-down : (d r : ℕ) → d ≤ 1 → r < 256 → (r / 2 + 128 * d) / 128 % 2 ≡ d
last-down d r h k = omega arith

each-down : (d r : ℕ) → d ≤ 1 → ((r / 2 + 128 * d) / 1 % 2 ≡ r / 2 % 2) × ((r / 2 + 128 * d) / 2 % 2 ≡ r / 4 % 2) × ((r / 2 + 128 * d) / 4 % 2 ≡ r / 8 % 2) × ((r / 2 + 128 * d) / 8 % 2 ≡ r / 16 % 2) × ((r / 2 + 128 * d) / 16 % 2 ≡ r / 32 % 2) × ((r / 2 + 128 * d) / 32 % 2 ≡ r / 64 % 2) × ((r / 2 + 128 * d) / 64 % 2 ≡ r / 128 % 2)
each-down d r h = (omega arith, omega arith, omega arith, omega arith, omega arith, omega arith, omega arith)

pub down-enters : (x : Bool) (r : ℕ) → r < 256 → register_bit (shifted true x r) 8 ≡ x
down-enters x r h = one _ _ (last-down (digit x) r (digit-small x) h) ∙ digit-bit x

pub down-moves : (x : Bool) (r j : ℕ) → 1 ≤ j → j ≤ 7 → register_bit (shifted true x r) j ≡ register_bit r (suc j)
down-moves x r zero h k = absurd (omega arith)
down-moves x r (suc zero) h k = one _ _ (each-down (digit x) r (digit-small x)).0
down-moves x r (suc (suc zero)) h k = one _ _ (each-down (digit x) r (digit-small x)).1
down-moves x r (suc (suc (suc zero))) h k = one _ _ (each-down (digit x) r (digit-small x)).2
down-moves x r (suc (suc (suc (suc zero)))) h k = one _ _ (each-down (digit x) r (digit-small x)).3
down-moves x r (suc (suc (suc (suc (suc zero))))) h k = one _ _ (each-down (digit x) r (digit-small x)).4
down-moves x r (suc (suc (suc (suc (suc (suc zero)))))) h k = one _ _ (each-down (digit x) r (digit-small x)).5
down-moves x r (suc (suc (suc (suc (suc (suc (suc zero))))))) h k = one _ _ (each-down (digit x) r (digit-small x)).6
down-moves x r (suc (suc (suc (suc (suc (suc (suc (suc j)))))))) h k = absurd (omega arith)

-- ---- the register stays one

pub shifted-below : (down x : Bool) (r : ℕ) → r < 256 → shifted down x r < 256
shifted-below false x r h = omega arith
shifted-below true x r h = omega (arith, digit-small x)
