-- A number that is no kind has no rule. Assumes nothing.
use mathlib.Core.Path.{◌≡◌, refl}
use mathlib.Core.Bool.{Bool, true, false}
use Prim.Native.Nat.{ℕ, zero, suc, ◌≤◌}
use native.Mathlib.Omega.{arith}
use borrow.Author.Tests.{eqb-true, eqb-false, leb-true, leb-false}
use lib.Dec.{eqb, leb}
use lib.ListN.{get_or, get_or-eq_default}
use Rattle.kinds.specs.Kinds.{known}
use Rattle.kinds.proofs.Codes.{known_is}
use Rattle.blocks.specs.Blocks.{idle, rules, worked_out}

-- none of 1 to n
abbrev pub NoneOf : ℕ → ℕ → Type 0
NoneOf kind zero = Unit {0}
NoneOf kind (suc n) = NoneOf kind n × (kind ≡ suc n → ⊥)

none_of : (kind n : ℕ) → NoneOf kind n → 1 ≤ kind → kind ≤ n → ⊥
none_of kind zero ne h k = omega arith
none_of kind (suc n) ne h k = by (eqb kind (suc n)) refl (none_of kind n ne.0 h)
  where
    by : (b : Bool) → eqb kind (suc n) ≡ b → (kind ≤ n → ⊥) → ⊥
    by true e less = ne.1 (eqb-true kind (suc n) e)
    by false e less = less (omega (arith, eqb-false kind (suc n) e))

pub no-rule : (kind : ℕ) → NoneOf kind 19 → worked_out kind ≡ idle
unfolding worked_out rules
no-rule zero ne = refl
no-rule (suc k) ne = by (leb (suc k) 19) refl
  where
    by : (b : Bool) → leb (suc k) 19 ≡ b → get_or rules (suc k) idle ≡ idle
    by true e = absurd (none_of (suc k) 19 ne (omega arith) (leb-true (suc k) 19 e))
    by false e = get_or-eq_default rules idle (leb-false (suc k) 19 e)

-- a number that is not known is none of 1 to n
pub none-known : (kind : ℕ) → known kind ≡ false → (n : ℕ) → n ≤ 19 → NoneOf kind n
none-known kind e zero h = _
none-known kind e (suc n) h = (none-known kind e n (omega arith), λ is. grind (arith, known_is, e, is, h))
