-- Tests, both ways; a list of faults of which none holds. Assumes nothing.
use mathlib.Core.Path.{◌≡◌, refl}
use mathlib.Core.Logic.{◌↔◌}
use mathlib.Core.Bool.{Bool, beq, true, false, not, ◌&&◌, ◌||◌, cond, true≢false, false≢true}
use mathlib.Core.List.{List, [], ◌∷◌}
use Prim.Native.Nat.{ℕ, ◌≤◌}
use native.Mathlib.Omega.{arith}
use lib.Dec.{leb}
use borrow.Author.Tests.{leb-true}
use Rattle.words.proofs.Bounds.{and-true}
use Rattle.refusals.specs.Faults.{Fault, lowest, rises_from, rises}

pub or-false : (a b : Bool) → ((a || b) ≡ false) ↔ ((a ≡ false) × (b ≡ false))
or-false true b = (λ e. absurd (true≢false e), λ e. e.0)
or-false false b = (λ e. (refl, e), λ e. e.1)

pub and-iff : (a b : Bool) → ((a && b) ≡ true) ↔ ((a ≡ true) × (b ≡ true))
and-iff a b = (and-true a b, λ e. rw (e.0, e.1))

-- b only where a
pub and-false : (a b : Bool) → ((a && b) ≡ false) ↔ (a ≡ true → b ≡ false)
and-false true b = (λ e h. e, λ e. e refl)
and-false false b = (λ e h. absurd (false≢true h), λ e. refl)

pub not_is : (b : Bool) → (not b ≡ false) ↔ (b ≡ true)
not_is true = (λ e. refl, λ e. refl)
not_is false = (λ e. absurd (true≢false e), λ e. absurd (false≢true e))

-- a test that fails
pub fails : (t : Bool) → (t ≡ false) ↔ (t ≡ true → ⊥)
fails true = (λ e. absurd (true≢false e), λ h. absurd (h refl))
fails false = (λ e h. false≢true h, λ h. refl)

pub same_bit : (a b : Bool) → (beq a b ≡ true) ↔ (a ≡ b)
same_bit true true = (λ e. refl, λ e. refl)
same_bit true false = (λ e. absurd (false≢true e), λ e. absurd (true≢false e))
same_bit false true = (λ e. absurd (false≢true e), λ e. absurd (false≢true e))
same_bit false false = (λ e. refl, λ e. refl)

-- ---- no fault of a list holds

abbrev pub None : List Fault → Type 0
None [] = Unit {0}
None (f ∷ l) = (f.holds ≡ false) × None l

none_from : (k : ℕ) → 1 ≤ k → (l : List Fault) → rises_from k l ≡ true → (lowest l ≡ 0) ↔ None l
none_from k h [] r = (λ e. tt, λ n. refl)
none_from k h (f ∷ l) r =
    let p = and-true (leb k f.number) (rises_from f.number l) r in
    let up = leb-true k f.number p.0 in
    let above : 1 ≤ f.number = omega arith in
    by f.holds above (none_from f.number above l p.1)
  where
    by : (b : Bool) → 1 ≤ f.number → (lowest l ≡ 0) ↔ None l → (cond b f.number (lowest l) ≡ 0) ↔ ((b ≡ false) × None l)
    by true above rest = (λ e. let z : ⊥ = omega arith in absurd z, λ n. absurd (true≢false n.0))
    by false above rest = (λ e. (refl, rest.0 e), λ n. rest.1 n.1)

-- a list that rises is of numbers above 0
pub none-holds : (l : List Fault) → rises l ≡ true → (lowest l ≡ 0) ↔ None l
none-holds l r = none_from 1 (omega arith) l r
