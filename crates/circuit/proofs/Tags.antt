-- A field's number is 0 when it lies within the bytes and its tag's list has no fault; the choice by the tag. Assumes nothing.
use mathlib.Core.Path.{◌≡◌, refl, ap}
use mathlib.Core.Logic.{◌↔◌}
use mathlib.Core.Bool.{Bool, true, false, cond, true≢false}
use mathlib.Core.List.{List}
use Prim.Native.Nat.{ℕ}
use native.Mathlib.Omega.{arith}
use lib.Dec.{eqb}
use borrow.Author.Tests.{eqb-true, ne_eqb}
use Rattle.refusals.specs.Faults.{lowest}
use Rattle.refusals.specs.declared.Limits.{Limits}
use Rattle.decoding.specs.Decoded.{State}
use Rattle.circuit.specs.Circuit.{by_tag, tag_faults, is_cut, field_faults, field_number}

-- a field lies within the bytes, and its tag's faults do not hold
pub whole-iff : (limits : Limits) (s : List ℕ) (at : ℕ) (st : State)
    → (field_number limits s at st ≡ 0) ↔ ((is_cut s at ≡ false) × (lowest (tag_faults limits s at st) ≡ 0))
unfolding field_number field_faults
whole-iff limits s at st = by (is_cut s at)
  where
    by : (b : Bool) → (cond b 1 (lowest (tag_faults limits s at st)) ≡ 0) ↔ ((b ≡ false) × (lowest (tag_faults limits s at st) ≡ 0))
    by true = (λ e. let z : ⊥ = omega arith in absurd z, λ h. absurd (true≢false h.0))
    by false = (λ e. (refl, e), λ h. h.1)

module _ {A : Type 0} (tag : ℕ) (header block label row end other : A) where
  abbrev chosen : ℕ → A
  chosen k = by_tag k header block label row end other

  pub of-header : tag ≡ 0x01 → chosen tag ≡ header
  unfolding by_tag
  of-header q = ap chosen q

  pub of-block : tag ≡ 0x10 → chosen tag ≡ block
  unfolding by_tag
  of-block q = ap chosen q

  pub of-label : tag ≡ 0x20 → chosen tag ≡ label
  unfolding by_tag
  of-label q = ap chosen q

  pub of_row : tag ≡ 0x30 → chosen tag ≡ row
  unfolding by_tag
  of_row q = ap chosen q

  pub of_end : tag ≡ 0x7F → chosen tag ≡ end
  unfolding by_tag
  of_end q = ap chosen q

  pub of_other : (tag ≡ 0x01 → ⊥) → (tag ≡ 0x10 → ⊥) → (tag ≡ 0x20 → ⊥) → (tag ≡ 0x30 → ⊥) → (tag ≡ 0x7F → ⊥) → chosen tag ≡ other
  unfolding by_tag
  of_other p q t u v = simp (ne_eqb _ _ p, ne_eqb _ _ q, ne_eqb _ _ t, ne_eqb _ _ u, ne_eqb _ _ v)

-- what holds of two choices at each tag holds of what is chosen
pub each-tag : {A B : Type 0} (R : A → B → Type 0) (tag : ℕ) (h b l r e o : A) (h' b' l' r' e' o' : B)
    → (tag ≡ 0x01 → R h h') → (tag ≡ 0x10 → R b b') → (tag ≡ 0x20 → R l l') → (tag ≡ 0x30 → R r r') → (tag ≡ 0x7F → R e e') → R o o'
    → R (by_tag tag h b l r e o) (by_tag tag h' b' l' r' e' o')
unfolding by_tag
each-tag R tag h b l r e o h' b' l' r' e' o' H B L W E O =
    go (eqb tag 0x01) (eqb tag 0x10) (eqb tag 0x20) (eqb tag 0x30) (eqb tag 0x7F) refl refl refl refl refl
  where
    go : (u v w x y : Bool) → eqb tag 0x01 ≡ u → eqb tag 0x10 ≡ v → eqb tag 0x20 ≡ w → eqb tag 0x30 ≡ x → eqb tag 0x7F ≡ y
        → R (cond u h (cond v b (cond w l (cond x r (cond y e o))))) (cond u h' (cond v b' (cond w l' (cond x r' (cond y e' o')))))
    go true v w x y p q i j k = H (eqb-true _ _ p)
    go false true w x y p q i j k = B (eqb-true _ _ q)
    go false false true x y p q i j k = L (eqb-true _ _ i)
    go false false false true y p q i j k = W (eqb-true _ _ j)
    go false false false false true p q i j k = E (eqb-true _ _ k)
    go false false false false false p q i j k = O

-- what holds of all six holds of the one chosen
pub by-tag : {A : Type 0} (P : A → Type 0) (tag : ℕ) (h b l r e o : A) → P h → P b → P l → P r → P e → P o → P (by_tag tag h b l r e o)
by-tag P tag h b l r e o ph pb pl pr pe po =
    each-tag (λ x y. P x) tag h b l r e o h b l r e o (λ q. ph) (λ q. pb) (λ q. pl) (λ q. pr) (λ q. pe) po
