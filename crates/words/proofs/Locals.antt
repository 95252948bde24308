-- Signed locals. A local holds the bits of its number, and a test or an operation reads the number back: `read z`.
-- A number that fits is read back as it is. Assumes nothing.
use mathlib.Core.Path.{◌≡◌, refl, sym, ap, ◌∙◌}
use mathlib.Core.Bool.{Bool, true, false, ◌&&◌}
use native.Mathlib.Omega.{arith}
use borrow.Author.Tests.{eqb-true, eqb-false}
use lib.Dec.{eqb}
use lib.IntN.{ℤ, pos}
use Prim.Native.Nat.{◌≤◌, ◌<◌, ◌^◌}
use lib.Signed.{mag, le_z, lt_z}
use mir.Syntax.{Width, w32}
use mir.Val.{SFits, to_z, of_z}
use mir.Facts.{to_z-of_z}
use Rattle.words.specs.Signed.{is_within, over}
use Rattle.words.proofs.Sides.{under, same, le_z-true, le-le_z, lt_z-true, lt_z-false}

abbrev pub read : Width → ℤ → ℤ
read w z = to_z w (of_z w z)

pub back : {w : Width} {z : ℤ} → SFits w z → read w z ≡ z
back = to_z-of_z

-- of a call's signed result: `back-ok c.f.result c.f.type_inv`
pub back-ok : (z : ℤ) → mag z < 2 ^ 31 → read w32 z ≡ z
back-ok z h = to_z-of_z {w = w32} {z = z} (record { sfits = h })

-- a call's signed result is passed on or returned: `back_to c.f.result c.f.type_inv c.f.ensures`
pub back_to : (z : ℤ) {y : ℤ} → mag z < 2 ^ 31 → z ≡ y → read w32 z ≡ y
back_to z h e = back-ok z h ∙ e

pub le-back : {w : Width} {a b : ℤ} {t : Bool} → SFits w a → SFits w b → le_z (read w a) (read w b) ≡ t → le_z a b ≡ t
le-back f g e = simp (back f, back g) at e

pub lt_back : {w : Width} {a b : ℤ} {t : Bool} → SFits w a → SFits w b → lt_z (read w a) (read w b) ≡ t → lt_z a b ≡ t
lt_back f g e = simp (back f, back g) at e

-- the test of the sign, `x < 0`, held or failed: `below c.ranges.x c.if-x.true`
pub below : {x : ℤ} → SFits w32 x → lt_z (read w32 x) (pos 0) ≡ true → over x < under x
below {x} f e = omega (arith, lt_z-true x (pos 0) (simp (back f) at e))

pub not-below : {x : ℤ} → SFits w32 x → lt_z (read w32 x) (pos 0) ≡ false → under x ≤ over x
not-below {x} f e = omega (arith, lt_z-false x (pos 0) (simp (back f) at e))

-- two numbers that fit and have the same bits are one
pub bits-same : {w : Width} {a b : ℤ} → SFits w a → SFits w b → of_z w a ≡ of_z w b → a ≡ b
bits-same {w} f g e = sym (back f) ∙ ap (to_z w) e ∙ back g

-- what a call of `within` says of the number itself, its answer known: `said l g c.ranges.x c.within.ensures c.if-within.true`
pub said : {x : ℤ} (l g : ℤ) {r t : Bool} → SFits w32 x → r ≡ is_within (read w32 x) l g → r ≡ t → is_within x l g ≡ t
said l g f e p = simp (back f) at (sym e ∙ p)

-- `a == b` of two signed numbers compares their bits
pub eq-bits : {w : Width} {a b : ℤ} → SFits w a → SFits w b → eqb (of_z w a) (of_z w b) ≡ le_z a b && le_z b a
eq-bits {w} {a} {b} f g = by (eqb (of_z w a) (of_z w b)) (le_z a b) (le_z b a) refl refl refl
  where
    by : (t u v : Bool) → eqb (of_z w a) (of_z w b) ≡ t → le_z a b ≡ u → le_z b a ≡ v → t ≡ u && v
    by true u v p q r =
        let e = bits-same f g (eqb-true _ _ p) in
        let o = ap over e in
        let d = ap under e in
        simp (sym q, sym r, le-le_z a b (omega arith), le-le_z b a (omega arith))
    by false true true p q r = absurd (eqb-false _ _ p (ap (of_z w) (same a b (omega (arith, le_z-true a b q, le_z-true b a r)))))
    by false true false p q r = refl
    by false false v p q r = refl
