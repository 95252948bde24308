-- The numbers of a field and what may follow it, as the code goes through them. Assumes nothing.
use mathlib.Core.Path.{◌≡◌, refl, ap, sym, ◌∙◌}
use mathlib.Core.Bool.{Bool, true, false, cond}
use mathlib.Core.List.{List, [], ◌∷◌, ◌++◌}
use Prim.Native.Nat.{ℕ, zero, suc, ◌+◌, ◌-◌, ◌*◌, ◌%◌, ◌≤◌, ◌<◌}
use native.Mathlib.Numerals.{add-one}
use native.Mathlib.Omega.{arith}
use lib.Dec.{eqb, ltb}
use lib.ListN.{length, get_or, set, length-append, length-take, length-drop, length-set}
use lib.Seq.{sets}
use mir.Syntax.{w32}
use mir.Val.{to_z}
use lib.IntN.{ℤ}
use Rattle.std.proofs.lemmas.Int.{to_z-of_z}
use borrow.Author.Tests.{eq-eqb, ne_eqb}
use Rattle.words.specs.Bytes.{number_at}
use Rattle.digits.specs.Numbers.{signed_decimal}
use Rattle.cells.specs.Cells.{write_cell}
use Rattle.rows.specs.Widths.{width_at}
use Rattle.rows.proofs.Laid.{sets-append}
use Rattle.writing.specs.Walked.{between, Wide, number_text, numbers_text, numbers_end, has_label, label_end, label_at, label_text, tail_text, tail_end}

-- ---- one number

wide_by : (t : Bool) (a b : ℕ) → Wide a → Wide b → Wide (cond t a b)
wide_by true a b h g = h
wide_by false a b h g = g

wide-one : Wide 1
wide-one = record { else-four = λ m n. absurd (m refl) }

wide-two : Wide 2
wide-two = record { else-four = λ m n. absurd (n refl) }

wide-four : Wide 4
wide-four = record { else-four = λ m n. refl }

pub wide_at : (inputs j : ℕ) → Wide (width_at inputs j)
unfolding width_at
wide_at inputs j =
    wide_by (ltb j 2) 1 (cond (ltb j (2 + 2 * inputs)) (cond (eqb (j % 2) 0) 1 2) 4) wide-one
    (wide_by (ltb j (2 + 2 * inputs)) (cond (eqb (j % 2) 0) 1 2) 4 (wide_by (eqb (j % 2) 0) 1 2 wide-one wide-two) wide-four)

-- one byte is its number
pub byte_is : (s : List ℕ) (at width : ℕ) → width ≡ 1 → to_z w32 (get_or s at 0) ≡ to_z w32 (number_at width s at)
unfolding number_at
byte_is s at width e = let g : number_at 1 s at ≡ get_or s at 0 = omega arith in rw (e, g)

-- a comma, and the number behind it
pub number-length : (v : ℤ) → length (number_text v) ≡ 1 + length (signed_decimal v)
unfolding number_text
number-length v = omega arith

pub number_put : (v : ℤ) (t : List ℕ) (to : ℕ) → sets t to (number_text v) ≡ sets (set t to 44) (to + 1) (signed_decimal v)
unfolding number_text
number_put v t to = rw add-one

-- ---- all of them

pub end-least : (inputs n j at : ℕ) → at ≤ numbers_end inputs n j at
unfolding numbers_end
end-least inputs zero j at = omega arith
end-least inputs (suc n) j at = let h = end-least inputs n (j + 1) (at + width_at inputs j) in omega arith

module _ (inputs : ℕ) (s : List ℕ) (count : ℕ) where
  pub text-done : (j at : ℕ) → count ≤ j → numbers_text inputs s (count - j) j at ≡ []
  unfolding numbers_text
  text-done j at h = let k : count - j ≡ 0 = omega arith in rw k

  pub end-done : (j at : ℕ) → count ≤ j → numbers_end inputs (count - j) j at ≡ at
  unfolding numbers_end
  end-done j at h = let k : count - j ≡ 0 = omega arith in rw k

  module _ (j at width : ℕ) (e : width ≡ width_at inputs j) (h : j < count) where
    text-on : numbers_text inputs s (count - j) j at
        ≡ number_text (to_z w32 (number_at width s at)) ++ numbers_text inputs s (count - (j + 1)) (j + 1) (at + width)
    unfolding numbers_text
    text-on = let k : count - j ≡ suc (count - (j + 1)) = omega arith in rw (k, e)

    end_on : numbers_end inputs (count - j) j at ≡ numbers_end inputs (count - (j + 1)) (j + 1) (at + width)
    unfolding numbers_end
    end_on = let k : count - j ≡ suc (count - (j + 1)) = omega arith in rw (k, e)

    reaches-on : at + width ≤ numbers_end inputs (count - j) j at
    reaches-on = let l = end-least inputs (count - (j + 1)) (j + 1) (at + width) in let q = end_on in omega arith

    size-on : length (numbers_text inputs s (count - j) j at)
        ≡ length (number_text (to_z w32 (number_at width s at))) + length (numbers_text inputs s (count - (j + 1)) (j + 1) (at + width))
    size-on = ap length text-on ∙ length-append (number_text (to_z w32 (number_at width s at))) (numbers_text inputs s (count - (j + 1)) (j + 1) (at + width))

    put_on : (t t' : List ℕ) (to to' : ℕ) → to' ≡ to + length (number_text (to_z w32 (number_at width s at)))
        → t' ≡ sets t to (number_text (to_z w32 (number_at width s at)))
        → sets t' to' (numbers_text inputs s (count - (j + 1)) (j + 1) (at + width)) ≡ sets t to (numbers_text inputs s (count - j) j at)
    put_on t t' to to' p q =
        let first = number_text (to_z w32 (number_at width s at)) in
        let rest = numbers_text inputs s (count - (j + 1)) (j + 1) (at + width) in
        rw (q, p) (sym (ap (sets t to) text-on ∙ sets-append first rest t to))

-- what one turn of the code's loops over the numbers does
pub record Turn (inputs : ℕ) (s : List ℕ) (count j at width : ℕ) : Type 0 where
  pub wide : Wide width
  pub reaches : at + width ≤ numbers_end inputs (count - j) j at
  pub ends : numbers_end inputs (count - (j + 1)) (j + 1) (at + width) ≡ numbers_end inputs (count - j) j at
  pub size : length (numbers_text inputs s (count - j) j at)
      ≡ length (number_text (to_z w32 (number_at width s at))) + length (numbers_text inputs s (count - (j + 1)) (j + 1) (at + width))
  pub put : (t t' : List ℕ) (to to' : ℕ) → to' ≡ to + length (number_text (to_z w32 (number_at width s at)))
      → t' ≡ sets t to (number_text (to_z w32 (number_at width s at)))
      → sets t' to' (numbers_text inputs s (count - (j + 1)) (j + 1) (at + width)) ≡ sets t to (numbers_text inputs s (count - j) j at)

pub turn : (inputs : ℕ) (s : List ℕ) (count j at width : ℕ) → width ≡ width_at inputs j → j < count → Turn inputs s count j at width
turn inputs s count j at width e h =
    record {
      wide = rw e (wide_at inputs j);
      reaches = reaches-on inputs s count j at width e h;
      ends = sym (end_on inputs s count j at width e h);
      size = size-on inputs s count j at width e h;
      put = put_on inputs s count j at width e h;
    }

-- ---- mark and label

module _ (s : List ℕ) (at : ℕ) where
  pub tail_none : (labelled : Bool) → labelled ≡ false → (tail_text labelled s at ≡ []) × (tail_end labelled s at ≡ at)
  unfolding tail_text tail_end
  tail_none labelled e = rw e (refl, refl)

  pub tail-bare : (labelled : Bool) → labelled ≡ true → (get_or s at 0 ≡ 0x20 → ⊥)
      → (tail_text labelled s at ≡ 44 ∷ 48 ∷ 44 ∷ []) × (tail_end labelled s at ≡ at)
  unfolding tail_text tail_end label_text label_at label_end has_label
  tail-bare labelled e n = rw (e, ne_eqb (get_or s at 0) 0x20 n) (refl, refl)

  pub tail-some : (labelled : Bool) → labelled ≡ true → get_or s at 0 ≡ 0x20
      → (tail_text labelled s at ≡ 44 ∷ 49 ∷ 44 ∷ write_cell (between s (at + 3) (at + 3 + number_at 2 s (at + 1))))
      × (tail_end labelled s at ≡ at + 3 + number_at 2 s (at + 1))
  unfolding tail_text tail_end label_text label_at label_end has_label
  tail-some labelled e f = rw (e, eq-eqb (get_or s at 0) 0x20 f) (refl, refl)

  -- a label's cell behind the mark
  module _ (label : List ℕ) (is : label ≡ between s (at + 3) (at + 3 + number_at 2 s (at + 1))) (long : length label ≡ number_at 2 s (at + 1)) where
    pub tail-size-is : (labelled : Bool) → labelled ≡ true → get_or s at 0 ≡ 0x20 → (cell : ℕ) → (cell ≡ length (write_cell label)) × (cell ≤ 131074)
        → (3 + cell ≡ length (tail_text labelled s at)) × (at + 3 + length label ≡ tail_end labelled s at) × (3 + cell ≤ 131077)
    tail-size-is labelled l f cell q =
        let e = tail-some labelled l f in
        let k = ap length e.0 in
        let m = ap (λ x. length (write_cell x)) is in
        (omega (arith, q.0), omega (arith, e.1), omega (arith, q.1))

    pub put_some : (labelled : Bool) → labelled ≡ true → get_or s at 0 ≡ 0x20 → (t t₁ t₂ : List ℕ) (to mark behind : ℕ)
        → (mark ≡ to + 3) × (t₁ ≡ sets t to (44 ∷ 49 ∷ 44 ∷ []))
        → (behind ≡ mark + length (write_cell label)) × (t₂ ≡ sets t₁ mark (write_cell label))
        → (behind ≡ to + length (tail_text labelled s at)) × (at + 3 + length label ≡ tail_end labelled s at) × (t₂ ≡ sets t to (tail_text labelled s at))
    put_some labelled l f t t₁ t₂ to mark behind p q =
        let e = tail-some labelled l f in
        let k = ap length e.0 in
        let m = ap (λ x. length (write_cell x)) is in (
          omega (arith, p.0, q.0),
          omega (arith, e.1),
          q.1 ∙ rw (p.1, p.0, e.0, is) (sym (sets-append (44 ∷ 49 ∷ 44 ∷ []) (write_cell (between s (at + 3) (at + 3 + number_at 2 s (at + 1)))) t to)),
        )

pub ruleset lengths = (length-take, length-drop)

pub ruleset passed = (to_z-of_z, number-length, number_put, length-set)
