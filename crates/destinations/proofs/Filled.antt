-- A slot holds what its destination gets; the first 28 slots are the outputs. Assumes nothing.
use Prim.Native.Nat.{ℕ, zero, suc, ◌+◌, ◌-◌, ◌*◌, ◌≤◌, ◌<◌}
use native.Mathlib.Omega.{arith}
use native.Mathlib.Nat.{zero-add, add-zero, sub-zero}
use mathlib.Core.Path.{◌≡◌, refl, sym, ap, ◌∙◌}
use mathlib.Core.Bool.{Bool, true, false, cond, ◌&&◌}
use mathlib.Core.List.{List, [], ◌∷◌}
use lib.Dec.{eqb, ltb}
use lib.ListN.{length, set, replicate, length-set, length-replicate, get_or-replicate, get_or-append, take, drop, length-drop}
use Rattle.std.proofs.lemmas.List.{length-take-le}
use lib.Seq.{get_or-set_same, get_or-set_other, ext_get_or, get_or-append-add, get_or-take, get_or-drop}
use lib.IntN.{ℤ, pos}
use borrow.Author.Tests.{ltb-true, ltb-false, eqb-true, eqb-false, lt-ltb, le-ltb}
use Rattle.fields.specs.Codes.{class_code}
use Rattle.fields.specs.declared.destination.Destination.{Destination}
use Rattle.fields.specs.declared.destination.Destination.TheVariants.{Output, Flag, AnalogOutput, AnalogFlag}
use Rattle.fields.specs.Fields.{class_at, number_in}
use Rattle.decoding.specs.Decoded.{Row, row_at}
use Rattle.decoding.specs.Held.{rows_at}
use Rattle.kept.specs.Keeps.{All}
use Rattle.record.specs.Places.{at}
use Rattle.destinations.specs.Destinations.{Q, M, AQ, AM, carried, destined, list_from, outputs_of}
use Rattle.destinations.specs.Slots.{base, slot, filled, Aimed, at-q, at-m, at-aq, at-am, AimedRow, Rows}

-- ---- slots

-- a destination's class has a name
pub aimed-class : (class number : ℕ) → Aimed class number → (d : Destination) × (class_code d ≡ class)
aimed-class class number (at-q e a b) = (Output, sym e)
aimed-class class number (at-m e a b) = (Flag, sym e)
aimed-class class number (at-aq e a b) = (AnalogOutput, sym e)
aimed-class class number (at-am e a b) = (AnalogFlag, sym e)

pub number-from : (class number : ℕ) → Aimed class number → 1 ≤ number
number-from class number (at-q e a b) = a
number-from class number (at-m e a b) = a
number-from class number (at-aq e a b) = a
number-from class number (at-am e a b) = a

pub slot-below : (class number : ℕ) → Aimed class number → slot class number < 156
unfolding base
slot-below class number (at-q e a b) = rw e (omega arith)
slot-below class number (at-m e a b) = rw e (omega arith)
slot-below class number (at-aq e a b) = rw e (omega arith)
slot-below class number (at-am e a b) = rw e (omega arith)

-- the class whose slot it is
abbrev owner_of : ℕ → ℕ
owner_of i = cond (ltb i 20) Q (cond (ltb i 28) AQ (cond (ltb i 92) M AM))

class_back : (class number : ℕ) → Aimed class number → owner_of (slot class number) ≡ class
unfolding base
class_back class n (at-q e a b) = rw (e, lt-ltb (0 + (n - 1)) 20 (omega arith))
class_back class n (at-aq e a b) = rw (e, le-ltb (20 + (n - 1)) 20 (omega arith), lt-ltb (20 + (n - 1)) 28 (omega arith))
class_back class n (at-m e a b) = rw (e, le-ltb (28 + (n - 1)) 20 (omega arith), le-ltb (28 + (n - 1)) 28 (omega arith), lt-ltb (28 + (n - 1)) 92 (omega arith))
class_back class n (at-am e a b) = rw (e, le-ltb (92 + (n - 1)) 20 (omega arith), le-ltb (92 + (n - 1)) 28 (omega arith), le-ltb (92 + (n - 1)) 92 (omega arith))

-- two destinations have two slots
module _ (a b m n : ℕ) (p : Aimed a m) (q : Aimed b n) where
  same_class : slot a m ≡ slot b n → a ≡ b
  same_class e = sym (class_back a m p) ∙ ap owner_of e ∙ class_back b n q

  same_number : a ≡ b → slot a m ≡ slot b n → m ≡ n
  same_number f e =
      let g : slot b m ≡ slot b n = rw f at e in
      let i = number-from a m p in
      let j = number-from b n q in
      omega arith

-- ---- the slots, filled

pub filled-length : (rows : List Row) (l : List ℤ) → length (filled rows l) ≡ 156
unfolding filled
filled-length [] l = length-replicate 156 (pos 0)
filled-length (row ∷ rows) l = length-set (filled rows l) _ _ ∙ filled-length rows l

module _ (l : List ℤ) (class n : ℕ) (aim : Aimed class n) where
  filled_row : (b m : ℕ) (v : ℤ) (rest : List ℤ) (z : ℤ) (s t : Bool) → eqb b class ≡ s → eqb m n ≡ t → length rest ≡ 156 → Aimed b m → at rest (slot class n) ≡ z
      → at (set rest (slot b m) v) (slot class n) ≡ cond (eqb b class && eqb m n) v z
  filled_row b m v rest z true true e f long a h =
      rw (e, f, eqb-true b class e, eqb-true m n f) (get_or-set_same rest (slot class n) v (pos 0) (rw long (slot-below class n aim)))
  filled_row b m v rest z true false e f long a h =
      rw (e, f)
      (get_or-set_other rest (slot b m) (slot class n) v (pos 0) (λ g. eqb-false m n f (same_number b class m n a aim (eqb-true b class e) (sym g))) ∙ h)
  filled_row b m v rest z false t e f long a h =
      rw e (get_or-set_other rest (slot b m) (slot class n) v (pos 0) (λ g. eqb-false b class e (same_class b class m n a aim (sym g))) ∙ h)

  pub filled_at : (rows : List Row) → All AimedRow rows → at (filled rows l) (slot class n) ≡ destined rows l class n
  unfolding filled destined
  filled_at [] h = get_or-replicate 156 (slot class n) (pos 0) (pos 0) (slot-below class n aim)
  filled_at (row ∷ rows) h =
      filled_row row.class row.number (carried l row) (filled rows l) (destined rows l class n)
      (eqb row.class class) (eqb row.number n) refl refl (filled-length rows l) h.0 (filled_at rows h.1)

-- ---- the rows of the bytes, the last one first

fine-from : (s : List ℕ) (at count j : ℕ) → All AimedRow (rows_at s at count) → j < count → AimedRow (row_at s (at + 8 * j))
unfolding rows_at
fine-from s at zero j h b = let z : ⊥ = omega arith in absurd z
fine-from s at (suc count) zero h b = rw (add-zero at) h.0
fine-from s at (suc count) (suc j) h b =
    let e : at + 8 + 8 * j ≡ at + 8 * suc j = omega arith in
    rw e at (fine-from s (at + 8) count j h.1 (omega arith))

-- row j, from 0
pub row_fine : (s : List ℕ) (start count : ℕ) → Rows s start count → (j : ℕ) → j < count → AimedRow (row_at s (start + 8 * j))
row_fine s start count rows j b = fine-from s start count j rows.fine b

module _ (s : List ℕ) (start count : ℕ) (l : List ℤ) where
  -- the rows from the one at left on
  abbrev pub filled_from : ℕ → List ℤ
  filled_from left = filled (rows_at s (start + 8 * left) (count - left)) l

  pub filled_none : filled_from count ≡ replicate 156 (pos 0)
  unfolding filled rows_at
  filled_none = let e : count - count ≡ 0 = omega arith in rw e

  pub filled_more : (left : ℕ) → 0 < left → left ≤ count
      → filled_from (left - 1) ≡ set (filled_from left) (slot (class_at s (start + 8 * (left - 1))) (number_in s (start + 8 * (left - 1)))) (carried l (row_at s (start + 8 * (left - 1))))
  unfolding filled rows_at
  filled_more left a b =
      let e : count - (left - 1) ≡ suc (count - left) = omega arith in
      let f : start + 8 * (left - 1) + 8 ≡ start + 8 * left = omega arith in
      rw (e, f)

  pub filled-all : filled_from 0 ≡ filled (rows_at s start count) l
  filled-all = rw (add-zero start, sub-zero count)

-- ---- by index

module _ (rows : List Row) (l : List ℤ) (fine : All AimedRow rows) (k : ℕ) where
  slot-word : (class : ℕ) → Aimed class (1 + k) → at (filled rows l) (base class + k) ≡ destined rows l class (1 + k)
  slot-word class aim =
      let e : 1 + k - 1 ≡ k = omega arith in
      rw e at (filled_at l class (1 + k) aim rows fine)

  pub filled-q : k < 20 → at (filled rows l) k ≡ destined rows l Q (1 + k)
  unfolding base
  filled-q b = rw (zero-add k) at (slot-word Q (at-q refl (omega arith) (omega arith)))

  pub filled-aq : k < 8 → at (filled rows l) (20 + k) ≡ destined rows l AQ (1 + k)
  unfolding base
  filled-aq b = slot-word AQ (at-aq refl (omega arith) (omega arith))

  pub filled-m : k < 64 → at (filled rows l) (28 + k) ≡ destined rows l M (1 + k)
  unfolding base
  filled-m b = slot-word M (at-m refl (omega arith) (omega arith))

  pub filled-am : k < 64 → at (filled rows l) (92 + k) ≡ destined rows l AM (1 + k)
  unfolding base
  filled-am b = slot-word AM (at-am refl (omega arith) (omega arith))

-- ---- a part of the slots

pub record Part (slots : List ℤ) (a m : ℕ) (from : List ℤ) : Type 0 where
  pub long : length from ≡ m
  pub words : (k : ℕ) → k < m → at from k ≡ at slots (a + k)

module _ (rows : List Row) (l slots : List ℤ) (is : slots ≡ filled rows l) where
  whole : length slots ≡ 156
  whole = ap length is ∙ filled-length rows l

  pub front_part : (m : ℕ) → m ≤ 156 → Part (filled rows l) 0 m (take m slots)
  front_part m b =
      record {
        long = length-take-le m slots (omega (arith, whole));
        words = λ k c. get_or-take m slots k (pos 0) c ∙ ap (λ (x : List ℤ). at x k) is ∙ ap (at (filled rows l)) (sym (zero-add k));
      }

  pub back_part : (a m : ℕ) → a + m ≡ 156 → Part (filled rows l) a m (drop a slots)
  back_part a m e =
      record {
        long = length-drop a slots ∙ omega (arith, whole);
        words = λ k c. get_or-drop a slots k (pos 0) ∙ ap (λ (x : List ℤ). at x (a + k)) is;
      }

-- ---- the outputs

list_length : (a m : ℕ) (f : ℕ → ℤ) → length (list_from a m f) ≡ m
list_length a zero f = refl
list_length a (suc m) f = ap suc (list_length (a + 1) m f)

list_at : (a m : ℕ) (f : ℕ → ℤ) (j : ℕ) → j < m → at (list_from a m f) j ≡ f (a + j)
list_at a zero f j h = let z : ⊥ = omega arith in absurd z
list_at a (suc m) f zero h = rw (add-zero a)
list_at a (suc m) f (suc j) h =
    let e : a + 1 + j ≡ a + suc j = omega arith in
    rw (← e) (list_at (a + 1) m f j (omega arith))

module _ (rows : List Row) (l : List ℤ) (fine : All AimedRow rows) where
  first-20 : (i : ℕ) → i < 20 → at (outputs_of rows l) i ≡ at (filled rows l) i
  unfolding outputs_of
  first-20 i b =
      get_or-append (list_from 1 20 (destined rows l Q)) (list_from 1 8 (destined rows l AQ)) (pos 0) i (rw (list_length 1 20 (destined rows l Q)) b)
      ∙ list_at 1 20 (destined rows l Q) i b
      ∙ sym (filled-q rows l fine i b)

  last-8 : (i : ℕ) → i < 8 → at (outputs_of rows l) (20 + i) ≡ at (filled rows l) (20 + i)
  unfolding outputs_of
  last-8 i b =
      get_or-append-add (list_from 1 20 (destined rows l Q)) (list_from 1 8 (destined rows l AQ)) i (pos 0)
      ∙ list_at 1 8 (destined rows l AQ) i b
      ∙ sym (filled-aq rows l fine i b)

  output-at : (i : ℕ) (t : Bool) → ltb i 20 ≡ t → i < 28 → at (outputs_of rows l) i ≡ at (filled rows l) i
  output-at i true e b = first-20 i (ltb-true i 20 e)
  output-at i false e b =
      let g : 20 + (i - 20) ≡ i = omega (arith, ltb-false i 20 e) in
      rw g at (last-8 (i - 20) (omega (arith, ltb-false i 20 e)))

  -- the first 28 slots
  pub outputs-are : (from : List ℤ) → Part (filled rows l) 0 28 from → from ≡ outputs_of rows l
  unfolding outputs_of
  outputs-are from p =
      ext_get_or (pos 0) from (outputs_of rows l) p.long
      (λ i k.
      let b : i < 28 = rw p.long at k in
      p.words i b ∙ ap (at (filled rows l)) (zero-add i) ∙ sym (output-at i (ltb i 20) refl b))
