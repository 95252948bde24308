-- A row without a fault gives whole fields of document 01: its columns are as many as its shape has, so the content has the length of its
-- kind, its first byte is the kind, and its label fits. Assumes nothing.
use mathlib.Core.Path.{◌≡◌, refl, ap, ◌∙◌}
use mathlib.Core.Bool.{Bool, true, false, cond, ◌&&◌, false≢true}
use mathlib.Core.List.{List, [], ◌∷◌, ◌++◌, append-nil}
use Prim.Native.Nat.{ℕ, ◌+◌, ◌*◌, ◌≤◌, ◌<◌}
use native.Mathlib.Omega.{arith}
use lib.Dec.{eqb, leb}
use lib.ListN.{length, get_or, drop, length-drop}
use lib.Seq.{get_or-drop}
use lib.IntN.{pos}
use borrow.Author.Tests.{eqb-true, ne_eqb, leb-true, not-false}
use Rattle.words.proofs.Bounds.{and-true}
use Rattle.kinds.specs.Kinds.{known}
use Rattle.refusals.proofs.Tests.{none-holds}
use Rattle.kept.specs.Keeps.{field}
use Rattle.digits.specs.Numbers.{Number}
use Rattle.digits.specs.Numbers.{digits, value, size_in, has_minus, number_of, value_of}
use Rattle.rows.specs.Shape.{Shape}
use Rattle.rows.specs.Text.{TextRow}
use Rattle.rows.specs.Columns.{below_of, above_of, said_in, widths, widths_of, numbers_fit, numbers_bytes, block_shape, output_shape, no_shape, says, shape_by, nth, shape_of, numbers_in, columns_of, label_fits, mark_said, label_field, mark_of, label_of, is_shaped, is_fit, row_faults, row_number, fields_by, fields_of}
use Rattle.rows.specs.Again.{Sound, BlockContent, RowFields, block, labelled, output, RowsAreFields}
use Rattle.rows.proofs.Widths.{widths-length, widths-total, numbers-length}
use Rattle.rows.proofs.Entries.{packed_byte}
use Rattle.rows.proofs.Fine.{known_small}

-- ---- the first byte

never-minus : (l : List ℕ) → has_minus 0 l ≡ false
unfolding has_minus
never-minus [] = refl
never-minus (x ∷ l) = refl

either-plain : (t u : Bool) (a b c : Number) → a.negative ≡ false → b.negative ≡ false → c.negative ≡ false
    → (cond t (cond u a b) c).negative ≡ false
either-plain true true a b c e f g = e
either-plain true false a b c e f g = f
either-plain false u a b c e f g = g

-- a byte has no minus
byte-plain : (cell : List ℕ) → (said_in 1 cell).negative ≡ false
unfolding said_in below_of above_of number_of size_in
byte-plain cell = rw (never-minus cell) (either-plain (digits cell) (leb (value cell) 255) _ _ _ refl refl refl)

byte-value : (cell : List ℕ) → value_of (said_in 1 cell) ≡ pos (said_in 1 cell).size
byte-value cell = rw (byte-plain cell)

first_byte : (ws : List ℕ) (cells : List (List ℕ)) → 1 ≤ length cells → (said_in 1 (nth cells 0)).size < 256
    → get_or (numbers_bytes (1 ∷ ws) cells) 0 0 ≡ (said_in 1 (nth cells 0)).size
unfolding numbers_bytes
first_byte ws [] h k = absurd (omega arith)
first_byte ws (c ∷ cells) h k = rw (byte-value c, packed_byte (said_in 1 c).size k)

-- ---- the shape

-- the three shapes
data ShapeIs (kind : Number) (sh : Shape) : Type 0 where
  of_row : sh ≡ output_shape → ShapeIs kind sh
  of-block : known kind.size ≡ true → sh ≡ block_shape kind.size → ShapeIs kind sh
  of_none : sh ≡ no_shape → ShapeIs kind sh

shape_is : (tag kind : Number) → ShapeIs kind (shape_by tag kind)
unfolding shape_by
shape_is tag kind = by (says 0x30 tag) (says 0x10 tag && (kind.ok && known kind.size)) refl refl
  where
    by : (t u : Bool) → says 0x30 tag ≡ t → (says 0x10 tag && (kind.ok && known kind.size)) ≡ u
        → ShapeIs kind (cond t output_shape (cond u (block_shape kind.size) no_shape))
    by true u e f = of_row refl
    by false true e f =
        let rest = (and-true (says 0x10 tag) (kind.ok && known kind.size) f).1 in
        of-block (and-true kind.ok (known kind.size) rest).1 refl
    by false false e f = of_none refl

-- ---- the label

marked-short : (ok : Bool) (mark size most : ℕ) → ok && cond (eqb mark 0) (eqb size 0) (leb size most) ≡ true → mark ≡ 1 → size ≤ most
marked-short ok mark size most f e =
    let fits = (and-true ok (cond (eqb mark 0) (eqb size 0) (leb size most)) f).1 in
    let other : eqb mark 0 ≡ false = ne_eqb mark 0 (λ q. omega arith) in
    leb-true size most (rw other at fits)

-- a label is at most 16 bytes where one is marked
label-short : (mark : Number) (size : ℕ) → label_fits mark size ≡ true → mark.size ≡ 1 → size ≤ 16
unfolding label_fits
label-short mark size f e = omega (arith, marked-short mark.ok mark.size size _ f e)

label-marked : (mark : Number) (label : List ℕ) → eqb mark.size 1 ≡ true → label_field mark label ≡ field 0x20 label
unfolding label_field
label-marked mark label e = rw e

label-none : (mark : Number) (label : List ℕ) → eqb mark.size 1 ≡ false → label_field mark label ≡ []
unfolding label_field
label-none mark label e = rw e

-- ---- the row

pub enough-cells : (sh : Shape) (cells : List (List ℕ)) → is_shaped sh cells ≡ true → length (widths_of sh) ≤ length (drop 1 cells)
unfolding is_shaped columns_of numbers_in
enough-cells sh cells e =
    let many : length cells ≡ columns_of sh = eqb-true (length cells) (columns_of sh) (and-true sh.known (eqb (length cells) (columns_of sh)) e).1 in
    omega (arith, length-drop 1 cells, widths-length sh.inputs sh.parameters)

pub content-long : (sh : Shape) (cells : List (List ℕ)) → is_shaped sh cells ≡ true
    → length (numbers_bytes (widths_of sh) (drop 1 cells)) ≡ 2 + 3 * sh.inputs + 4 * sh.parameters
content-long sh cells e = numbers-length (widths_of sh) (drop 1 cells) (enough-cells sh cells e) ∙ widths-total sh.inputs sh.parameters

output-formed : (cells : List (List ℕ)) → is_shaped output_shape cells ≡ true → RowFields (fields_by output_shape cells)
unfolding fields_by output_shape
output-formed cells e =
    let content = numbers_bytes (widths_of output_shape) (drop 1 cells) in
    output content (content-long output_shape cells e) (append-nil (field 0x30 content))

module _ (kind : ℕ) (cells : List (List ℕ)) (shaped : is_shaped (block_shape kind) cells ≡ true) where
  content_of : List ℕ
  content_of = numbers_bytes (widths_of (block_shape kind)) (drop 1 cells)

  block-content : known kind ≡ true → (said_in 1 (nth cells 1)).size ≡ kind → BlockContent kind content_of
  unfolding content_of block_shape widths
  block-content k e =
      let second : get_or (drop 1 cells) 0 [] ≡ nth cells 1 = get_or-drop 1 cells 0 [] in
      let said : (said_in 1 (get_or (drop 1 cells) 0 [])).size ≡ kind = ap (λ (c : List ℕ). (said_in 1 c).size) second ∙ e in
      let many = widths-length (block_shape kind).inputs (block_shape kind).parameters in
      let some : 1 ≤ length (drop 1 cells) = omega (arith, enough-cells (block_shape kind) cells shaped, many) in
      record {
        known-kind = k;
        first = first_byte _ (drop 1 cells) some (omega (arith, known_small kind k)) ∙ said;
        long = content-long (block_shape kind) cells shaped;
      }

  block-formed : known kind ≡ true → (said_in 1 (nth cells 1)).size ≡ kind → is_fit (block_shape kind) cells ≡ true
      → RowFields (fields_by (block_shape kind) cells)
  unfolding fields_by is_fit block_shape content_of
  block-formed k e f = by (eqb mark.size 1) refl
    where
      mark : Number
      mark = mark_said (mark_of (block_shape kind) cells)

      label : List ℕ
      label = label_of (block_shape kind) cells

      fits : label_fits mark (length label) ≡ true
      fits = (and-true (numbers_fit (widths_of (block_shape kind)) (drop 1 cells)) (label_fits mark (length label)) f).1

      by : (t : Bool) → eqb mark.size 1 ≡ t → RowFields (field 0x10 content_of ++ label_field mark label)
      by true q =
          labelled kind content_of label (block-content k e) (label-short mark (length label) fits (eqb-true mark.size 1 q))
          (ap (λ (l : List ℕ). field 0x10 content_of ++ l) (label-marked mark label q))
      by false q =
          block kind content_of (block-content k e)
          (ap (λ (l : List ℕ). field 0x10 content_of ++ l) (label-none mark label q) ∙ append-nil (field 0x10 content_of))

-- what holds of a row without a fault
record NoFault (r : TextRow) : Type 0 where
  shaped : is_shaped (shape_of r.cells) r.cells ≡ true
  fit : is_fit (shape_of r.cells) r.cells ≡ true

no-fault : (r : TextRow) → Sound r → NoFault r
unfolding row_number row_faults
no-fault r s =
    let n = (none-holds (row_faults r) refl).0 s in
    record { shaped = not-false _ n.1.0; fit = not-false _ n.1.1.0 }

none-shaped : (cells : List (List ℕ)) → is_shaped no_shape cells ≡ true → ⊥
unfolding is_shaped no_shape
none-shaped cells e = false≢true e

pub rows-are-fields : RowsAreFields
unfolding fields_of shape_of
rows-are-fields r s = by (no-fault r s) (shape_is (said_in 1 (nth r.cells 0)) (said_in 1 (nth r.cells 1)))
  where
    by : NoFault r → ShapeIs (said_in 1 (nth r.cells 1)) (shape_of r.cells) → RowFields (fields_of r)
    by n (of_row e) = rw e (output-formed r.cells (rw e at n.shaped))
    by n (of-block k e) =
        rw e (block-formed (said_in 1 (nth r.cells 1)).size r.cells (rw e at n.shaped) k refl (rw e at n.fit))
    by n (of_none e) = absurd (none-shaped r.cells (rw e at n.shaped))
