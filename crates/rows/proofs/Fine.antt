-- The cells of a fine entry are a row without a fault, and its fields are the entry's bytes: each number is read as it was written
-- (`signed-said`), at the width it has in its shape. Assumes nothing.
use mathlib.Core.Path.{◌≡◌, refl, ap, ap₂, sym, ◌∙◌}
use mathlib.Core.Bool.{Bool, true, false, cond, not, ◌||◌}
use mathlib.Core.List.{List, [], ◌∷◌, ◌++◌, map}
use mathlib.Core.Option.{Option, none, some}
use Prim.Native.Nat.{ℕ, suc, ◌+◌, ◌≤◌, ◌<◌}
use native.Mathlib.Omega.{arith}
use lib.Dec.{eqb}
use lib.ListN.{length, get_or, drop, length-append, replicate}
use lib.Seq.{get_or-append-add}
use lib.IntN.{ℤ, pos}
use borrow.Author.Tests.{eq-eqb, le-leb}
use Rattle.kinds.specs.Kinds.{known}
use Rattle.blockfield.proofs.Laws.{known-below}
use Rattle.kept.specs.Keeps.{Match, Labelled, field, label_bytes}
use Rattle.kept.proofs.Lists.{match-length}
use Rattle.digits.specs.Numbers.{decimal, signed_decimal}
use Rattle.digits.proofs.Signed.{Says, count-said, signed-said}
use Rattle.rows.specs.Shape.{Shape}
use Rattle.rows.specs.Columns.{below_of, above_of, said_in, packed, numbers_fit, numbers_bytes, block_shape, output_shape, says, shape_by, nth, shape_of, numbers_in, columns_of, widths_of, label_fits, mark_said, label_field, mark_of, label_of, is_shaped, is_fit, row_faults, row_number, fields_by, fields_of, is_block, widths, connector_widths}
use Rattle.rows.specs.Writing.{label_cells}
use Rattle.rows.specs.Entries.{Entry, packed_all, entry_bytes, entry_cells, FitsIn, Shaped, block, output, Fine}
use Rattle.rows.proofs.Widths.{widths-length}
use Rattle.rows.proofs.Entries.{mapped-length}
use Rattle.rows.proofs.Text.{row_of}

-- ---- the numbers

below-small : (w : ℕ) → below_of w < 10000000000
unfolding below_of
below-small w = by (eqb w 4)
  where
    by : (t : Bool) → cond t 2147483648 0 < 10000000000
    by true = omega arith
    by false = omega arith

above-small : (w : ℕ) → above_of w < 10000000000
unfolding above_of
above-small w = by (eqb w 4) (eqb w 2)
  where
    by : (t u : Bool) → cond t 2147483647 (cond u 65535 255) < 10000000000
    by true u = omega arith
    by false true = omega arith
    by false false = omega arith

number-said : (w : ℕ) (v : ℤ) → FitsIn w v → Says (below_of w) (above_of w) (signed_decimal v) v
number-said w v f = signed-said (below_of w) (above_of w) v f (below-small w) (above-small w)

numbers_fit_lem : (ws : List ℕ) (vs : List ℤ) (r : List (List ℕ)) → Match FitsIn ws vs → numbers_fit ws (map signed_decimal vs ++ r) ≡ true
unfolding numbers_fit said_in
numbers_fit_lem [] vs r f = refl
numbers_fit_lem (w ∷ ws) [] r f = absurd f
numbers_fit_lem (w ∷ ws) (v ∷ vs) r f = rw (number-said w v f.0).ok (numbers_fit_lem ws vs r f.1)

numbers-bytes : (ws : List ℕ) (vs : List ℤ) (r : List (List ℕ)) → Match FitsIn ws vs → numbers_bytes ws (map signed_decimal vs ++ r) ≡ packed_all ws vs
unfolding numbers_bytes packed_all said_in
numbers-bytes [] vs r f = refl
numbers-bytes (w ∷ ws) [] r f = absurd f
numbers-bytes (w ∷ ws) (v ∷ vs) r f =
    ap₂ (λ (a b : List ℕ). a ++ b) (ap (packed w) (number-said w v f.0).same) (numbers-bytes ws vs r f.1)

-- ---- the shape

byte-said : (n : ℕ) → n ≤ 255 → said_in 1 (decimal n) ≡ record { ok = true; negative = false; size = n }
unfolding said_in below_of above_of
byte-said n h = count-said 0 255 n h (omega arith)

pub known_small : (kind : ℕ) → known kind ≡ true → kind ≤ 255
known_small kind e = let h = known-below kind e in omega arith

block-shaped : (kind : ℕ) (cells : List (List ℕ)) → known kind ≡ true → nth cells 0 ≡ decimal 0x10 → nth cells 1 ≡ decimal kind
    → shape_of cells ≡ block_shape kind
unfolding shape_of shape_by says
block-shaped kind cells k t e =
    rw (t, e, byte-said 0x10 (omega arith), byte-said kind (known_small kind k)) (rw k)

output-shaped : (cells : List (List ℕ)) → nth cells 0 ≡ decimal 0x30 → shape_of cells ≡ output_shape
unfolding shape_of shape_by says
output-shaped cells t = rw (t, byte-said 0x30 (omega arith))

-- ---- the label

label-two : (label : Option (List ℕ)) → length (label_cells label) ≡ 2
unfolding label_cells
label-two none = refl
label-two (some x) = refl

mark-0 : mark_said (decimal 0) ≡ record { ok = true; negative = false; size = 0 }
mark-0 = count-said 0 1 0 (omega arith) (omega arith)

mark-1 : mark_said (decimal 1) ≡ record { ok = true; negative = false; size = 1 }
mark-1 = count-said 0 1 1 (omega arith) (omega arith)

label-fits : (label : Option (List ℕ)) → Labelled label → label_fits (mark_said (nth (label_cells label) 0)) (length (nth (label_cells label) 1)) ≡ true
unfolding label_fits label_cells
label-fits none l = rw mark-0
label-fits (some x) l = rw mark-1 (le-leb (length x) _ (omega (arith, l.short)))

label-field : (label : Option (List ℕ)) → label_field (mark_said (nth (label_cells label) 0)) (nth (label_cells label) 1) ≡ label_bytes label
unfolding label_field label_cells
label-field none = rw mark-0
label-field (some x) = rw mark-1

-- ---- the row

-- the cells of an entry
cells_of : Shape → List ℤ → Option (List ℕ) → List (List ℕ)
cells_of sh ns label = decimal sh.tag ∷ (map signed_decimal ns ++ cond sh.labelled (label_cells label) [])

module _ (sh : Shape) (ns : List ℤ) (label : Option (List ℕ)) (fit : Match FitsIn (widths_of sh) ns) where
  many : numbers_in sh ≡ length (map signed_decimal ns)
  unfolding numbers_in
  many =
      sym (widths-length sh.inputs sh.parameters)
      ∙ sym (match-length FitsIn (widths_of sh) ns fit)
      ∙ sym (mapped-length signed_decimal ns)

  -- a cell behind the numbers
  cell-behind : (i j : ℕ) → i ≡ suc (numbers_in sh + j) → sh.labelled ≡ true → nth (cells_of sh ns label) i ≡ nth (label_cells label) j
  unfolding cells_of
  cell-behind i j q e = rw (q, many, e) (get_or-append-add (map signed_decimal ns) (label_cells label) j [])

  mark-is : sh.labelled ≡ true → mark_of sh (cells_of sh ns label) ≡ nth (label_cells label) 0
  mark-is e = cell-behind (1 + numbers_in sh) 0 (omega arith) e

  label_is : sh.labelled ≡ true → label_of sh (cells_of sh ns label) ≡ nth (label_cells label) 1
  label_is e = cell-behind (2 + numbers_in sh) 1 (omega arith) e

  behind-length : (b : Bool) → length (cond b (label_cells label) []) ≡ cond b 2 0
  behind-length true = label-two label
  behind-length false = refl

  columns-are : length (cells_of sh ns label) ≡ columns_of sh
  unfolding cells_of columns_of
  columns-are =
      let tail = cond sh.labelled (label_cells label) [] in
      let l = length-append (map signed_decimal ns) tail in
      let t = behind-length sh.labelled in
      omega (arith, many)

  is-shaped : sh.known ≡ true → is_shaped sh (cells_of sh ns label) ≡ true
  unfolding is_shaped
  is-shaped k = rw (eq-eqb (length (cells_of sh ns label)) (columns_of sh) columns-are) (rw k)

  numbers-are : numbers_fit (widths_of sh) (drop 1 (cells_of sh ns label)) ≡ true
  unfolding cells_of
  numbers-are = numbers_fit_lem (widths_of sh) ns (cond sh.labelled (label_cells label) []) fit

  bytes-are : numbers_bytes (widths_of sh) (drop 1 (cells_of sh ns label)) ≡ packed_all (widths_of sh) ns
  unfolding cells_of
  bytes-are = numbers-bytes (widths_of sh) ns (cond sh.labelled (label_cells label) []) fit

  is-fit : Labelled label → is_fit sh (cells_of sh ns label) ≡ true
  unfolding is_fit
  is-fit l = rw numbers-are (by sh.labelled refl)
    where
      by : (b : Bool) → sh.labelled ≡ b → (not b || label_fits (mark_said (mark_of sh (cells_of sh ns label))) (length (label_of sh (cells_of sh ns label)))) ≡ true
      by true e = rw (mark-is e, label_is e) (label-fits label l)
      by false e = refl

  fields-are : fields_by sh (cells_of sh ns label) ≡ field sh.tag (packed_all (widths_of sh) ns) ++ cond sh.labelled (label_bytes label) []
  unfolding fields_by
  fields-are = rw bytes-are (ap (λ (l : List ℕ). field sh.tag (packed_all (widths_of sh) ns) ++ l) (by sh.labelled refl))
    where
      by : (b : Bool) → sh.labelled ≡ b → cond b (label_field (mark_said (mark_of sh (cells_of sh ns label))) (label_of sh (cells_of sh ns label))) [] ≡ cond b (label_bytes label) []
      by true e = rw (mark-is e, label_is e) (label-field label)
      by false e = refl

-- ---- a fine entry

first_cell : (w : ℕ) (ws : List ℕ) (ns : List ℤ) (r : List (List ℕ)) → Match FitsIn (w ∷ ws) ns
    → nth (map signed_decimal ns ++ r) 0 ≡ signed_decimal (get_or ns 0 (pos 0))
first_cell w ws [] r f = absurd f
first_cell w ws (v ∷ vs) r f = refl

signed-count : (v : ℤ) (n : ℕ) → v ≡ pos n → signed_decimal v ≡ decimal n
unfolding signed_decimal
signed-count v n e = rw e

-- the shape that is read is the entry's, and known
record ShapeRead (e : Entry) : Type 0 where
  is : shape_of (entry_cells e) ≡ e.shape
  known : e.shape.known ≡ true

module _ (e : Entry) (f : Fine e) where
  kind-cell : nth (entry_cells e) 1 ≡ signed_decimal (get_or e.numbers 0 (pos 0))
  unfolding entry_cells widths
  kind-cell = first_cell 1 (1 ∷ (connector_widths e.shape.inputs ++ replicate e.shape.parameters 4)) e.numbers (cond e.shape.labelled (label_cells e.label) []) f.fit

  tag-cell : nth (entry_cells e) 0 ≡ decimal e.shape.tag
  unfolding entry_cells
  tag-cell = refl

  shape-read : ShapeRead e
  unfolding block_shape output_shape
  shape-read = by f.shaped
    where
      by : Shaped e → ShapeRead e
      by (block kind k s n) =
          record {
            is = block-shaped kind (entry_cells e) k (tag-cell ∙ ap (λ (sh : Shape). decimal sh.tag) s) (kind-cell ∙ signed-count _ kind n) ∙ sym s;
            known = ap (λ (sh : Shape). sh.known) s;
          }
      by (output s) =
          record {
            is = output-shaped (entry_cells e) (tag-cell ∙ ap (λ (sh : Shape). decimal sh.tag) s) ∙ sym s;
            known = ap (λ (sh : Shape). sh.known) s;
          }

  pub row_number_lem : row_number (row_of (entry_cells e)) ≡ 0
  unfolding row_number row_faults entry_cells cells_of
  row_number_lem =
      rw (shape-read.is, is-shaped e.shape e.numbers e.label f.fit shape-read.known, is-fit e.shape e.numbers e.label f.fit f.label)

  pub row-fields : fields_of (row_of (entry_cells e)) ≡ entry_bytes e
  unfolding fields_of entry_bytes entry_cells cells_of
  row-fields = rw shape-read.is (fields-are e.shape e.numbers e.label f.fit)

  pub row_block : is_block (row_of (entry_cells e)) ≡ e.shape.labelled
  unfolding is_block
  row_block = ap (λ (sh : Shape). sh.labelled) shape-read.is
