-- What a row of cells means: document 02, No. 1: "one a block or output row: the tag, the field's numbers in decimal, and for a block 1 and its
-- label, or 0 and an empty cell".
use Rattle.std.specs.Prelude.{ℕ, zero, suc, ◌+◌, ◌*◌, Bool, true, false, cond, not, ◌&&◌, ◌||◌, List, [], ◌∷◌, ◌++◌, eqb, leb, length, get_or, drop, replicate, ℤ}
use Rattle.std.specs.Int.{w32}
use Rattle.std.proofs.Common.{of_z}
use Rattle.words.specs.Bytes.{bytes_of}
use Rattle.kinds.specs.Kinds.{kind_of, known}
use Rattle.refusals.specs.Faults.{Fault, lowest, ◌when◌}
use Rattle.digits.specs.Numbers.{Number}
use Rattle.digits.specs.Numbers.{number_of, value_of}
use Rattle.kept.specs.Keeps.{field}
use Rattle.rows.specs.Shape.{Shape}
use Rattle.rows.specs.Text.{TextRow}

-- ---- the numbers of a field, by how many bytes each takes

-- "a class byte and a two-byte number"
unfoldable pub connector_widths : ℕ → List ℕ
connector_widths zero = []
connector_widths (suc k) = 1 ∷ 2 ∷ connector_widths k

-- "kind, options, connectors, parameters", which are "signed, four bytes each"; of a row "destination class and number (a byte each), one
-- connector"
unfoldable pub widths : ℕ → ℕ → List ℕ
widths inputs parameters = 1 ∷ 1 ∷ (connector_widths inputs ++ replicate parameters 4)

-- how far a number of so many bytes goes below 0 and above it: "a minus only in parameters"
unfoldable pub below_of : ℕ → ℕ
below_of width = cond (eqb width 4) 2147483648 0

unfoldable pub above_of : ℕ → ℕ
above_of width = cond (eqb width 4) 2147483647 (cond (eqb width 2) 65535 255)

-- the number that a cell says for a place of so many bytes: "not a number, or a number .. too large for its place"
unfoldable pub said_in : ℕ → List ℕ → Number
said_in width cell = number_of (below_of width) (above_of width) cell

-- its bytes
unfoldable pub packed : ℕ → ℤ → List ℕ
packed width v = bytes_of width (of_z w32 v)

-- each cell is a number for its place
unfoldable pub numbers_fit : List ℕ → List (List ℕ) → Bool
numbers_fit [] cells = true
numbers_fit (w ∷ ws) [] = false
numbers_fit (w ∷ ws) (c ∷ cells) = (said_in w c).ok && numbers_fit ws cells

-- the content of the field
unfoldable pub numbers_bytes : List ℕ → List (List ℕ) → List ℕ
numbers_bytes [] cells = []
numbers_bytes (w ∷ ws) [] = []
numbers_bytes (w ∷ ws) (c ∷ cells) = packed w (value_of (said_in w c)) ++ numbers_bytes ws cells

-- ---- the shape of a row, by its tag and its kind

-- a block of a kind: tag 16
unfoldable pub block_shape : ℕ → Shape
block_shape kind =
    record {
      known = true;
      tag = 0x10;
      inputs = (kind_of kind).digitals + (kind_of kind).analogs;
      parameters = length (kind_of kind).parameters;
      labelled = true;
    }

-- an output row: tag 48
unfoldable pub output_shape : Shape
output_shape = record { known = true; tag = 0x30; inputs = 1; parameters = 0; labelled = false }

-- "tag or kind unknown"
unfoldable pub no_shape : Shape
no_shape = record { known = false; tag = 0; inputs = 0; parameters = 0; labelled = false }

-- the cell says this number
unfoldable pub says : ℕ → Number → Bool
says n x = x.ok && eqb x.size n

-- by what the first two cells say as bytes
unfoldable pub shape_by : Number → Number → Shape
shape_by tag kind =
    cond (says 0x30 tag) output_shape
    (cond (says 0x10 tag && (kind.ok && known kind.size)) (block_shape kind.size) no_shape)

-- cell j of a row, from 0; empty where there is none
abbrev pub nth : List (List ℕ) → ℕ → List ℕ
nth cells j = get_or cells j []

unfoldable pub shape_of : List (List ℕ) → Shape
shape_of cells = shape_by (said_in 1 (nth cells 0)) (said_in 1 (nth cells 1))

-- how many numbers follow the tag
unfoldable pub numbers_in : Shape → ℕ
numbers_in sh = 2 + 2 * sh.inputs + sh.parameters

-- how many cells a row of a shape has
unfoldable pub columns_of : Shape → ℕ
columns_of sh = 1 + numbers_in sh + cond sh.labelled 2 0

abbrev pub widths_of : Shape → List ℕ
widths_of sh = widths sh.inputs sh.parameters

-- ---- the label: "1 and its label, or 0 and an empty cell"

-- "A label mark other than 0 or 1, or 0 with a label, is 32"; a label is too large above 16 bytes
unfoldable pub label_fits : Number → ℕ → Bool
label_fits mark size = mark.ok && (cond (eqb mark.size 0) (eqb size 0) (leb size 16))

abbrev pub mark_said : List ℕ → Number
mark_said cell = number_of 0 1 cell

-- the label's field, where there is one
unfoldable pub label_field : Number → List ℕ → List ℕ
label_field mark label = cond (eqb mark.size 1) (field 0x20 label) []

-- the cells of a labelled row behind its numbers: the mark, and the label
abbrev pub mark_of : Shape → List (List ℕ) → List ℕ
mark_of sh cells = nth cells (1 + numbers_in sh)

abbrev pub label_of : Shape → List (List ℕ) → List ℕ
label_of sh cells = nth cells (2 + numbers_in sh)

-- ---- the row

-- "tag or kind unknown or wrong number of columns" does not hold
unfoldable pub is_shaped : Shape → List (List ℕ) → Bool
is_shaped sh cells = sh.known && eqb (length cells) (columns_of sh)

-- "not a number, or a number or label too large for its place" does not hold
unfoldable pub is_fit : Shape → List (List ℕ) → Bool
is_fit sh cells =
    numbers_fit (widths_of sh) (drop 1 cells)
    && (not sh.labelled || label_fits (mark_said (mark_of sh cells)) (length (label_of sh cells)))

-- "30 quote not closed or followed by a stray byte, 31 .., 32 .., by row, the lowest first"
unfoldable pub row_faults : TextRow → List Fault
row_faults r =
    (30 when not r.whole)
    ∷ (31 when not (is_shaped (shape_of r.cells) r.cells))
    ∷ (32 when not (is_fit (shape_of r.cells) r.cells))
    ∷ []

unfoldable pub row_number : TextRow → ℕ
row_number r = lowest (row_faults r)

-- document 01's fields of a row: the block or row, and the block's label
unfoldable pub fields_by : Shape → List (List ℕ) → List ℕ
fields_by sh cells =
    field sh.tag (numbers_bytes (widths_of sh) (drop 1 cells))
    ++ cond sh.labelled (label_field (mark_said (mark_of sh cells)) (label_of sh cells)) []

unfoldable pub fields_of : TextRow → List ℕ
fields_of r = fields_by (shape_of r.cells) r.cells

-- the row is a block's
unfoldable pub is_block : TextRow → Bool
is_block r = (shape_of r.cells).labelled
