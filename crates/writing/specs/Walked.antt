-- The row of the entry at a place of the circuit's bytes, as the code goes through it. Not part of what a reader has to believe.
use Rattle.std.specs.Prelude.{ℕ, zero, suc, ◌+◌, ◌-◌, ◌≤◌, ◌≡◌, Bool, true, cond, List, [], ◌∷◌, ◌++◌, eqb, length, get_or, take, drop, ℤ}
use Rattle.std.proofs.Math.Option.{Option, none, some}
use Rattle.std.specs.Int.{w32}
use Rattle.std.proofs.Common.{to_z}
use Rattle.words.specs.Bytes.{number_at}
use Rattle.kinds.specs.Kinds.{known}
use Rattle.digits.specs.Numbers.{decimal, signed_decimal}
use Rattle.cells.specs.Cells.{write_cell}
use Rattle.rows.specs.Shape.{Shape}
use Rattle.rows.specs.Columns.{block_shape, output_shape, numbers_in}
use Rattle.rows.specs.Widths.{width_at}

-- the bytes from one place up to another
abbrev pub between : List ℕ → ℕ → ℕ → List ℕ
between s from to = take (to - from) (drop from s)

-- a width that numbers have: 1, 2 or 4 bytes
pub record Wide (width : ℕ) : Type 0 where
  pub else-four : (width ≡ 1 → ⊥) → (width ≡ 2 → ⊥) → width ≡ 4

-- ---- the numbers

-- a number behind its comma
unfoldable pub number_text : ℤ → List ℕ
number_text v = 44 ∷ signed_decimal v

-- n numbers, the first of them number j behind the tag, from a place on
unfoldable pub numbers_text : ℕ → List ℕ → ℕ → ℕ → ℕ → List ℕ
numbers_text inputs s zero j at = []
numbers_text inputs s (suc n) j at =
    number_text (to_z w32 (number_at (width_at inputs j) s at)) ++ numbers_text inputs s n (j + 1) (at + width_at inputs j)

-- where they end
unfoldable pub numbers_end : ℕ → ℕ → ℕ → ℕ → ℕ
numbers_end inputs zero j at = at
numbers_end inputs (suc n) j at = numbers_end inputs n (j + 1) (at + width_at inputs j)

-- ---- the label

-- a label's field stands at a place
unfoldable pub has_label : List ℕ → ℕ → Bool
has_label s at = eqb (get_or s at 0) 0x20

unfoldable pub label_end : List ℕ → ℕ → ℕ
label_end s at = cond (has_label s at) (at + 3 + number_at 2 s (at + 1)) at

unfoldable pub label_at : List ℕ → ℕ → Option (List ℕ)
label_at s at = cond (has_label s at) (some (between s (at + 3) (at + 3 + number_at 2 s (at + 1)))) none

-- mark and label, each behind its comma
unfoldable pub label_text : Option (List ℕ) → List ℕ
label_text none = 44 ∷ 48 ∷ 44 ∷ []
label_text (some x) = 44 ∷ 49 ∷ 44 ∷ write_cell x

-- what a row has of them, if a label may follow its field
unfoldable pub tail_text : Bool → List ℕ → ℕ → List ℕ
tail_text labelled s at = cond labelled (label_text (label_at s at)) []

unfoldable pub tail_end : Bool → List ℕ → ℕ → ℕ
tail_end labelled s at = cond labelled (label_end s at) at

-- ---- the row

unfoldable pub shape_at : List ℕ → ℕ → Shape
shape_at s at = cond (eqb (get_or s at 0) 0x10) (block_shape (get_or s (at + 3) 0)) output_shape

-- where the field of the entry ends
unfoldable pub field_end : Shape → ℕ → ℕ
field_end sh at = numbers_end sh.inputs (numbers_in sh) 0 (at + 3)

unfoldable pub row_by : Shape → List ℕ → ℕ → List ℕ
row_by sh s at =
    decimal sh.tag
    ++ (numbers_text sh.inputs s (numbers_in sh) 0 (at + 3)
    ++ (tail_text sh.labelled s (field_end sh at) ++ (13 ∷ 10 ∷ [])))

unfoldable pub row_at : List ℕ → ℕ → List ℕ
row_at s at = row_by (shape_at s at) s at

-- where the next entry begins
unfoldable pub next_by : Shape → List ℕ → ℕ → ℕ
next_by sh s at = tail_end sh.labelled s (field_end sh at)

unfoldable pub next_at : List ℕ → ℕ → ℕ
next_at s at = next_by (shape_at s at) s at

-- ---- the rows of n entries

unfoldable pub rows_at : List ℕ → ℕ → ℕ → List ℕ
rows_at s zero at = []
rows_at s (suc n) at = row_at s at ++ rows_at s n (next_at s at)

-- an entry stands at a place whole, and a byte stands behind it
pub record Stands (s : List ℕ) (at : ℕ) : Type 0 where
  pub kind : get_or s at 0 ≡ 0x10 → known (get_or s (at + 3) 0) ≡ true
  pub field : field_end (shape_at s at) at + 3 ≤ length s
  pub next : next_at s at + 3 ≤ length s

unfoldable pub Run : List ℕ → ℕ → ℕ → Type 0
Run s zero at = Unit {0}
Run s (suc n) at = Stands s at × Run s n (next_at s at)
