-- How many bytes the fields of a row take, and the circuit of all rows. Assumes nothing.
use mathlib.Core.Path.{◌≡◌, ap, sym, ◌∙◌}
use mathlib.Core.Bool.{true, false}
use mathlib.Core.List.{List, [], ◌∷◌, ◌++◌, append-nil}
use Prim.Native.Nat.{ℕ, ◌+◌, ◌*◌, ◌≤◌}
use native.Mathlib.Omega.{arith}
use lib.ListN.{length, drop, length-append, length-drop}
use borrow.Author.Tests.{eq-eqb, ne_eqb}
use Rattle.words.specs.Bytes.{bytes_of}
use Rattle.words.proofs.Written.{length-bytes}
use Rattle.digits.specs.Numbers.{Number}
use Rattle.kept.specs.Keeps.{joined, field}
use Rattle.rows.specs.Shape.{Shape}
use Rattle.rows.specs.Text.{TextRow}
use Rattle.rows.specs.Columns.{widths_of, numbers_bytes, label_field, label_of, mark_of, mark_said, fields_by, fields_of}
use Rattle.rows.specs.Reading.{blocks_in, circuit_of}
use Rattle.rows.proofs.Widths.{widths-length, widths-total, numbers-length}

pub field-length : (tag : ℕ) (content : List ℕ) → length (field tag content) ≡ 3 + length content
unfolding field
field-length tag content =
    let e = length-append (bytes_of 2 (length content)) content in
    let a = length-bytes 2 (length content) in
    omega arith

-- ---- the label's field

pub no_label : (mark : Number) (label : List ℕ) → (mark.size ≡ 1 → ⊥) → label_field mark label ≡ []
unfolding label_field
no_label mark label n = rw (ne_eqb mark.size 1 n)

pub one_label : (mark : Number) (label : List ℕ) → mark.size ≡ 1 → label_field mark label ≡ field 0x20 label
unfolding label_field
one_label mark label e = rw (eq-eqb mark.size 1 e)

-- ---- the fields of a row

module _ (sh : Shape) (cells : List (List ℕ)) where
  pub fields-output : sh.labelled ≡ false → fields_by sh cells ≡ field sh.tag (numbers_bytes (widths_of sh) (drop 1 cells))
  unfolding fields_by
  fields-output l = rw l (append-nil _)

  pub fields-block : sh.labelled ≡ true
      → fields_by sh cells ≡ field sh.tag (numbers_bytes (widths_of sh) (drop 1 cells)) ++ label_field (mark_said (mark_of sh cells)) (label_of sh cells)
  unfolding fields_by
  fields-block l = rw l

  pub numbers-size : 3 + 2 * sh.inputs + sh.parameters ≤ length cells
      → length (numbers_bytes (widths_of sh) (drop 1 cells)) ≡ 2 + 3 * sh.inputs + 4 * sh.parameters
  numbers-size h =
      let a = widths-length sh.inputs sh.parameters in
      let d = length-drop 1 cells in
      numbers-length (widths_of sh) (drop 1 cells) (omega arith) ∙ widths-total sh.inputs sh.parameters

  pub field-size : 3 + 2 * sh.inputs + sh.parameters ≤ length cells
      → length (field sh.tag (numbers_bytes (widths_of sh) (drop 1 cells))) ≡ 5 + 3 * sh.inputs + 4 * sh.parameters
  field-size h =
      let a = field-length sh.tag (numbers_bytes (widths_of sh) (drop 1 cells)) in
      let b = numbers-size h in
      omega arith

  pub size-output : 3 + 2 * sh.inputs + sh.parameters ≤ length cells → sh.labelled ≡ false
      → 5 + 3 * sh.inputs + 4 * sh.parameters ≡ length (fields_by sh cells)
  size-output h l = sym (ap length (fields-output l) ∙ field-size h)

  pub size-block : 3 + 2 * sh.inputs + sh.parameters ≤ length cells → sh.labelled ≡ true
      → 5 + 3 * sh.inputs + 4 * sh.parameters + length (label_field (mark_said (mark_of sh cells)) (label_of sh cells)) ≡ length (fields_by sh cells)
  size-block h l =
      let e = ap length (fields-block l) in
      let a = length-append (field sh.tag (numbers_bytes (widths_of sh) (drop 1 cells))) (label_field (mark_said (mark_of sh cells)) (label_of sh cells)) in
      let b = field-size h in
      omega arith

-- ---- the circuit

pub header-length : (n : ℕ) → length (field 0x01 (1 ∷ bytes_of 2 n)) ≡ 6
header-length n =
    let a = field-length 0x01 (1 ∷ bytes_of 2 n) in
    let b = length-bytes 2 n in
    omega arith

pub circuit-length : (rows : List TextRow) → length (circuit_of rows) ≡ 9 + length (joined fields_of rows)
unfolding circuit_of
circuit-length rows =
    let h = header-length (blocks_in rows) in
    let e = field-length 0x7F [] in
    let a = length-append (field 0x01 (1 ∷ bytes_of 2 (blocks_in rows))) (joined fields_of rows ++ field 0x7F []) in
    let b = length-append (joined fields_of rows) (field 0x7F []) in
    omega arith
