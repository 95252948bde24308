-- What the passes over the rows carry. Not part of what a reader has to believe.
use Rattle.std.specs.Prelude.{ℕ, ◌+◌, ◌-◌, ◌≤◌, ◌<◌, ◌≡◌, Bool, true, cond, List, ltb, length, get_or}
use Rattle.std.proofs.lemmas.List.Edits.{sets}
use Rattle.digits.specs.Numbers.{Number}
use Rattle.digits.specs.Numbers.{number_of}
use Rattle.rows.specs.Text.{split_at, text_row, TextRow, rows_of}
use Rattle.rows.specs.Columns.{label_fits, label_field, row_number, fields_of, is_block}
use Rattle.rows.specs.Reading.{faulty, sound, reading_from, blocks_in, circuit_of}
use Rattle.splitting.specs.Found.{text_in, content_in}
use Rattle.std.specs.Prelude.{false, Option, Some, None, Result, Ok, Err}
use Rattle.refusals.specs.declared.Refusal.{Refusal}
use Rattle.refusals.specs.declared.Refused.{Refused}
use Rattle.refusals.specs.Refusals.{number_of as refusal_number}
use Rattle.reading.specs.declared.first_pass.Judged.{Judged as Passed}
use Rattle.reading.specs.declared.first_pass.Counted.{Counted as Tally}
use Rattle.reading.specs.declared.second_pass.Placed.{Placed}

-- ---- what the code carries, by numbers and flags

-- a row that was judged: refusal number or 0; how many bytes its fields take; whether it is a block's; where the next row begins
pub record Judged : Type 0 where
  pub number : ℕ
  pub size : ℕ
  pub block : Bool
  pub next : ℕ

abbrev pub judged_of : Result Passed Refusal → Judged
judged_of (Ok r) = record { number = 0; size = r.size; block = r.block; next = r.next }
judged_of (Err refusal) = record { number = refusal_number refusal; size = 0; block = false; next = 0 }

-- what the pass over all rows counted: refusal number or 0; rows, the faulty one among them; blocks; whether the fields go over the room,
-- and else how much of it is left
pub record Counted : Type 0 where
  pub number : ℕ
  pub rows : ℕ
  pub blocks : ℕ
  pub over : Bool
  pub left : ℕ

-- what is left of a room, and whether it was gone over
abbrev pub is_over : Option ℕ → Bool
is_over None = true
is_over (Some n) = false

abbrev pub rest_of : Option ℕ → ℕ
rest_of None = 0
rest_of (Some n) = n

abbrev pub counted_of : Tally → Counted
counted_of c = record { number = 0; rows = c.rows; blocks = c.blocks; over = is_over c.left; left = rest_of c.left }

abbrev pub surveyed_of : Result Tally Refused → Counted
surveyed_of (Ok c) = counted_of c
surveyed_of (Err e) = record { number = refusal_number e.refusal; rows = e.place; blocks = 0; over = false; left = 0 }

-- the cells of a label: whether they fit, and then how many bytes its field takes
pub record Label : Type 0 where
  pub fits : Bool
  pub size : ℕ

abbrev pub label_sized : Option ℕ → Label
label_sized None = record { fits = false; size = 0 }
label_sized (Some n) = record { fits = true; size = n }

-- ---- a row

-- what cell j says as a mark, and as a label
abbrev pub mark_in : List ℕ → List ℕ → List ℕ → ℕ → Number
mark_in s starts sizes j = number_of 0 1 (text_in s starts sizes j)

abbrev pub label_in : List ℕ → List ℕ → List ℕ → ℕ → Bool → List ℕ
label_in s starts sizes j quoted = content_in s (get_or starts j 0) (get_or sizes j 0) quoted

-- the field of the label that cells j and j + 1 say
abbrev pub label_field_in : List ℕ → List ℕ → List ℕ → ℕ → Bool → List ℕ
label_field_in s starts sizes j quoted = label_field (mark_in s starts sizes j) (label_in s starts sizes (j + 1) quoted)

-- a mark and a label, looked at: whether they fit, and then how many bytes their field takes
pub record Looks (mark : Number) (label : List ℕ) (r : Label) : Type 0 where
  pub fits : r.fits ≡ label_fits mark (length label)
  pub size : r.fits ≡ true → r.size ≡ length (label_field mark label)
  pub small : r.size ≤ 19

-- the row at a position
abbrev pub row_at : List ℕ → ℕ → TextRow
row_at s at = text_row s (split_at s at)

-- it is whole, and the next one begins behind it
pub record Goes (s : List ℕ) (at next : ℕ) : Type 0 where
  pub whole : (split_at s at).whole ≡ true
  pub is : next ≡ (split_at s at).next
  pub on : at < next
  pub inside : next ≤ length s

-- the row at a position, judged
pub record Judges (s : List ℕ) (at : ℕ) (r : Judged) : Type 0 where
  pub number : r.number ≡ row_number (row_at s at)
  pub size : r.number ≡ 0 → r.size ≡ length (fields_of (row_at s at))
  pub block : r.number ≡ 0 → r.block ≡ is_block (row_at s at)
  pub goes : r.number ≡ 0 → Goes s at r.next

-- put at a place of a lent slice
pub record Puts (s : List ℕ) (at to : ℕ) (r : Placed) (lent left : List ℕ) : Type 0 where
  pub bytes : left ≡ sets lent to (fields_of (row_at s at))
  pub end : r.end ≡ to + length (fields_of (row_at s at))
  pub goes : Goes s at r.next

-- ---- all rows

-- nothing is counted yet: header and end take nine bytes
unfoldable pub opened_with : ℕ → Counted
opened_with room = record { number = 0; rows = 0; blocks = 0; over = ltb room 9; left = room - 9 }

-- one row more
unfoldable pub counted_with : Counted → Judged → Counted
counted_with c r =
    record {
      number = r.number;
      rows = c.rows + 1;
      blocks = c.blocks + cond r.block 1 0;
      over = cond (ltb c.left r.size) true c.over;
      left = c.left - r.size;
    }

-- what is counted of the rows of a text, with so much room for their circuit
pub record Surveys (s : List ℕ) (room : ℕ) (r : Counted) : Type 0 where
  pub faulted : (r.number ≡ 0 → ⊥) → reading_from 1 (rows_of s) ≡ faulty r.number r.rows
  pub clean : r.number ≡ 0 → reading_from 1 (rows_of s) ≡ sound
  pub rows : r.number ≡ 0 → r.rows ≡ length (rows_of s)
  pub blocks : r.number ≡ 0 → r.blocks ≡ blocks_in (rows_of s)
  pub over : r.number ≡ 0 → r.over ≡ ltb room (length (circuit_of (rows_of s)))
