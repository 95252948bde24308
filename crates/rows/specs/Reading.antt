-- What `read_rows` answers and leaves, on every text and every lent slice. Document 02, No. 1.
use Rattle.std.specs.Prelude.{ℕ, zero, suc, ◌+◌, cond, List, [], ◌∷◌, ◌++◌, eqb, ltb, length, drop}
use Rattle.words.specs.Bytes.{bytes_of}
use Rattle.refusals.specs.Answers.{refused_at, accepted_with}
use Rattle.refusals.specs.declared.Answer.{Answer}
use Rattle.kept.specs.Keeps.{joined, field}
use Rattle.rows.specs.Text.{TextRow, rows_of}
use Rattle.rows.specs.Columns.{row_number, fields_of, is_block}

-- ---- the first row with a fault

-- a refusal number and the row, from 1; or none
pub data Reading : Type 0 where
  faulty : ℕ → ℕ → Reading
  sound : Reading

-- of the rows from row k on: "by row, the lowest first"
unfoldable pub reading_from : ℕ → List TextRow → Reading
reading_from k [] = sound
reading_from k (r ∷ l) = elim (row_number r) [ zero ↦ reading_from (suc k) l | suc m ↦ faulty (suc m) k ]

-- ---- the circuit

unfoldable pub blocks_in : List TextRow → ℕ
blocks_in [] = 0
blocks_in (r ∷ l) = cond (is_block r) 1 0 + blocks_in l

-- "The reader adds header and end."
unfoldable pub circuit_of : List TextRow → List ℕ
circuit_of rows = field 0x01 (1 ∷ bytes_of 2 (blocks_in rows)) ++ (joined fields_of rows ++ field 0x7F [])

-- ---- the call

-- rows without a fault, in `room` bytes: "then 34 above 400 blocks, 33 no room in the lent circuit slice (exactly when the fields need
-- more bytes than lent)"; "The place is the row from 1, and 0 for 33 and 34; first and second are bytes written and rows read"
unfoldable pub room_answer : List TextRow → ℕ → Answer
room_answer rows room =
    cond (ltb 400 (blocks_in rows)) (refused_at 34 0)
    (cond (ltb room (length (circuit_of rows))) (refused_at 33 0) (accepted_with (length (circuit_of rows)) (length rows)))

unfoldable pub answer_by : Reading → List TextRow → ℕ → Answer
answer_by (faulty number place) rows room = refused_at number place
answer_by sound rows room = room_answer rows room

unfoldable pub read_answer : List ℕ → ℕ → Answer
read_answer text room = answer_by (reading_from 1 (rows_of text)) (rows_of text) room

-- the bytes at the start of a lent slice; "bytes behind stay"
unfoldable pub laid_over : List ℕ → List ℕ → List ℕ
laid_over bytes lent = bytes ++ drop (length bytes) lent

-- the lent slice afterwards: "The slice is then untouched", when refused
unfoldable pub circuit_after : List ℕ → List ℕ → List ℕ
circuit_after text lent =
    cond (eqb (read_answer text (length lent)).number 0) (laid_over (circuit_of (rows_of text)) lent) lent
