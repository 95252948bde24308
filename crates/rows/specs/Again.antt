-- What is promised of reading and writing rows, each promise a type with its name. The proofs: proofs/Again.antt (written and read
-- again, writing), proofs/Outcome.antt (answers of reading), proofs/Formed.antt (fields of a row).
use Rattle.std.specs.Prelude.{ℕ, suc, ◌≤◌, ◌<◌, ◌≡◌, ◌↔◌, true, List, [], ◌∷◌, ◌++◌, length, get_or, take, drop}
use Rattle.words.specs.Bytes.{bytes_of}
use Rattle.kinds.specs.Kinds.{kind_of, known, content_length}
use Rattle.refusals.specs.Faults.{AtMost}
use Rattle.refusals.specs.Answers.{refused_at, accepted_with}
use Rattle.decoding.specs.Decoded.{Circuit}
use Rattle.circuit.specs.Circuit.{verdict, accepted}
use Rattle.kept.specs.Keeps.{All, Bytes, joined, field}
use Rattle.rows.specs.Text.{TextRow, rows_of}
use Rattle.rows.specs.Columns.{row_faults, row_number, fields_of}
use Rattle.rows.specs.Reading.{blocks_in, circuit_of, read_answer, circuit_after, laid_over}
use Rattle.rows.specs.Writing.{text_of, write_answer, text_after}

-- ---- "A written-out row, read again, gives the same fields; a cell may hold commas, quotes and line ends."

-- the text that `write_rows` leaves in a lent slice: the bytes that it says it wrote
unfoldable pub wrote : List ℕ → List ℕ → List ℕ
wrote circuit text = take (write_answer circuit (length text)).first (text_after circuit text)

-- that text, read into a lent slice, is accepted: as many bytes as the circuit has, and as many rows as were written. The slice then
-- begins with the circuit's bytes, and the bytes behind them stay
pub record RowsAgain (circuit text lent : List ℕ) : Type 0 where
  pub answer : read_answer (wrote circuit text) (length lent) ≡ accepted_with (length circuit) (write_answer circuit (length text)).second
  pub bytes : circuit_after (wrote circuit text) lent ≡ laid_over circuit lent

-- so it is for every circuit that `write_rows` accepts, where the slice has room for it
abbrev pub WrittenReadAgain : Type 0
WrittenReadAgain =
    (circuit text lent : List ℕ) → Bytes circuit → (write_answer circuit (length text)).number ≡ 0 → length circuit ≤ length lent
    → RowsAgain circuit text lent

-- ---- "The result is document 01's fields, for check to judge."

-- no fault holds for a row
abbrev pub Sound : TextRow → Type 0
Sound r = row_number r ≡ 0

-- what `read_rows` leaves where it accepts
pub record FieldsRead (text lent : List ℕ) : Type 0 where
  -- "The reader adds header and end": header, the fields of the rows in order, end
  pub fields : take (read_answer text (length lent)).first (circuit_after text lent)
      ≡ field 0x01 (1 ∷ bytes_of 2 (blocks_in (rows_of text))) ++ (joined fields_of (rows_of text) ++ field 0x7F [])
  -- "bytes behind stay"
  pub behind : drop (read_answer text (length lent)).first (circuit_after text lent) ≡ drop (read_answer text (length lent)).first lent
  pub within : (read_answer text (length lent)).first ≤ length lent
  -- "first and second are bytes written and rows read"
  pub second : (read_answer text (length lent)).second ≡ length (rows_of text)
  pub sound : All Sound (rows_of text)
  -- "34 above 400 blocks"
  pub few : blocks_in (rows_of text) ≤ 400

abbrev pub AcceptedAreFields : Type 0
AcceptedAreFields = (text lent : List ℕ) → (read_answer text (length lent)).number ≡ 0 → FieldsRead text lent

-- the content of a block's field: "kind, options, connectors, parameters", with the length that the kind has
pub record BlockContent (kind : ℕ) (content : List ℕ) : Type 0 where
  pub known-kind : known kind ≡ true
  pub first : get_or content 0 0 ≡ kind
  pub long : length content ≡ content_length (kind_of kind)

-- "one a block or output row": a block without or with a label, or a row
pub data RowFields (bytes : List ℕ) : Type 0 where
  block : (kind : ℕ) (content : List ℕ) → BlockContent kind content → bytes ≡ field 0x10 content → RowFields bytes
  -- "0 to 16 bytes, any values"
  labelled : (kind : ℕ) (content label : List ℕ) → BlockContent kind content → length label ≤ 16
      → bytes ≡ field 0x10 content ++ field 0x20 label → RowFields bytes
  -- "destination class and number (a byte each), one connector"
  output : (content : List ℕ) → length content ≡ 5 → bytes ≡ field 0x30 content → RowFields bytes

-- the fields of a row without a fault
abbrev pub RowsAreFields : Type 0
RowsAreFields = (r : TextRow) → Sound r → RowFields (fields_of r)

-- ---- refusals: "30 .., 31 .., 32 .., by row, the lowest first; then 34 above 400 blocks, 33 no room in the lent circuit slice (exactly
-- when the fields need more bytes than lent)"

-- of a row the lowest number that holds is told
abbrev pub LowestOfRow : Type 0
LowestOfRow = (r : TextRow) → AtMost (row_number r) (row_faults r)

-- the row at a place, from 1, is the first with a fault, and the number is its
pub record FirstFaulty (rows : List TextRow) (number place : ℕ) : Type 0 where
  pub earlier : List TextRow
  pub row : TextRow
  pub later : List TextRow
  pub all : rows ≡ earlier ++ (row ∷ later)
  pub sound : All Sound earlier
  pub number_is : number ≡ row_number row
  pub faulty : 30 ≤ number
  pub listed : number ≤ 32
  pub place_is : place ≡ suc (length earlier)

-- how reading a text into so much room can end. "The place is the row from 1, and 0 for 33 and 34"
pub data Outcome (text : List ℕ) (room : ℕ) : Type 0 where
  of_row : (number place : ℕ) → FirstFaulty (rows_of text) number place → read_answer text room ≡ refused_at number place → Outcome text room
  many : All Sound (rows_of text) → 400 < blocks_in (rows_of text) → read_answer text room ≡ refused_at 34 0 → Outcome text room
  short : All Sound (rows_of text) → blocks_in (rows_of text) ≤ 400 → room < length (circuit_of (rows_of text))
      → read_answer text room ≡ refused_at 33 0 → Outcome text room
  enough : All Sound (rows_of text) → blocks_in (rows_of text) ≤ 400 → length (circuit_of (rows_of text)) ≤ room
      → read_answer text room ≡ accepted_with (length (circuit_of (rows_of text))) (length (rows_of text)) → Outcome text room

abbrev pub EveryTextAnswers : Type 0
EveryTextAnswers = (text : List ℕ) (room : ℕ) → Outcome text room

abbrev pub ManyExactly : Type 0
ManyExactly = (text : List ℕ) (room : ℕ) → ((read_answer text room).number ≡ 34) ↔ (All Sound (rows_of text) × (400 < blocks_in (rows_of text)))

abbrev pub NoRoomExactly : Type 0
NoRoomExactly =
    (text : List ℕ) (room : ℕ)
    → ((read_answer text room).number ≡ 33)
    ↔ (All Sound (rows_of text) × (blocks_in (rows_of text) ≤ 400) × (room < length (circuit_of (rows_of text))))

-- writing out: "this paper's refusals, then 33"
abbrev pub NoTextRoomExactly : Type 0
NoTextRoomExactly =
    (circuit : List ℕ) (room : ℕ)
    → ((write_answer circuit room).number ≡ 33) ↔ ((c : Circuit) × (verdict circuit ≡ accepted c) × (room < length (text_of c)))

-- "The slice is then untouched."
abbrev pub RefusedUntouched : Type 0
RefusedUntouched =
    ((text lent : List ℕ) → ((read_answer text (length lent)).number ≡ 0 → ⊥) → circuit_after text lent ≡ lent)
    × ((circuit lent : List ℕ) → ((write_answer circuit (length lent)).number ≡ 0 → ⊥) → text_after circuit lent ≡ lent)
