-- Document 01, "Circuit bytes": fields; what a circuit is made of; what holds for each field of it, and what the field adds.
use Rattle.std.specs.Prelude.{ℕ, ◌+◌, Bool, false, ◌&&◌, ◌||◌, List, [], ◌∷◌, ◌++◌, map, eqb, length, get_or, take, drop, ℤ}
use Rattle.std.proofs.Math.Option.{Option, none, some}
use Rattle.std.specs.Int.Signed.{le_z}
use Rattle.words.specs.Bytes.{number_at}
use Rattle.kinds.specs.Kinds.{kind_of, is_analog, parameter}
use Rattle.refusals.specs.Stages.{opening, among_blocks, after_block, among_rows, ended}
use Rattle.refusals.specs.Faults.{Fault}
use Rattle.refusals.specs.declared.Limits.{Limits}
use Rattle.connectors.specs.Connectors.{Connector, connector_at}
use Rattle.blockfield.specs.BlockField.{kind_at, option_at, digitals_at, analogs_at, parameters_at, signed_at, shift_register, index_from, block_faults}
use Rattle.fields.specs.Fields.{header_faults, label_faults, row_faults, end_faults, class_at, number_in}

-- ---- a field: "a one-byte tag, a two-byte length .., content"

abbrev pub size_at : List ℕ → ℕ → ℕ
size_at s at = number_at 2 s (at + 1)

abbrev pub content_at : List ℕ → ℕ → List ℕ
content_at s at = take (size_at s at) (drop (at + 3) s)

-- where the next one begins
abbrev pub next_at : List ℕ → ℕ → ℕ
next_at s at = at + 3 + size_at s at

-- ---- what a circuit is made of

-- "kind, options, connectors, parameters"; and its label
pub record Block : Type 0 where
  pub kind : ℕ
  pub option : ℕ
  pub inputs : List Connector
  pub parameters : List ℤ
  pub label : Option (List ℕ)

-- "destination class and number (a byte each), one connector"
pub record Row : Type 0 where
  pub class : ℕ
  pub number : ℕ
  pub from : Connector

pub record Circuit : Type 0 where
  pub version : ℕ
  -- what the header says
  pub n : ℕ
  pub blocks : List Block
  pub rows : List Row

-- ---- what the fields read so far decode to, and which may come next

pub record State : Type 0 where
  pub stage : ℕ
  pub version : ℕ
  pub n : ℕ
  pub blocks : List Block
  pub rows : List Row

-- before the first field
abbrev pub nothing : State
nothing = record { stage = opening; version = 0; n = 0; blocks = []; rows = [] }

abbrev pub circuit_of : State → Circuit
circuit_of st = record { version = st.version; n = st.n; blocks = st.blocks; rows = st.rows }

-- "digital block", "analog block"
abbrev pub is_analog_block : Block → Bool
is_analog_block b = is_analog (kind_of b.kind).output

abbrev pub sorts_of : List Block → List Bool
sorts_of blocks = map is_analog_block blocks

-- a shift register's index, its first parameter
abbrev pub index_of : Block → ℤ
index_of b = parameter b.parameters 0

-- two parameters are one number
abbrev pub same : ℤ → ℤ → Bool
same x y = le_z x y && le_z y x

-- a shift register among the blocks has the index. 10: "shift register index used twice"
unfoldable pub index_used : ℤ → List Block → Bool
index_used x [] = false
index_used x (b ∷ l) = (eqb b.kind shift_register && same (index_of b) x) || index_used x l

-- a row has the destination. 9: "destination .. used twice"
unfoldable pub destination_used : ℕ → ℕ → List Row → Bool
destination_used class number [] = false
destination_used class number (r ∷ l) = (eqb r.class class && eqb r.number number) || destination_used class number l

-- ---- what holds for a field of `size` bytes of content, given what the earlier ones decoded to

abbrev pub header_in : Limits → List ℕ → ℕ → ℕ → State → List Fault
header_in limits s at size st = header_faults limits s at size st.stage

abbrev pub block_in : Limits → List ℕ → ℕ → ℕ → State → List Fault
block_in limits s at size st =
    block_faults limits s at size st.stage st.n (length st.blocks) (sorts_of st.blocks)
    (index_used (signed_at s (index_from at)) st.blocks)

abbrev pub label_in : ℕ → State → List Fault
label_in size st = label_faults size st.stage

abbrev pub row_in : Limits → List ℕ → ℕ → ℕ → State → List Fault
row_in limits s at size st =
    row_faults limits s at size st.stage st.n (length st.blocks) (sorts_of st.blocks)
    (destination_used (class_at s at) (number_in s at) st.rows)

abbrev pub end_in : ℕ → State → List Fault
end_in size st = end_faults size st.stage st.n (length st.blocks)

-- ---- what a field without a fault adds

abbrev pub block_at : List ℕ → ℕ → Block
block_at s at =
    let k = kind_of (kind_at s at) in
    record {
      kind = kind_at s at;
      option = option_at s at;
      inputs = digitals_at s at k ++ analogs_at s at k;
      parameters = parameters_at s at k;
      label = none;
    }

abbrev pub row_at : List ℕ → ℕ → Row
row_at s at = record { class = class_at s at; number = number_in s at; from = connector_at s (at + 5) }

abbrev pub with_label : List ℕ → Block → Block
with_label x b = record { kind = b.kind; option = b.option; inputs = b.inputs; parameters = b.parameters; label = some x }

-- the last block gets the label
unfoldable pub labelled : List ℕ → List Block → List Block
labelled x [] = []
labelled x (b ∷ []) = with_label x b ∷ []
labelled x (b ∷ c ∷ l) = b ∷ labelled x (c ∷ l)

-- "version (1), number of blocks n in two bytes"
abbrev pub header_taken : List ℕ → ℕ → State → State
header_taken s at st =
    record { stage = among_blocks; version = get_or s (at + 3) 0; n = number_at 2 s (at + 4); blocks = st.blocks; rows = st.rows }

-- "Blocks are numbered 1, 2, .. in file order"
abbrev pub block_taken : List ℕ → ℕ → State → State
block_taken s at st =
    record { stage = after_block; version = st.version; n = st.n; blocks = st.blocks ++ (block_at s at ∷ []); rows = st.rows }

abbrev pub label_taken : List ℕ → ℕ → State → State
label_taken s at st =
    record { stage = among_blocks; version = st.version; n = st.n; blocks = labelled (content_at s at) st.blocks; rows = st.rows }

abbrev pub row_taken : List ℕ → ℕ → State → State
row_taken s at st =
    record { stage = among_rows; version = st.version; n = st.n; blocks = st.blocks; rows = st.rows ++ (row_at s at ∷ []) }

abbrev pub end_taken : State → State
end_taken st = record { stage = ended; version = st.version; n = st.n; blocks = st.blocks; rows = st.rows }
