-- What a circuit is: the rules that it keeps, and the bytes that it has. Document 01, "Circuit bytes" and "The blocks". Nothing here
-- speaks of judging; `accepted-exactly` ties it to the verdict.
use Rattle.std.specs.Prelude.{◌≡◌, true, false, List, [], ◌∷◌, ◌++◌, ℕ, suc, ◌+◌, ◌≤◌, ◌<◌, length, get_or, take, drop, ℤ, pos}
use Rattle.std.proofs.Math.Option.{Option, none, some}
use Rattle.std.specs.Int.Signed.{le_z}
use Rattle.std.specs.Int.{w32}
use Rattle.std.proofs.Common.{of_z, SFits}
use Rattle.words.specs.Bytes.{bytes_of}
use Rattle.words.specs.Signed.{over}
use Rattle.kinds.specs.Time.{longest}
use Rattle.kinds.specs.Kinds.{Kind, In, ◌to◌, kinds, kind_of, parameter}
use Rattle.refusals.specs.declared.Limits.{Limits}
use Rattle.connectors.specs.Connectors.{Connector, class_of, member, takes, inverts, least, greatest, names_block, names_analog, digital_input, analog_input}
use Rattle.blockfield.specs.BlockField.{most_option, shift_register}
use Rattle.fields.specs.Fields.{limit_of, spot_of}
use Rattle.decoding.specs.Decoded.{Block, Row, Circuit, sorts_of, index_of}

-- ---- lists

abbrev pub All : {A : Type 0} → (A → Type 0) → List A → Type 0
All P [] = Unit {0}
All P (x ∷ l) = P x × All P l

-- two lists of one length, element by element
abbrev pub Match : {A B : Type 0} → (A → B → Type 0) → List A → List B → Type 0
Match R [] [] = Unit {0}
Match R [] (y ∷ m) = ⊥
Match R (x ∷ l) [] = ⊥
Match R (x ∷ l) (y ∷ m) = R x y × Match R l m

-- each element, given those before it
abbrev pub EachAfter : {A : Type 0} → (List A → A → Type 0) → List A → List A → Type 0
EachAfter P before [] = Unit {0}
EachAfter P before (x ∷ l) = P before x × EachAfter P (before ++ (x ∷ [])) l

abbrev pub Each : {A : Type 0} → (List A → A → Type 0) → List A → Type 0
Each P l = EachAfter P [] l

-- a list of bytes
abbrev pub Bytes : List ℕ → Type 0
Bytes s = (i : ℕ) → get_or s i 0 < 256

-- ---- connectors

-- at a spot, in a circuit of n blocks
pub record Allowed (limits : Limits) (spot n : ℕ) (c : Connector) : Type 0 where
  -- "a class byte and a two-byte number"
  pub byte : c.class < 256
  pub fits : c.number < 65536
  -- "Digital inputs take classes 0 to 4 and 6, analog inputs 7 to 9"; "A row's connector may not be unused"
  pub class : member (class_of c) (takes spot) ≡ true
  -- "Adding 0x80 inverts; allowed on 1, 2, 3, 4, 6 only"
  pub inversion : 128 ≤ c.class → inverts (class_of c) ≡ true
  -- "0 unused (number 0), 1 input I 1..24, 2 lo (0), 3 hi (0), 4 flag M 1..64, 6 digital block, 7 analog input 1..8, 8 analog flag AM
  -- 1..64, 9 analog block"
  pub low : least (class_of c) ≤ c.number
  pub high : c.number ≤ greatest limits n (class_of c)

-- "6 digital block", "9 analog block": a connector that names a block names one of these, of the sort that its class says
pub record Refers (blocks : List Block) (c : Connector) : Type 0 where
  pub there : names_block (class_of c) ≡ true → c.number ≤ length blocks
  pub right-sort : names_block (class_of c) ≡ true → get_or (false ∷ sorts_of blocks) c.number false ≡ names_analog (class_of c)

-- ---- parameters

pub record Parameters (k : Kind) (vs : List ℤ) : Type 0 where
  -- "signed, four bytes each"
  pub fit : All (SFits w32) vs
  -- as many as the kind has, each in its range
  pub ranges : Match In k.parameters vs
  -- "0 seconds (T 0..9999, hundredths), 1 minutes (0..5999 seconds), 2 hours (0..5999 minutes)": each setting behind the timebase
  pub settings : (j : ℕ) → 1 ≤ j → j ≤ k.times → In (pos 0 to pos (longest (over (parameter vs 0)))) (parameter vs j)
  -- "T!L ≤ T! ≤ T"
  pub order : (j : ℕ) → 1 ≤ j → j < k.times → le_z (parameter vs (suc j)) (parameter vs j) ≡ true

-- ---- blocks

-- "0 to 16 bytes, any values"
pub record Label (bytes : List ℕ) : Type 0 where
  pub short : length bytes ≤ 16
  pub are-bytes : All (λ b. b < 256) bytes

-- without a label, or with one
abbrev pub Labelled : Option (List ℕ) → Type 0
Labelled none = Unit {0}
Labelled (some x) = Label x

pub record BlockKeeps (limits : Limits) (n : ℕ) (b : Block) : Type 0 where
  -- "Sixteen kinds", and 17 to 19
  pub kind-low : 1 ≤ b.kind
  pub kind-high : b.kind < length kinds
  -- "Option bit 0 is retentive, allowed on kinds 9 to 12; other bits are 0"; 17 and 18 "may be retentive"
  pub option : b.option ≤ most_option (kind_of b.kind)
  -- "each with its inputs in this order", the digital ones first, "then its parameters"
  pub inputs : length b.inputs ≡ (kind_of b.kind).digitals + (kind_of b.kind).analogs
  pub digitals : All (Allowed limits digital_input n) (take (kind_of b.kind).digitals b.inputs)
  pub analogs : All (Allowed limits analog_input n) (drop (kind_of b.kind).digitals b.inputs)
  pub parameters : Parameters (kind_of b.kind) b.parameters
  pub label : Labelled b.label

-- "A block may name only an earlier block"
abbrev pub Earlier : List Block → Block → Type 0
Earlier before b = All (Refers before) b.inputs

-- no shift register of this index
pub record Apart (index : ℤ) (a : Block) : Type 0 where
  pub apart : a.kind ≡ shift_register → index_of a ≡ index → ⊥

-- "Two blocks may not share an index"
abbrev pub OwnIndex : List Block → Block → Type 0
OwnIndex before b = b.kind ≡ shift_register → All (Apart (index_of b)) before

-- ---- rows

-- "Destinations: 1 Q 1..20, 2 M 1..64 (digital connector); 3 AQ 1..8, 4 AM 1..64 (analog connector)". Other classes have no number
pub record RowKeeps (limits : Limits) (n : ℕ) (r : Row) : Type 0 where
  pub low : 1 ≤ r.number
  pub high : r.number ≤ limit_of limits r.class
  -- a byte holds it
  pub fits : r.number < 256
  -- "A row's connector may not be unused"
  pub from : Allowed limits (spot_of r.class) n r.from

-- another destination
pub record Other (r a : Row) : Type 0 where
  pub other : a.class ≡ r.class → a.number ≡ r.number → ⊥

-- "Each destination stands at most once"
abbrev pub Once : List Row → Row → Type 0
Once before r = All (Other r) before

-- ---- the circuit

pub record Keeps (limits : Limits) (c : Circuit) : Type 0 where
  -- "version (1)"
  pub version : c.version ≡ 1
  -- "number of blocks n"
  pub count : c.n ≡ length c.blocks
  -- "0 to 400 (ours)"
  pub few : c.n ≤ limits.blocks
  -- "in two bytes"
  pub fits : c.n < 65536
  pub blocks : All (BlockKeeps limits c.n) c.blocks
  pub references : Each Earlier c.blocks
  pub registers : Each OwnIndex c.blocks
  pub rows : All (RowKeeps limits c.n) c.rows
  -- "A row's connector .. may name any block"
  pub sources : All (λ r. Refers c.blocks r.from) c.rows
  pub destinations : Each Once c.rows

-- ---- its bytes: "a one-byte tag, a two-byte length (here and in all numbers the high byte first), content"

abbrev pub joined : {A : Type 0} → (A → List ℕ) → List A → List ℕ
joined f [] = []
joined f (x ∷ l) = f x ++ joined f l

unfoldable pub field : ℕ → List ℕ → List ℕ
field tag content = tag ∷ (bytes_of 2 (length content) ++ content)

-- "a class byte and a two-byte number"
unfoldable pub connector_bytes : Connector → List ℕ
connector_bytes c = c.class ∷ bytes_of 2 c.number

-- "signed, four bytes each, high byte first"
unfoldable pub signed_bytes : ℤ → List ℕ
signed_bytes v = bytes_of 4 (of_z w32 v)

abbrev pub label_bytes : Option (List ℕ) → List ℕ
label_bytes none = []
label_bytes (some x) = field 0x20 x

-- "kind, options, connectors, parameters"
unfoldable pub block_content : Block → List ℕ
block_content b = b.kind ∷ b.option ∷ (joined connector_bytes b.inputs ++ joined signed_bytes b.parameters)

abbrev pub block_bytes : Block → List ℕ
block_bytes b = field 0x10 (block_content b) ++ label_bytes b.label

-- "destination class and number (a byte each), one connector"
unfoldable pub row_content : Row → List ℕ
row_content r = r.class ∷ r.number ∷ connector_bytes r.from

abbrev pub row_bytes : Row → List ℕ
row_bytes r = field 0x30 (row_content r)

-- "In order: one header; the blocks, each followed by at most one label; the rows; the end."
unfoldable pub encode : Circuit → List ℕ
encode c =
    field 0x01 (c.version ∷ bytes_of 2 c.n)
    ++ (joined block_bytes c.blocks ++ (joined row_bytes c.rows ++ field 0x7F []))
