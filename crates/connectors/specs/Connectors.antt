-- Document 01, "Circuit bytes": connectors; "Refusal numbers and their order": 6 and 7.
use Rattle.std.specs.Prelude.{ℕ, zero, suc, ◌+◌, ◌%◌, Bool, false, not, ◌&&◌, ◌||◌, List, [], ◌∷◌, leb, ltb, eqb, get_or}
use Rattle.std.specs.Bool.{beq}
use Rattle.words.specs.Bytes.{number_at}
use Rattle.refusals.specs.declared.Limits.{Limits}

-- ---- a connector: "a class byte and a two-byte number"

pub record Connector : Type 0 where
  pub class : ℕ
  pub number : ℕ

abbrev pub connector_at : List ℕ → ℕ → Connector
connector_at s at = record { class = get_or s at 0; number = number_at 2 s (at + 1) }

-- k of them, one behind the other
unfoldable pub connectors_at : List ℕ → ℕ → ℕ → List Connector
connectors_at s at zero = []
connectors_at s at (suc k) = connector_at s at ∷ connectors_at s (at + 3) k

-- "Adding 0x80 inverts"
abbrev pub is_inverted : Connector → Bool
is_inverted c = leb 128 c.class

abbrev pub class_of : Connector → ℕ
class_of c = c.class % 128

-- ---- the classes

-- "0 unused (number 0), 1 input I 1..24, 2 lo (0), 3 hi (0), 4 flag M 1..64, 6 digital block, 7 analog input 1..8, 8 analog flag AM
-- 1..64, 9 analog block": by class, from 0, the least and the greatest number, in a circuit of n blocks
unfoldable pub least : ℕ → ℕ
least k = get_or (0 ∷ 1 ∷ 0 ∷ 0 ∷ 1 ∷ 0 ∷ 1 ∷ 1 ∷ 1 ∷ 1 ∷ []) k 0

unfoldable pub greatest : Limits → ℕ → ℕ → ℕ
greatest limits n k = get_or (0 ∷ 24 ∷ 0 ∷ 0 ∷ limits.m ∷ 0 ∷ n ∷ 8 ∷ limits.am ∷ n ∷ []) k 0

-- it names a block
unfoldable pub names_block : ℕ → Bool
names_block k = eqb k 6 || eqb k 9

-- and an analog one
abbrev pub names_analog : ℕ → Bool
names_analog k = eqb k 9

unfoldable pub member : ℕ → List ℕ → Bool
member x [] = false
member x (y ∷ l) = eqb x y || member x l

-- "allowed on 1, 2, 3, 4, 6 only"
unfoldable pub inverts : ℕ → Bool
inverts k = member k (1 ∷ 2 ∷ 3 ∷ 4 ∷ 6 ∷ [])

-- a connector's spot: in a digital or an analog input, in a row of a digital, an analog or an unknown destination
abbrev pub digital_input : ℕ
digital_input = 0

abbrev pub analog_input : ℕ
analog_input = 1

abbrev pub digital_row : ℕ
digital_row = 2

abbrev pub analog_row : ℕ
analog_row = 3

abbrev pub unknown_row : ℕ
unknown_row = 4

-- "Digital inputs take classes 0 to 4 and 6, analog inputs 7 to 9"; "A row's connector may not be unused"; "in a row of unknown
-- class: 0 or not in the list"
unfoldable pub takes : ℕ → List ℕ
takes spot =
    get_or
    ((0 ∷ 1 ∷ 2 ∷ 3 ∷ 4 ∷ 6 ∷ [])  -- digital input
    ∷ (7 ∷ 8 ∷ 9 ∷ [])  -- analog input
    ∷ (1 ∷ 2 ∷ 3 ∷ 4 ∷ 6 ∷ [])  -- row of a digital destination
    ∷ (7 ∷ 8 ∷ 9 ∷ [])  -- row of an analog destination
    ∷ (1 ∷ 2 ∷ 3 ∷ 4 ∷ 6 ∷ 7 ∷ 8 ∷ 9 ∷ [])  -- row of unknown class
    ∷ [])
    spot
    []

-- ---- 6: "connector not allowed there"

-- "class .., number, inversion"; "block number 0 or above n"
unfoldable pub misfits : Limits → ℕ → ℕ → Connector → Bool
misfits limits spot n c =
    not (member (class_of c) (takes spot))
    || ((is_inverted c && not (inverts (class_of c)))
    || (ltb c.number (least (class_of c)) || ltb (greatest limits n (class_of c)) c.number))

-- "a named block not of the sort its class says (not judged for an own or later block, nor in a row of unknown class)". `own` is the
-- number of the block whose input it is, and n + 1 in a row; `sorts` tells of the blocks before, from 1, which are analog
unfoldable pub wrong_sort : ℕ → ℕ → List Bool → Connector → Bool
wrong_sort spot own sorts c =
    (names_block (class_of c) && ltb c.number own)
    && (not (eqb spot unknown_row) && not (beq (get_or (false ∷ sorts) c.number false) (names_analog (class_of c))))

-- 6: it misfits, or it names a block of the wrong sort
unfoldable pub wrong : Limits → ℕ → ℕ → ℕ → List Bool → Connector → Bool
wrong limits spot own n sorts c = misfits limits spot n c || wrong_sort spot own sorts c

-- ---- 7: "own or later block named"

unfoldable pub later : ℕ → Connector → Bool
later own c = names_block (class_of c) && leb own c.number

-- ---- some connector of a list

unfoldable pub any_of : (Connector → Bool) → List Connector → Bool
any_of f [] = false
any_of f (c ∷ l) = f c || any_of f l
