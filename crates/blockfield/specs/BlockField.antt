-- Document 01, "Circuit bytes" and "Refusal numbers and their order": a block field.
use Rattle.std.specs.Prelude.{ℕ, zero, suc, ◌+◌, ◌*◌, Bool, not, ◌&&◌, ◌||◌, cond, List, [], ◌∷◌, leb, ltb, eqb, length, get_or, ℤ}
use Rattle.std.specs.Int.{w32}
use Rattle.std.proofs.Common.{to_z}
use Rattle.words.specs.Bytes.{number_at}
use Rattle.kinds.specs.Kinds.{Kind, kind_of, known, content_length, allowed, parameter}
use Rattle.refusals.specs.Faults.{Fault, ◌when◌}
use Rattle.refusals.specs.Stages.{opening, among_rows}
use Rattle.refusals.specs.declared.Limits.{Limits}
use Rattle.connectors.specs.Connectors.{Connector, connectors_at, digital_input, analog_input, wrong, later, any_of}

-- ---- the content: "kind, options, connectors, parameters"; `at` is the field's first byte

abbrev pub kind_at : List ℕ → ℕ → ℕ
kind_at s at = get_or s (at + 3) 0

abbrev pub option_at : List ℕ → ℕ → ℕ
option_at s at = get_or s (at + 4) 0

-- the digital inputs stand first, then the analog ones
abbrev pub digitals_at : List ℕ → ℕ → Kind → List Connector
digitals_at s at k = connectors_at s (at + 5) k.digitals

abbrev pub analogs_at : List ℕ → ℕ → Kind → List Connector
analogs_at s at k = connectors_at s (at + 5 + 3 * k.digitals) k.analogs

-- where the parameters begin
abbrev pub parameters_from : ℕ → Kind → ℕ
parameters_from at k = at + 5 + 3 * (k.digitals + k.analogs)

-- "Parameters are signed, four bytes each, high byte first"
abbrev pub signed_at : List ℕ → ℕ → ℤ
signed_at s at = to_z w32 (number_at 4 s at)

-- k of them, one behind the other
unfoldable pub signeds_at : List ℕ → ℕ → ℕ → List ℤ
signeds_at s at zero = []
signeds_at s at (suc k) = signed_at s at ∷ signeds_at s (at + 4) k

abbrev pub parameters_at : List ℕ → ℕ → Kind → List ℤ
parameters_at s at k = signeds_at s (parameters_from at k) (length k.parameters)

-- four of them, as the rules take them; 0 where there is none
abbrev pub four_of : List ℤ → List ℤ
four_of p = parameter p 0 ∷ parameter p 1 ∷ parameter p 2 ∷ parameter p 3 ∷ []

-- kind 12
abbrev pub shift_register : ℕ
shift_register = 12

-- where a shift register's index begins: it is the first parameter
abbrev pub index_from : ℕ → ℕ
index_from at = parameters_from at (kind_of shift_register)

-- ---- the numbers

-- 2: "content length wrong (a block without a kind byte too)"; "kind unknown (its length is then not judged)"
unfoldable pub wrong_length : ℕ → ℕ → Bool
wrong_length kind size = eqb size 0 || (known kind && not (eqb size (content_length (kind_of kind))))

-- "Option bit 0 is retentive, allowed on kinds 9 to 12; other bits are 0"; 17 and 18 "may be retentive"
abbrev pub most_option : Kind → ℕ
most_option k = cond k.retentive 1 0

-- 5: "kind unknown .., or option not allowed"
unfoldable pub wrong_kind : ℕ → ℕ → Bool
wrong_kind kind option = not (known kind) || ltb (most_option (kind_of kind)) option

-- 6 and 7, of a block's inputs
unfoldable pub wrong_inputs : Limits → ℕ → ℕ → List Bool → List Connector → List Connector → Bool
wrong_inputs limits own n sorts digitals analogs =
    any_of (wrong limits digital_input own n sorts) digitals || any_of (wrong limits analog_input own n sorts) analogs

unfoldable pub later_inputs : ℕ → List Connector → List Connector → Bool
later_inputs own digitals analogs = any_of (later own) digitals || any_of (later own) analogs

-- what holds for a block field of `size` bytes of content: n from the header; `count` blocks before it, of these `sorts`; `used`: a
-- shift register before it has the index ("Two blocks may not share an index")
unfoldable pub block_faults : Limits → List ℕ → ℕ → ℕ → ℕ → ℕ → ℕ → List Bool → Bool → List Fault
block_faults limits s at size stage n count sorts used =
    let kind = kind_at s at in
    let digitals = digitals_at s at (kind_of kind) in
    let analogs = analogs_at s at (kind_of kind) in
    (2 when (eqb stage opening || eqb stage among_rows)  -- "out of place"
    ∷ 2 when wrong_length kind size  -- "content length wrong"
    ∷ 4 when leb n count  -- "a block too many"
    ∷ 5 when wrong_kind kind (option_at s at)  -- "kind unknown .., or option not allowed"
    ∷ 6 when wrong_inputs limits (count + 1) n sorts digitals analogs  -- "connector not allowed there"
    ∷ 7 when later_inputs (count + 1) digitals analogs  -- "own or later block named"
    ∷ 8 when not (allowed kind (parameters_at s at (kind_of kind)))  -- "parameter out of range"; "8 also for the order of the three times"
    ∷ 10 when (eqb kind shift_register && used)  -- "shift register index used twice"
    ∷ [])
