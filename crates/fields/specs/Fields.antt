-- Document 01, "Circuit bytes" and "Refusal numbers and their order": header, label, row, end.
use Rattle.std.specs.Prelude.{ℕ, ◌+◌, Bool, not, ◌||◌, List, [], ◌∷◌, ltb, eqb, get_or}
use Rattle.words.specs.Bytes.{number_at}
use Rattle.refusals.specs.Faults.{Fault, ◌when◌}
use Rattle.refusals.specs.Stages.{opening, after_block}
use Rattle.refusals.specs.declared.Limits.{Limits}
use Rattle.connectors.specs.Connectors.{connector_at, digital_row, analog_row, unknown_row, wrong}

-- `at` is the field's first byte, `size` the content length that the field says

-- ---- the header: "version (1), number of blocks n in two bytes, 0 to 400"

unfoldable pub header_faults : Limits → List ℕ → ℕ → ℕ → ℕ → List Fault
header_faults limits s at size stage =
    (2 when (not (eqb stage opening) || not (eqb size 3))  -- "out of place, or content length wrong"
    ∷ 3 when not (eqb (get_or s (at + 3) 0) 1)  -- "version not 1"
    ∷ 4 when ltb limits.blocks (number_at 2 s (at + 4))  -- "n above 400"
    ∷ [])

-- ---- a label: "0 to 16 bytes"; "the blocks, each followed by at most one label"

unfoldable pub label_faults : ℕ → ℕ → List Fault
label_faults size stage = (2 when (not (eqb stage after_block) || ltb 16 size) ∷ [])

-- ---- a row: "destination class and number (a byte each), one connector"

abbrev pub class_at : List ℕ → ℕ → ℕ
class_at s at = get_or s (at + 3) 0

abbrev pub number_in : List ℕ → ℕ → ℕ
number_in s at = get_or s (at + 4) 0

-- "Destinations: 1 Q 1..20, 2 M 1..64 (digital connector); 3 AQ 1..8, 4 AM 1..64 (analog connector)": by class, from 0, the greatest
-- number, and the connector's spot
unfoldable pub limit_of : Limits → ℕ → ℕ
limit_of limits class = get_or (0 ∷ limits.q ∷ limits.m ∷ limits.aq ∷ limits.am ∷ []) class 0

unfoldable pub spot_of : ℕ → ℕ
spot_of class = get_or (unknown_row ∷ digital_row ∷ digital_row ∷ analog_row ∷ analog_row ∷ []) class unknown_row

-- 9: "destination unknown"
abbrev pub unknown : Limits → ℕ → ℕ → Bool
unknown limits class number = eqb number 0 || ltb (limit_of limits class) number

-- n from the header; `count` blocks stand before it, of these `sorts`; `used`: the destination stands in an earlier row. Its connector
-- "may name any block": all blocks stand before it
unfoldable pub row_faults : Limits → List ℕ → ℕ → ℕ → ℕ → ℕ → ℕ → List Bool → Bool → List Fault
row_faults limits s at size stage n count sorts used =
    (2 when (eqb stage opening || not (eqb size 5))  -- "out of place, or content length wrong"
    ∷ 4 when ltb count n  -- "blocks missing at the first row"
    ∷ 6 when wrong limits (spot_of (class_at s at)) (count + 1) n sorts (connector_at s (at + 5))  -- "connector not allowed there"
    ∷ 9 when (unknown limits (class_at s at) (number_in s at) || used)  -- "destination unknown or used twice"
    ∷ [])

-- ---- the end: "nothing"; 4: "blocks missing at .. the end field"

unfoldable pub end_faults : ℕ → ℕ → ℕ → ℕ → List Fault
end_faults size stage n count = (2 when (eqb stage opening || not (eqb size 0)) ∷ 4 when ltb count n ∷ [])
