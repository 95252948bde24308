-- Circuits of one block or none at the limits and one above: of the series 0BA6, at 0, and above ours. All is computed. Assumes nothing.
use mathlib.Core.Path.{◌≡◌, refl}
use mathlib.Core.List.{List, [], ◌∷◌, ◌++◌}
use Prim.Native.Nat.{ℕ}
use Rattle.words.specs.Bytes.{number_at}
use Rattle.kinds.specs.Kinds.{kinds, kind_of, known, allowed, scaled, timed, indexed, chosen}
use Rattle.refusals.specs.Limited.{ours, older}
use Rattle.refusals.specs.Answers.{refused_at, accepted_with}
use Rattle.refusals.specs.declared.Limits.{Limits}
use Rattle.refusals.specs.declared.Answer.{Answer}
use Rattle.connectors.specs.Connectors.{connectors_at, member, takes, inverts, least, greatest, names_block, misfits, wrong_sort, wrong, later, any_of}
use Rattle.blockfield.specs.BlockField.{signeds_at, wrong_length, wrong_kind, wrong_inputs, later_inputs, block_faults}
use Rattle.fields.specs.Fields.{header_faults, label_faults, row_faults, end_faults, limit_of, spot_of}
use Rattle.decoding.specs.Decoded.{index_used, destination_used, labelled}
use Rattle.circuit.specs.Circuit.{by_tag, tag_faults, field_faults, field_number, taken, closing, walk, verdict_at, answer_to, answer_at}

-- ---- circuits

-- the header says n blocks, of which none is there
empty : ℕ → List ℕ
empty n = 0x01 ∷ 0 ∷ 3 ∷ 1 ∷ 0 ∷ n ∷ 0x7F ∷ 0 ∷ 0 ∷ []

-- a row at 6 and no block: destination, connector
row : ℕ → ℕ → ℕ → ℕ → List ℕ
row to number class from = 0x01 ∷ 0 ∷ 3 ∷ 1 ∷ 0 ∷ 0 ∷ 0x30 ∷ 0 ∷ 5 ∷ to ∷ number ∷ class ∷ 0 ∷ from ∷ 0x7F ∷ 0 ∷ 0 ∷ []

-- a block at 6 and no row: NOT of the connector
block : ℕ → ℕ → List ℕ
block class from = 0x01 ∷ 0 ∷ 3 ∷ 1 ∷ 0 ∷ 1 ∷ 0x10 ∷ 0 ∷ 5 ∷ 8 ∷ 0 ∷ class ∷ 0 ∷ from ∷ 0x7F ∷ 0 ∷ 0 ∷ []

-- a threshold trigger of the connector, all its parameters 0
trigger : ℕ → ℕ → List ℕ
trigger class from =
    0x01 ∷ 0 ∷ 3 ∷ 1 ∷ 0 ∷ 1
    ∷ 0x10 ∷ 0 ∷ 21 ∷ 13 ∷ 0 ∷ class ∷ 0 ∷ from ∷ 0 ∷ 0 ∷ 0 ∷ 0 ∷ 0 ∷ 0 ∷ 0 ∷ 0 ∷ 0 ∷ 0 ∷ 0 ∷ 0 ∷ 0 ∷ 0 ∷ 0 ∷ 0
    ∷ 0x7F ∷ 0 ∷ 0
    ∷ []

-- ---- cases

record Case : Type 0 where
  limits : Limits
  circuit : List ℕ
  answer : Answer

case : Limits → List ℕ → Answer → Case
case limits circuit answer = record { limits = limits; circuit = circuit; answer = answer }

-- the series 0BA6
series : List Case
series =
    case older (row 1 16 1 1) (accepted_with 0 1)  -- Q16
    ∷ case older (row 1 17 1 1) (refused_at 9 6)
    ∷ case older (row 2 27 4 27) (accepted_with 0 1)  -- M27
    ∷ case older (row 2 28 1 1) (refused_at 9 6)
    ∷ case older (row 2 1 0x84 28) (refused_at 6 6)
    ∷ case older (row 3 2 7 1) (accepted_with 0 1)  -- AQ2
    ∷ case older (row 3 3 7 1) (refused_at 9 6)
    ∷ case older (row 4 6 8 6) (accepted_with 0 1)  -- AM6
    ∷ case older (row 4 7 7 1) (refused_at 9 6)
    ∷ case older (row 4 1 8 7) (refused_at 6 6)
    ∷ case older (block 4 27) (accepted_with 1 0)
    ∷ case older (block 4 28) (refused_at 6 6)
    ∷ case older (block 0x84 64) (refused_at 6 6)
    ∷ case older (trigger 8 6) (accepted_with 1 0)
    ∷ case older (trigger 8 7) (refused_at 6 6)
    ∷ case older (row 1 17 4 28) (refused_at 6 6)  -- both, of which 6 is the lower
    ∷ case older (row 5 1 4 28) (refused_at 6 6)  -- in a row of unknown class too
    ∷ case older (row 1 16 1 24) (accepted_with 0 1)  -- I and AI are as ever
    ∷ case older (row 3 1 7 8) (accepted_with 0 1)
    ∷ case older (empty 200) (refused_at 4 6)  -- blocks missing at the end field
    ∷ case older (empty 201) (refused_at 4 0)
    ∷ case ours (empty 201) (refused_at 4 6)
    ∷ []

none : Limits
none = record { blocks = 0; q = 0; aq = 0; m = 0; am = 0 }

more : Limits
more = record { blocks = 401; q = 21; aq = 9; m = 65; am = 65 }

-- at 0, and above ours
others : List Case
others =
    case none (empty 0) (accepted_with 0 0)
    ∷ case none (empty 1) (refused_at 4 0)
    ∷ case none (row 1 1 3 0) (refused_at 9 6)
    ∷ case none (row 1 1 4 1) (refused_at 6 6)
    ∷ case none (block 1 1) (refused_at 4 0)
    ∷ case more (row 1 21 4 65) (accepted_with 0 1)
    ∷ case ours (row 1 21 4 64) (refused_at 9 6)
    ∷ case more (row 4 65 8 65) (accepted_with 0 1)
    ∷ case more (row 4 65 8 66) (refused_at 6 6)
    ∷ []

-- each gets its answer
abbrev AllAnswered : List Case → Type 0
AllAnswered [] = Unit {0}
AllAnswered (c ∷ l) = (answer_at c.limits c.circuit ≡ c.answer) × AllAnswered l

at-the-limits : AllAnswered (series ++ others)
unfolding series others case none more empty row block trigger
    answer_at answer_to verdict_at walk closing taken labelled field_number field_faults tag_faults by_tag
    header_faults block_faults label_faults row_faults end_faults limit_of spot_of destination_used index_used
    wrong_length wrong_kind wrong_inputs later_inputs signeds_at connectors_at
    wrong misfits wrong_sort later any_of member takes inverts least greatest names_block number_at
    known allowed kind_of kinds scaled timed indexed chosen
at-the-limits =
    (refl, (refl, (refl, (refl, (refl, (refl, (refl, (refl, (refl, (refl, (refl, (refl, (refl, (refl, (refl, (refl, (refl, (refl, (refl, (refl, (refl, (refl, (refl, (refl, (refl, (refl, (refl, (refl, (refl, (refl, (refl, tt)))))))))))))))))))))))))))))))
