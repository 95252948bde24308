-- Document 01, "Refusal numbers and their order": every byte string gets a refusal, or the circuit that it is.
use Rattle.std.specs.Prelude.{ℕ, zero, suc, ◌+◌, Bool, true, false, ◌||◌, cond, List, [], ◌∷◌, ltb, eqb, length, get_or}
use Rattle.refusals.specs.Faults.{Fault, lowest, ◌when◌}
use Rattle.refusals.specs.Stages.{ended}
use Rattle.refusals.specs.Limited.{ours}
use Rattle.refusals.specs.Answers.{refused_at, accepted_with}
use Rattle.refusals.specs.declared.Limits.{Limits}
use Rattle.refusals.specs.declared.Answer.{Answer}
use Rattle.decoding.specs.Decoded.{Circuit, State, nothing, circuit_of, size_at, next_at, header_in, block_in, label_in, row_in, end_in, header_taken, block_taken, label_taken, row_taken, end_taken}

-- ---- the field at a place, by its tag

-- 0x01 header, 0x10 block, 0x20 label, 0x30 row, 0x7F end, or none of them
unfoldable pub by_tag : {A : Type 0} → ℕ → A → A → A → A → A → A → A
by_tag tag header block label row end other =
    cond (eqb tag 0x01) header
    (cond (eqb tag 0x10) block (cond (eqb tag 0x20) label (cond (eqb tag 0x30) row (cond (eqb tag 0x7F) end other))))

-- what holds for a field that lies whole within the bytes, by its tag; 2: "tag unknown"
unfoldable pub tag_faults : Limits → List ℕ → ℕ → State → List Fault
tag_faults limits s at st =
    by_tag (get_or s at 0)
    (header_in limits s at (size_at s at) st)
    (block_in limits s at (size_at s at) st)
    (label_in (size_at s at) st)
    (row_in limits s at (size_at s at) st)
    (end_in (size_at s at) st)
    (2 when true ∷ [])

-- 1: "slice ends inside a field or before the end field". Where no byte is left, the field is cut at "the slice's length"
abbrev pub is_cut : List ℕ → ℕ → Bool
is_cut s at = ltb (length s) (at + 3) || ltb (length s) (next_at s at)

-- what holds for the field at a place, given what the earlier ones decoded to
unfoldable pub field_faults : Limits → List ℕ → ℕ → State → List Fault
field_faults limits s at st = (1 when is_cut s at) ∷ tag_faults limits s at st

-- "with the lowest number that holds for it"
unfoldable pub field_number : Limits → List ℕ → ℕ → State → ℕ
field_number limits s at st = lowest (field_faults limits s at st)

-- what a field without a fault adds
unfoldable pub taken : List ℕ → ℕ → State → State
taken s at st =
    by_tag (get_or s at 0) (header_taken s at st) (block_taken s at st) (label_taken s at st) (row_taken s at st) (end_taken st) st

-- ---- the whole

-- a refusal number and its place, or the circuit
pub data Verdict : Type 0 where
  refused : ℕ → ℕ → Verdict
  accepted : Circuit → Verdict

-- behind the end field. 11: "bytes after the end field", at "the first surplus byte"
unfoldable pub closing : List ℕ → ℕ → State → Verdict
closing s at st = cond (ltb at (length s)) (refused 11 at) (accepted (circuit_of st))

-- the fields from a place on: "The first field with a fault is named"; "Place is the field's first byte for 1 to 10". The first
-- argument is more than the bytes that are left, and only bounds the steps: each field takes three bytes or more, so it is never used up
unfoldable pub walk : ℕ → Limits → List ℕ → ℕ → State → Verdict
walk zero limits s at st = refused 1 at
walk (suc f) limits s at st =
    elim (eqb st.stage ended) [
      | true ↦ closing s at st
      | false ↦
          elim (field_number limits s at st)
          [ zero ↦ walk f limits s (next_at s at) (taken s at st) | suc k ↦ refused (suc k) at ]
    ]

-- at some limits
unfoldable pub verdict_at : Limits → List ℕ → Verdict
verdict_at limits s = walk (suc (length s)) limits s 0 nothing

-- at ours
abbrev pub verdict : List ℕ → Verdict
verdict s = verdict_at ours s

-- ---- the answer: "check gives n and the rows"

unfoldable pub answer_to : Verdict → Answer
answer_to (refused number place) = refused_at number place
answer_to (accepted c) = accepted_with c.n (length c.rows)

unfoldable pub answer_at : Limits → List ℕ → Answer
answer_at limits s = answer_to (verdict_at limits s)

abbrev pub answer_of : List ℕ → Answer
answer_of s = answer_at ours s
