-- What the pass carries, said of what the fields decoded to. Not part of what a reader has to believe.
use Rattle.std.specs.Prelude.{ℕ, zero, suc, ◌+◌, ◌-◌, ◌*◌, ◌≤◌, ◌<◌, ◌≡◌, Bool, true, false, cond, replicate, List, [], ◌∷◌, map, eqb, length, get_or, take, set, pos, Result}
use Rattle.std.proofs.Math.Option.{none}
use Rattle.refusals.specs.Faults.{Fault, lowest}
use Rattle.refusals.specs.Stages.{opening, among_rows, ended, stage_of}
use Rattle.refusals.specs.Refusals.{number_in}
use Rattle.refusals.specs.declared.Refusal.{Refusal}
use Rattle.refusals.specs.declared.Limits.{Limits}
use Rattle.blockfield.specs.BlockField.{kind_at, shift_register}
use Rattle.blockfield.specs.Marked.{index_mark, Lies}
use Rattle.fields.specs.Fields.{limit_of}
use Rattle.fields.specs.Marks.{mark}
use Rattle.decoding.specs.Decoded.{Block, Row, State, sorts_of, index_used, destination_used, block_at, row_at}
use Rattle.refusals.specs.declared.Field.{Field}
use Rattle.decoding.specs.declared.known.Known.{Known}

-- a block without its label
abbrev pub bare : Block → Block
bare b = record { kind = b.kind; option = b.option; inputs = b.inputs; parameters = b.parameters; label = none }

-- k rows, one behind the other
unfoldable pub rows_at : List ℕ → ℕ → ℕ → List Row
rows_at s at zero = []
rows_at s at (suc k) = row_at s at ∷ rows_at s (at + 8) k

-- the marks of the shift registers after a block
abbrev pub registers_after : List ℕ → ℕ → List Bool → List Bool
registers_after s at registers = cond (eqb (kind_at s at) shift_register) (set registers (index_mark s at) true) registers

-- the stage, n of the header, blocks and rows so far, and where the first row stands
pub record Head : Type 0 where
  pub stage : ℕ
  pub n : ℕ
  pub blocks : ℕ
  pub rows : ℕ
  pub start : ℕ

-- these, and what the arrays hold
pub record Seen : Type 0 where
  pub head : Head
  pub offsets : List ℕ
  pub sorts : List Bool
  pub used : List Bool
  pub registers : List Bool

abbrev pub seen_of : Head → List ℕ → List Bool → List Bool → List Bool → Seen
seen_of head offsets sorts used registers = record { head = head; offsets = offsets; sorts = sorts; used = used; registers = registers }

-- what is known of a circuit
abbrev pub head_of : Known → Head
head_of known = record { stage = stage_of known.stage; n = known.n; blocks = known.blocks; rows = known.rows; start = known.start }

abbrev pub seen : Known → Seen
seen known = seen_of (head_of known) known.offsets known.sorts known.used known.registers

-- nothing is known, before the first field
pub record Nothing (known : Known) : Type 0 where
  pub stage : stage_of known.stage ≡ opening
  pub n : known.n ≡ 0
  pub blocks : known.blocks ≡ 0
  pub rows : known.rows ≡ 0
  pub start : known.start ≡ 0
  pub offsets : length known.offsets ≡ 400
  pub sorts : length known.sorts ≡ 400
  pub used : known.used ≡ replicate 156 false
  pub registers : known.registers ≡ replicate 4 false

-- what the head says by itself, before the field at a place
pub record Sound (head : Head) (at : ℕ) : Type 0 where
  pub fresh : head.stage ≡ opening → head.blocks ≡ 0
  pub few : head.n ≤ 400
  pub some_left : head.blocks ≤ head.n
  pub complete : head.stage ≡ ended → head.n ≤ head.blocks
  pub no_rows : (head.stage ≡ among_rows → ⊥) → (head.stage ≡ ended → ⊥) → head.rows ≡ 0
  pub along : (head.stage ≡ ended → ⊥) → at ≡ head.start + 8 * head.rows
  pub closed : head.stage ≡ ended → at ≡ head.start + 8 * head.rows + 3

-- what is carried stands for a state
pub record Holds (limits : Limits) (s : List ℕ) (seen : Seen) (st : State) : Type 0 where
  pub stage : seen.head.stage ≡ st.stage
  pub n : seen.head.n ≡ st.n
  pub blocks : seen.head.blocks ≡ length st.blocks
  pub rows : seen.head.rows ≡ length st.rows
  pub rows-there : rows_at s seen.head.start seen.head.rows ≡ st.rows
  pub sorts : take seen.head.blocks seen.sorts ≡ sorts_of st.blocks
  pub offsets : map (block_at s) (take seen.head.blocks seen.offsets) ≡ map bare st.blocks
  pub registers : (x : ℕ) → 1 ≤ x → x ≤ 4 → get_or seen.registers (x - 1) false ≡ index_used (pos x) st.blocks
  pub used : (class number : ℕ) → 1 ≤ number → number ≤ limit_of limits class → get_or seen.used (mark class number) false ≡ destination_used class number st.rows
  pub lie : (k : ℕ) → k < seen.head.blocks → Lies s (get_or seen.offsets k 0)
  pub offsets-long : length seen.offsets ≡ 400
  pub sorts-long : length seen.sorts ≡ 400
  pub used-long : length seen.used ≡ 156
  pub registers-long : length seen.registers ≡ 4

-- a field's answer, with what the arrays then hold
pub record Judged : Type 0 where
  pub number : ℕ
  pub next : ℕ
  pub seen : Seen

abbrev pub judged : Result (Unit {0}) Refusal → ℕ → Seen → Judged
judged r next seen = record { number = number_in r; next = next; seen = seen }

-- the number of a field, and, where it is 0, what is held and the next place
pub record Judges (limits : Limits) (s : List ℕ) (number : ℕ) (next : ℕ) (then : State) (r : Judged) : Type 0 where
  pub number_is : r.number ≡ number
  pub next-is : r.number ≡ 0 → r.next ≡ next
  pub holds : r.number ≡ 0 → Holds limits s r.seen then
  pub sound : r.number ≡ 0 → Sound r.seen.head r.next

-- for every state that is held, a field's numbers are those of the state, and what is held then is the state with the field added
abbrev pub Adds : Limits → List ℕ → Seen → (State → List Fault) → ℕ → (State → State) → Judged → Type 0
Adds limits s seen faults next then r = (st : State) → Holds limits s seen st → Judges limits s (lowest (faults st)) next (then st) r

-- the same, said of a field and of what is known before and after it
abbrev pub Takes : Limits → Field → Known → (State → List Fault) → (State → State) → Result (Unit {0}) Refusal → Known → Type 0
Takes limits field before faults then r after =
    let next = (field.at + 3) + field.size in
    Adds limits field.bytes.now (seen before) faults next then (judged r next (seen after))

-- of what is known the arrays stay
pub record SameArrays (before after : Known) : Type 0 where
  pub offsets : after.offsets ≡ before.offsets
  pub sorts : after.sorts ≡ before.sorts
  pub used : after.used ≡ before.used
  pub registers : after.registers ≡ before.registers
