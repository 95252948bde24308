-- What `judge` hands to the calls. Not part of what a reader has to believe.
use Rattle.std.specs.Prelude.{ℕ, ◌+◌, ◌*◌, ◌≤◌, ◌<◌, ◌≡◌, List, map, length, get_or, take, Result, Ok, Err}
use Rattle.refusals.specs.declared.Limits.{Limits}
use Rattle.refusals.specs.declared.Refused.{Refused}
use Rattle.refusals.specs.Refusals.{number_of}
use Rattle.blockfield.specs.Marked.{Lies}
use Rattle.decoding.specs.Decoded.{Circuit, State, next_at, block_at}
use Rattle.decoding.specs.Held.{bare, rows_at, Head, Seen, Judged, Holds, Judges, head_of}
use Rattle.decoding.specs.declared.known.Known.{Known}
use Rattle.circuit.specs.Circuit.{field_number, taken, verdict_at, refused, accepted}

-- for every state that is held, the field at a place is told by its number, and what is held then is the state with the field added
abbrev pub Answers : Limits → List ℕ → ℕ → Seen → Judged → Type 0
Answers limits s at seen r =
    (st : State) → Holds limits s seen st → Judges limits s (field_number limits s at st) (next_at s at) (taken s at st) r

-- an accepted circuit: where its blocks and its rows stand
pub record Accepts (limits : Limits) (s : List ℕ) (head : Head) (offsets : List ℕ) : Type 0 where
  pub circuit : Circuit
  pub is : verdict_at limits s ≡ accepted circuit
  pub n : head.n ≡ circuit.n
  pub blocks : head.n ≡ length circuit.blocks
  pub rows : head.rows ≡ length circuit.rows
  pub few : head.n ≤ 400
  pub long : length offsets ≡ 400
  pub there : map (block_at s) (take head.n offsets) ≡ map bare circuit.blocks
  pub lie : (k : ℕ) → k < head.n → Lies s (get_or offsets k 0)
  pub rows-there : rows_at s head.start head.rows ≡ circuit.rows
  pub rows_end : head.start + 8 * head.rows + 3 ≡ length s

-- the verdict, and of an accepted circuit where its blocks and rows stand
pub record Says (limits : Limits) (s : List ℕ) (r : Result (Unit {0}) Refused) (known : Known) : Type 0 where
  pub refuses : (e : Refused) → r ≡ Err e → verdict_at limits s ≡ refused (number_of e.refusal) e.place
  pub accepts : r ≡ Ok tt → Accepts limits s (head_of known) known.offsets
