-- What the calls hand to each other. Not part of what a reader has to believe.
use Rattle.std.specs.Prelude.{ℕ, ◌≡◌, Bool, true, false, List, ℤ, Result, Ok, Err}
use Rattle.refusals.specs.declared.Refused.{Refused}
use Rattle.refusals.specs.Refusals.{number_of}
use Rattle.refusals.specs.Answers.{refused_at}
use Rattle.decoding.specs.Decoded.{Circuit}
use Rattle.decoding.specs.Held.{Head, head_of, rows_at}
use Rattle.decoding.specs.declared.known.Known.{Known}
use Rattle.circuit.specs.Circuit.{verdict, accepted}
use Rattle.lines.specs.Lines.{lines_of}
use Rattle.record.specs.Written.{lines_at}
use Rattle.steps.specs.Wired.{Runs}
use Rattle.destinations.specs.Slots.{Rows}
use Rattle.calls.specs.Calls.{Call, cold_start, warm_start, latch, run, publish, answer_after, record_after, outputs_after}

-- "all calls on a record but cold start"
abbrev pub asks_sound : Call → Bool
asks_sound cold_start = false
asks_sound warm_start = true
asks_sound (latch r e) = true
asks_sound (run c) = true
asks_sound (publish k) = true

-- a call answers so, and nothing lent changes
pub record Refuses (s : List ℕ) (x : Call) (l : List ℤ) (number place : ℕ) : Type 0 where
  pub answer : answer_after s x l ≡ refused_at number place
  pub words : record_after s x l ≡ l
  pub outs : (o : List ℤ) → outputs_after s x l o ≡ o

-- an accepted circuit and a sound record: where its blocks and rows stand
pub record Opened (s : List ℕ) (l : List ℤ) (head : Head) (offsets : List ℕ) : Type 0 where
  pub circuit : Circuit
  pub is : verdict s ≡ accepted circuit
  pub lines : lines_at s head.n offsets ≡ lines_of circuit
  pub rows : rows_at s head.start head.rows ≡ circuit.rows
  pub runs : Runs s head.n offsets l
  pub shown : Rows s head.start head.rows

-- circuit and record judged: 1 to 11, 20, 21, or neither
pub record Opens (s : List ℕ) (l : List ℤ) (r : Result (Unit {0}) Refused) (known : Known) : Type 0 where
  pub refuses : (e : Refused) → r ≡ Err e → (x : Call) → asks_sound x ≡ true → Refuses s x l (number_of e.refusal) e.place
  pub accepts : r ≡ Ok tt → Opened s l (head_of known) known.offsets
