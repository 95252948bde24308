-- Calls one after the other with the same circuit bytes: what they answer, and the words that they leave. `reply_to` and `after` are the
-- contracts of the calls themselves: check's in crates/circuit, the others' in crates/scan, all six in crates/serifdove.
use Rattle.std.specs.Prelude.{ℕ, List, [], ◌∷◌, ◌++◌, length, take, drop, ℤ}
use Rattle.refusals.specs.declared.Answer.{Answer}
use Rattle.circuit.specs.Circuit.{answer_of}
use Rattle.calls.specs.Calls.{Call, cold_start, warm_start, latch, run, publish, answer_after, record_after, outputs_after}

-- check, or a call on the record
pub data AnyCall : Type 0 where
  check : AnyCall
  on : Call → AnyCall

-- what stands in the record and in the words that hold the outputs
pub record Moment : Type 0 where
  pub rec : List ℤ
  pub outputs : List ℤ

abbrev pub moment : List ℤ → List ℤ → Moment
moment l o = record { rec = l; outputs = o }

-- ---- one call

-- how many output words it is lent: publish k the first k, the others none
abbrev pub lends : Call → ℕ
lends cold_start = 0
lends warm_start = 0
lends (latch r e) = 0
lends (run c) = 0
lends (publish k) = k

-- the call that is made: k words, or all where there are fewer
abbrev pub made : Call → List ℤ → Call
made cold_start o = cold_start
made warm_start o = warm_start
made (latch r e) o = latch r e
made (run c) o = run c
made (publish k) o = publish (length (take k o))

abbrev pub reply_to : List ℕ → AnyCall → Moment → Answer
reply_to s check m = answer_of s
reply_to s (on x) m = answer_after s (made x m.outputs) m.rec

-- the record, the output words that were lent, and those that were not
abbrev pub after : List ℕ → AnyCall → Moment → Moment
after s check m = m
after s (on x) m =
    let y = made x m.outputs in
    let lent = take (lends x) m.outputs in
    moment (record_after s y m.rec) (outputs_after s y m.rec lent ++ drop (lends x) m.outputs)

-- ---- calls one after the other

pub record Played : Type 0 where
  pub replies : List Answer
  pub last : Moment

abbrev pub play : List ℕ → List AnyCall → Moment → Played
play s [] m = record { replies = []; last = m }
play s (x ∷ xs) m =
    let rest = play s xs (after s x m) in
    record { replies = reply_to s x m ∷ rest.replies; last = rest.last }
