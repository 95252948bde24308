-- The calls on a record: refusals in their order, the answer, and every lent word afterwards. Document 01, "Run record and outputs" and
-- "Refusal numbers and their order".
use Rattle.std.specs.Prelude.{ℕ, ◌+◌, ◌-◌, Bool, cond, not, ◌&&◌, ◌||◌, List, [], ◌∷◌, eqb, length, ℤ, pos}
use Rattle.words.specs.Signed.{word_of}
use Rattle.kinds.specs.Kinds.{in_range, ◌to◌}
use Rattle.refusals.specs.Faults.{Fault, ◌when◌, lowest}
use Rattle.refusals.specs.Answers.{refused_at, accepted_with}
use Rattle.refusals.specs.declared.Answer.{Answer}
use Rattle.decoding.specs.Decoded.{Circuit, Row}
use Rattle.circuit.specs.Circuit.{Verdict, refused, accepted, verdict}
use Rattle.lines.specs.Lines.{Line, lines_of, line_at}
use Rattle.record.specs.Places.{Place, phase, done, mark, elapsed, input, analog, flag, analog_flag, block, owner, size_of, at, change}
use Rattle.record.specs.Sound.{every, in_scan, sound}
use Rattle.steps.specs.Steps.{to_go, turn_of, turned}
use Rattle.destinations.specs.Destinations.{outputs_of, publish_word}

-- what is called, with what is given: to latch the input words and e, to run c, to publish the number of output words lent
pub data Call : Type 0 where
  cold_start : Call
  warm_start : Call
  latch : List ℤ → ℤ → Call
  run : ℕ → Call
  publish : ℕ → Call

-- what the calls take of a decoded circuit
pub record Plan : Type 0 where
  pub lines : List Line
  pub rows : List Row

abbrev pub plan_of : Circuit → Plan
plan_of c = record { lines = lines_of c; rows = c.rows }

-- ---- what each call makes of each word, by its place and the word that stood there

-- "Cold start zeroes all but M8 and the mark, which become 1"
abbrev pub fresh : Place → ℤ
fresh phase = pos 0
fresh done = pos 0
fresh mark = pos 1
fresh elapsed = pos 0
fresh (input k) = pos 0
fresh (analog k) = pos 0
fresh (flag k) = word_of (eqb k 8)
fresh (analog_flag k) = pos 0
fresh (block k j) = pos 0

abbrev pub cold_word : Place → ℤ → ℤ
cold_word p z = fresh p

-- a word of a retentive block; a place of no block asks the line of block 0, `no_line`, which is not retentive
abbrev pub is_kept : List Line → Place → Bool
is_kept lines p = (line_at lines (owner p)).retentive

-- "Warm start does that and keeps the three words of retentive blocks"
abbrev pub warm_word : List Line → Place → ℤ → ℤ
warm_word lines p z = cond (is_kept lines p) z (fresh p)

-- "Latch stores e and 32 input words (I, then analog) and makes the phase 1"
abbrev pub latch_word : List ℤ → ℤ → Place → ℤ → ℤ
latch_word r e phase z = pos 1
latch_word r e done z = z
latch_word r e mark z = z
latch_word r e elapsed z = e
latch_word r e (input k) z = at r (k - 1)
latch_word r e (analog k) z = at r (23 + k)
latch_word r e (flag k) z = z
latch_word r e (analog_flag k) z = z
latch_word r e (block k j) z = z

-- publish: `publish_word`, in Destinations, where the rows are read

-- ---- the refusals: "then 20 to 24 in order"

-- 20: "record length"
abbrev pub wrong_size : Plan → List ℤ → Fault
wrong_size p l = 20 when not (eqb (length l) (size_of (length p.lines)))

-- 21: "record not sound (all calls on a record but cold start)"
abbrev pub not_sound : Plan → List ℤ → Fault
not_sound p l = 21 when not (sound p.lines l)

-- a reading that latch takes; 23: "latch: not 32 input words, a digital one not 0 or 1, an analog one not 0..1000, e not 0..65,535"
unfoldable pub is_reading : List ℤ → ℤ → Bool
is_reading r e =
    eqb (length r) 32
    && (every 24 (λ i. in_range (pos 0 to pos 1) (at r i))
    && (every 8 (λ i. in_range (pos 0 to pos 1000) (at r (24 + i))) && in_range (pos 0 to pos 65535) e))

-- 22: "wrong phase: warm start or latch in a scan; run while waiting; publish while waiting or with blocks to go"; 24: "publish: not 28
-- output words"
unfoldable pub faults : Plan → Call → List ℤ → List Fault
faults p cold_start l = (wrong_size p l ∷ [])
faults p warm_start l = (wrong_size p l ∷ not_sound p l ∷ 22 when in_scan l ∷ [])
faults p (latch r e) l = (wrong_size p l ∷ not_sound p l ∷ 22 when in_scan l ∷ 23 when not (is_reading r e) ∷ [])
faults p (run c) l = (wrong_size p l ∷ not_sound p l ∷ 22 when not (in_scan l) ∷ [])
faults p (publish k) l =
    (wrong_size p l ∷ not_sound p l ∷ 22 when (not (in_scan l) || not (eqb (to_go p.lines l) 0)) ∷ 24 when not (eqb k 28) ∷ [])

-- the number of the refusal; 0: "A call for which no number holds is accepted"
unfoldable pub refusal : Plan → Call → List ℤ → ℕ
refusal p x l = lowest (faults p x l)

-- ---- an accepted call

-- "run gives blocks worked out and blocks to go; others 0, 0"
unfoldable pub gives : Plan → Call → List ℤ → Answer
gives p cold_start l = accepted_with 0 0
gives p warm_start l = accepted_with 0 0
gives p (latch r e) l = accepted_with 0 0
gives p (run c) l = accepted_with (turn_of p.lines c l) (to_go p.lines l - turn_of p.lines c l)
gives p (publish k) l = accepted_with 0 0

-- the record that it leaves
unfoldable pub leaves : Plan → Call → List ℤ → List ℤ
leaves p cold_start l = change cold_word l
leaves p warm_start l = change (warm_word p.lines) l
leaves p (latch r e) l = change (latch_word r e) l
leaves p (run c) l = turned p.lines c l
leaves p (publish k) l = change (publish_word p.rows l) l

-- the output words, which were o
unfoldable pub shows : Plan → Call → List ℤ → List ℤ → List ℤ
shows p cold_start l o = o
shows p warm_start l o = o
shows p (latch r e) l o = o
shows p (run c) l o = o
shows p (publish k) l o = outputs_of p.rows l

-- ---- every call on an accepted circuit: "On refusal first and second are 0 and nothing lent changes"

unfoldable pub answer_on : Plan → Call → List ℤ → Answer
answer_on p x l = cond (eqb (refusal p x l) 0) (gives p x l) (refused_at (refusal p x l) 0)

unfoldable pub record_on : Plan → Call → List ℤ → List ℤ
record_on p x l = cond (eqb (refusal p x l) 0) (leaves p x l) l

unfoldable pub outputs_on : Plan → Call → List ℤ → List ℤ → List ℤ
outputs_on p x l o = cond (eqb (refusal p x l) 0) (shows p x l o) o

-- ---- every call, on every byte string: "The first field with a fault is named ..; then 20 to 24 in order"

abbrev pub answer_by : Verdict → Call → List ℤ → Answer
answer_by (refused number place) x l = refused_at number place
answer_by (accepted c) x l = answer_on (plan_of c) x l

abbrev pub record_by : Verdict → Call → List ℤ → List ℤ
record_by (refused number place) x l = l
record_by (accepted c) x l = record_on (plan_of c) x l

abbrev pub outputs_by : Verdict → Call → List ℤ → List ℤ → List ℤ
outputs_by (refused number place) x l o = o
outputs_by (accepted c) x l o = outputs_on (plan_of c) x l o

unfoldable pub answer_after : List ℕ → Call → List ℤ → Answer
answer_after s x l = answer_by (verdict s) x l

unfoldable pub record_after : List ℕ → Call → List ℤ → List ℤ
record_after s x l = record_by (verdict s) x l

unfoldable pub outputs_after : List ℕ → Call → List ℤ → List ℤ → List ℤ
outputs_after s x l o = outputs_by (verdict s) x l o
