-- What is promised of the calls, each promise a type with its name; proofs/Promises.antt has the proofs. A reader starts here, goes on to
-- `InTurns` (a scan in turns), `Play` (calls one after the other) and `Calls` (each call), and then to what those stand on.
use Rattle.std.specs.Prelude.{ℕ, ◌≤◌, ◌≡◌, ◌↔◌, true, false, List, [], ◌∷◌, length, ℤ, pos}
use Rattle.refusals.specs.Faults.{AtMost}
use Rattle.refusals.specs.Limited.{ours}
use Rattle.refusals.specs.Answers.{refused_at, accepted_with}
use Rattle.decoding.specs.Decoded.{Circuit, State}
use Rattle.circuit.specs.Circuit.{field_faults, field_number, verdict, accepted}
use Rattle.kept.specs.Keeps.{Bytes, Keeps, encode}
use Rattle.lines.specs.Lines.{lines_of}
use Rattle.record.specs.Places.{done, size_of, put}
use Rattle.record.specs.Sound.{in_scan}
use Rattle.steps.specs.Steps.{to_go}
use Rattle.calls.specs.Calls.{Call, cold_start, latch, run, publish, Plan, faults, refusal}
use Rattle.calls.specs.Play.{AnyCall, check, on, Moment, reply_to, after, play}
use Rattle.calls.specs.InTurns.{Good, CanLatch, ByTheRules, scanned, Closed, Course}

-- ---- demand 1: "Every byte string offered as a circuit and every word offered as a record gets an answer. A refusal carries a number and
-- a place from the fixed list, and no lent word or byte changes."

-- the fixed list: 1 to 11 at a place within the bytes or at their end; 20 to 24 at 0, from a call on a record
pub data Listed (s : List ℕ) (x : AnyCall) (number place : ℕ) : Type 0 where
  of-circuit : 1 ≤ number → number ≤ 11 → place ≤ length s → Listed s x number place
  of-record : (y : Call) → x ≡ on y → 20 ≤ number → number ≤ 24 → place ≡ 0 → Listed s x number place

pub data Answered (s : List ℕ) (x : AnyCall) (m : Moment) : Type 0 where
  accepts : (first second : ℕ) → reply_to s x m ≡ accepted_with first second → Answered s x m
  -- "On refusal first and second are 0 and nothing lent changes"
  refuses : (number place : ℕ) → reply_to s x m ≡ refused_at number place → Listed s x number place → after s x m ≡ m → Answered s x m

abbrev pub EveryCallAnswers : Type 0
EveryCallAnswers = (s : List ℕ) (x : AnyCall) (m : Moment) → Answered s x m

-- "with the lowest number that holds": told is the first of a list that holds (`lowest`), and none that holds is below it
abbrev pub LowestTold : Type 0
LowestTold =
    ((s : List ℕ) (at : ℕ) (st : State) → AtMost (field_number ours s at st) (field_faults ours s at st))
    × ((p : Plan) (x : Call) (l : List ℤ) → AtMost (refusal p x l) (faults p x l))

-- ---- demand 2: "A circuit is accepted exactly when it keeps the written rules for fields, connectors, references and parameters; each
-- block of an accepted circuit then gets the output and memory that its written rule gives."

abbrev pub AcceptedExactly : Type 0
AcceptedExactly = (s : List ℕ) → Bytes s → (c : Circuit) → (verdict s ≡ accepted c) ↔ (Keeps ours c × (s ≡ encode c))

-- "check gives n and the rows"
abbrev pub CheckTells : Type 0
CheckTells = (c : Circuit) → Keeps ours c → (m : Moment) → reply_to (encode c) check m ≡ accepted_with c.n (length c.rows)

-- latch and one run of everything leave w, which is what the rules say; and then publish every output and flag as the rows say
abbrev pub ByItsRule : Type 0
ByItsRule =
    (s : List ℕ) (c : Circuit) (r : List ℤ) (e : ℤ) (before : Moment) → CanLatch s c r e before.rec
    → let w = scanned c r e before.rec in
    let n = length (lines_of c) in
    ByTheRules c r e before.rec w
    × ((play s (on (latch r e) ∷ on (run n) ∷ []) before).last.rec ≡ put w done (pos n))
    × (28 ≤ length before.outputs → Closed s c r e before 28 (play s (on (latch r e) ∷ on (run n) ∷ on (publish 28) ∷ []) before).last)

-- and the rules leave one outcome only
abbrev pub RulesDecide : Type 0
RulesDecide =
    (s : List ℕ) (c : Circuit) (r : List ℤ) (e : ℤ) (l : List ℤ) → CanLatch s c r e l
    → (w v : List ℤ) → ByTheRules c r e l w → ByTheRules c r e l v → w ≡ v

-- ---- demand 3: "Same accepted circuit, a record nobody else writes, no restart inside a scan: however the blocks of a scan are shared out
-- among turns, empty turns and refused calls included, every scan that is closed ends with the record and outputs of the scan done in one
-- go. Each turn works out just the next blocks. Outputs stay untouched until the end."

abbrev pub ScanInTurns : Type 0
ScanInTurns =
    (s : List ℕ) (c : Circuit) (r : List ℤ) (e : ℤ) (before : Moment) → CanLatch s c r e before.rec
    → (xs : List AnyCall) → Course s c r e before xs (after s (on (latch r e)) before)

-- ---- a record of a circuit

-- whatever the words were, cold start is accepted on a record of the right length, and leaves a sound one that waits
abbrev pub ColdStartSound : Type 0
ColdStartSound =
    (s : List ℕ) (c : Circuit) → verdict s ≡ accepted c → (m : Moment) → length m.rec ≡ size_of (length (lines_of c))
    → (reply_to s (on cold_start) m ≡ accepted_with 0 0)
    × Good (lines_of c) (after s (on cold_start) m).rec
    × (in_scan (after s (on cold_start) m).rec ≡ false)

-- whatever is called, a sound record stays sound
abbrev pub StaysSound : Type 0
StaysSound =
    (s : List ℕ) → Bytes s → (c : Circuit) → verdict s ≡ accepted c
    → (x : AnyCall) (m : Moment) → Good (lines_of c) m.rec → Good (lines_of c) (after s x m).rec

-- in a scan, with 28 words to publish to, a run of the blocks to go is accepted, and then a publish, behind which the record waits
abbrev pub CanBeClosed : Type 0
CanBeClosed =
    (s : List ℕ) → Bytes s → (c : Circuit) → verdict s ≡ accepted c
    → (m : Moment) → Good (lines_of c) m.rec → in_scan m.rec ≡ true → 28 ≤ length m.outputs
    → let all = on (run (to_go (lines_of c) m.rec)) in
    let closed = on (publish 28) in
    ((reply_to s all m).number ≡ 0)
    × ((reply_to s closed (after s all m)).number ≡ 0)
    × (in_scan (after s closed (after s all m)).rec ≡ false)

-- ---- all of them

pub record Promises : Type 0 where
  pub every-call-answers : EveryCallAnswers
  pub lowest-told : LowestTold
  pub accepted-exactly : AcceptedExactly
  pub check-tells : CheckTells
  pub by-its-rule : ByItsRule
  pub rules-decide : RulesDecide
  pub scan-in-turns : ScanInTurns
  pub cold-start-sound : ColdStartSound
  pub stays-sound : StaysSound
  pub can-be-closed : CanBeClosed
