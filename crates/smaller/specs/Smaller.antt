-- Document 02, No. 4: what smaller limits change. Each promise is a type with its name; proofs/ has the proofs. They are made for any limits,
-- 0 and above ours included, or for any two of which one is no larger; those that name `older`, the series 0BA6, and `ours` follow.
use Rattle.std.specs.Prelude.{ℕ, ◌≤◌, ◌≡◌, ◌↔◌, List, [], ◌∷◌, ◌++◌, length, take, drop}
use Rattle.refusals.specs.Faults.{AtMost}
use Rattle.refusals.specs.Limited.{ours, older, NoLarger}
use Rattle.refusals.specs.Answers.{refused_at, accepted_with}
use Rattle.refusals.specs.declared.Limits.{Limits}
use Rattle.refusals.specs.declared.Answer.{Answer}
use Rattle.connectors.specs.Connectors.{Connector, class_of}
use Rattle.fields.specs.Fields.{limit_of}
use Rattle.decoding.specs.Decoded.{Block, Row, Circuit, State}
use Rattle.circuit.specs.Circuit.{Verdict, refused, accepted, field_faults, field_number, verdict_at, answer_to, answer_at, answer_of}
use Rattle.kept.specs.Keeps.{All, Bytes, Keeps, encode}
use Rattle.rows.specs.Writing.{answer_for, text_for}
use Rattle.calls.specs.Calls.{answer_by, record_by, outputs_by}
use Rattle.calls.specs.Play.{AnyCall, check, on, Moment, moment, lends, made, Played, play}

-- ---- demands 1 and 2, of a check at any limits: so of the profile as of the plain check

-- "Every byte string offered as a circuit .. gets an answer. A refusal carries a number and a place from the fixed list"
pub data AnsweredAt (limits : Limits) (s : List ℕ) : Type 0 where
  accepts : (first second : ℕ) → answer_at limits s ≡ accepted_with first second → AnsweredAt limits s
  refuses : (number place : ℕ) → answer_at limits s ≡ refused_at number place → 1 ≤ number → number ≤ 11 → place ≤ length s → AnsweredAt limits s

abbrev pub EveryLimitAnswers : Type 0
EveryLimitAnswers = (limits : Limits) (s : List ℕ) → AnsweredAt limits s

-- "with the lowest number that holds"
abbrev pub LowestAtLimits : Type 0
LowestAtLimits = (limits : Limits) (s : List ℕ) (at : ℕ) (st : State) → AtMost (field_number limits s at st) (field_faults limits s at st)

-- "A circuit is accepted exactly when it keeps the written rules"
abbrev pub ExactlyAtLimits : Type 0
ExactlyAtLimits = (limits : Limits) (s : List ℕ) → Bytes s → (c : Circuit) → (verdict_at limits s ≡ accepted c) ↔ (Keeps limits c × (s ≡ encode c))

-- ---- the calls at any limits: `play` as it is at a verdict, by which alone the calls know a circuit

abbrev pub reply_by : Verdict → AnyCall → Moment → Answer
reply_by v check m = answer_to v
reply_by v (on x) m = answer_by v (made x m.outputs) m.rec

abbrev pub after_by : Verdict → AnyCall → Moment → Moment
after_by v check m = m
after_by v (on x) m =
    let y = made x m.outputs in
    let lent = take (lends x) m.outputs in
    moment (record_by v y m.rec) (outputs_by v y m.rec lent ++ drop (lends x) m.outputs)

abbrev pub play_by : Verdict → List AnyCall → Moment → Played
play_by v [] m = record { replies = []; last = m }
play_by v (x ∷ xs) m =
    let rest = play_by v xs (after_by v x m) in
    record { replies = reply_by v x m ∷ rest.replies; last = rest.last }

abbrev pub play_at : Limits → List ℕ → List AnyCall → Moment → Played
play_at limits s xs m = play_by (verdict_at limits s) xs m

-- so at ours it is what the contracts of the calls say
abbrev pub AtOurs : Type 0
AtOurs = (s : List ℕ) (xs : List AnyCall) (m : Moment) → play_at ours s xs m ≡ play s xs m

-- ---- "What this profile accepts, the plain check accepts with the same answer, and every scan is equal."

-- "for all limits no larger than ours", or than any others: accepted at the small ones
pub record AcceptedAtSmall (small large : Limits) (s : List ℕ) (c : Circuit) : Type 0 where
  pub no-larger : NoLarger small large
  pub is : verdict_at small s ≡ accepted c

-- the same circuit is decoded at the large ones, and the same answer given
abbrev pub SmallerAccepted : Type 0
SmallerAccepted =
    (small large : Limits) (s : List ℕ) (c : Circuit) → AcceptedAtSmall small large s c
    → (verdict_at large s ≡ accepted c) × (answer_at small s ≡ answer_at large s)

-- whatever is called, one after the other, on whatever record: the same answers, the same words of record and outputs
abbrev pub SameScans : Type 0
SameScans =
    (small large : Limits) (s : List ℕ) (c : Circuit) → AcceptedAtSmall small large s c
    → (xs : List AnyCall) (m : Moment) → play_at small s xs m ≡ play_at large s xs m

-- and it is written out as the same rows
abbrev pub SameRows : Type 0
SameRows =
    (small large : Limits) (s : List ℕ) (c : Circuit) → AcceptedAtSmall small large s c
    → (lent : List ℕ)
    → (answer_for (verdict_at small s) (length lent) ≡ answer_for (verdict_at large s) (length lent))
    × (text_for (verdict_at small s) lent ≡ text_for (verdict_at large s) lent)

-- the older series is such a case
abbrev pub OlderNoLarger : Type 0
OlderNoLarger = NoLarger older ours

-- ---- "Refusals: 4, 6 and 9 at the smaller limits."

-- too many blocks, told at the header, which is the first field; a connector; a destination
pub data AtLimit (number place : ℕ) : Type 0 where
  blocks : number ≡ 4 → place ≡ 0 → AtLimit number place
  connector : number ≡ 6 → AtLimit number place
  destination : number ≡ 9 → AtLimit number place

-- the same circuit, or one of the three
pub data Elsewhere (v : Verdict) (c : Circuit) : Type 0 where
  taken-too : v ≡ accepted c → Elsewhere v c
  stopped : (number place : ℕ) → v ≡ refused number place → AtLimit number place → Elsewhere v c

-- what is accepted at `others`, whatever they are, is at `these` accepted as the same circuit or refused by one of the three
abbrev pub OnlyAtLimits : Type 0
OnlyAtLimits = (these others : Limits) (s : List ℕ) (c : Circuit) → verdict_at others s ≡ accepted c → Elsewhere (verdict_at these s) c

-- ---- the same of what a caller sees, the two answers

-- "What this profile accepts, the plain check accepts with the same answer"
abbrev pub AcceptedAlike : Type 0
AcceptedAlike =
    (small large : Limits) → NoLarger small large → (s : List ℕ) → (answer_at small s).number ≡ 0 → answer_at large s ≡ answer_at small s

-- the same answer, or a refusal at a limit
pub data AnsweredElsewhere (here there : Answer) : Type 0 where
  alike : here ≡ there → AnsweredElsewhere here there
  refused-here : (number place : ℕ) → here ≡ refused_at number place → AtLimit number place → AnsweredElsewhere here there

-- what is accepted at `others`, answered at `these`
abbrev pub RefusedAtLimits : Type 0
RefusedAtLimits =
    (these others : Limits) (s : List ℕ) → (answer_at others s).number ≡ 0 → AnsweredElsewhere (answer_at these s) (answer_at others s)

-- and of the two calls: the contract of `check_profile` says `answer_at older`, that of `check` `answer_of`, and `play` is made of those of
-- `check` and of the calls on a record
pub record Profile (s : List ℕ) : Type 0 where
  pub accepts : (answer_at older s).number ≡ 0 → answer_of s ≡ answer_at older s
  pub scans : (answer_at older s).number ≡ 0 → (xs : List AnyCall) (m : Moment) → play_at older s xs m ≡ play s xs m
  pub refuses : (answer_of s).number ≡ 0 → AnsweredElsewhere (answer_at older s) (answer_of s)

abbrev pub ProfileAndCheck : Type 0
ProfileAndCheck = (s : List ℕ) → Profile s

-- ---- what fits: said without any judging

-- "M1..M27, AM1..AM6", of a connector to a flag
pub record Reaches (limits : Limits) (c : Connector) : Type 0 where
  pub m : class_of c ≡ 4 → c.number ≤ limits.m
  pub am : class_of c ≡ 8 → c.number ≤ limits.am

pub record Fits (limits : Limits) (c : Circuit) : Type 0 where
  -- "at most 200 blocks"
  pub blocks : c.n ≤ limits.blocks
  -- every input of every block, and every row's connector
  pub inputs : All (λ (b : Block). All (Reaches limits) b.inputs) c.blocks
  pub sources : All (λ (r : Row). Reaches limits r.from) c.rows
  -- "Q1..Q16, AQ1 and AQ2", and the flags: every row's destination
  pub destinations : All (λ (r : Row). r.number ≤ limit_of limits r.class) c.rows

-- what is accepted at `others` is accepted at `these` exactly when it fits these
abbrev pub FitsExactly : Type 0
FitsExactly =
    (these others : Limits) (s : List ℕ) → Bytes s → (c : Circuit) → verdict_at others s ≡ accepted c
    → (verdict_at these s ≡ accepted c) ↔ Fits these c
