-- Demand 3: what holds of a scan, however its blocks are shared out among turns and whatever is called between them.
use Rattle.std.specs.Prelude.{ℕ, ◌+◌, ◌-◌, ◌≤◌, ◌<◌, min, ◌≡◌, ◌↔◌, Bool, true, false, cond, List, [], ◌∷◌, ◌++◌, eqb, length, take, drop, ℤ, pos}
use Rattle.words.specs.Signed.{over}
use Rattle.kinds.specs.Time.{ticks}
use Rattle.refusals.specs.Answers.{accepted_with}
use Rattle.decoding.specs.Decoded.{Circuit}
use Rattle.circuit.specs.Circuit.{verdict, accepted}
use Rattle.kept.specs.Keeps.{Bytes}
use Rattle.lines.specs.Lines.{Line, lines_of, line_at}
use Rattle.blocks.specs.Blocks.{worked_out}
use Rattle.record.specs.Places.{done, flag, output, size_of, index_of, place_of, at, put, words_of, change}
use Rattle.record.specs.Sound.{in_scan, sound}
use Rattle.steps.specs.Steps.{bits_of, values_of, order, along, steps_from, done_of}
use Rattle.destinations.specs.Destinations.{outputs_of, publish_word}
use Rattle.calls.specs.Calls.{cold_start, warm_start, latch, run, publish, latch_word, is_reading}
use Rattle.calls.specs.Play.{AnyCall, check, on, Moment, moment, reply_to, after, play}

-- ---- a scan that is opened

-- a record of a circuit: of the right length, and sound
abbrev pub Good : List Line → List ℤ → Type 0
Good lines l = (length l ≡ size_of (length lines)) × (sound lines l ≡ true)

-- an accepted circuit, a sound record that waits, a reading that latch takes
pub record CanLatch (s : List ℕ) (c : Circuit) (r : List ℤ) (e : ℤ) (l : List ℤ) : Type 0 where
  pub bytes : Bytes s
  pub is : verdict s ≡ accepted c
  pub good : Good (lines_of c) l
  pub waits : in_scan l ≡ false
  pub reading : is_reading r e ≡ true

-- an accepted publish ends a scan, and so does cold start, the restart that the demand leaves out
abbrev pub ends : List ℕ → AnyCall → Moment → Bool
ends s check m = false
ends s (on cold_start) m = eqb (reply_to s (on cold_start) m).number 0
ends s (on warm_start) m = false
ends s (on (latch r e)) m = false
ends s (on (run c)) m = false
ends s (on (publish k)) m = eqb (reply_to s (on (publish k)) m).number 0

-- the calls of a list before the one that ends the scan
abbrev pub during : List ℕ → List AnyCall → Moment → List AnyCall
during s [] m = []
during s (x ∷ xs) m = cond (ends s x m) [] (x ∷ during s xs (after s x m))

-- that one, and those behind it
abbrev pub behind : List ℕ → List AnyCall → Moment → List AnyCall
behind s [] m = []
behind s (x ∷ xs) m = cond (ends s x m) (x ∷ xs) (behind s xs (after s x m))

-- the first call of a list ends the scan
abbrev pub EndsFirst : List ℕ → List AnyCall → Moment → Type 0
EndsFirst s [] m = Unit {0}
EndsFirst s (x ∷ xs) m = ends s x m ≡ true

-- how many blocks a call asks for, and some calls together
abbrev pub asks : AnyCall → ℕ
asks check = 0
asks (on cold_start) = 0
asks (on warm_start) = 0
asks (on (latch r e)) = 0
asks (on (run c)) = c
asks (on (publish k)) = 0

abbrev pub asked : List AnyCall → ℕ
asked [] = 0
asked (x ∷ xs) = asks x + asked xs

-- every block worked out by its rule, one after the other in the working order, from the latched words
abbrev pub scanned : Circuit → List ℤ → ℤ → List ℤ → List ℤ
scanned c r e l = along (lines_of c) (order (lines_of c)) (change (latch_word r e) l)

-- what these words w are, said without any order; l is the record before the latch
pub record ByTheRules (c : Circuit) (r : List ℤ) (e : ℤ) (l w : List ℤ) : Type 0 where
  pub long : length w ≡ length l
  -- every word that is no block's is as latched: "During a scan M and AM show their old values"
  pub fixed : (i : ℕ) → i < index_of (output 1) → at w i ≡ latch_word r e (place_of i) (at l i)
  -- a block's words are what its rule gives on its inputs in w, on its own words in l, and on e
  pub blocks : (k : ℕ) → 1 ≤ k → k ≤ length (lines_of c)
      → let line = line_at (lines_of c) k in
      words_of w k ≡ worked_out line.kind (bits_of w line) (values_of w line) line.prepared (words_of l k) (ticks (over e))

-- a scan that is closed by a publish of k words
pub record Closed (s : List ℕ) (c : Circuit) (r : List ℤ) (e : ℤ) (before : Moment) (k : ℕ) (end : Moment) : Type 0 where
  -- as latch, one run of everything, publish leave it
  pub one-go : end ≡ (play s (on (latch r e) ∷ on (run (length (lines_of c))) ∷ on (publish k) ∷ []) before).last
  -- and as the rows say: every flag and every output at once
  pub rec : end.rec ≡ change (publish_word c.rows (scanned c r e before.rec)) (scanned c r e before.rec)
  pub outputs : end.outputs ≡ outputs_of c.rows (scanned c r e before.rec) ++ drop k before.outputs

-- now: after the latch and the calls xs, of which none ends the scan
pub record InTurns (s : List ℕ) (c : Circuit) (r : List ℤ) (e : ℤ) (before : Moment) (xs : List AnyCall) (now : Moment) : Type 0 where
  -- the one-go scan, stopped after as many blocks as the runs asked for, or as there are
  pub stopped : now ≡ (play s (on (latch r e) ∷ on (run (asked xs)) ∷ []) before).last
  pub worked : done_of now.rec ≡ min (asked xs) (length (lines_of c))
  -- outputs and flags untouched
  pub outputs : now.outputs ≡ before.outputs
  pub flags : (i : ℕ) → index_of (flag 1) ≤ i → i < index_of (output 1) → at now.rec i ≡ at before.rec i
  -- every word but a block's and blocks done is as latched
  pub fixed : (i : ℕ) → i < index_of (output 1) → (i ≡ index_of done → ⊥) → at now.rec i ≡ latch_word r e (place_of i) (at before.rec i)
  -- a run of m: accepted, works out just the next ones, as many as asked or as remain, and answers so
  pub turn : (m : ℕ)
      → let d = min (asked xs) (length (lines_of c)) in
      let go = length (lines_of c) - d in
      (reply_to s (on (run m)) now ≡ accepted_with (min m go) (go - min m go))
      × (after s (on (run m)) now ≡ moment (put (steps_from (lines_of c) d (min m go) now.rec) done (pos (d + min m go))) now.outputs)
  -- every other call that does not end the scan changes nothing, and so does a run of 0
  pub others : (x : AnyCall) → asks x ≡ 0 → ends s x now ≡ false → after s x now ≡ now
  -- publish is accepted exactly when all blocks are worked out and 28 words are lent
  pub closes : (k : ℕ)
      → ((reply_to s (on (publish k)) now).number ≡ 0) ↔ ((length (lines_of c) ≤ asked xs) × (length (take k before.outputs) ≡ 28))
  pub closed : (k : ℕ) → (reply_to s (on (publish k)) now).number ≡ 0 → Closed s c r e before k (after s (on (publish k)) now)

-- any list of calls at all, played from the latched record: the part of it before the end of the scan; so every earlier moment too
pub record Course (s : List ℕ) (c : Circuit) (r : List ℤ) (e : ℤ) (before : Moment) (xs : List AnyCall) (opened : Moment) : Type 0 where
  pub opens : reply_to s (on (latch r e)) before ≡ accepted_with 0 0
  pub parts : during s xs opened ++ behind s xs opened ≡ xs
  pub in_turns : InTurns s c r e before (during s xs opened) (play s (during s xs opened) opened).last
  pub next : EndsFirst s (behind s xs opened) (play s (during s xs opened) opened).last
