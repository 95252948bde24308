-- Document 02, No. 2: "While no scan has R or is held at a stop, and without a warm start, the count equals rises counted up less rises
-- counted down since cold start." Over `play`, so over what the contracts of the calls say, whatever is called and however a scan is cut
-- into turns.
use Rattle.std.specs.Prelude.{ℕ, ◌+◌, ◌≤◌, ◌≡◌, ◌↔◌, Bool, true, false, cond, not, ◌&&◌, List, [], ◌∷◌, eqb, length, take, pos, ◌-ℤ◌}
use Rattle.kinds.specs.Kinds.{most_count}
use Rattle.rules.specs.Rules.{bit, digit, tally}
use Rattle.decoding.specs.Decoded.{Circuit}
use Rattle.circuit.specs.Circuit.{verdict, accepted}
use Rattle.kept.specs.Keeps.{All, Bytes}
use Rattle.lines.specs.Lines.{Line, lines_of, line_at}
use Rattle.record.specs.Places.{number, word}
use Rattle.record.specs.Sound.{in_scan}
use Rattle.steps.specs.Steps.{bits_of}
use Rattle.calls.specs.Calls.{cold_start, warm_start, latch, run, publish}
use Rattle.calls.specs.Play.{AnyCall, check, on, Moment, reply_to, after, play}

-- ---- what a block has seen

-- an accepted publish closes a scan
abbrev pub closes : List ℕ → AnyCall → Moment → Bool
closes s check m = false
closes s (on cold_start) m = false
closes s (on warm_start) m = false
closes s (on (latch r e)) m = false
closes s (on (run c)) m = false
closes s (on (publish k)) m = eqb (reply_to s (on (publish k)) m).number 0

-- a block's digital inputs in each scan that a list of calls closes, as they stand when it is closed
abbrev pub seen : List ℕ → Line → List AnyCall → Moment → List (List Bool)
seen s line [] m = []
seen s line (x ∷ xs) m =
    let rest = seen s line xs (after s x m) in
    cond (closes s x m) (bits_of m.rec line ∷ rest) rest

-- ---- the rises: the inputs are R, Cnt, Dir; `was` are those of the scan before, none before the first

-- Cnt rises
abbrev pub rises : List Bool → List Bool → Bool
rises was b = bit b 1 && not (bit was 1)

-- counted up, with Dir 0
abbrev pub ups : List Bool → List (List Bool) → ℕ
ups was [] = 0
ups was (b ∷ bs) = digit (rises was b && not (bit b 2)) + ups b bs

-- counted down, with Dir 1
abbrev pub downs : List Bool → List (List Bool) → ℕ
downs was [] = 0
downs was (b ∷ bs) = digit (rises was b && bit b 2) + downs b bs

-- the count behind some scans, by the rule
abbrev pub count_behind : ℕ → List Bool → List (List Bool) → ℕ
count_behind n was [] = n
count_behind n was (b ∷ bs) = count_behind (tally (bit b 0) (rises was b) (bit b 2) n) b bs

-- ---- what is left out

-- a stop holds a rise back, up at 999,999, down at 0: on whether Cnt rises, Dir
abbrev pub held_back : Bool → Bool → ℕ → Bool
held_back false down n = false
held_back true false n = eqb n most_count
held_back true true n = eqb n 0

-- "no scan has R or is held at a stop"; n is the count before the first of them
abbrev pub Free : ℕ → List Bool → List (List Bool) → Type 0
Free n was [] = Unit {0}
Free n was (b ∷ bs) =
    (bit b 0 ≡ false) × (held_back (rises was b) (bit b 2) n ≡ false) × Free (tally false (rises was b) (bit b 2) n) b bs

abbrev pub is_start : AnyCall → Bool
is_start check = false
is_start (on cold_start) = true
is_start (on warm_start) = true
is_start (on (latch r e)) = false
is_start (on (run c)) = false
is_start (on (publish k)) = false

-- no start among the calls is accepted: "without a warm start", "since cold start"
abbrev pub NoStart : List ℕ → List AnyCall → Moment → Type 0
NoStart s [] m = Unit {0}
NoStart s (x ∷ xs) m = (is_start x ≡ true → (reply_to s x m).number ≡ 0 → ⊥) × NoStart s xs (after s x m)

-- ---- the statement

-- kind 17
abbrev pub counter : ℕ
counter = 17

-- block k of an accepted circuit is a counter
pub record IsCounter (s : List ℕ) (c : Circuit) (k : ℕ) : Type 0 where
  pub bytes : Bytes s
  pub is : verdict s ≡ accepted c
  pub low : 1 ≤ k
  pub high : k ≤ length (lines_of c)
  pub is-counter : (line_at (lines_of c) k).kind ≡ counter

-- behind an accepted cold start any calls are made, and the record waits
pub record Counts (s : List ℕ) (c : Circuit) (k : ℕ) (start : Moment) (xs : List AnyCall) : Type 0 where
  pub block : IsCounter s c k
  pub no_start : NoStart s xs start
  pub waits : in_scan (play s xs start).last.rec ≡ false

-- the count is what the rule makes of the inputs seen, scan after scan from 0 on, R and stops included
abbrev pub CountIsTally : Type 0
CountIsTally =
    (s : List ℕ) (c : Circuit) (k : ℕ) (before : Moment) (xs : List AnyCall) → (reply_to s (on cold_start) before).number ≡ 0
    → let start = after s (on cold_start) before in
    Counts s c k start xs
    → word (play s xs start).last.rec (number k) ≡ pos (count_behind 0 [] (seen s (line_at (lines_of c) k) xs start))

abbrev pub CountIsRises : Type 0
CountIsRises =
    (s : List ℕ) (c : Circuit) (k : ℕ) (before : Moment) (xs : List AnyCall) → (reply_to s (on cold_start) before).number ≡ 0
    → let start = after s (on cold_start) before in
    Counts s c k start xs
    → let bits = seen s (line_at (lines_of c) k) xs start in
    Free 0 [] bits
    → word (play s xs start).last.rec (number k) ≡ pos (ups [] bits) -ℤ pos (downs [] bits)

-- ---- what is left out, said without the count

-- behind every scan the rises up less the rises down lie in 0..999,999
abbrev pub InReach : List Bool → List (List Bool) → Type 0
InReach was bits =
    (j : ℕ)
    → let first = take j bits in
    (downs was first ≤ ups was first) × (ups was first ≤ most_count + downs was first)

-- since cold start, no scan has R or is held at a stop exactly when none has R and the difference stays in reach
abbrev pub FreeExactly : Type 0
FreeExactly = (was : List Bool) (bits : List (List Bool)) → Free 0 was bits ↔ (All (λ b. bit b 0 ≡ false) bits × InReach was bits)
