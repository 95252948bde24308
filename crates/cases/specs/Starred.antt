-- Document 01, "Cases (starred: proved)": the eleven starred cases as one table, and behind them eight rows for document 02, worked out by
-- hand: kinds 17 and 18, the off-delay with Trg held, actual values held and kind 19. A row says what is played, with `play` of
-- crates/calls, and what must come out; `starred` is the theorem that it does.
use Rattle.std.specs.Prelude.{ℕ, ◌-◌, ◌≡◌, List, [], ◌∷◌, ◌++◌, map, length, replicate, ℤ, pos}
use Rattle.std.proofs.Math.Option.{none}
use Rattle.words.specs.Signed.{minus}
use Rattle.rules.specs.Rules.{actual_of}
use Rattle.refusals.specs.Answers.{refused_at, accepted_with}
use Rattle.refusals.specs.declared.Answer.{Answer}
use Rattle.connectors.specs.Connectors.{Connector}
use Rattle.decoding.specs.Decoded.{Block, Row}
use Rattle.kept.specs.Keeps.{All, encode}
use Rattle.lines.specs.Lines.{unused}
use Rattle.record.specs.Places.{Place, done, analog, flag, output, remembered, number, size_of, at, word, put, analog_flag}
use Rattle.destinations.specs.Destinations.{Q, M, AQ, AM}
use Rattle.calls.specs.Calls.{cold_start, warm_start, latch, run, publish}
use Rattle.calls.specs.Play.{AnyCall, check, on, Moment, moment, play}

-- ---- what a case is

-- what comes out of a group of calls: the answer to each, and the words that are watched, as the last call leaves them
pub record Seen : Type 0 where
  pub replies : List Answer
  pub words : List ℤ

abbrev pub seen : List Answer → List ℤ → Seen
seen replies words = record { replies = replies; words = words }

pub record Case : Type 0 where
  pub circuit : List ℕ
  -- the record and the output words before the first call
  pub from : Moment
  -- the calls, one group after the other
  pub played : List (List AnyCall)
  -- the words that are looked at
  pub watched : Moment → List ℤ
  -- what must come out of each group
  pub out : List Seen

-- what comes out of each group, from a moment on
abbrev pub seen_over : List ℕ → (Moment → List ℤ) → List (List AnyCall) → Moment → List Seen
seen_over s watched [] m = []
seen_over s watched (calls ∷ groups) m =
    let p = play s calls m in
    seen p.replies (watched p.last) ∷ seen_over s watched groups p.last

abbrev pub comes_out : Case → List Seen
comes_out c = seen_over c.circuit c.watched c.played c.from

-- each case of each row comes out as it must
abbrev pub AllComeOut : List (List Case) → Type 0
AllComeOut rows = All (λ row. map comes_out row ≡ map (λ c. c.out) row) rows

-- ---- circuits

-- the 34 bytes; the first connector's class and number are free to choose
abbrev and_from : ℕ → ℕ → List ℕ
and_from class number =
    0x01 ∷ 0x00 ∷ 0x03 ∷ 0x01 ∷ 0x00 ∷ 0x01
    ∷ 0x10 ∷ 0x00 ∷ 0x0E ∷ 0x01 ∷ 0x00 ∷ class ∷ 0x00 ∷ number ∷ 0x01 ∷ 0x00 ∷ 0x02 ∷ 0x00 ∷ 0x00 ∷ 0x00 ∷ 0x00 ∷ 0x00 ∷ 0x00
    ∷ 0x30 ∷ 0x00 ∷ 0x05 ∷ 0x01 ∷ 0x01 ∷ 0x06 ∷ 0x00 ∷ 0x01
    ∷ 0x7F ∷ 0x00 ∷ 0x00
    ∷ []

-- connectors, by their classes
abbrev from_i : ℕ → Connector
from_i n = record { class = 1; number = n }

abbrev from_m : ℕ → Connector
from_m n = record { class = 4; number = n }

abbrev from_block : ℕ → Connector
from_block n = record { class = 6; number = n }

abbrev from_analog : ℕ → Connector
from_analog n = record { class = 7; number = n }

abbrev from_am : ℕ → Connector
from_am n = record { class = 8; number = n }

abbrev from_analog_block : ℕ → Connector
from_analog_block n = record { class = 9; number = n }

-- a row, by its destination
abbrev to : ℕ → ℕ → Connector → Row
to class number from = record { class = class; number = number; from = from }

-- a block, by its kind, its inputs and its parameters
abbrev block_of : ℕ → List Connector → List ℤ → Block
block_of kind inputs parameters = record { kind = kind; option = 0; inputs = inputs; parameters = parameters; label = none }

-- the same block, retentive
abbrev retentive : Block → Block
retentive b = record { kind = b.kind; option = 1; inputs = b.inputs; parameters = b.parameters; label = b.label }

-- the bytes of one block with the row Q1 from it
abbrev on_q1 : Block → List ℕ
on_q1 b = encode (record { version = 1; n = 1; blocks = b ∷ []; rows = to Q 1 (from_block 1) ∷ [] })

-- Trg I1, this R; base 0, T 3
abbrev off_delay_with : Connector → Block
off_delay_with r = block_of 10 (from_i 1 ∷ r ∷ []) (pos 0 ∷ pos 3 ∷ [])

abbrev off_delay : Block
off_delay = off_delay_with unused

-- Trg I1; base 0, T 0
abbrev on_delay : Block
on_delay = block_of 9 (from_i 1 ∷ []) (pos 0 ∷ pos 0 ∷ [])

abbrev and_edge : Block
and_edge = block_of 2 (unused ∷ unused ∷ unused ∷ unused ∷ []) []

-- a threshold trigger with a window: as On −3 is below Off −2, it is 1 exactly when −3 ≤ value < −2, for −3 alone
abbrev at_minus3 : Block
at_minus3 = block_of 13 (from_analog 1 ∷ []) (minus 33 ∷ pos 0 ∷ minus 3 ∷ minus 2 ∷ [])

-- a threshold trigger whose value is its input, as A is 100 hundredths and B 0; On = Off = 5
abbrev above5 : Block
above5 = block_of 13 (from_analog 1 ∷ []) (pos 100 ∷ pos 0 ∷ pos 5 ∷ pos 5 ∷ [])

-- In I1, Trg I2, Dir I3; index 1, bit 1
abbrev register : Block
register = block_of 12 (from_i 1 ∷ from_i 2 ∷ from_i 3 ∷ []) (pos 1 ∷ pos 1 ∷ [])

-- R I1, Cnt I2, Dir I3; On = Off = 5
abbrev from5 : Block
from5 = block_of 17 (from_i 1 ∷ from_i 2 ∷ from_i 3 ∷ []) (pos 5 ∷ pos 5 ∷ [])

-- Trg I1; base 0, T 6, T! 3, T!L 2
abbrev stairs : Block
stairs = block_of 18 (from_i 1 ∷ []) (pos 0 ∷ pos 6 ∷ pos 3 ∷ pos 2 ∷ [])

-- an amplifier, by Ax, A and B
abbrev amplifier : Connector → ℤ → ℤ → Block
amplifier ax a b = block_of 19 (ax ∷ []) (a ∷ b ∷ [])

-- AI1 times 10, and a block behind it; the row AQ1 from this one
abbrev behind_times10 : Block → List ℕ
behind_times10 b =
    encode (record { version = 1; n = 2; blocks = amplifier (from_analog 1) (pos 1000) (pos 0) ∷ b ∷ []; rows = to AQ 1 (from_analog_block 2) ∷ [] })

-- an amplifier of AM1 whose output AM1 becomes
abbrev round_am1 : ℤ → ℤ → List ℕ
round_am1 a b = encode (record { version = 1; n = 1; blocks = amplifier (from_am 1) a b ∷ []; rows = to AM 1 (from_analog_block 1) ∷ [] })

-- on 10 times AM1 minus 10 times AM2, and on 10 times AM1 with Off = On + Δ
abbrev comparator_on : ℤ → ℤ → Block
comparator_on on' off' = block_of 14 (from_am 1 ∷ from_am 2 ∷ []) (pos 1000 ∷ pos 0 ∷ on' ∷ off' ∷ [])

abbrev differential_on : ℤ → ℤ → Block
differential_on on' delta = block_of 16 (from_am 1 ∷ []) (pos 1000 ∷ pos 0 ∷ on' ∷ delta ∷ [])

-- no block; the rows M1 from M2 and M2 from M1
abbrev exchange : List ℕ
exchange = encode (record { version = 1; n = 0; blocks = []; rows = to M 1 (from_m 2) ∷ to M 2 (from_m 1) ∷ [] })

-- ---- calls, and what comes out of them

-- a record for n blocks and the output words, x everywhere
abbrev filled : ℕ → ℕ → Moment
filled n x = moment (replicate (size_of n) (pos x)) (replicate 28 (pos x))

-- with another word at a place of the record
abbrev but : Moment → Place → ℕ → Moment
but m p x = moment (put m.rec p (pos x)) m.outputs

-- one block that had Q q, with these numbers in AM1 and AM2
abbrev with_am : ℤ → ℤ → ℕ → Moment
with_am x y q =
    let m = but (filled 1 0) (output 1) q in
    moment (put (put m.rec (analog_flag 1) x) (analog_flag 2) y) m.outputs

-- one block in a scan with d blocks done: its three words 0, all others 1
abbrev in_scan : ℕ → Moment
in_scan d = but (but (but (but (filled 1 1) done d) (output 1) 0) (remembered 1) 0) (number 1) 0

-- 32 input words: I1, I2, .. and the analog ones from the first on; those that are not said are 0
abbrev reading : List ℕ → List ℕ → List ℤ
reading bits values =
    map pos bits ++ (replicate (24 - length bits) (pos 0) ++ (map pos values ++ replicate (8 - length values) (pos 0)))

abbrev bit : ℕ → List ℤ
bit b = reading (b ∷ []) []

abbrev value : ℕ → List ℤ
value x = reading [] (x ∷ [])

-- a scan of at most one block
abbrev scan : ℕ → List ℤ → List AnyCall
scan e r = on (latch r (pos e)) ∷ on (run 1) ∷ on (publish 28) ∷ []

-- a scan of n blocks was accepted and left these words
abbrev scanned : ℕ → List ℤ → Seen
scanned n words = seen (accepted_with 0 0 ∷ accepted_with n 0 ∷ accepted_with 0 0 ∷ []) words

-- all words
abbrev whole : Moment → List ℤ
whole m = m.rec ++ m.outputs

abbrev q1 : Moment → List ℤ
q1 m = at m.outputs 0 ∷ []

-- Q1, and the actual value of the first analog input at gain −33 and B 0
abbrev actual : Moment → List ℤ
actual m = at m.outputs 0 ∷ actual_of (word m.rec (analog 1)) (minus 33) (pos 0) ∷ []

abbrev aq1 : Moment → List ℤ
aq1 m = at m.outputs 20 ∷ []

abbrev am1 : Moment → List ℤ
am1 m = word m.rec (analog_flag 1) ∷ []

abbrev number_of1 : Moment → List ℤ
number_of1 m = word m.rec (number 1) ∷ []

abbrev q1_and_number : Moment → List ℤ
q1_and_number m = q1 m ++ number_of1 m

abbrev flags : Moment → List ℤ
flags m = word m.rec (flag 1) ∷ word m.rec (flag 2) ∷ []

-- ---- the cases

-- check
abbrev checked : List ℕ → Answer → Case
checked s answer =
    record { circuit = s; from = moment [] []; played = (check ∷ []) ∷ []; watched = whole; out = seen (answer ∷ []) [] ∷ [] }

-- Q1 over scans, each e ticks after the one before, from a cold start on, which leaves it as it was
abbrev q1_over : Block → ℕ → List (List ℤ) → List ℕ → Case
q1_over b e readings q =
    record {
      circuit = on_q1 b;
      from = filled 1 1;
      played = (on cold_start ∷ []) ∷ map (scan e) readings;
      watched = q1;
      out = seen (accepted_with 0 0 ∷ []) (pos 1 ∷ []) ∷ map (λ x. scanned 1 (pos x ∷ [])) q;
    }

-- readings of an off-delay, Trg I1 and R I2: Trg alone, both, neither
abbrev pressed : List ℤ
pressed = reading (1 ∷ 0 ∷ []) []

abbrev under_r : List ℤ
under_r = reading (1 ∷ 1 ∷ []) []

abbrev let_go : List ℤ
let_go = reading (0 ∷ 0 ∷ []) []

-- Q1 of an off-delay that is set and reset, then started warm, Trg held all the while
abbrev held_through_start : Block → ℕ → Case
held_through_start b q =
    let started = accepted_with 0 0 ∷ [] in
    record {
      circuit = on_q1 b;
      from = filled 1 1;
      played = (on cold_start ∷ []) ∷ scan 1 pressed ∷ scan 1 under_r ∷ (on warm_start ∷ []) ∷ scan 1 pressed ∷ [];
      watched = q1;
      out = seen started (pos 1 ∷ []) ∷ scanned 1 (pos 1 ∷ []) ∷ scanned 1 (pos 0 ∷ []) ∷ seen started (pos 0 ∷ []) ∷ scanned 1 (pos q ∷ []) ∷ [];
    }

-- a single scan
abbrev once : Block → Moment → List ℤ → (Moment → List ℤ) → List ℤ → Case
once b from r watched words =
    record { circuit = on_q1 b; from = from; played = scan 0 r ∷ []; watched = watched; out = scanned 1 words ∷ [] }

-- the register, which holds 128
abbrev shifted : List ℕ → ℕ → Case
shifted bits next = once register (but (filled 1 0) (number 1) 128) (reading bits []) number_of1 (pos next ∷ [])

-- the counter, which holds n and had Q q; Cnt rises
abbrev counted : ℕ → ℕ → ℕ → ℕ → ℕ → Case
counted n q dir next q' =
    once from5 (but (but (filled 1 0) (number 1) n) (output 1) q) (reading (0 ∷ 1 ∷ dir ∷ []) []) q1_and_number (pos q' ∷ pos next ∷ [])

-- AQ1 of two blocks behind one another, by AI1
abbrev levelled : Block → List ℕ → List ℤ → Case
levelled b levels aq =
    record {
      circuit = behind_times10 b;
      from = filled 2 0;
      played = map (λ x. on (latch (value x) (pos 0)) ∷ on (run 2) ∷ on (publish 28) ∷ []) levels;
      watched = aq1;
      out = map (λ x. scanned 2 (x ∷ [])) aq;
    }

-- AM1 scan after scan, from a cold start on
abbrev goes_round : ℤ → ℤ → List ℤ → Case
goes_round a b am =
    record {
      circuit = round_am1 a b;
      from = filled 1 0;
      played = (on cold_start ∷ []) ∷ map (λ x. scan 0 (value 0)) am;
      watched = am1;
      out = seen (accepted_with 0 0 ∷ []) (pos 0 ∷ []) ∷ map (λ x. scanned 1 (x ∷ [])) am;
    }

-- Q1 of a block that had Q q, by AM1 and AM2
abbrev judged : Block → ℤ → ℤ → ℕ → ℕ → Case
judged b x y q q' = once b (with_am x y q) (value 0) q1 (pos q' ∷ [])

-- a run of 0 blocks in a scan with d blocks done
abbrev run0 : ℕ → ℕ → Case
run0 d to_go =
    record {
      circuit = and_from 0x01 0x01;
      from = in_scan d;
      played = (on (run 0) ∷ []) ∷ [];
      watched = whole;
      out = seen (accepted_with 0 to_go ∷ []) (whole (in_scan d)) ∷ [];
    }

-- a row for each starred line, in the paper's order, then those of document 02: the cases that the line names
unfoldable pub table : List (List Case)
table =
    -- "Empty circuit: 1 at 0."
    (checked [] (refused_at 1 0) ∷ [])
    -- "`01 0003 01 0001 10 000E 01 00 01 0001 .. 7F 0000` (34 bytes): the program prints `0 0 1 1`."
    ∷ (checked (and_from 0x01 0x01) (accepted_with 1 1) ∷ [])
    -- "The same with its first connector `06 0001`: 7 at 6; with `06 0002`: 6 at 6."
    ∷ (checked (and_from 0x06 0x01) (refused_at 7 6) ∷ checked (and_from 0x06 0x02) (refused_at 6 6) ∷ [])
    -- "Off-delay, T 3 ticks, Trg 1 then 0, 0, 0 with e 2: Q 1, 1, 1, 0."
    ∷ (q1_over off_delay 2 (map bit (1 ∷ 0 ∷ 0 ∷ 0 ∷ [])) (1 ∷ 1 ∷ 1 ∷ 0 ∷ []) ∷ [])
    -- "On-delay, T 0: Q follows Trg at once."
    ∷ (q1_over on_delay 3 (map bit (0 ∷ 1 ∷ 1 ∷ 0 ∷ [])) (0 ∷ 1 ∷ 1 ∷ 0 ∷ []) ∷ [])
    -- "AND edge, four unused, after cold start: 1, then 0."
    ∷ (q1_over and_edge 0 (map bit (0 ∷ 0 ∷ [])) (1 ∷ 0 ∷ []) ∷ [])
    -- "Gain −33, input 10, B 0: −3."
    ∷ (once at_minus3 (filled 1 0) (value 10) actual (pos 1 ∷ minus 3 ∷ []) ∷ [])
    -- "On = Off = 5: 5 gives 0, 6 gives 1."
    ∷ (q1_over above5 0 (map value (5 ∷ 6 ∷ 6 ∷ 5 ∷ [])) (0 ∷ 1 ∷ 1 ∷ 0 ∷ []) ∷ [])
    -- "Register 128, In 1, shift up: 1; shift down: 192."
    ∷ (shifted (1 ∷ 1 ∷ 0 ∷ []) 1 ∷ shifted (1 ∷ 1 ∷ 1 ∷ []) 192 ∷ [])
    -- "Rows M1 from M2 and M2 from M1: the two exchange."
    ∷ (record {
      circuit = exchange;
      from = but (filled 0 0) (flag 1) 1;
      played = scan 0 (bit 0) ∷ scan 0 (bit 0) ∷ [];
      watched = flags;
      out = scanned 0 (pos 0 ∷ pos 1 ∷ []) ∷ scanned 0 (pos 1 ∷ pos 0 ∷ []) ∷ [];
    }
    ∷ [])
    -- "Run of 0 blocks in a scan: nothing changes; answer 0, 0, 0 and the blocks to go."
    ∷ (run0 0 1 ∷ run0 1 0 ∷ [])
    -- document 02, No. 2. Counter, On = Off = 5: from 4 up to 5 gives 1, from 5 down to 4 gives 0.
    ∷ (counted 4 0 0 5 1 ∷ counted 5 1 1 4 0 ∷ [])
    -- Stairway switch, T 6, T! 3, T!L 2, e 1, Trg 1, 1, 0, 0, ..: Q 1 1 1 1 1 0 0 1 0.
    ∷ (q1_over stairs 1 (map bit (1 ∷ 1 ∷ 0 ∷ 0 ∷ 0 ∷ 0 ∷ 0 ∷ 0 ∷ 0 ∷ [])) (1 ∷ 1 ∷ 1 ∷ 1 ∷ 1 ∷ 0 ∷ 0 ∷ 1 ∷ 0 ∷ []) ∷ [])
    -- No. 3. Off-delay, Trg held through R and after it: Q 1, 0, 0, 0, and 1 again when it was let go and pressed; pressed under R: likewise.
    ∷ (q1_over (off_delay_with (from_i 2)) 1 (pressed ∷ under_r ∷ pressed ∷ pressed ∷ let_go ∷ pressed ∷ []) (1 ∷ 0 ∷ 0 ∷ 0 ∷ 0 ∷ 1 ∷ [])
    ∷ q1_over (off_delay_with (from_i 2)) 1 (under_r ∷ pressed ∷ let_go ∷ pressed ∷ pressed ∷ []) (0 ∷ 0 ∷ 0 ∷ 1 ∷ 1 ∷ [])
    ∷ [])
    -- Trg held through a start: a rise to an off-delay that is not retentive, none to one that is; where R is M8 it is used up.
    ∷ (held_through_start (off_delay_with (from_i 2)) 1
    ∷ held_through_start (retentive (off_delay_with (from_i 2))) 0
    ∷ q1_over (off_delay_with (from_m 8)) 1 (pressed ∷ pressed ∷ let_go ∷ pressed ∷ []) (0 ∷ 0 ∷ 0 ∷ 1 ∷ [])
    ∷ [])
    -- No. 5. A level of 300 and of 1000, times 10, times 10: 30,000, and 32,767 where 100,000 was; with −10 and B 100 at the second: −29,900
    -- and −32,768.
    ∷ (levelled (amplifier (from_analog_block 1) (pos 1000) (pos 0)) (300 ∷ 1000 ∷ 300 ∷ []) (pos 30000 ∷ pos 32767 ∷ pos 30000 ∷ [])
    ∷ levelled (amplifier (from_analog_block 1) (minus 1000) (pos 100)) (300 ∷ 1000 ∷ []) (minus 29900 ∷ minus 32768 ∷ [])
    ∷ [])
    -- An amplifier that reads itself through AM1: 10 · x + 5, and −10 · x + 4, which goes from one end to the other.
    ∷ (goes_round (pos 1000) (pos 5) (pos 5 ∷ pos 55 ∷ pos 555 ∷ pos 5555 ∷ pos 32767 ∷ pos 32767 ∷ [])
    ∷ goes_round (minus 1000) (pos 4) (pos 4 ∷ minus 36 ∷ pos 364 ∷ minus 3636 ∷ pos 32767 ∷ minus 32768 ∷ pos 32767 ∷ [])
    ∷ [])
    -- Comparator at both ends: 32,767 − 30,000 is 2767, and −32,768 + 30,000 is −2768, each in a window of its own. Differential trigger:
    -- 32,767 is from On 20,000 to below Off 35,000; −32,768 is not at or below Off −35,000, so Q stays 1.
    ∷ (judged (comparator_on (pos 2767) (pos 2768)) (pos 32767) (pos 3000) 0 1
    ∷ judged (comparator_on (minus 2768) (minus 2767)) (minus 32768) (minus 3000) 0 1
    ∷ judged (differential_on (pos 20000) (pos 15000)) (pos 32767) (pos 0) 0 1
    ∷ judged (differential_on (minus 20000) (minus 15000)) (minus 32768) (pos 0) 1 1
    ∷ [])
    -- An amplifier is named by class 9, and not by class 6.
    ∷ (checked (behind_times10 (amplifier (from_analog_block 1) (pos 100) (pos 0))) (accepted_with 2 1)
    ∷ checked (behind_times10 (block_of 8 (from_block 1 ∷ []) [])) (refused_at 6 22)
    ∷ [])
    ∷ []
