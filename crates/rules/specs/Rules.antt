-- Document 01, "The blocks": what each kind makes of its inputs, its parameters and what it had, on plain values. A bit is true where
-- the paper says 1. `was` is the remembered bit, `q` the output of the last scan. Kinds 17 and 18: document 02, No. 2; kind 10 with its No. 3;
-- the actual value held, and kind 19: its No. 5.
use Rattle.std.specs.Prelude.{ℕ, ◌+◌, ◌-◌, ◌*◌, ◌/◌, ◌%◌, ◌^◌, min, Bool, true, false, not, cond, ◌&&◌, ◌||◌, List, [], ◌∷◌, leb, ltb, eqb, get_or, ℤ, pos, ◌+ℤ◌, ◌-ℤ◌, ◌*ℤ◌}
use Rattle.std.specs.Bool.{beq}
use Rattle.std.specs.Int.Signed.{lt_z, le_z, quot_z}
use Rattle.words.specs.Signed.{word_of}
use Rattle.kinds.specs.Kinds.{Range, sixteen, most_count, parameter}
use Rattle.kinds.specs.Time.{ticks}
use Rattle.kinds.specs.declared.Ticks.{Ticks}
use Rattle.rules.specs.declared.BlockWords.{BlockWords}

-- "three for each block: output, remembered bit, .. number"
abbrev pub three : ℤ → ℤ → ℤ → BlockWords
three output remembered number = record { output = output; remembered = remembered; number = number }

-- a digital block's: Q, what it remembers, its number
abbrev pub gives : Bool → Bool → ℕ → BlockWords
gives q held n = three (word_of q) (word_of held) (pos n)

-- Q alone
abbrev pub shows : Bool → BlockWords
shows q = gives q false 0

-- ---- kinds 1 to 8, on four bits

-- input i, from 0
abbrev pub bit : List Bool → ℕ → Bool
bit b i = get_or b i false

abbrev pub all_of : List Bool → Bool
all_of b = bit b 0 && (bit b 1 && (bit b 2 && bit b 3))

abbrev pub some_of : List Bool → Bool
some_of b = bit b 0 || (bit b 1 || (bit b 2 || bit b 3))

-- 1 AND: "all are 1"
unfoldable pub and_gate : List Bool → BlockWords
and_gate b = shows (all_of b)

-- 2 AND edge: "all are 1 now and were not all 1 last scan"; remembered "all inputs 1 for kinds 2 and 4"
unfoldable pub and_edge : List Bool → Bool → BlockWords
and_edge b was = gives (all_of b && not was) (all_of b) 0

-- 3 NAND: "the opposite" of 1
unfoldable pub nand_gate : List Bool → BlockWords
nand_gate b = shows (not (all_of b))

-- 4 NAND edge: "not all are 1 now and all were 1 last scan"
unfoldable pub nand_edge : List Bool → Bool → BlockWords
nand_edge b was = gives (not (all_of b) && was) (all_of b) 0

-- 5 OR: "some is 1"
unfoldable pub or_gate : List Bool → BlockWords
or_gate b = shows (some_of b)

-- 6 NOR: "the opposite" of 5
unfoldable pub nor_gate : List Bool → BlockWords
nor_gate b = shows (not (some_of b))

-- 7 XOR: "they differ"
unfoldable pub xor_gate : List Bool → BlockWords
xor_gate b = shows (not (beq (bit b 0) (bit b 1)))

-- 8 NOT: "the opposite" of its input
unfoldable pub not_gate : List Bool → BlockWords
not_gate b = shows (not (bit b 0))

-- ---- the delays: Ta the ticks run, T the ticks set, e the ticks since the last latch

-- "Ta = min(T, Ta + e)"
abbrev pub grown : Ticks → Ticks → Ticks → Ticks
grown ta t e = ticks (min t.0 (ta.0 + e.0))

-- "With Trg 1, Q is 1 exactly when Ta = T"; Trg is remembered
abbrev pub runs : Ticks → Ticks → BlockWords
runs ta t = gives (eqb ta.0 t.0) true ta.0

-- 9 on-delay: "Trg 0: Ta = 0, Q = 0. Trg rises: Ta = 0. Trg stays 1: Ta = min(T, Ta + e)."
unfoldable pub on_delay : Bool → Bool → Ticks → Ticks → Ticks → BlockWords
on_delay false was ta t e = gives false false 0
on_delay true false ta t e = runs (ticks 0) t
on_delay true true ta t e = runs (grown ta t e) t

-- "if that is T, Q = 0 and Ta = 0"
abbrev pub fades : Ticks → Ticks → BlockWords
fades ta t = cond (eqb ta.0 t.0) (gives false false 0) (gives true false ta.0)

-- 10 off-delay, on R, Trg, Trg of the last scan and Q of the last scan: "R: Q = 0, Ta = 0. Else Trg 1: .. Ta = 0.", and of Q there, document
-- 02: "Q becomes 1 on a rise only; with Trg still 1 Q stays as it was". "Else, Trg just fell: Ta = 0, Q is 1 exactly when it was 1 and
-- T > 0. Else if Q was 1: Ta = min(T, Ta + e); .. Else no change. Trg is remembered in every case."
unfoldable pub off_delay : Bool → Bool → Bool → Bool → Ticks → Ticks → Ticks → BlockWords
off_delay true trg was q ta t e = gives false trg 0
off_delay false true false q ta t e = gives true true 0
off_delay false true true q ta t e = gives q true 0
off_delay false false true q ta t e = gives (q && ltb 0 t.0) false 0
off_delay false false false true ta t e = fades (grown ta t e) t
off_delay false false false false ta t e = gives false false ta.0

-- ---- the memories

-- 11 latching relay, on R and S: "0 if R, else 1 if S, else as before"
unfoldable pub latching_relay : Bool → Bool → Bool → BlockWords
latching_relay true s q = shows false
latching_relay false true q = shows true
latching_relay false false q = shows q

-- a bit as a digit
abbrev pub digit : Bool → ℕ
digit true = 1
digit false = 0

-- "the register with bit j weighing 2^(j−1)": bit j, 1..8
abbrev pub register_bit : ℕ → ℕ → Bool
register_bit r j = eqb (r / 2 ^ (j - 1) % 2) 1

-- "Dir 0 moves bit 1 to bit 2 and so on, In enters bit 1; Dir 1 moves down, In enters bit 8."
abbrev pub shifted : Bool → Bool → ℕ → ℕ
shifted false input r = (2 * r + digit input) % 256
shifted true input r = r / 2 + 128 * digit input

-- "On a rising Trg"
abbrev pub stepped : Bool → Bool → Bool → ℕ → ℕ
stepped rises down input r = cond rises (shifted down input r) r

-- 12 shift register, on In, Trg, Dir: "that bit after the step"
unfoldable pub shift_register : Bool → Bool → Bool → Bool → ℕ → ℕ → BlockWords
shift_register input trg down was r j =
    let next = stepped (trg && not was) down input r in
    gives (register_bit next j) trg next

-- ---- thresholds: the parameters are A, B, On, Off

-- "(input · A) / 100 with the fraction dropped toward zero, plus B"
unfoldable pub unheld_of : ℤ → ℤ → ℤ → ℤ
unheld_of x a b = quot_z (x *ℤ a) (pos 100) +ℤ b

-- a number "held to" a range: below it the least, above it the greatest
abbrev pub held_to : Range → ℤ → ℤ
held_to r x = cond (lt_z x r.least) r.least (cond (lt_z r.greatest x) r.greatest x)

-- "The actual value is now held to −32,768..32,767 after the offset, before any comparison"
unfoldable pub actual_of : ℤ → ℤ → ℤ → ℤ
actual_of x a b = held_to sixteen (unheld_of x a b)

-- "If On ≥ Off: 1 above On, 0 at or below Off, else as before. If On < Off: 1 exactly when On ≤ value < Off."
unfoldable pub triggers_on : ℤ → ℤ → ℤ → Bool → Bool
triggers_on value on off q =
    cond (le_z off on)
    (cond (lt_z on value) true (cond (le_z value off) false q))
    (le_z on value && lt_z value off)

-- a block that triggers on a value, by its On and Off
abbrev pub triggered : ℤ → List ℤ → Bool → BlockWords
triggered value p q = shows (triggers_on value (parameter p 2) (parameter p 3) q)

-- 13 analog threshold trigger: "on actual Ax"
unfoldable pub threshold_trigger : ℤ → List ℤ → Bool → BlockWords
threshold_trigger ax p q = triggered (actual_of ax (parameter p 0) (parameter p 1)) p q

-- 14 comparator: "on actual Ax minus actual Ay"; "subtracts two held values"
unfoldable pub compared : ℤ → ℤ → List ℤ → Bool → BlockWords
compared ax ay p q =
    triggered (actual_of ax (parameter p 0) (parameter p 1) -ℤ actual_of ay (parameter p 0) (parameter p 1)) p q

-- 15 multiplexer, on En, S1, S2: "0 if En is 0, else V(1 + 2·S1 + S2)"; V1 is the first parameter
unfoldable pub multiplexed : Bool → Bool → Bool → List ℤ → BlockWords
multiplexed en s1 s2 p = three (cond en (parameter p (2 * digit s1 + digit s2)) (pos 0)) (pos 0) (pos 0)

-- 16 differential trigger: "as 13, Off = On + Δ": of A, B, On, Δ the parameters of 13
abbrev pub with_off : List ℤ → List ℤ
with_off p = parameter p 0 ∷ parameter p 1 ∷ parameter p 2 ∷ (parameter p 2 +ℤ parameter p 3) ∷ []

-- 19 analog amplifier: "its output is the actual value"; the parameters are A, B
unfoldable pub amplified : ℤ → List ℤ → BlockWords
amplified ax p = three (actual_of ax (parameter p 0) (parameter p 1)) (pos 0) (pos 0)

-- ---- the counter

-- "R sets the count to 0; otherwise a rising Cnt adds 1, or takes 1 with Dir 1, and stops at 0 and 999,999": on R, whether Cnt rises, Dir
abbrev pub tally : Bool → Bool → Bool → ℕ → ℕ
tally true rises down n = 0
tally false false down n = n
tally false true false n = min most_count (n + 1)
tally false true true n = n - 1

-- "With On ≥ Off, Q is 1 from On up, 0 below Off, else held; with On < Off, Q is 1 for On ≤ count < Off."
unfoldable pub counts_on : ℤ → ℤ → ℤ → Bool → Bool
counts_on count on off q =
    cond (le_z off on)
    (cond (le_z on count) true (cond (lt_z count off) false q))
    (le_z on count && lt_z count off)

-- 17 up/down counter, on R, Cnt, Dir; the parameters are On, Off. Q by the count after the step; "Remembered: Cnt, under R too"
unfoldable pub up_down_counter : Bool → Bool → Bool → Bool → Bool → ℕ → List ℤ → BlockWords
up_down_counter r cnt down was q n p =
    let next = tally r (cnt && not was) down n in
    gives (counts_on (pos next) (parameter p 0) (parameter p 1) q) cnt next

-- ---- the stairway switch: Ta, T and e as for the delays; `warning` is T!, `dark` is T!L

-- "Trg, plus 2 while running"
abbrev pub trg_and_running : Bool → Bool → ℤ
trg_and_running trg running = pos (digit trg + 2 * digit running)

-- its words: Q, Trg, whether it runs, Ta
abbrev pub stands : Bool → Bool → Bool → ℕ → BlockWords
stands q trg running n = three (word_of q) (trg_and_running trg running) (pos n)

-- "from the fall on 0 while T − T! ≤ Ta < T − T! + T!L"
abbrev pub is_dark : Ticks → Ticks → Ticks → Ticks → Bool
is_dark ta t warning dark = leb (t.0 - warning.0) ta.0 && ltb ta.0 (t.0 - warning.0 + dark.0)

-- running, with Trg 0: at T "it ends"; before it Q is 1, but for the dark time
abbrev pub dims : Ticks → Ticks → Ticks → Ticks → BlockWords
dims ta t warning dark =
    cond (eqb ta.0 t.0) (stands false false false 0) (stands (not (is_dark ta t warning dark)) false true ta.0)

-- 18 stairway switch, on Trg, Trg of the last scan, whether it ran: "a rising Trg starts it, Ta is 0 while Trg is 1 and on the fall, then
-- grows by e up to T, where, on the fall too, it ends. Not running, Q and Ta are 0. Running, Q is 1", but for the dark time
unfoldable pub stairway_switch : Bool → Bool → Bool → Ticks → Ticks → Ticks → Ticks → Ticks → BlockWords
stairway_switch true false ran ta t warning dark e = stands true true true 0
stairway_switch true true ran ta t warning dark e = stands ran true ran 0
stairway_switch false was false ta t warning dark e = stands false false false 0
stairway_switch false true true ta t warning dark e = dims (ticks 0) t warning dark
stairway_switch false false true ta t warning dark e = dims (grown ta t e) t warning dark
