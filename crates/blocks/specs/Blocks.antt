-- One dispatch by kind: what a block's three words become, from its resolved inputs, its prepared parameters, its three words and e.
use Rattle.std.specs.Prelude.{ℕ, Bool, cond, ◌||◌, List, [], ◌∷◌, leb, eqb, get_or, ℤ, pos}
use Rattle.words.specs.Signed.{over, bit_of}
use Rattle.kinds.specs.Time.{ticks, setting_of, ticks_of}
use Rattle.kinds.specs.Kinds.{kind_of, parameter}
use Rattle.kinds.specs.declared.Ticks.{Ticks}
use Rattle.rules.specs.Rules.{three, bit, and_gate, and_edge, nand_gate, nand_edge, or_gate, nor_gate, xor_gate, not_gate, on_delay, off_delay, latching_relay, shift_register, threshold_trigger, compared, multiplexed, with_off, amplified, up_down_counter, stairway_switch}
use Rattle.rules.specs.declared.BlockWords.{BlockWords}
use Rattle.blocks.specs.declared.Prepared.{Prepared}

-- ---- parameters made ready: the settings in ticks, Off worked out

-- the ticks of setting j, from 1, of a kind with n settings; 0 where it has not so many
abbrev pub time_of : ℕ → ℕ → List ℤ → Ticks
time_of n j p = cond (leb j n) (ticks_of (setting_of (parameter p 0) (parameter p j))) (ticks 0)

-- the parameters of a block as its rule takes them: T, T!, T!L, and all; kind 16 is then worked out as 13
unfoldable pub prepared : ℕ → List ℤ → Prepared
prepared kind p =
    let n = (kind_of kind).times in
    record { time = time_of n 1 p; warning = time_of n 2 p; dark = time_of n 3 p; params = cond (eqb kind 16) (with_off p) p }

-- ---- a block's three words, as the rules read them

-- "all inputs 1 for kinds 2 and 4; Trg for 9, 10, 12"; Cnt for 17
abbrev pub was_bit : BlockWords → Bool
was_bit was = bit_of was.remembered

-- Q of the last scan
abbrev pub was_on : BlockWords → Bool
was_on was = bit_of was.output

-- kind 18: "Trg, plus 2 while running"
abbrev pub was_pressed : BlockWords → Bool
was_pressed was = eqb (over was.remembered) 1 || eqb (over was.remembered) 3

abbrev pub was_running : BlockWords → Bool
was_running was = leb 2 (over was.remembered)

-- Ta, the register, or the count
abbrev pub was_number : BlockWords → ℕ
was_number was = over was.number

-- ---- the dispatch

abbrev pub Rule : Type 0
Rule = List Bool → List ℤ → Prepared → BlockWords → Ticks → BlockWords

-- no block has such a kind
abbrev pub idle : Rule
idle b a p was e = three (pos 0) (pos 0) (pos 0)

-- by kind, from 0; b the digital inputs, a the analog ones
unfoldable pub rules : List Rule
rules =
    idle  -- no kind
    ∷ (λ b a p was e. and_gate b)  -- 1 AND
    ∷ (λ b a p was e. and_edge b (was_bit was))  -- 2 AND edge
    ∷ (λ b a p was e. nand_gate b)  -- 3 NAND
    ∷ (λ b a p was e. nand_edge b (was_bit was))  -- 4 NAND edge
    ∷ (λ b a p was e. or_gate b)  -- 5 OR
    ∷ (λ b a p was e. nor_gate b)  -- 6 NOR
    ∷ (λ b a p was e. xor_gate b)  -- 7 XOR
    ∷ (λ b a p was e. not_gate b)  -- 8 NOT
    ∷ (λ b a p was e. on_delay (bit b 0) (was_bit was) (ticks (was_number was)) p.time e)  -- 9 on-delay: Trg
    ∷ (λ b a p was e. off_delay (bit b 1) (bit b 0) (was_bit was) (was_on was) (ticks (was_number was)) p.time e)  -- 10 off-delay: Trg, R
    ∷ (λ b a p was e. latching_relay (bit b 1) (bit b 0) (was_on was))  -- 11 latching relay: S, R
    ∷ (λ b a p was e. shift_register (bit b 0) (bit b 1) (bit b 2) (was_bit was) (was_number was) (over (parameter p.params 1)))  -- 12 shift register: In, Trg, Dir; the bit is the second parameter
    ∷ (λ b a p was e. threshold_trigger (parameter a 0) p.params (was_on was))  -- 13 analog threshold trigger: Ax
    ∷ (λ b a p was e. compared (parameter a 0) (parameter a 1) p.params (was_on was))  -- 14 comparator: Ax, Ay
    ∷ (λ b a p was e. multiplexed (bit b 0) (bit b 1) (bit b 2) p.params)  -- 15 multiplexer: En, S1, S2
    ∷ (λ b a p was e. threshold_trigger (parameter a 0) p.params (was_on was))  -- 16 differential trigger: Ax, with its Off worked out
    ∷ (λ b a p was e. up_down_counter (bit b 0) (bit b 1) (bit b 2) (was_bit was) (was_on was) (was_number was) p.params)  -- 17 up/down counter: R, Cnt, Dir
    ∷ (λ b a p was e. stairway_switch (bit b 0) (was_pressed was) (was_running was) (ticks (was_number was)) p.time p.warning p.dark e)  -- 18 stairway switch: Trg
    ∷ (λ b a p was e. amplified (parameter a 0) p.params)  -- 19 analog amplifier: Ax
    ∷ []

-- what a block's three words become
unfoldable pub worked_out : ℕ → Rule
worked_out kind = get_or rules kind idle
