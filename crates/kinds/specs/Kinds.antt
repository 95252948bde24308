-- Document 01, "The blocks": the table by kind. "Sixteen kinds, each with its inputs in this order, then its parameters." Document 02,
-- No. 2: kinds 17 and 18; No. 5: kind 19.
use Rattle.std.specs.Prelude.{ℕ, zero, suc, ◌+◌, ◌*◌, Bool, true, false, ◌&&◌, List, [], ◌∷◌, leb, ltb, length, get_or, ℤ, pos}
use Rattle.std.specs.Int.Signed.{le_z}
use Rattle.words.specs.Signed.{minus, over, is_within, Between}
use Rattle.kinds.specs.Time.{longest}
use Rattle.kinds.specs.declared.Ticks.{Ticks}

-- least and greatest
pub record Range : Type 0 where
  pub least : ℤ
  pub greatest : ℤ

infix 70 ◌to◌
abbrev pub ◌to◌ : ℤ → ℤ → Range
a to b = record { least = a; greatest = b }

-- a number is in a range
abbrev pub in_range : Range → ℤ → Bool
in_range r x = is_within x r.least r.greatest

-- as a fact
abbrev pub In : Range → ℤ → Type 0
In r x = Between r.least r.greatest x

-- what a block's output is: a bit, or a number
pub data Sort : Type 0 where
  digital : Sort
  analog : Sort

-- what a block's number is: not used, Ta, or a count from 0 to a greatest
pub data Number : Type 0 where
  none : Number
  elapsed : Number
  up_to : ℕ → Number

pub record Kind : Type 0 where
  -- "at most four digital inputs"; the analog ones
  pub digitals : ℕ
  pub analogs : ℕ
  -- "An unused input counts 1 for kinds 1 to 4 and 0 elsewhere"
  pub unused : Bool
  -- "Parameters are signed": least and greatest of each
  pub parameters : List Range
  -- how many settings follow the timebase, which is the first parameter; 0 where there is none
  pub times : ℕ
  -- "Option bit 0 is retentive, allowed on kinds 9 to 12"; of kinds 17 and 18 "Both may be retentive"
  pub retentive : Bool
  -- "digital block", "analog block"
  pub output : Sort
  -- the greatest remembered word: 1 where a bit is remembered ("all inputs 1 for kinds 2 and 4; Trg for 9, 10, 12", and Cnt for 17), 3
  -- for 18 ("Trg, plus 2 while running"), else 0
  pub remembered : ℕ
  -- "number (Ta, or the register ..)"; the count of 17
  pub number : Number

-- ---- the parameters

-- base, T: "0 seconds (T 0..9999, hundredths)", the widest of the three
unfoldable pub timed : List Range
timed = pos 0 to pos 2 ∷ pos 0 to pos 9999 ∷ []

-- "index 1..4, bit 1..8"
unfoldable pub indexed : List Range
indexed = pos 1 to pos 4 ∷ pos 1 to pos 8 ∷ []

-- "Gain A is −1000..1000 hundredths, B −10,000..10,000"
abbrev pub gain : Range
gain = minus 1000 to pos 1000

abbrev pub offset : Range
offset = minus 10000 to pos 10000

-- A, B, and "On, Off and Δ −20,000..20,000"
unfoldable pub scaled : List Range
scaled = gain ∷ offset ∷ minus 20000 to pos 20000 ∷ minus 20000 to pos 20000 ∷ []

-- A, B
abbrev pub gained : List Range
gained = gain ∷ offset ∷ []

-- 16 bits with a sign; "V −32,768..32,767"
abbrev pub sixteen : Range
sixteen = minus 32768 to pos 32767

unfoldable pub chosen : List Range
chosen = sixteen ∷ sixteen ∷ sixteen ∷ sixteen ∷ []

-- the greatest count: "0..999,999"
abbrev pub most_count : ℕ
most_count = 999999

-- "On, Off 0..999,999"
abbrev pub counted : List Range
counted = pos 0 to pos most_count ∷ pos 0 to pos most_count ∷ []

-- base, T, T!, T!L: "One base", each in the widest of its ranges
abbrev pub warned : List Range
warned = pos 0 to pos 2 ∷ pos 0 to pos 9999 ∷ pos 0 to pos 9999 ∷ pos 0 to pos 9999 ∷ []

-- ---- the kinds

-- digital and analog inputs, what an unused one counts; parameters, settings among them; retentive; output, remembered word, number
abbrev row : ℕ → ℕ → Bool → List Range → ℕ → Bool → Sort → ℕ → Number → Kind
row digitals analogs unused parameters times retentive output remembered number =
    record {
      digitals = digitals;
      analogs = analogs;
      unused = unused;
      parameters = parameters;
      times = times;
      retentive = retentive;
      output = output;
      remembered = remembered;
      number = number;
    }

-- a gate, by its inputs, what an unused one counts, and its greatest remembered word
abbrev pub gate : ℕ → Bool → ℕ → Kind
gate n unused remembered = row n 0 unused [] 0 false digital remembered none

-- a delay, by its inputs
abbrev pub delay : ℕ → Kind
delay n = row n 0 false timed 1 true digital 1 elapsed

-- the latching relay
abbrev pub latching : Kind
latching = row 2 0 false [] 0 true digital 0 none

-- the shift register: "register 0..255"
abbrev pub shifting : Kind
shifting = row 3 0 false indexed 0 true digital 1 (up_to 255)

-- a threshold, by its analog inputs
abbrev pub trigger : ℕ → Kind
trigger n = row 0 n false scaled 0 false digital 0 none

-- the multiplexer
abbrev pub choosing : Kind
choosing = row 3 0 false chosen 0 false analog 0 none

-- the up/down counter: "A sound count is 0..999,999"
abbrev pub counting : Kind
counting = row 3 0 false counted 0 true digital 1 (up_to most_count)

-- the stairway switch
abbrev pub stairway : Kind
stairway = row 1 0 false warned 3 true digital 3 elapsed

-- the analog amplifier: "It is an analog block"
abbrev pub amplifying : Kind
amplifying = row 0 1 false gained 0 false analog 0 none

-- the table, by kind; no block has kind 0
unfoldable pub kinds : List Kind
kinds =
    gate 0 false 0  --  0
    ∷ gate 4 true 0  --  1 AND
    ∷ gate 4 true 1  --  2 AND edge
    ∷ gate 4 true 0  --  3 NAND
    ∷ gate 4 true 1  --  4 NAND edge
    ∷ gate 4 false 0  --  5 OR
    ∷ gate 4 false 0  --  6 NOR
    ∷ gate 2 false 0  --  7 XOR
    ∷ gate 1 false 0  --  8 NOT
    ∷ delay 1  --  9 on-delay: Trg; base, T
    ∷ delay 2  -- 10 off-delay: Trg, R; base, T
    ∷ latching  -- 11 latching relay: S, R
    ∷ shifting  -- 12 shift register: In, Trg, Dir; index, bit
    ∷ trigger 1  -- 13 analog threshold trigger: Ax; A, B, On, Off
    ∷ trigger 2  -- 14 comparator: Ax, Ay; A, B, On, Off
    ∷ choosing  -- 15 multiplexer: En, S1, S2; V1..V4
    ∷ trigger 1  -- 16 differential trigger: Ax; A, B, On, Δ
    ∷ counting  -- 17 up/down counter: R, Cnt, Dir; On, Off
    ∷ stairway  -- 18 stairway switch: Trg; base, T, T!, T!L
    ∷ amplifying  -- 19 analog amplifier: Ax; A, B
    ∷ []

-- the entry of a kind
unfoldable pub kind_of : ℕ → Kind
kind_of kind = get_or kinds kind (gate 0 false 0)

-- whether there is such a kind
unfoldable pub known : ℕ → Bool
known kind = leb 1 kind && ltb kind (length kinds)

-- ---- what follows from a kind

-- "kind, options, connectors, parameters": a byte each, three bytes a connector, four a parameter
abbrev pub content_length : Kind → ℕ
content_length k = 2 + 3 * (k.digitals + k.analogs) + 4 * length k.parameters

-- a parameter that a kind has not is 0
abbrev pub range_at : Kind → ℕ → Range
range_at k j = get_or k.parameters j (pos 0 to pos 0)

-- an analog block is one whose output is a number
abbrev pub is_analog : Sort → Bool
is_analog digital = false
is_analog analog = true

-- ---- when parameters are allowed

-- parameter j, from 0
abbrev pub parameter : List ℤ → ℕ → ℤ
parameter p j = get_or p j (pos 0)

-- a setting is in the range of its timebase
abbrev pub setting_fits : ℤ → ℤ → Bool
setting_fits base t = is_within t (pos 0) (pos (longest (over base)))

-- each of the settings behind the timebase is
abbrev pub settings_fit : ℕ → List ℤ → Bool
settings_fit zero p = true
settings_fit (suc n) p = setting_fits (parameter p 0) (parameter p (suc n)) && settings_fit n p

-- "T!L ≤ T! ≤ T": no setting is greater than the one before it
abbrev pub in_order : ℕ → List ℤ → Bool
in_order zero p = true
in_order (suc zero) p = true
in_order (suc (suc n)) p = le_z (parameter p (suc (suc n))) (parameter p (suc n)) && in_order (suc n) p

-- each parameter is in its range
abbrev pub ranges_fit : Kind → List ℤ → Bool
ranges_fit k p =
    in_range (range_at k 0) (parameter p 0)
    && (in_range (range_at k 1) (parameter p 1)
    && (in_range (range_at k 2) (parameter p 2)
    && in_range (range_at k 3) (parameter p 3)))

-- whether a block of a kind may have these parameters
unfoldable pub allowed : ℕ → List ℤ → Bool
allowed kind p = ranges_fit (kind_of kind) p && (settings_fit (kind_of kind).times p && in_order (kind_of kind).times p)

-- ---- which words a block may have: "block words that the block's kind has no use for 0, .. bits 0 or 1, Ta 0..T in ticks,
-- register 0..255, .. multiplexer outputs −32,768..32,767"; "A sound count is 0..999,999"; the amplifier is "sound in that range" too

abbrev pub sort_range : Sort → Range
sort_range digital = pos 0 to pos 1
sort_range analog = sixteen

abbrev pub output_range : Kind → Range
output_range k = sort_range k.output

abbrev pub remembered_range : Kind → Range
remembered_range k = pos 0 to pos k.remembered

-- by the ticks set
abbrev pub most_of : Number → Ticks → ℕ
most_of none t = 0
most_of elapsed t = t.0
most_of (up_to n) t = n

abbrev pub number_range : Kind → Ticks → Range
number_range k t = pos 0 to pos (most_of k.number t)
