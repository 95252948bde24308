-- What a scan makes of a block: its inputs, resolved together, its three words, and the blocks one after the other. Document 01, "The
-- blocks" and "Run record and outputs".
use Rattle.std.specs.Prelude.{ℕ, zero, suc, ◌+◌, ◌-◌, min, Bool, true, cond, not, List, [], ◌∷◌, eqb, length, get_or, take, drop, ℤ, pos}
use Rattle.std.specs.Bool.{beq}
use Rattle.std.proofs.Math.Option.{Option, none, some}
use Rattle.words.specs.Signed.{over, bit_of}
use Rattle.kinds.specs.Kinds.{kind_of}
use Rattle.kinds.specs.Time.{ticks}
use Rattle.rules.specs.declared.BlockWords.{BlockWords}
use Rattle.connectors.specs.Connectors.{Connector, class_of, is_inverted}
use Rattle.blocks.specs.Blocks.{worked_out}
use Rattle.lines.specs.Lines.{Line, line_at}
use Rattle.record.specs.Places.{Place, done, elapsed, input, analog, flag, analog_flag, output, word, words_of, put, put_words}

-- ---- what a connector reads

-- the place that a connector reads: "0 unused .., 1 input I .., 2 lo .., 3 hi .., 4 flag M .., 6 digital block, 7 analog input .., 8 analog
-- flag AM .., 9 analog block"
unfoldable pub source_of : Connector → Option Place
source_of c =
    let n = c.number in
    get_or
    (none  -- unused
    ∷ some (input n)
    ∷ none  -- lo
    ∷ none  -- hi
    ∷ some (flag n)
    ∷ none  -- no class
    ∷ some (output n)
    ∷ some (analog n)
    ∷ some (analog_flag n)
    ∷ some (output n)
    ∷ [])
    (class_of c)
    none

-- the word at a place, 0 where there is none
abbrev pub read_from : List ℤ → Option Place → ℤ
read_from l none = pos 0
read_from l (some p) = word l p

-- an analog connector
abbrev pub value_from : List ℤ → Connector → ℤ
value_from l c = read_from l (source_of c)

-- a digital connector before it is inverted; "An unused input counts 1 for kinds 1 to 4 and 0 elsewhere"; lo is 0, hi is 1
unfoldable pub plain_bit : List ℤ → Bool → Connector → Bool
plain_bit l unused c = cond (eqb (class_of c) 0) unused (cond (eqb (class_of c) 3) true (bit_of (value_from l c)))

-- "Adding 0x80 inverts"
unfoldable pub bit_from : List ℤ → Bool → Connector → Bool
bit_from l unused c = not (beq (is_inverted c) (plain_bit l unused c))

-- ---- the inputs of a block: "resolved together before the rule is applied"

-- connector j of a line, from 0
abbrev pub input_of : Line → ℕ → Connector
input_of line j = record { class = get_or line.classes j 0; number = get_or line.numbers j 0 }

-- digital input j
abbrev pub bit_at : List ℤ → Line → ℕ → Bool
bit_at l line j = bit_from l (kind_of line.kind).unused (input_of line j)

-- "at most four digital inputs"
unfoldable pub bits_of : List ℤ → Line → List Bool
bits_of l line = bit_at l line 0 ∷ bit_at l line 1 ∷ bit_at l line 2 ∷ bit_at l line 3 ∷ []

-- Ax, Ay
unfoldable pub values_of : List ℤ → Line → List ℤ
values_of l line = value_from l (input_of line 0) ∷ value_from l (input_of line 1) ∷ []

-- ---- a block's step

-- what its three words become, by its rule
unfoldable pub becomes : List ℤ → ℕ → Line → BlockWords
becomes l k line =
    worked_out line.kind (bits_of l line) (values_of l line) line.prepared (words_of l k) (ticks (over (word l elapsed)))

-- it writes its block's three words alone: "During a scan M and AM show their old values"
unfoldable pub step : List Line → ℕ → List ℤ → List ℤ
step lines k l = put_words l k (becomes l k (line_at lines k))

-- ---- blocks one after the other, along the working order

-- a, a + 1, .., m of them
abbrev pub count_from : ℕ → ℕ → List ℕ
count_from a zero = []
count_from a (suc m) = a ∷ count_from (suc a) m

-- the working order: 1, 2, ..
unfoldable pub order : List Line → List ℕ
order lines = count_from 1 (length lines)

-- the steps of some blocks
unfoldable pub along : List Line → List ℕ → List ℤ → List ℤ
along lines [] l = l
along lines (k ∷ ks) l = along lines ks (step lines k l)

-- the m blocks behind the first d of the order
unfoldable pub steps_from : List Line → ℕ → ℕ → List ℤ → List ℤ
steps_from lines d m l = along lines (take m (drop d (order lines))) l

-- "blocks done"
abbrev pub done_of : List ℤ → ℕ
done_of l = over (word l done)

-- "blocks to go"
abbrev pub to_go : List Line → List ℤ → ℕ
to_go lines l = length lines - done_of l

-- how many blocks a run of up to c works out: as many as asked, or as remain
abbrev pub turn_of : List Line → ℕ → List ℤ → ℕ
turn_of lines c l = min c (to_go lines l)

-- a run of up to c blocks
unfoldable pub turned : List Line → ℕ → List ℤ → List ℤ
turned lines c l = put (steps_from lines (done_of l) (turn_of lines c l) l) done (pos (done_of l + turn_of lines c l))
