-- What each output and each flag gets from the rows. Document 01, "Run record and outputs": "Publish writes 28 output words .. and all
-- flags at once from the rows; without a row, 0."
use Rattle.std.specs.Prelude.{ℕ, zero, suc, ◌+◌, false, cond, ◌&&◌, List, [], ◌∷◌, ◌++◌, leb, eqb, ℤ, pos}
use Rattle.words.specs.Signed.{word_of, bit_of}
use Rattle.decoding.specs.Decoded.{Row}
use Rattle.record.specs.Places.{Place, phase, done, mark, elapsed, input, analog, flag, analog_flag, block, word}
use Rattle.steps.specs.Steps.{bit_from, value_from}

-- "Destinations: 1 Q .., 2 M .. (digital connector); 3 AQ .., 4 AM .. (analog connector)"
abbrev pub Q : ℕ
Q = 1

abbrev pub M : ℕ
M = 2

abbrev pub AQ : ℕ
AQ = 3

abbrev pub AM : ℕ
AM = 4

-- what a row carries, from the words of a record: a bit to Q and M, a value to AQ and AM
unfoldable pub carried : List ℤ → Row → ℤ
carried l row = cond (leb row.class M) (word_of (bit_from l false row.from)) (value_from l row.from)

-- what a destination gets: from its row; "without a row, 0"
unfoldable pub destined : List Row → List ℤ → ℕ → ℕ → ℤ
destined [] l class n = pos 0
destined (row ∷ rows) l class n =
    cond (eqb row.class class && eqb row.number n) (carried l row) (destined rows l class n)

-- f a, f (a + 1), .., m of them
abbrev pub list_from : ℕ → ℕ → (ℕ → ℤ) → List ℤ
list_from a zero f = []
list_from a (suc m) f = f a ∷ list_from (a + 1) m f

-- "28 output words (Q1..Q20, AQ1..AQ8)"
unfoldable pub outputs_of : List Row → List ℤ → List ℤ
outputs_of rows l = list_from 1 20 (destined rows l Q) ++ list_from 1 8 (destined rows l AQ)

-- each word after a publish; l is the record before it. "M8 becomes 0 when the mark was 1. Then mark, phase, blocks done and e are 0."
abbrev pub publish_word : List Row → List ℤ → Place → ℤ → ℤ
publish_word rows l phase z = pos 0
publish_word rows l done z = pos 0
publish_word rows l mark z = pos 0
publish_word rows l elapsed z = pos 0
publish_word rows l (input k) z = z
publish_word rows l (analog k) z = z
publish_word rows l (flag k) z = cond (eqb k 8 && bit_of (word l mark)) (pos 0) (destined rows l M k)
publish_word rows l (analog_flag k) z = destined rows l AM k
publish_word rows l (block k j) z = z
