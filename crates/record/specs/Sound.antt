-- Document 01, "Run record and outputs": when a record is sound, for the lines of a decoded circuit.
use Rattle.std.specs.Prelude.{ℕ, zero, suc, Bool, true, ◌&&◌, ◌||◌, List, length, ℤ, pos}
use Rattle.words.specs.Signed.{bit_of}
use Rattle.kinds.specs.Kinds.{Range, ◌to◌, in_range, sixteen, kind_of, output_range, remembered_range, number_range}
use Rattle.lines.specs.Lines.{Line, line_at}
use Rattle.record.specs.Places.{Place, phase, done, mark, elapsed, input, analog, flag, analog_flag, block, size_of, place_of, at, word}

-- ---- the range of each word

-- "block words that the block's kind has no use for 0, .. bits 0 or 1, Ta 0..T in ticks, register 0..255, .. multiplexer outputs
-- −32,768..32,767"; an amplifier's likewise, "A sound count is 0..999,999": by the table of kinds, and the ticks set
abbrev pub block_range : Line → ℕ → Range
block_range line zero = output_range (kind_of line.kind)
block_range line (suc zero) = remembered_range (kind_of line.kind)
block_range line (suc (suc j)) = number_range (kind_of line.kind) line.prepared.time

-- "phase, mark and bits 0 or 1, .. analog inputs 0..1000, AM .. −32,768..32,767, blocks done 0..n, e 0..65,535"
abbrev pub range_of : List Line → Place → Range
range_of lines phase = pos 0 to pos 1
range_of lines done = pos 0 to pos (length lines)
range_of lines mark = pos 0 to pos 1
range_of lines elapsed = pos 0 to pos 65535
range_of lines (input k) = pos 0 to pos 1
range_of lines (analog k) = pos 0 to pos 1000
range_of lines (flag k) = pos 0 to pos 1
range_of lines (analog_flag k) = sixteen
range_of lines (block k j) = block_range (line_at lines k) j

-- ---- the whole

-- a test holds of each number below n
unfoldable pub every : ℕ → (ℕ → Bool) → Bool
every zero f = true
every (suc n) f = every n f && f n

-- the phase is 1
abbrev pub in_scan : List ℤ → Bool
in_scan l = bit_of (word l phase)

abbrev pub is_zero : ℤ → Bool
is_zero z = in_range (pos 0 to pos 0) z

-- the word at an index is in its range
abbrev pub fits_at : List Line → List ℤ → ℕ → Bool
fits_at lines l i = in_range (range_of lines (place_of i)) (at l i)

-- blocks done and e: "both 0 while waiting"
abbrev pub at_rest : List ℤ → Bool
at_rest l = is_zero (word l done) && is_zero (word l elapsed)

unfoldable pub sound : List Line → List ℤ → Bool
sound lines l = every (size_of (length lines)) (fits_at lines l) && (in_scan l || at_rest l)
