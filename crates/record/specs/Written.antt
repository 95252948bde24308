-- How the code reads and writes a record: run by run. Not part of what a reader has to believe.
use Rattle.std.specs.Prelude.{ℕ, zero, suc, ◌+◌, ◌≤◌, ◌<◌, ◌≡◌, Bool, true, ◌&&◌, List, [], ◌∷◌, map, length, get_or, set, take, ℤ, pos}
use Rattle.kinds.specs.Kinds.{Range, ◌to◌, in_range, sixteen}
use Rattle.blockfield.specs.Marked.{Lies}
use Rattle.decoding.specs.Decoded.{block_at}
use Rattle.lines.specs.Lines.{Line, line_of}
use Rattle.record.specs.Places.{phase, done, mark, elapsed, input, analog, flag, analog_flag, block, index_of, at, word}
use Rattle.record.specs.Sound.{block_range, every}

-- m words from an index on become g 0, g 1, ..
unfoldable pub put_all : List ℤ → ℕ → ℕ → (ℕ → ℤ) → List ℤ
put_all l a zero g = l
put_all l a (suc m) g = set (put_all l a m g) (a + m) (g m)

abbrev pub nothing : ℕ → ℤ
nothing k = pos 0

-- each of m words from an index on is in a range
abbrev pub run_fits : Range → List ℤ → ℕ → ℕ → Bool
run_fits r l a m = every m (λ k. in_range r (at l (a + k)))

-- each of some words is
abbrev pub all_fit : Range → List ℤ → Bool
all_fit r [] = true
all_fit r (z ∷ l) = in_range r z && all_fit r l

-- so are phase, blocks done, mark and e, for n blocks
unfoldable pub head_fits : ℕ → List ℤ → Bool
head_fits n l =
    in_range (pos 0 to pos 1) (word l phase)
    && in_range (pos 0 to pos n) (word l done)
    && in_range (pos 0 to pos 1) (word l mark)
    && in_range (pos 0 to pos 65535) (word l elapsed)

-- and all words but those of blocks
unfoldable pub fixed_fit : ℕ → List ℤ → Bool
fixed_fit n l =
    head_fits n l
    && run_fits (pos 0 to pos 1) l (index_of (input 1)) 24
    && run_fits (pos 0 to pos 1000) l (index_of (analog 1)) 8
    && run_fits (pos 0 to pos 1) l (index_of (flag 1)) 64
    && run_fits sixteen l (index_of (analog_flag 1)) 64

-- the three words of block k are in the ranges of a line
unfoldable pub block_fits : Line → List ℤ → ℕ → Bool
block_fits line l k =
    in_range (block_range line 0) (word l (block k 0))
    && (in_range (block_range line 1) (word l (block k 1)) && in_range (block_range line 2) (word l (block k 2)))

-- those of n blocks are
abbrev pub blocks_fit : List ℕ → ℕ → List ℕ → List ℤ → Bool
blocks_fit s n offsets l = every n (λ d. block_fits (line_of (block_at s (get_or offsets d 0))) l (d + 1))

-- the lines of n blocks that stand at offsets of the bytes
abbrev pub lines_at : List ℕ → ℕ → List ℕ → List Line
lines_at s n offsets = map (λ (x : ℕ). line_of (block_at s x)) (take n offsets)

-- n blocks stand there
pub record Stand (s : List ℕ) (n : ℕ) (offsets : List ℕ) : Type 0 where
  pub few : n ≤ 400
  pub long : length offsets ≡ 400
  pub lie : (k : ℕ) → k < n → Lies s (get_or offsets k 0)
