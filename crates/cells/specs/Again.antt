-- What is promised of a cell that is written and read again. The proof: proofs/Again.antt.
use Rattle.std.specs.Prelude.{ℕ, ◌+◌, ◌≡◌, false, List, ◌++◌, length, drop, eqb}
use Rattle.cells.specs.Cells.{ending, ending_size, cell_at, content, write_cell}

-- nothing, a comma or a line end begins these bytes
abbrev pub Behind : List ℕ → Type 0
Behind r = eqb (ending r) 30 ≡ false

-- what is read is what was written, and the bytes behind it end it
pub record Again (s : List ℕ) (at : ℕ) (b r : List ℕ) : Type 0 where
  pub how : (cell_at s at).how ≡ ending r
  pub next : (cell_at s at).next ≡ at + length (write_cell b) + ending_size (ending r)
  pub same : content s (cell_at s at) ≡ b

-- "a cell may hold commas, quotes and line ends": any bytes b, written as a cell at any position of a text, whatever follows what ends it
abbrev pub CellReadAgain : Type 0
CellReadAgain = (s b r : List ℕ) (at : ℕ) → Behind r → drop at s ≡ write_cell b ++ r → Again s at b r
