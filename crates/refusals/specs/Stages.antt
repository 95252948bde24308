-- Document 01, "Circuit bytes": "In order: one header; the blocks, each followed by at most one label; the rows; the end." Which fields
-- may come next.
use Rattle.std.specs.Prelude.{ℕ}
use Rattle.refusals.specs.declared.Stage.{Stage}
use Rattle.refusals.specs.declared.Stage.TheVariants.{Opening, AmongBlocks, AfterBlock, AmongRows, Ended}

-- only the header may come next
abbrev pub opening : ℕ
opening = 0

-- a block, a row or the end may
abbrev pub among_blocks : ℕ
among_blocks = 1

-- these, or a label
abbrev pub after_block : ℕ
after_block = 2

-- a row or the end may
abbrev pub among_rows : ℕ
among_rows = 3

-- nothing may: the end field was read, and no field is judged behind it
abbrev pub ended : ℕ
ended = 4

-- a stage as such a number
abbrev pub stage_of : Stage → ℕ
stage_of Opening = opening
stage_of AmongBlocks = among_blocks
stage_of AfterBlock = after_block
stage_of AmongRows = among_rows
stage_of Ended = ended
