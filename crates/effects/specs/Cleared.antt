-- Warm start as the code does it, block by block. Not part of what a reader has to believe.
use Rattle.std.specs.Prelude.{ℕ, zero, suc, ◌+◌, cond, List, get_or, ℤ, pos}
use Rattle.rules.specs.Rules.{three}
use Rattle.decoding.specs.Decoded.{block_at}
use Rattle.lines.specs.Lines.{line_of}
use Rattle.record.specs.Places.{put_words}

-- the first m blocks, each kept where it is retentive, else zeroed
unfoldable pub cleared_up_to : List ℕ → List ℕ → ℕ → List ℤ → List ℤ
cleared_up_to s offsets zero l = l
cleared_up_to s offsets (suc m) l =
    cond (line_of (block_at s (get_or offsets m 0))).retentive
    (cleared_up_to s offsets m l)
    (put_words (cleared_up_to s offsets m l) (m + 1) (three (pos 0) (pos 0) (pos 0)))
