-- The widths of a field's numbers as the code finds them. Not part of what a reader has to believe.
use Rattle.std.specs.Prelude.{ℕ, ◌+◌, ◌*◌, ◌%◌, cond, eqb, ltb}

-- how many bytes number j behind the tag takes, from 0: two single ones, connectors as class and number, then parameters
unfoldable pub width_at : ℕ → ℕ → ℕ
width_at inputs j = cond (ltb j 2) 1 (cond (ltb j (2 + 2 * inputs)) (cond (eqb (j % 2) 0) 1 2) 4)
