-- A text is rows of cells: RFC 4180 as document 02 takes it, and "Forms that document 02 leans on" of document 01.
use Rattle.std.specs.Prelude.{ℕ, zero, suc, Bool, true, false, List, [], ◌∷◌, map, eqb, ltb, length}
use Rattle.cells.specs.Cells.{Cell}
use Rattle.cells.specs.Cells.{cell_at, content}

-- ---- a row: cells parted by commas, up to a line end or the end of the text

-- its cells; whether it is whole; where the next one begins
pub record Split : Type 0 where
  pub cells : List Cell
  pub whole : Bool
  pub next : ℕ

-- the row whose first cell is c, and whose other cells, if a comma follows, are those of the rest. Where a cell is none ("quote not
-- closed or followed by a stray byte") the row is not whole, and ends
unfoldable pub split_after : Cell → Split → Split
split_after c rest =
    elim (eqb c.how 1) [
      | true ↦ record { cells = c ∷ rest.cells; whole = rest.whole; next = rest.next }
      | false ↦
          elim (eqb c.how 30) [
            | true ↦ record { cells = c ∷ []; whole = false; next = c.next }
            | false ↦ record { cells = c ∷ []; whole = true; next = c.next }
          ]
    ]

-- the cells from a position on. The first argument is more than the bytes that are left, and only bounds the steps: a comma is passed
-- at each, so it is never used up
unfoldable pub split_from : ℕ → List ℕ → ℕ → Split
split_from zero s at = record { cells = []; whole = false; next = at }
split_from (suc f) s at = split_after (cell_at s at) (split_from f s (cell_at s at).next)

-- the row at a position
abbrev pub split_at : List ℕ → ℕ → Split
split_at s at = split_from (suc (length s)) s at

-- ---- the rows of a text

-- what the cells of a row say, and whether it is one
pub record TextRow : Type 0 where
  pub cells : List (List ℕ)
  pub whole : Bool

unfoldable pub text_row : List ℕ → Split → TextRow
text_row s r = record { cells = map (content s) r.cells; whole = r.whole }

-- from a position on: "empty text has no rows", and a line end at the end of the text has no row behind it. Behind a row that is not whole
-- nothing is read. The first argument bounds the steps, as above
unfoldable pub rows_from : ℕ → List ℕ → ℕ → List TextRow
rows_from zero s at = []
rows_from (suc f) s at =
    elim (ltb at (length s)) [
      | true ↦
          text_row s (split_at s at)
          ∷ elim (split_at s at).whole [ true ↦ rows_from f s (split_at s at).next | false ↦ [] ]
      | false ↦ []
    ]

unfoldable pub rows_of : List ℕ → List TextRow
rows_of s = rows_from (suc (length s)) s 0
