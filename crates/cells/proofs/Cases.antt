-- Cells worked out, read and written: at these an edit of a definition is refused. Each side is computed. Assumes nothing.
use mathlib.Core.Path.{◌≡◌, refl}
use mathlib.Core.Bool.{true, false}
use mathlib.Core.List.{List, [], ◌∷◌}
use Prim.Native.Nat.{ℕ}
use Rattle.cells.specs.Cells.{starts, none, ending, ending_size, stops, plain_size, quoted_size, finish, closed, cell_at, undouble, content, double, special, any_special, write_cell}

-- "D,""" and a comma
abbrev sample : List ℕ
sample = 34 ∷ 68 ∷ 44 ∷ 34 ∷ 34 ∷ 34 ∷ 44 ∷ []

pub record CellCases : Type 0 where
  pub sample-cell : cell_at sample 0 ≡ record { start = 1; size = 4; quoted = true; how = 1; next = 7 }
  pub sample-content : content sample (cell_at sample 0) ≡ 68 ∷ 44 ∷ 34 ∷ []
  -- "a lone LF ends a row too"
  pub lone-lf : cell_at (97 ∷ 10 ∷ 98 ∷ []) 0 ≡ record { start = 0; size = 1; quoted = false; how = 2; next = 2 }
  -- a CR CR LF: the first CR is text
  pub two-cr : cell_at (97 ∷ 13 ∷ 13 ∷ 10 ∷ []) 0 ≡ record { start = 0; size = 2; quoted = false; how = 3; next = 4 }
  -- no byte between a comma and the end of the text
  pub nothing_left : cell_at (97 ∷ 44 ∷ []) 2 ≡ record { start = 2; size = 0; quoted = false; how = 0; next = 2 }
  -- a quote inside a plain cell, a stray byte behind a closing quote, a quote never closed
  pub inner-quote : (cell_at (97 ∷ 34 ∷ []) 0).how ≡ 30
  pub stray-byte : (cell_at (34 ∷ 97 ∷ 34 ∷ 13 ∷ 44 ∷ []) 0).how ≡ 30
  pub open-quote : (cell_at (34 ∷ 97 ∷ 34 ∷ 34 ∷ 10 ∷ []) 0).how ≡ 30
  -- "a cell is quoted only if it holds a comma, quote, CR or LF"
  pub plain-written : write_cell (97 ∷ 32 ∷ []) ≡ 97 ∷ 32 ∷ []
  pub comma-written : write_cell (97 ∷ 44 ∷ []) ≡ 34 ∷ 97 ∷ 44 ∷ 34 ∷ []
  pub quote-written : write_cell (97 ∷ 34 ∷ []) ≡ 34 ∷ 97 ∷ 34 ∷ 34 ∷ 34 ∷ []
  pub cr-written : write_cell (97 ∷ 13 ∷ []) ≡ 34 ∷ 97 ∷ 13 ∷ 34 ∷ []
  pub lf-written : write_cell (97 ∷ 10 ∷ []) ≡ 34 ∷ 97 ∷ 10 ∷ 34 ∷ []

pub cell-cases : CellCases
unfolding cell_at starts none ending ending_size stops plain_size quoted_size finish closed content undouble double special any_special write_cell
cell-cases =
    record {
      sample-cell = refl;
      sample-content = refl;
      lone-lf = refl;
      two-cr = refl;
      nothing_left = refl;
      inner-quote = refl;
      stray-byte = refl;
      open-quote = refl;
      plain-written = refl;
      comma-written = refl;
      quote-written = refl;
      cr-written = refl;
      lf-written = refl;
    }
