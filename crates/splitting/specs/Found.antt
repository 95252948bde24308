-- What is held of a row that was split. Not part of what a reader has to believe.
use Rattle.std.specs.Prelude.{ℕ, ◌+◌, ◌-◌, ◌≤◌, ◌<◌, ◌≡◌, Bool, true, false, cond, List, map, length, get_or, take, drop, Option, Some, None}
use Rattle.cells.specs.Cells.{undouble, content}
use Rattle.digits.specs.Numbers.{number_of}
use Rattle.rows.specs.Text.{split_at}
use Rattle.rows.specs.Columns.{nth}
use Rattle.splitting.specs.Spans.{starts_of, sizes_of}
use Rattle.splitting.specs.declared.held.Span.{Span}
use Rattle.splitting.specs.declared.row.Row.{Row}

-- a row that was split: how many cells; whether it is whole; whether its last cell stands in quotes; where the next row begins
pub record Found : Type 0 where
  pub count : ℕ
  pub whole : Bool
  pub quoted : Bool
  pub next : ℕ

-- the code has one where the row is whole alone
abbrev pub found_of : Option Row → Found
found_of None = record { count = 1; whole = false; quoted = false; next = 0 }
found_of (Some r) = record { count = r.count; whole = true; quoted = r.quoted; next = r.next }

-- what the text of a cell says, by whether it stands in quotes
abbrev pub said_by : List ℕ → Bool → List ℕ
said_by cell quoted = cond quoted (undouble cell) cell

-- what a cell of a text says, by where its text stands and whether in quotes
unfoldable pub content_in : List ℕ → ℕ → ℕ → Bool → List ℕ
content_in s from size quoted = cond quoted (undouble (take size (drop from s))) (take size (drop from s))

-- the text of cell j, from 0, as it stands
abbrev pub text_in : List ℕ → List ℕ → List ℕ → ℕ → List ℕ
text_in s starts sizes j = take (get_or sizes j 0) (drop (get_or starts j 0) s)

abbrev pub text_at : List ℕ → List Span → ℕ → List ℕ
text_at s spans j = text_in s (starts_of spans) (sizes_of spans) j

-- it lies within the text
pub record Lies (s starts sizes : List ℕ) (j : ℕ) : Type 0 where
  pub few : j < 16
  pub starts-long : length starts ≡ 16
  pub sizes-long : length sizes ≡ 16
  pub inside : get_or starts j 0 + get_or sizes j 0 ≤ length s

-- the held text of each of the first sixteen cells says as a number what the cell says
pub record Says (s starts sizes : List ℕ) (cells : List (List ℕ)) : Type 0 where
  pub same : (j below above : ℕ) → j < length cells → j < 16
      → number_of below above (text_in s starts sizes j) ≡ number_of below above (nth cells j)

abbrev pub SaysOf : List ℕ → List Span → List (List ℕ) → Type 0
SaysOf s spans cells = Says s (starts_of spans) (sizes_of spans) cells

-- what the cells of the row at a position say
abbrev pub said_at : List ℕ → ℕ → List (List ℕ)
said_at s at = map (content s) (split_at s at).cells

-- the row at a position, split to its end: whether it is whole; then how many cells, what the held ones say, and where the next row begins
pub record Finds (s : List ℕ) (at : ℕ) (r : Found) (starts sizes : List ℕ) : Type 0 where
  pub whole : r.whole ≡ (split_at s at).whole
  pub starts-long : length starts ≡ 16
  pub sizes-long : length sizes ≡ 16
  pub some : 0 < r.count
  pub count : r.whole ≡ true → r.count ≡ length (said_at s at)
  pub lie : r.whole ≡ true → (j : ℕ) → j < r.count → j < 16 → Lies s starts sizes j
  pub says : r.whole ≡ true → Says s starts sizes (said_at s at)
  -- the last cell, which a label is
  pub last : r.whole ≡ true → r.count ≤ 16
      → nth (said_at s at) (r.count - 1) ≡ content_in s (get_or starts (r.count - 1) 0) (get_or sizes (r.count - 1) 0) r.quoted
  pub next : r.whole ≡ true → r.next ≡ (split_at s at).next
  pub on : r.whole ≡ true → at < r.next
  pub inside : r.whole ≡ true → r.next ≤ length s
