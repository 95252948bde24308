-- RFC 4180 as document 02 takes it: the cell at a position of a text, and a cell written out. Bytes: 34 is the quote, 44 the comma,
-- 10 LF, 13 CR.
use Rattle.std.specs.Prelude.{ℕ, suc, ◌+◌, List, [], ◌∷◌, ◌++◌, Bool, true, false, cond, not, take, drop, eqb}
use Rattle.cells.specs.declared.Ending.{Ending}
use Rattle.cells.specs.declared.Ending.TheVariants.{Text, Comma, Lf, Crlf, Broken}
use Rattle.cells.specs.declared.Cell.{Cell as Handed}

-- where the text of a cell starts and how many bytes it has; whether it stands in quotes; how it ends, by number; where the next begins
pub record Cell : Type 0 where
  pub start : ℕ
  pub size : ℕ
  pub quoted : Bool
  pub how : ℕ
  pub next : ℕ

-- the number of an ending
abbrev pub ending_of : Ending → ℕ
ending_of Text = 0
ending_of Comma = 1
ending_of Lf = 2
ending_of Crlf = 3
ending_of Broken = 30

-- a cell as the code hands it out
abbrev pub cell_of : Handed → Cell
cell_of c = record { start = c.start; size = c.size; quoted = c.quoted; how = ending_of c.how; next = c.next }

-- the bytes begin with b
unfoldable pub starts : ℕ → List ℕ → Bool
starts b [] = false
starts b (x ∷ l) = eqb x b

-- no bytes
unfoldable pub none : List ℕ → Bool
none [] = true
none (x ∷ l) = false

-- ---- how a cell ends

-- where the bytes behind it begin: 1 by a comma, 2 by LF ("a lone LF ends a row too"), 3 by CRLF, 0 by the end of the text ("The last
-- record in the file may or may not have an ending line break"); 30 where it does not end
unfoldable pub ending : List ℕ → ℕ
ending l =
    cond (starts 44 l) 1
    (cond (starts 10 l) 2 (cond (starts 13 l) (cond (starts 10 (drop 1 l)) 3 30) (cond (none l) 0 30)))

-- how many bytes that takes
unfoldable pub ending_size : ℕ → ℕ
ending_size m = cond (eqb m 1) 1 (cond (eqb m 2) 1 (cond (eqb m 3) 2 0))

-- ---- where its text ends

-- a plain cell's text stops where the bytes begin: at the cell's end, or at a quote: "a quote in a cell that does not begin with one
-- is a stray byte". A CR that no LF follows is text: "every byte but comma, quote and line end is text"
unfoldable pub stops : List ℕ → Bool
stops l = cond (starts 34 l) true (not (eqb (ending l) 30))

-- how many bytes of text a plain cell has
unfoldable pub plain_size : List ℕ → ℕ
plain_size [] = 0
plain_size (x ∷ l) = cond (stops (x ∷ l)) 0 (suc (plain_size l))

-- how many bytes stand before the closing quote, two for each doubled quote ("a double-quote appearing inside a field must be escaped
-- by preceding it with another double quote"); all of them where nothing closes
unfoldable pub quoted_size : List ℕ → ℕ
quoted_size [] = 0
quoted_size (x ∷ []) = cond (eqb x 34) 0 1
quoted_size (x ∷ y ∷ l) =
    cond (eqb x 34) (cond (eqb y 34) (suc (suc (quoted_size l))) 0) (suc (quoted_size (y ∷ l)))

-- ---- the cell at a position: where its text starts and how many bytes it has, as they stand between the quotes if it is quoted; how it
-- ends; where the next one begins

-- the cell whose text is the `size` bytes from `from` on, and whose end stands at `e`
unfoldable pub finish : List ℕ → Bool → ℕ → ℕ → ℕ → Cell
finish s quoted from size e =
    record {
      start = from;
      size = size;
      quoted = quoted;
      how = ending (drop e s);
      next = e + ending_size (ending (drop e s));
    }

-- a quoted cell, whose text begins at `from`, behind the opening quote: 30 "quote not closed or followed by a stray byte"
unfoldable pub closed : List ℕ → ℕ → ℕ → Cell
closed s from size =
    cond (starts 34 (drop (from + size) s)) (finish s true from size (from + size + 1))
    (record { start = from; size = size; quoted = true; how = 30; next = from + size })

-- a quoted cell where it begins with a quote, else a plain one. Where it is none, how is 30 and next the place of the fault
unfoldable pub cell_at : List ℕ → ℕ → Cell
cell_at s at =
    cond (starts 34 (drop at s)) (closed s (at + 1) (quoted_size (drop (at + 1) s)))
    (finish s false at (plain_size (drop at s)) (at + plain_size (drop at s)))

-- ---- what a cell says

-- doubled quotes undone
unfoldable pub undouble : List ℕ → List ℕ
undouble [] = []
undouble (x ∷ []) = x ∷ []
undouble (x ∷ y ∷ l) = cond (eqb x 34) (x ∷ undouble l) (x ∷ undouble (y ∷ l))

-- the bytes that a cell of s says
unfoldable pub content : List ℕ → Cell → List ℕ
content s c =
    cond c.quoted (undouble (take c.size (drop c.start s))) (take c.size (drop c.start s))

-- ---- a cell written out: "a cell is quoted only if it holds a comma, quote, CR or LF"

-- every quote twice
unfoldable pub double : List ℕ → List ℕ
double [] = []
double (x ∷ l) = cond (eqb x 34) (34 ∷ 34 ∷ double l) (x ∷ double l)

unfoldable pub special : ℕ → Bool
special x = cond (eqb x 44) true (cond (eqb x 34) true (cond (eqb x 13) true (eqb x 10)))

unfoldable pub any_special : List ℕ → Bool
any_special [] = false
any_special (x ∷ l) = cond (special x) true (any_special l)

unfoldable pub write_cell : List ℕ → List ℕ
write_cell b = cond (any_special b) (34 ∷ (double b ++ (34 ∷ []))) b
