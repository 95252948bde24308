-- Rows of cells, written out and parted again, are the same rows: each cell is read as it was written (`cell-again`), a comma leads to
-- the next one, CRLF to the next row. Assumes nothing.
use mathlib.Core.Path.{◌≡◌, refl, ap, ap₂, sym, ◌∙◌}
use mathlib.Core.Bool.{Bool, true, false}
use mathlib.Core.List.{List, [], ◌∷◌, ◌++◌, map, append_assoc}
use Prim.Native.Nat.{ℕ, zero, suc, ◌+◌, ◌≤◌, ◌<◌}
use native.Mathlib.Omega.{arith}
use lib.Dec.{eqb}
use lib.ListN.{length, drop, length-append, length-drop}
use lib.Seq.{drop-drop, drop-append_seam}
use borrow.Author.Tests.{eq-eqb, ne_eqb, lt-ltb, le-ltb}
use Rattle.cells.specs.Cells.{Cell}
use Rattle.cells.specs.Cells.{starts, ending, ending_size, cell_at, content, write_cell}
use Rattle.cells.proofs.Again.{cell-again}
use Rattle.kept.specs.Keeps.{All, joined}
use Rattle.rows.specs.Text.{Split, split_after, split_from, split_at, TextRow, text_row, rows_from, rows_of}
use Rattle.rows.specs.Writing.{written}

-- ---- what stands behind a cell

by-comma : (r : List ℕ) → ending (44 ∷ r) ≡ 1
unfolding ending starts
by-comma r = refl

by_lines : (r : List ℕ) → ending (13 ∷ 10 ∷ r) ≡ 3
unfolding ending starts
by_lines r = refl

comma-size : ending_size 1 ≡ 1
unfolding ending_size
comma-size = refl

lines-size : ending_size 3 ≡ 2
unfolding ending_size
lines-size = refl

-- ---- a row

split-more : (c : Cell) (rest : Split) → c.how ≡ 1 → split_after c rest ≡ record { cells = c ∷ rest.cells; whole = rest.whole; next = rest.next }
unfolding split_after
split-more c rest e = rw (eq-eqb c.how 1 e, split_after)

split-last : (c : Cell) (rest : Split) → c.how ≡ 3 → split_after c rest ≡ record { cells = c ∷ []; whole = true; next = c.next }
unfolding split_after
split-last c rest e =
    let more : eqb c.how 1 ≡ false = ne_eqb c.how 1 (λ q. omega arith) in
    let stray : eqb c.how 30 ≡ false = ne_eqb c.how 30 (λ q. omega arith) in
    rw (more, stray, split_after)

pub split_step : (f : ℕ) (s : List ℕ) (at : ℕ) → split_from (suc f) s at ≡ split_after (cell_at s at) (split_from f s (cell_at s at).next)
unfolding split_from
split_step f s at = refl

-- written cells that are parted again
record Parts (s : List ℕ) (at : ℕ) (cells : List (List ℕ)) (p : Split) : Type 0 where
  same : map (content s) p.cells ≡ cells
  whole : p.whole ≡ true
  next : p.next ≡ at + length (written cells)

-- where the bytes behind a part begin
behind : (s : List ℕ) (at : ℕ) (b r : List ℕ) → drop at s ≡ b ++ r → drop (at + length b) s ≡ r
behind s at b r e = sym (drop-drop (length b) at s) ∙ ap (drop (length b)) e ∙ drop-append_seam b r

written_one : (c r : List ℕ) → written (c ∷ []) ++ r ≡ write_cell c ++ (13 ∷ 10 ∷ r)
unfolding written
written_one c r = append_assoc (write_cell c) (13 ∷ 10 ∷ []) r

written-more : (c d : List ℕ) (l : List (List ℕ)) (r : List ℕ) → written (c ∷ d ∷ l) ++ r ≡ write_cell c ++ (44 ∷ (written (d ∷ l) ++ r))
unfolding written
written-more c d l r = append_assoc (write_cell c) (44 ∷ written (d ∷ l)) r

one-length : (c : List ℕ) → length (written (c ∷ [])) ≡ length (write_cell c) + 2
unfolding written
one-length c = length-append (write_cell c) (13 ∷ 10 ∷ [])

more-length : (c d : List ℕ) (l : List (List ℕ)) → length (written (c ∷ d ∷ l)) ≡ length (write_cell c) + suc (length (written (d ∷ l)))
unfolding written
more-length c d l = length-append (write_cell c) (44 ∷ written (d ∷ l))

-- a cell that is read as it was written, up to its end, which takes k bytes
record Passed (s : List ℕ) (at : ℕ) (c : List ℕ) (how k : ℕ) : Type 0 where
  ends : (cell_at s at).how ≡ how
  next : (cell_at s at).next ≡ at + length (write_cell c) + k
  same : content s (cell_at s at) ≡ c

module _ (s : List ℕ) where
  passed : (at : ℕ) (c r : List ℕ) (how k : ℕ) → ending r ≡ how → eqb how 30 ≡ false → ending_size how ≡ k → drop at s ≡ write_cell c ++ r
      → Passed s at c how k
  passed at c r how k e o z d =
      let a = cell-again s c r at (rw e o) d in
      record {
        ends = a.how ∙ e;
        next = a.next ∙ ap (λ (m : ℕ). at + length (write_cell c) + ending_size m) e ∙ ap (λ (m : ℕ). at + length (write_cell c) + m) z;
        same = a.same;
      }

  parts_again : (f at : ℕ) (c : List ℕ) (l : List (List ℕ)) (r : List ℕ) → suc (length l) ≤ f → drop at s ≡ written (c ∷ l) ++ r
      → Parts s at (c ∷ l) (split_from f s at)
  parts_again zero at c l r h e = absurd (omega arith)
  parts_again (suc f) at c [] r h e =
      let p = passed at c (13 ∷ 10 ∷ r) 3 2 (by_lines r) refl lines-size (e ∙ written_one c r) in
      let q = split_step f s at ∙ split-last (cell_at s at) (split_from f s (cell_at s at).next) p.ends in
      rw q (record { same = ap (λ (b : List ℕ). b ∷ []) p.same; whole = refl; next = omega (arith, one-length c, p.next) })
  parts_again (suc f) at c (d ∷ l) r h e =
      let more = written (d ∷ l) ++ r in
      let p = passed at c (44 ∷ more) 1 1 (by-comma more) refl comma-size (e ∙ written-more c d l r) in
      let q = split_step f s at ∙ split-more (cell_at s at) (split_from f s (cell_at s at).next) p.ends in
      let comma : drop (at + length (write_cell c)) s ≡ 44 ∷ more = behind s at (write_cell c) (44 ∷ more) (e ∙ written-more c d l r) in
      let there : drop (cell_at s at).next s ≡ more = rw p.next (behind s (at + length (write_cell c)) (44 ∷ []) more comma) in
      let rest : Parts s (cell_at s at).next (d ∷ l) (split_from f s (cell_at s at).next) = parts_again f (cell_at s at).next d l r (omega arith) there in
      rw q (record {
        same = ap₂ (λ (b : List ℕ) (m : List (List ℕ)). b ∷ m) p.same rest.same;
        whole = rest.whole;
        next = omega (arith, more-length c d l, rest.next, p.next);
      })

-- ---- the rows

-- a row with these cells
abbrev pub row_of : List (List ℕ) → TextRow
row_of cells = record { cells = cells; whole = true }

-- a row takes at least a byte for each cell
written-long : (c : List ℕ) (l : List (List ℕ)) → suc (length l) ≤ length (written (c ∷ l))
written-long c [] = omega (arith, one-length c)
written-long c (d ∷ l) = omega (arith, more-length c d l, written-long d l)

row_next : (f : ℕ) (s : List ℕ) (at : ℕ) → at < length s → (split_at s at).whole ≡ true
    → rows_from (suc f) s at ≡ text_row s (split_at s at) ∷ rows_from f s (split_at s at).next
unfolding rows_from
row_next f s at h w = rw (lt-ltb at (length s) h, w, rows_from)

rows_end : (f : ℕ) (s : List ℕ) (at : ℕ) → length s ≤ at → rows_from f s at ≡ []
unfolding rows_from
rows_end zero s at h = refl
rows_end (suc f) s at h = rw (le-ltb at (length s) h, rows_from)

row_read : (s : List ℕ) (p : Split) (at : ℕ) (cells : List (List ℕ)) → Parts s at cells p → text_row s p ≡ row_of cells
unfolding text_row
row_read s p at cells q = ap₂ (λ (l : List (List ℕ)) (b : Bool). record { cells = l; whole = b }) q.same q.whole

-- a row has cells
abbrev pub Some : List (List ℕ) → Type 0
Some cells = 1 ≤ length cells

module _ (s : List ℕ) where
  rows-from : (f at : ℕ) (ls : List (List (List ℕ))) → All Some ls → length ls ≤ f → drop at s ≡ joined written ls
      → rows_from f s at ≡ map row_of ls
  rows-from f at [] a h e = let l = length-drop at s in let z : length (drop at s) ≡ 0 = ap length e in rows_end f s at (omega arith)
  rows-from f at ([] ∷ ls) a h e = absurd (omega (arith, a.0))
  rows-from zero at ((c ∷ l) ∷ ls) a h e = absurd (omega arith)
  rows-from (suc f) at ((c ∷ l) ∷ ls) a h e =
      let text = written (c ∷ l) in
      let long = written-long c l in
      let bytes = ap length e ∙ length-append text (joined written ls) in
      let all = length-drop at s in
      let p = parts_again s (suc (length s)) at c l (joined written ls) (omega arith) e in
      let there : drop (split_at s at).next s ≡ joined written ls = rw p.next (behind s at text (joined written ls) e) in
      row_next f s at (omega arith) p.whole
      ∙ ap₂ (λ (x : TextRow) (m : List TextRow). x ∷ m) (row_read s (split_at s at) at (c ∷ l) p)
      (rows-from f (split_at s at).next ls a.1 (omega arith) there)

-- a text of written rows takes at least a byte for each
rows_long : (ls : List (List (List ℕ))) → All Some ls → length ls ≤ length (joined written ls)
rows_long [] a = omega arith
rows_long ([] ∷ ls) a = absurd (omega (arith, a.0))
rows_long ((c ∷ l) ∷ ls) a = omega (arith, length-append (written (c ∷ l)) (joined written ls), written-long c l, rows_long ls a.1)

pub rows_written : (ls : List (List (List ℕ))) → All Some ls → rows_of (joined written ls) ≡ map row_of ls
unfolding rows_of
rows_written ls a =
    let s = joined written ls in
    rows-from s (suc (length s)) 0 ls a (omega (arith, rows_long ls a)) refl
