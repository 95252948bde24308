-- Rows, blocks and bytes counted row by row. What goes over the room once stays over; else the room is what is left and what is taken.
-- Assumes nothing.
use mathlib.Core.Path.{◌≡◌, refl, ap, sym, ◌∙◌}
use mathlib.Core.Bool.{Bool, true, false, cond}
use mathlib.Core.List.{List, [], ◌∷◌, ◌++◌}
use Prim.Native.Nat.{ℕ, suc, ◌+◌, ◌-◌, ◌≤◌, ◌<◌}
use native.Mathlib.Omega.{arith}
use lib.Dec.{ltb}
use lib.ListN.{length, length-append}
use mir.Val.{bool_byte}
use borrow.Author.Tests.{lt-ltb, le-ltb, ltb-true, ltb-false}
use Rattle.kept.specs.Keeps.{joined}
use Rattle.kept.proofs.Lists.{joined_snoc}
use Rattle.rows.specs.Text.{TextRow}
use Rattle.rows.specs.Columns.{fields_of, is_block}
use Rattle.rows.specs.Reading.{sound, reading_from, blocks_in}
use Rattle.reading.specs.Counted.{Judged}
use Rattle.reading.specs.Counted.{Counted}
use Rattle.reading.specs.Counted.{row_at, Judges, opened_with, counted_with}
use Rattle.reading.proofs.Passed.{sound_more}

-- ---- the room

-- n bytes of the room are taken
pub record Takes (room n : ℕ) (over : Bool) (left : ℕ) : Type 0 where
  pub goes_over : over ≡ ltb room n
  pub rest : over ≡ false → left + n ≡ room

takes_first : (room n : ℕ) → Takes room n (ltb room n) (room - n)
takes_first room n = record { goes_over = refl; rest = λ e. let h = ltb-false room n e in omega arith }

module _ (room n left size : ℕ) where
  takes-over : room < n + size → Takes room (n + size) true (left - size)
  takes-over h =
      record { goes_over = sym (lt-ltb room (n + size) h); rest = λ z. absurd (let q : ◌≡◌ {A = ℕ} 0 1 = cc in omega arith) }

  takes-by : (over small : Bool) → ltb left size ≡ small → Takes room n over left → Takes room (n + size) (cond small true over) (left - size)
  takes-by true true e t = let h : room < n = ltb-true room n (sym t.goes_over) in takes-over (omega arith)
  takes-by true false e t = let h : room < n = ltb-true room n (sym t.goes_over) in takes-over (omega arith)
  takes-by false true e t =
      let h : left < size = ltb-true left size e in
      let r = t.rest refl in
      takes-over (omega arith)
  takes-by false false e t =
      let h : size ≤ left = ltb-false left size e in
      let r = t.rest refl in
      record { goes_over = sym (le-ltb room (n + size) (omega arith)); rest = λ z. omega arith }

  takes-more : (over : Bool) → Takes room n over left → Takes room (n + size) (cond (ltb left size) true over) (left - size)
  takes-more over t = takes-by over (ltb left size) refl t

-- ---- rows without a fault, counted

-- how many bytes header, fields and end take
abbrev bytes_for : List TextRow → ℕ
bytes_for rows = 9 + length (joined fields_of rows)

pub record Counts (room : ℕ) (rows : List TextRow) (c : Counted) : Type 0 where
  pub number : c.number ≡ 0
  pub clean : reading_from 1 rows ≡ sound
  pub many : c.rows ≡ length rows
  pub blocks : c.blocks ≡ blocks_in rows
  pub takes : Takes room (bytes_for rows) c.over c.left

pub counts-none : (room : ℕ) → Counts room [] (opened_with room)
unfolding opened_with reading_from blocks_in
counts-none room = record { number = refl; clean = refl; many = refl; blocks = refl; takes = takes_first room 9 }

blocks_more : (rows : List TextRow) (x : TextRow) → blocks_in (rows ++ (x ∷ [])) ≡ blocks_in rows + cond (is_block x) 1 0
unfolding blocks_in
blocks_more [] x = omega arith
blocks_more (r ∷ l) x = let e = blocks_more l x in omega arith

one-row : (rows : List TextRow) (x : TextRow) → length (rows ++ (x ∷ [])) ≡ length rows + 1
one-row rows x = let e = length-append rows (x ∷ []) in omega arith

bytes-more : (rows : List TextRow) (x : TextRow) → bytes_for (rows ++ (x ∷ [])) ≡ bytes_for rows + length (fields_of x)
bytes-more rows x =
    let a = ap length (joined_snoc fields_of rows x) in
    let b = length-append (joined fields_of rows) (fields_of x) in
    omega arith

pub blocks-few : (rows : List TextRow) → blocks_in rows ≤ length rows
unfolding blocks_in
blocks-few [] = omega arith
blocks-few (r ∷ l) = few-by (is_block r) (blocks-few l)
  where
    few-by : (b : Bool) → blocks_in l ≤ length l → cond b 1 0 + blocks_in l ≤ suc (length l)
    few-by true h = omega arith
    few-by false h = omega arith

pub counts-more : (s : List ℕ) (at room : ℕ) (rows : List TextRow) (c : Counted) (r : Judged) → Counts room rows c → Judges s at r → r.number ≡ 0
    → Counts room (rows ++ (row_at s at ∷ [])) (counted_with c r)
unfolding counted_with
counts-more s at room rows c r k j z =
    let x : TextRow = row_at s at in
    let size : r.size ≡ length (fields_of x) = j.size z in
    let block : r.block ≡ is_block x = j.block z in
    record {
      number = z;
      clean = sound_more rows x k.clean (sym j.number ∙ z);
      many = ap (λ (n : ℕ). n + 1) k.many ∙ sym (one-row rows x);
      blocks = rw (k.blocks, block) (sym (blocks_more rows x));
      takes = rw (bytes-more rows x, ← size) (takes-more room (bytes_for rows) c.left r.size c.over k.takes);
    }

-- ---- as the code makes them

pub opened-as : (room : ℕ) (o : Bool) (n : ℕ) → o ≡ cond (ltb room 9) true false → n ≡ room - 9
    → record { number = 0; rows = 0; blocks = 0; over = o; left = n } ≡ opened_with room
unfolding opened_with
opened-as room o n e f = rw (e, f) (by (ltb room 9))
  where
    by : (t : Bool) → ◌≡◌ {A = Counted} (record { number = 0; rows = 0; blocks = 0; over = cond t true false; left = room - 9 }) (record { number = 0; rows = 0; blocks = 0; over = t; left = room - 9 })
    by true = refl
    by false = refl

-- a bit as a number
bit-counts : (b : Bool) → bool_byte b ≡ cond b 1 0
bit-counts true = refl
bit-counts false = refl

pub counted-as : (c : Counted) (r : Judged) (o : Bool) (n : ℕ) → o ≡ cond (ltb c.left r.size) true c.over → n ≡ c.left - r.size
    → record { number = r.number; rows = c.rows + 1; blocks = c.blocks + bool_byte r.block; over = o; left = n } ≡ counted_with c r
unfolding counted_with
counted-as c r o n e f = rw (e, f, bit-counts r.block)

pub ruleset tests = (lt-ltb, le-ltb)
