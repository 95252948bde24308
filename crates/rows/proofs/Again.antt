-- Rows written out and read again: an accepted circuit is kept, its text is parted into its entries' rows again (`rows_written`), each
-- of them is fine (`row_number_lem`, `row-fields`), and their fields between header and end are the circuit's bytes. Assumes nothing.
use mathlib.Core.Path.{◌≡◌, refl, ap, ap₂, sym, ◌∙◌}
use mathlib.Core.Bool.{Bool, true, false, cond}
use mathlib.Core.List.{List, [], ◌∷◌, ◌++◌, map, map-map}
use Prim.Native.Nat.{ℕ, ◌+◌, ◌≤◌, ◌<◌}
use native.Mathlib.Omega.{arith}
use lib.Dec.{ltb}
use lib.ListN.{length}
use borrow.Author.Tests.{ltb-true, ltb-false, lt-ltb, le-ltb}
use Rattle.refusals.specs.Answers.{refused_at, accepted_with}
use Rattle.refusals.specs.Limited.{ours}
use Rattle.decoding.specs.Decoded.{Block, Row, Circuit}
use Rattle.circuit.specs.Circuit.{Verdict, refused, accepted, verdict}
use Rattle.circuit.proofs.Listed.{refusal-listed}
use Rattle.kept.specs.Keeps.{All, Keeps, joined, encode}
use Rattle.kept.proofs.Exactly.{accepted-exactly}
use Rattle.rows.specs.Text.{TextRow, rows_of}
use Rattle.rows.specs.Columns.{block_shape, output_shape, fields_of, is_block}
use Rattle.rows.specs.Reading.{blocks_in, circuit_of, read_answer, laid_over}
use Rattle.rows.specs.Writing.{written, text_of, answer_for, write_answer, text_for, text_after}
use Rattle.rows.specs.Entries.{Entry, entry_bytes, entry_cells, entry_text, Fine, block_entry, row_entry, entries_of}
use Rattle.rows.specs.Again.{wrote, RowsAgain, WrittenReadAgain, Sound, NoTextRoomExactly, RefusedUntouched}
use Rattle.rows.proofs.Entries.{mapped-length, joined_same, all_of, all-mapped, text-entries, encode-entries, entries-length, kept_fine}
use Rattle.rows.proofs.Text.{row_of, Some, rows_written}
use Rattle.rows.proofs.Fine.{row_number_lem, row-fields, row_block}
use Rattle.rows.proofs.Outcome.{number_of, answer-sound, room-enough, after-accepted, after-refused, laid-first}

-- ---- the rows of entries

abbrev entry_row : Entry → TextRow
entry_row e = row_of (entry_cells e)

cells-some : (e : Entry) → Some (entry_cells e)
unfolding entry_cells
cells-some e = omega arith

entries-parted : (es : List Entry) → rows_of (joined entry_text es) ≡ map entry_row es
entries-parted es =
    ap rows_of (joined_same entry_text written entry_cells es (all_of _ (λ e. refl) es))
    ∙ rows_written (map entry_cells es) (all-mapped Some entry_cells es (all_of _ cells-some es))
    ∙ map-map row_of entry_cells es

entries-sound : (es : List Entry) → All Fine es → All Sound (map entry_row es)
entries-sound [] a = tt
entries-sound (e ∷ es) a = (row_number_lem e a.0, entries-sound es a.1)

entries-fields : (es : List Entry) → All Fine es → joined fields_of (map entry_row es) ≡ joined entry_bytes es
entries-fields [] a = refl
entries-fields (e ∷ es) a = ap₂ (λ (u v : List ℕ). u ++ v) (row-fields e a.0) (entries-fields es a.1)

-- ---- the blocks among them

blocks_more : (r : TextRow) (l : List TextRow) (b : Bool) → is_block r ≡ b → blocks_in (r ∷ l) ≡ cond b 1 0 + blocks_in l
unfolding blocks_in
blocks_more r l b e = rw e

blocks-none : blocks_in [] ≡ 0
unfolding blocks_in
blocks-none = refl

block-labelled : (b : Block) → (block_entry b).shape.labelled ≡ true
unfolding block_entry block_shape
block-labelled b = refl

row_plain : (r : Row) → (row_entry r).shape.labelled ≡ false
unfolding row_entry output_shape
row_plain r = refl

blocks-counted : (bs : List Block) (rs : List Row) → All Fine (map block_entry bs ++ map row_entry rs)
    → blocks_in (map entry_row (map block_entry bs ++ map row_entry rs)) ≡ length bs
blocks-counted [] [] a = blocks-none
blocks-counted [] (r ∷ rs) a =
    let block = row_block (row_entry r) a.0 ∙ row_plain r in
    let more = blocks_more (entry_row (row_entry r)) (map entry_row (map row_entry rs)) false block in
    omega (arith, blocks-counted [] rs a.1)
blocks-counted (b ∷ bs) rs a =
    let block = row_block (block_entry b) a.0 ∙ block-labelled b in
    let more = blocks_more (entry_row (block_entry b)) (map entry_row (map block_entry bs ++ map row_entry rs)) true block in
    omega (arith, blocks-counted bs rs a.1)

-- ---- a kept circuit, written and read

module _ (c : Circuit) (k : Keeps ours c) where
  fine : All Fine (entries_of c)
  fine = kept_fine c k

  rows_are : rows_of (text_of c) ≡ map entry_row (entries_of c)
  rows_are = ap rows_of (text-entries c) ∙ entries-parted (entries_of c)

  text-sound : All Sound (rows_of (text_of c))
  text-sound = rw rows_are (entries-sound (entries_of c) fine)

  blocks-are : blocks_in (rows_of (text_of c)) ≡ length c.blocks
  unfolding entries_of
  blocks-are = ap blocks_in rows_are ∙ blocks-counted c.blocks c.rows fine

  circuit-is : circuit_of (rows_of (text_of c)) ≡ encode c
  unfolding circuit_of
  circuit-is = rw (blocks-are, rows_are, entries-fields (entries_of c) fine) (sym (encode-entries c k))

  rows-many : length (rows_of (text_of c)) ≡ length c.blocks + length c.rows
  rows-many = ap length rows_are ∙ mapped-length entry_row (entries_of c) ∙ entries-length c

  read_kept : (room : ℕ) → length (encode c) ≤ room
      → read_answer (text_of c) room ≡ accepted_with (length (encode c)) (length c.blocks + length c.rows)
  read_kept room h =
      let few : blocks_in (rows_of (text_of c)) ≤ 400 = omega (arith, blocks-are, k.few, k.count) in
      let enough : length (circuit_of (rows_of (text_of c))) ≤ room = rw circuit-is h in
      answer-sound (text_of c) room text-sound
      ∙ room-enough (rows_of (text_of c)) room few enough
      ∙ ap₂ accepted_with (ap length circuit-is) rows-many

-- ---- writing

write-short : (circuit : List ℕ) (c : Circuit) (room : ℕ) → verdict circuit ≡ accepted c → room < length (text_of c)
    → write_answer circuit room ≡ refused_at 33 0
unfolding write_answer answer_for
write-short circuit c room v h = rw (v, lt-ltb room (length (text_of c)) h)

write-enough : (circuit : List ℕ) (c : Circuit) (room : ℕ) → verdict circuit ≡ accepted c → length (text_of c) ≤ room
    → write_answer circuit room ≡ accepted_with (length (text_of c)) (length c.blocks + length c.rows)
unfolding write_answer answer_for
write-enough circuit c room v h = rw (v, le-ltb room (length (text_of c)) h)

write-refused : (circuit : List ℕ) (number place room : ℕ) → verdict circuit ≡ refused number place
    → write_answer circuit room ≡ refused_at number place
unfolding write_answer answer_for
write-refused circuit number place room v = rw v

-- the three ways in which it ends
data Written (circuit : List ℕ) (room : ℕ) : Type 0 where
  judged : (number place : ℕ) → verdict circuit ≡ refused number place → write_answer circuit room ≡ refused_at number place → Written circuit room
  short : (c : Circuit) → verdict circuit ≡ accepted c → room < length (text_of c) → write_answer circuit room ≡ refused_at 33 0
      → Written circuit room
  enough : (c : Circuit) → verdict circuit ≡ accepted c → length (text_of c) ≤ room
      → write_answer circuit room ≡ accepted_with (length (text_of c)) (length c.blocks + length c.rows) → Written circuit room

written-so : (circuit : List ℕ) (room : ℕ) → Written circuit room
written-so circuit room = by (verdict circuit) refl
  where
    fits : (c : Circuit) → verdict circuit ≡ accepted c → (t : Bool) → ltb room (length (text_of c)) ≡ t → Written circuit room
    fits c v true e = let h = ltb-true room (length (text_of c)) e in short c v h (write-short circuit c room v h)
    fits c v false e = let h = ltb-false room (length (text_of c)) e in enough c v h (write-enough circuit c room v h)

    by : (v : Verdict) → verdict circuit ≡ v → Written circuit room
    by (refused number place) v = judged number place v (write-refused circuit number place room v)
    by (accepted c) v = fits c v (ltb room (length (text_of c))) refl

text-enough : (circuit : List ℕ) (c : Circuit) (lent : List ℕ) → verdict circuit ≡ accepted c → length (text_of c) ≤ length lent
    → text_after circuit lent ≡ laid_over (text_of c) lent
unfolding text_after text_for
text-enough circuit c lent v h = rw (v, le-ltb (length lent) (length (text_of c)) h)

text-short : (circuit : List ℕ) (c : Circuit) (lent : List ℕ) → verdict circuit ≡ accepted c → length lent < length (text_of c)
    → text_after circuit lent ≡ lent
unfolding text_after text_for
text-short circuit c lent v h = rw (v, lt-ltb (length lent) (length (text_of c)) h)

text-refused : (circuit : List ℕ) (number place : ℕ) (lent : List ℕ) → verdict circuit ≡ refused number place → text_after circuit lent ≡ lent
unfolding text_after text_for
text-refused circuit number place lent v = rw v

-- ---- the promises

pub no-text-room-exactly : NoTextRoomExactly
no-text-room-exactly circuit room =
    (λ e. by e (written-so circuit room), λ x. number_of _ _ (write-short circuit x.0 room x.1 x.2))
  where
    by : (write_answer circuit room).number ≡ 33 → Written circuit room
        → (c : Circuit) × (verdict circuit ≡ accepted c) × (room < length (text_of c))
    by e (judged number place v q) =
        let n = number_of _ _ q in
        let r = refusal-listed ours circuit number place v in
        absurd (omega (arith, r.most))
    by e (short c v h q) = (c, v, h)
    by e (enough c v h q) = let n = number_of _ _ q in absurd (omega arith)

pub refused-untouched : RefusedUntouched
refused-untouched = (after-refused, λ circuit lent n. by circuit lent n (written-so circuit (length lent)))
  where
    by : (circuit lent : List ℕ) → ((write_answer circuit (length lent)).number ≡ 0 → ⊥) → Written circuit (length lent)
        → text_after circuit lent ≡ lent
    by circuit lent n (judged number place v q) = text-refused circuit number place lent v
    by circuit lent n (short c v h q) = text-short circuit c lent v h
    by circuit lent n (enough c v h q) = absurd (n (number_of _ _ q))

wrote-is : (circuit : List ℕ) (c : Circuit) (text : List ℕ) → verdict circuit ≡ accepted c → length (text_of c) ≤ length text
    → wrote circuit text ≡ text_of c
unfolding wrote
wrote-is circuit c text v h =
    rw (text-enough circuit c text v h, write-enough circuit c (length text) v h) (laid-first (text_of c) text)

pub rows-again : WrittenReadAgain
rows-again circuit text lent small z room = by (written-so circuit (length text))
  where
    by : Written circuit (length text) → RowsAgain circuit text lent
    by (judged number place v q) =
        let n = number_of _ _ q in
        let r = refusal-listed ours circuit number place v in
        absurd (omega (arith, r.some))
    by (short c v h q) = let n = number_of _ _ q in absurd (omega arith)
    by (enough c v h q) =
        let kept = (accepted-exactly ours circuit small c).0 v in
        let enough-room : length (encode c) ≤ length lent = omega (arith, ap length kept.1) in
        let read = read_kept c kept.0 (length lent) enough-room in
        let same = wrote-is circuit c text v h in
        record {
          answer = rw (same, q) (read ∙ ap (λ (n : ℕ). accepted_with n (length c.blocks + length c.rows)) (ap length (sym kept.1)));
          bytes =
              rw same
              (after-accepted (text_of c) lent (number_of _ _ read)
              ∙ ap (λ (l : List ℕ). laid_over l lent) (circuit-is c kept.0 ∙ sym kept.1));
        }
