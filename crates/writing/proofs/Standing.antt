-- Where an entry's bytes stand, the code goes through that entry: its shape, its numbers, its label, and its row. So the rows of an
-- accepted circuit are its text. Assumes nothing.
use mathlib.Core.Path.{◌≡◌, refl, ap, ap₂, sym, ◌∙◌}
use mathlib.Core.Bool.{Bool, true, false, cond}
use mathlib.Core.List.{List, [], ◌∷◌, ◌++◌, map, append-nil, append_assoc}
use mathlib.Core.Option.{Option, none, some}
use Prim.Native.Nat.{ℕ, suc, ◌+◌, ◌-◌, ◌≤◌, ◌<◌, ◌^◌}
use native.Mathlib.Nat.{add-zero}
use native.Mathlib.Omega.{arith}
use lib.Dec.{eqb}
use lib.ListN.{length, get_or, drop, length-append, length-drop}
use lib.Seq.{take-append_seam}
use lib.IntN.{ℤ, pos, negsuc}
use mir.Syntax.{w32}
use mir.Val.{SFits, to_z, of_z}
use mir.Facts.{Fits-of_z, to_z-of_z}
use borrow.Author.Tests.{eqb-true, eqb-false}
use Rattle.words.specs.Bytes.{number_at, bytes_of}
use Rattle.words.proofs.Sides.{sides-fit}
use Rattle.words.proofs.Bounds.{between-sides}
use Rattle.kinds.proofs.Rows.{small-kind}
use Rattle.refusals.specs.Limited.{ours}
use Rattle.kinds.specs.Kinds.{known}
use Rattle.decoding.specs.Decoded.{Circuit}
use Rattle.circuit.specs.Circuit.{verdict, accepted}
use Rattle.kept.specs.Keeps.{All, Match, Bytes, Labelled, joined, field, label_bytes}
use Rattle.kept.proofs.Codec.{step, number_read, field-read}
use Rattle.kept.proofs.Lists.{match-length}
use Rattle.kept.proofs.Exactly.{accepted-exactly}
use Rattle.digits.specs.Numbers.{decimal, signed_decimal, width, last_digits}
use Rattle.cells.specs.Cells.{write_cell, any_special, special}
use Rattle.rows.specs.Shape.{Shape}
use Rattle.rows.specs.Columns.{below_of, above_of, packed, widths, widths_of, block_shape, output_shape, numbers_in}
use Rattle.rows.specs.Widths.{width_at}
use Rattle.rows.specs.Writing.{label_cells, written, text_of}
use Rattle.rows.specs.Entries.{Entry, packed_all, entry_bytes, entry_cells, entry_text, FitsIn, Shaped, block, output, Fine, entries_of}
use Rattle.rows.proofs.Widths.{width_is, widths-length, widths-total, packed-total}
use Rattle.rows.proofs.Entries.{encode-entries, text-entries, entries-length, kept_fine}
use Rattle.rows.proofs.Said.{signed-common}
use Rattle.writing.specs.Walked.{between, Wide, number_text, numbers_text, numbers_end, label_text, tail_text, tail_end, shape_at, field_end, row_by, row_at, next_by, next_at, rows_at, Stands, Run}
use Rattle.writing.proofs.Cell.{cell-plain}
use Rattle.writing.proofs.Field.{wide_at, tail_none, tail-bare, tail-some}
use Rattle.writing.proofs.Row.{shape-block, shape-output}

-- ---- a number in its bytes

-- a number's bits: they fit its bytes, and say it
record Held (w : ℕ) (v : ℤ) : Type 0 where
  small : of_z w32 v < 256 ^ w
  same : to_z w32 (of_z w32 v) ≡ v

held-four : (v : ℤ) → FitsIn 4 v → Held 4 v
unfolding below_of above_of
held-four v h =
    let b = between-sides h in
    let f : SFits w32 v = sides-fit v (omega (arith, b.0, b.1)) (omega (arith, b.0, b.1)) in
    record { small = (Fits-of_z f).fits; same = to_z-of_z f }

held_low : (w n : ℕ) → n < 256 ^ w → n < 2147483648 → Held w (pos n)
held_low w n h g =
    let f : SFits w32 (pos n) = sides-fit (pos n) (omega arith) (omega arith) in
    record { small = h; same = to_z-of_z f }

held_one : (v : ℤ) → FitsIn 1 v → Held 1 v
unfolding below_of above_of
held_one (pos n) h = let b = between-sides h in held_low 1 n (omega (arith, b.1)) (omega (arith, b.1))
held_one (negsuc n) h = let b = between-sides h in absurd (omega (arith, b.0))

held_two : (v : ℤ) → FitsIn 2 v → Held 2 v
unfolding below_of above_of
held_two (pos n) h = let b = between-sides h in held_low 2 n (omega (arith, b.1)) (omega (arith, b.1))
held_two (negsuc n) h = let b = between-sides h in absurd (omega (arith, b.0))

held : (w : ℕ) (v : ℤ) → Wide w → FitsIn w v → Held w v
held w v wide h = one (eqb w 1) refl
  where
    two : (t : Bool) → eqb w 2 ≡ t → (w ≡ 1 → ⊥) → Held w v
    two true e m = let q = eqb-true w 2 e in rw q (held_two v (rw q at h))
    two false e m = let q = wide.else-four m (eqb-false w 2 e) in rw q (held-four v (rw q at h))

    one : (t : Bool) → eqb w 1 ≡ t → Held w v
    one true e = let q = eqb-true w 1 e in rw q (held_one v (rw q at h))
    one false e = two (eqb w 2) refl (eqb-false w 1 e)

-- ---- the numbers

module _ (s : List ℕ) (inputs : ℕ) where
  pub numbers-read : (ws : List ℕ) (vs : List ℤ) (j at : ℕ) (r : List ℕ) → ((k : ℕ) → k < length ws → get_or ws k 0 ≡ width_at inputs (j + k))
      → Match FitsIn ws vs → drop at s ≡ packed_all ws vs ++ r
      → (numbers_text inputs s (length ws) j at ≡ joined number_text vs) × (drop (numbers_end inputs (length ws) j at) s ≡ r)
  unfolding numbers_text numbers_end packed_all packed
  numbers-read [] [] j at r agree m d = (refl, d)
  numbers-read [] (v ∷ vs) j at r agree m d = absurd m
  numbers-read (w ∷ ws) [] j at r agree m d = absurd m
  numbers-read (w ∷ ws) (v ∷ vs) j at r agree m d =
      let e : w ≡ width_at inputs j = rw add-zero at (agree 0 (omega arith)) in
      let wide : Wide w = rw e (wide_at inputs j) in
      let h = held w v wide m.0 in
      let n = number_read s w at (of_z w32 v) (packed_all ws vs ++ r) h.small (d ∙ append_assoc (packed w v) (packed_all ws vs) r) in
      let then : (k : ℕ) → k < length ws → get_or ws k 0 ≡ width_at inputs (j + 1 + k) = λ k g. agree (suc k) (omega arith) ∙ ap (width_at inputs) (shift k) in
      let rest = numbers-read ws vs (j + 1) (at + w) r then m.1 n.1 in
      (rw (← e, n.0, h.same, rest.0), ap (λ (x : ℕ). drop (numbers_end inputs (length ws) (j + 1) (at + x)) s) (sym e) ∙ rest.1)
    where
      shift : (k : ℕ) → j + suc k ≡ j + 1 + k
      shift k = omega arith

-- ---- the text of a row, part by part

-- a cell behind its comma
cell_text : List ℕ → List ℕ
cell_text c = 44 ∷ write_cell c

written-parts : (c : List ℕ) (l : List (List ℕ)) → written (c ∷ l) ≡ write_cell c ++ (joined cell_text l ++ (13 ∷ 10 ∷ []))
unfolding written cell_text
written-parts c [] = refl
written-parts c (d ∷ l) =
    ap (λ (r : List ℕ). write_cell c ++ (44 ∷ r))
    (written-parts d l ∙ sym (append_assoc (write_cell d) (joined cell_text l) (13 ∷ 10 ∷ [])))

number-cell : (v : ℤ) → cell_text (signed_decimal v) ≡ number_text v
unfolding cell_text number_text
number-cell v = ap (λ (l : List ℕ). 44 ∷ l) (cell-plain (signed_decimal v) (signed-common v))

number-cells : (vs : List ℤ) (l : List (List ℕ)) → joined cell_text (map signed_decimal vs ++ l) ≡ joined number_text vs ++ joined cell_text l
number-cells [] l = refl
number-cells (v ∷ vs) l =
    ap₂ (λ (a b : List ℕ). a ++ b) (number-cell v) (number-cells vs l)
    ∙ sym (append_assoc (number_text v) (joined number_text vs) (joined cell_text l))

label-cells : (label : Option (List ℕ)) → joined cell_text (label_cells label) ≡ label_text label
unfolding label_cells label_text cell_text decimal width last_digits write_cell any_special special
label-cells none = refl
label-cells (some x) = ap (λ (l : List ℕ). 44 ∷ 49 ∷ 44 ∷ l) (append-nil (write_cell x))

tail-cells : (labelled : Bool) (label : Option (List ℕ)) → joined cell_text (cond labelled (label_cells label) []) ≡ cond labelled (label_text label) []
tail-cells true label = label-cells label
tail-cells false label = refl

tag-cell : (n : ℕ) → write_cell (decimal n) ≡ decimal n
unfolding signed_decimal
tag-cell n = cell-plain (decimal n) (signed-common (pos n))

pub text-parts : (e : Entry) → entry_text e
    ≡ decimal e.shape.tag ++ (joined number_text e.numbers ++ (cond e.shape.labelled (label_text e.label) [] ++ (13 ∷ 10 ∷ [])))
unfolding entry_cells
text-parts e =
    let tag = decimal e.shape.tag in
    let numbers = joined number_text e.numbers in
    let tail = cond e.shape.labelled (label_text e.label) [] in
    let cells = cond e.shape.labelled (label_cells e.label) [] in
    written-parts tag (map signed_decimal e.numbers ++ cells)
    ∙ ap₂ (λ (a b : List ℕ). a ++ (b ++ (13 ∷ 10 ∷ []))) (tag-cell e.shape.tag)
    (number-cells e.numbers cells ∙ ap (λ (l : List ℕ). numbers ++ l) (tail-cells e.shape.labelled e.label))
    ∙ ap (λ (l : List ℕ). tag ++ l) (append_assoc numbers tail (13 ∷ 10 ∷ []))

-- ---- what stands behind an entry

-- a field that is no label's
pub record Goes (r : List ℕ) : Type 0 where
  pub other : get_or r 0 0 ≡ 0x20 → ⊥
  pub long : 3 ≤ length r

field-goes : (tag : ℕ) (content r : List ℕ) → (tag ≡ 0x20 → ⊥) → Goes (field tag content ++ r)
unfolding field bytes_of
field-goes tag content r n = record { other = n; long = omega arith }

end_goes : Goes (field 0x7F [])
unfolding field bytes_of
end_goes = record { other = λ q. omega arith; long = omega arith }

entry-tag : (e : Entry) → Shaped e → e.shape.tag ≡ 0x20 → ⊥
unfolding block_shape output_shape
entry-tag e (block kind k sh first) q = let t = ap (λ (x : Shape). x.tag) sh in omega arith
entry-tag e (output sh) q = let t = ap (λ (x : Shape). x.tag) sh in omega arith

pub entries-go : (es : List Entry) → All Fine es → Goes (joined entry_bytes es ++ field 0x7F [])
unfolding entry_bytes
entries-go [] a = end_goes
entries-go (e ∷ es) a =
    let first = field e.shape.tag (packed_all (widths_of e.shape) e.numbers) in
    let label = cond e.shape.labelled (label_bytes e.label) [] in
    let rest = joined entry_bytes es in
    let same : ((first ++ label) ++ rest) ++ field 0x7F [] ≡ first ++ (label ++ (rest ++ field 0x7F [])) = simp append_assoc in
    rw same (field-goes e.shape.tag (packed_all (widths_of e.shape) e.numbers) (label ++ (rest ++ field 0x7F [])) (entry-tag e a.0.shaped))

room-behind : (s : List ℕ) (at : ℕ) (r : List ℕ) → drop at s ≡ r → 3 ≤ length r → at + 3 ≤ length s
room-behind s at r d h = let l = sym (length-drop at s) ∙ ap length d in omega arith

-- ---- a label

first_byte : (s : List ℕ) (at : ℕ) (r : List ℕ) → drop at s ≡ r → 3 ≤ length r → get_or s at 0 ≡ get_or r 0 0
first_byte s at [] d h = absurd (omega arith)
first_byte s at (x ∷ r) d h = (step s at x r d).0

-- mark and label of an entry, and what is behind it
record Tail (s : List ℕ) (at : ℕ) (labelled : Bool) (label : Option (List ℕ)) (r : List ℕ) : Type 0 where
  text : tail_text labelled s at ≡ cond labelled (label_text label) []
  behind : drop (tail_end labelled s at) s ≡ r

tail_of : (s : List ℕ) (at : ℕ) (labelled : Bool) (label : Option (List ℕ)) (r : List ℕ) → Labelled label → Goes r
    → drop at s ≡ cond labelled (label_bytes label) [] ++ r → Tail s at labelled label r
unfolding label_text
tail_of s at false label r l g d =
    let t = tail_none s at false refl in
    record { text = t.0; behind = ap (λ (n : ℕ). drop n s) t.1 ∙ d }
tail_of s at true none r l g d =
    let other : get_or s at 0 ≡ 0x20 → ⊥ = λ q. g.other (sym (first_byte s at r d g.long) ∙ q) in
    let t = tail-bare s at true refl other in
    record { text = t.0; behind = ap (λ (n : ℕ). drop n s) t.1 ∙ d }
tail_of s at true (some x) r l g d =
    let short : length x < 65536 = omega (arith, l.short) in
    let f = field-read s at 0x20 x r short d in
    let t = tail-some s at true refl f.tag_is in
    let size : number_at 2 s (at + 1) ≡ length x = f.size_is in
    let sum : at + 3 + length x - (at + 3) ≡ length x = omega arith in
    let part : between s (at + 3) (at + 3 + number_at 2 s (at + 1)) ≡ x = rw (size, sum, f.content-is) (take-append_seam x r) in
    record { text = t.0 ∙ ap (λ (y : List ℕ). 44 ∷ 49 ∷ 44 ∷ write_cell y) part; behind = ap (λ (n : ℕ). drop n s) t.1 ∙ f.next-is }

-- ---- the shape

-- the first number is the kind
first_read : (s : List ℕ) (at : ℕ) (ws : List ℕ) (vs : List ℤ) (r : List ℕ) (kind : ℕ) → Match FitsIn (1 ∷ ws) vs → get_or vs 0 (pos 0) ≡ pos kind
    → drop at s ≡ packed_all (1 ∷ ws) vs ++ r → get_or s at 0 ≡ kind
unfolding packed_all packed number_at
first_read s at ws [] r kind m q d = absurd m
first_read s at ws (v ∷ vs) r kind m q d =
    let n = number_read s 1 at (of_z w32 v) (packed_all ws vs ++ r) (held_one v m.0).small (d ∙ append_assoc (packed 1 v) (packed_all ws vs) r) in
    let k : of_z w32 v ≡ kind = ap (of_z w32) q in
    omega (arith, n.0)

-- its connectors and parameters are few
record Few (sh : Shape) : Type 0 where
  inputs : sh.inputs ≤ 4
  parameters : sh.parameters ≤ 4

few-of : (e : Entry) → Shaped e → Few e.shape
unfolding block_shape output_shape
few-of e (block kind k sh first) =
    let small = small-kind kind in
    let i = ap (λ (x : Shape). x.inputs) sh in
    let p = ap (λ (x : Shape). x.parameters) sh in
    record { inputs = omega (arith, small.inputs); parameters = omega (arith, small.parameters) }
few-of e (output sh) =
    let i = ap (λ (x : Shape). x.inputs) sh in
    let p = ap (λ (x : Shape). x.parameters) sh in
    record { inputs = omega arith; parameters = omega arith }

module _ (s : List ℕ) (at : ℕ) (e : Entry) (fine : Fine e) (r : List ℕ)
    (behind : drop at s ≡ field e.shape.tag (packed_all (widths_of e.shape) e.numbers) ++ r) where
  -- its content is short
  content-short : length (packed_all (widths_of e.shape) e.numbers) < 65536
  content-short =
      let ws = widths_of e.shape in
      let few = few-of e fine.shaped in
      let m = match-length FitsIn ws e.numbers fine.fit in
      let t = packed-total ws e.numbers (omega arith) in
      let w = widths-total e.shape.inputs e.shape.parameters in
      omega (arith, few.inputs, few.parameters)

  tag-here : get_or s at 0 ≡ e.shape.tag
  tag-here = (field-read s at e.shape.tag (packed_all (widths_of e.shape) e.numbers) r content-short behind).tag_is

  content-here : drop (at + 3) s ≡ packed_all (widths_of e.shape) e.numbers ++ r
  content-here = (field-read s at e.shape.tag (packed_all (widths_of e.shape) e.numbers) r content-short behind).content-is

  kind-here : (kind : ℕ) → get_or e.numbers 0 (pos 0) ≡ pos kind → get_or s (at + 3) 0 ≡ kind
  unfolding widths
  kind-here kind q = first_read s (at + 3) _ e.numbers r kind fine.fit q content-here

  shape-here : shape_at s at ≡ e.shape
  unfolding block_shape output_shape
  shape-here = by fine.shaped
    where
      by : Shaped e → shape_at s at ≡ e.shape
      by (block kind k sh first) =
          let tag : get_or s at 0 ≡ 0x10 = tag-here ∙ ap (λ (x : Shape). x.tag) sh in
          shape-block s at tag ∙ ap block_shape (kind-here kind first) ∙ sym sh
      by (output sh) =
          let tag : get_or s at 0 ≡ 0x30 = tag-here ∙ ap (λ (x : Shape). x.tag) sh in
          shape-output s at (λ q. omega arith) ∙ sym sh

  kind-known : get_or s at 0 ≡ 0x10 → known (get_or s (at + 3) 0) ≡ true
  unfolding block_shape output_shape
  kind-known q = by fine.shaped
    where
      by : Shaped e → known (get_or s (at + 3) 0) ≡ true
      by (block kind k sh first) = rw (kind-here kind first) k
      by (output sh) =
          let tag : get_or s at 0 ≡ 0x30 = tag-here ∙ ap (λ (x : Shape). x.tag) sh in
          absurd (omega arith)

  -- its numbers are there, and what follows them
  numbers-here : (numbers_text e.shape.inputs s (numbers_in e.shape) 0 (at + 3) ≡ joined number_text e.numbers) × (drop (field_end e.shape at) s ≡ r)
  unfolding numbers_in field_end
  numbers-here =
      let i = e.shape.inputs in
      let p = e.shape.parameters in
      let l = widths-length i p in
      rw l at (numbers-read s i (widths i p) e.numbers 0 (at + 3) r agree fine.fit content-here)
    where
      agree : (k : ℕ) → k < length (widths e.shape.inputs e.shape.parameters)
          → get_or (widths e.shape.inputs e.shape.parameters) k 0 ≡ width_at e.shape.inputs (0 + k)
      agree k h =
          let z : 0 + k ≡ k = omega arith in
          let l = widths-length e.shape.inputs e.shape.parameters in
          rw z (width_is e.shape.inputs e.shape.parameters k (omega arith))

-- ---- an entry

pub record Found (s : List ℕ) (at : ℕ) (e : Entry) (r : List ℕ) : Type 0 where
  pub stands : Stands s at
  pub text : row_at s at ≡ entry_text e
  pub behind : drop (next_at s at) s ≡ r

module _ (s : List ℕ) (at : ℕ) (e : Entry) (fine : Fine e) (r : List ℕ) (goes : Goes r) (here : drop at s ≡ entry_bytes e ++ r) where
  tail-bytes : List ℕ
  tail-bytes = cond e.shape.labelled (label_bytes e.label) []

  parted : drop at s ≡ field e.shape.tag (packed_all (widths_of e.shape) e.numbers) ++ (tail-bytes ++ r)
  unfolding entry_bytes tail-bytes
  parted = here ∙ append_assoc (field e.shape.tag (packed_all (widths_of e.shape) e.numbers)) tail-bytes r

  field-behind : drop (field_end e.shape at) s ≡ tail-bytes ++ r
  field-behind = (numbers-here s at e fine (tail-bytes ++ r) parted).1

  tail-here : Tail s (field_end e.shape at) e.shape.labelled e.label r
  unfolding tail-bytes
  tail-here = tail_of s (field_end e.shape at) e.shape.labelled e.label r fine.label goes field-behind

  is-shape : shape_at s at ≡ e.shape
  is-shape = shape-here s at e fine (tail-bytes ++ r) parted

  next_here : next_at s at ≡ tail_end e.shape.labelled s (field_end e.shape at)
  unfolding next_at next_by
  next_here = rw is-shape

  row_here : row_at s at ≡ entry_text e
  unfolding row_at row_by
  row_here =
      rw (is-shape, (numbers-here s at e fine (tail-bytes ++ r) parted).0, tail-here.text) (sym (text-parts e))

  pub entry_found : Found s at e r
  entry_found =
      let n = next_here in
      let b : drop (next_at s at) s ≡ r = ap (λ (k : ℕ). drop k s) n ∙ tail-here.behind in
      let f : 3 ≤ length (tail-bytes ++ r) = omega (arith, length-append tail-bytes r, goes.long) in
      record {
        stands =
            record {
              kind = kind-known s at e fine (tail-bytes ++ r) parted;
              field = rw is-shape (room-behind s (field_end e.shape at) (tail-bytes ++ r) field-behind f);
              next = room-behind s (next_at s at) r b goes.long;
            };
        text = row_here;
        behind = b;
      }

-- ---- all of them

pub entries-found : (s : List ℕ) (es : List Entry) (at : ℕ) → All Fine es → drop at s ≡ joined entry_bytes es ++ field 0x7F []
    → Run s (length es) at × (rows_at s (length es) at ≡ joined entry_text es)
unfolding Run rows_at
entries-found s [] at a d = (tt, refl)
entries-found s (e ∷ es) at a d =
    let rest = joined entry_bytes es ++ field 0x7F [] in
    let f = entry_found s at e a.0 rest (entries-go es a.1) (d ∙ append_assoc (entry_bytes e) (joined entry_bytes es) (field 0x7F [])) in
    let g = entries-found s es (next_at s at) a.1 f.behind in
    ((f.stands, g.0), ap₂ (λ (x y : List ℕ). x ++ y) f.text g.1)

-- ---- the circuit

header-drop : (n : ℕ) (l : List ℕ) → drop 6 (field 0x01 (1 ∷ bytes_of 2 n) ++ l) ≡ l
unfolding field bytes_of
header-drop n l = refl

pub circuit-rows : (s : List ℕ) → Bytes s → (c : Circuit) → verdict s ≡ accepted c
    → Run s (length c.blocks + length c.rows) 6 × (rows_at s (length c.blocks + length c.rows) 6 ≡ text_of c)
circuit-rows s small c e =
    let x = (accepted-exactly ours s small c).0 e in
    let keeps = x.0 in
    let rest = joined entry_bytes (entries_of c) ++ field 0x7F [] in
    let d : drop 6 s ≡ rest = ap (drop 6) (x.1 ∙ encode-entries c keeps) ∙ header-drop (length c.blocks) rest in
    let f = entries-found s (entries_of c) 6 (kept_fine c keeps) d in
    rw (← entries-length c, text-entries c) f
