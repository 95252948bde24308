-- What each call makes of each word is in the range of its place, so a sound record stays sound. Assumes nothing.
use Prim.Native.Nat.{ℕ, zero, suc, ◌+◌, ◌-◌, ◌<◌}
use native.Mathlib.Omega.{arith}
use mathlib.Core.Path.{◌≡◌, refl, ◌∙◌}
use mathlib.Core.Bool.{Bool, true, false, cond, ◌&&◌}
use mathlib.Core.List.{List, [], ◌∷◌}
use lib.Dec.{eqb}
use lib.ListN.{length}
use lib.IntN.{ℤ, pos}
use borrow.Author.Tests.{eqb-true}
use Rattle.words.specs.Signed.{bit_of}
use Rattle.words.proofs.Bounds.{and-true, zero-between}
use Rattle.words.proofs.Bits.{word-between}
use Rattle.kinds.specs.Kinds.{Sort, Range, In, in_range, ◌to◌, sixteen, sort_range, kind_of}
use Rattle.kinds.specs.Kinds as kinds
use Rattle.decoding.specs.Decoded.{Row}
use Rattle.kept.specs.Keeps.{All}
use Rattle.kept.proofs.Lists.{all_map}
use Rattle.lines.specs.Lines.{Line, line_at}
use Rattle.record.specs.Places.{Place, phase, done, mark, elapsed, input, analog, flag, analog_flag, block, size_of, index_of, place_of, at, word, change}
use Rattle.record.specs.Sound.{block_range, range_of, every, is_zero}
use Rattle.record.proofs.Located.{Real, place-real, change-length, change-at}
use Rattle.record.proofs.Runs.{every-each}
use Rattle.record.proofs.Held.{Sound}
use Rattle.steps.specs.Steps.{bit_from}
use Rattle.steps.proofs.Keeps.{value-sixteen}
use Rattle.destinations.specs.Destinations.{M, AM, carried, destined, publish_word}
use Rattle.calls.specs.Calls.{fresh, cold_word, is_kept, warm_word, latch_word, is_reading}
use Rattle.calls.specs.Fine.{RowFine}

either-in : (r : Range) (b : Bool) {y z : ℤ} → (b ≡ true → In r y) → In r z → In r (cond b y z)
either-in r true h g = h refl
either-in r false h g = g

-- ---- a change of each word by its place leaves a sound record

changed : (lines : List Line) (l : List ℤ) (f : Place → ℤ → ℤ) → length l ≡ size_of (length lines)
    → ((i : ℕ) → i < size_of (length lines) → In (range_of lines (place_of i)) (f (place_of i) (at l i)))
    → (bit_of (f phase (at l 0)) ≡ false → is_zero (f done (at l 1)) && is_zero (f elapsed (at l 3)) ≡ true)
    → Sound lines (change f l)
unfolding place_of index_of
changed lines l f long fits rest =
    let low : (i : ℕ) → i < 4 → at (change f l) i ≡ f (place_of i) (at l i) = λ i h. change-at f l i (rw long (omega arith)) in
    record {
      long = change-length f l ∙ long;
      words = λ i h. rw (change-at f l i (rw long h)) (fits i h).between;
      rest = rw (low 0 (omega arith), low 1 (omega arith), low 3 (omega arith)) rest;
    }

-- ---- the starts

zero-sort : (s : Sort) → In (sort_range s) (pos 0)
zero-sort kinds.digital = record { between = refl }
zero-sort kinds.analog = record { between = refl }

zero-block : (line : Line) (j : ℕ) → In (block_range line j) (pos 0)
zero-block line zero = zero-sort (kind_of line.kind).output
zero-block line (suc zero) = zero-between
zero-block line (suc (suc j)) = zero-between

module _ (lines : List Line) where
  fresh-fits : (p : Place) → In (range_of lines p) (fresh p)
  fresh-fits phase = zero-between
  fresh-fits done = zero-between
  fresh-fits mark = record { between = refl }
  fresh-fits elapsed = zero-between
  fresh-fits (input k) = zero-between
  fresh-fits (analog k) = zero-between
  fresh-fits (flag k) = word-between (eqb k 8)
  fresh-fits (analog_flag k) = record { between = refl }
  fresh-fits (block k j) = zero-block (line_at lines k) j

  pub cold-sound : (l : List ℤ) → length l ≡ size_of (length lines) → Sound lines (change cold_word l)
  cold-sound l long = changed lines l cold_word long (λ i h. fresh-fits (place_of i)) (λ e. refl)

  pub warm-sound : (l : List ℤ) → Sound lines l → Sound lines (change (warm_word lines) l)
  warm-sound l s =
      changed lines l (warm_word lines) s.long
      (λ i h. either-in (range_of lines (place_of i)) (is_kept lines (place_of i)) (λ e. record { between = s.words i h }) (fresh-fits (place_of i)))
      (λ e. refl)

-- ---- latch

-- what a reading that is one has
pub record Reading (r : List ℤ) (e : ℤ) : Type 0 where
  pub long : length r ≡ 32
  pub bits : (i : ℕ) → i < 24 → In (pos 0 to pos 1) (at r i)
  pub values : (i : ℕ) → i < 8 → In (pos 0 to pos 1000) (at r (24 + i))
  pub ticks : In (pos 0 to pos 65535) e

pub reading : (r : List ℤ) (e : ℤ) → is_reading r e ≡ true → Reading r e
unfolding is_reading
reading r e ok =
    let bits = every 24 (λ i. in_range (pos 0 to pos 1) (at r i)) in
    let values = every 8 (λ i. in_range (pos 0 to pos 1000) (at r (24 + i))) in
    let a = and-true (eqb (length r) 32) (bits && (values && in_range (pos 0 to pos 65535) e)) ok in
    let b = and-true bits (values && in_range (pos 0 to pos 65535) e) a.1 in
    let c = and-true values (in_range (pos 0 to pos 65535) e) b.1 in
    record {
      long = eqb-true (length r) 32 a.0;
      bits = λ i h. record { between = every-each 24 (λ i. in_range (pos 0 to pos 1) (at r i)) b.0 i h };
      values = λ i h. record { between = every-each 8 (λ i. in_range (pos 0 to pos 1000) (at r (24 + i))) c.0 i h };
      ticks = record { between = c.1 };
    }

module _ (lines : List Line) (r : List ℤ) (e : ℤ) (ok : Reading r e) where
  latch-fits : (p : Place) (z : ℤ) → Real (length lines) p → In (range_of lines p) z → In (range_of lines p) (latch_word r e p z)
  latch-fits phase z q h = record { between = refl }
  latch-fits done z q h = h
  latch-fits mark z q h = h
  latch-fits elapsed z q h = ok.ticks
  latch-fits (input k) z q h = ok.bits (k - 1) (omega arith)
  latch-fits (analog k) z q h =
      let g : 24 + (k - 1) ≡ 23 + k = omega arith in
      rw g at (ok.values (k - 1) (omega arith))
  latch-fits (flag k) z q h = h
  latch-fits (analog_flag k) z q h = h
  latch-fits (block k j) z q h = h

  pub latch-sound : (l : List ℤ) → Sound lines l → Sound lines (change (latch_word r e) l)
  latch-sound l s =
      changed lines l (latch_word r e) s.long
      (λ i h. latch-fits (place_of i) (at l i) (place-real (length lines) i h) (record { between = s.words i h }))
      (λ f. cc)

-- ---- publish

-- a destination's word is in a range if each row for its class carries such a word
destined-in : (g : Range) (l : List ℤ) (class n : ℕ) → In g (pos 0) → (rows : List Row) → All (λ row. row.class ≡ class → In g (carried l row)) rows → In g (destined rows l class n)
unfolding destined
destined-in g l class n none [] h = none
destined-in g l class n none (row ∷ rows) h =
    either-in g (eqb row.class class && eqb row.number n)
    (λ e. h.0 (eqb-true row.class class (and-true (eqb row.class class) (eqb row.number n) e).0))
    (destined-in g l class n none rows h.1)

module _ (lines : List Line) (rows : List Row) (fine : All RowFine rows) (l : List ℤ) (s : Sound lines l) where
  carried-bit : (row : Row) → RowFine row → row.class ≡ M → In (pos 0 to pos 1) (carried l row)
  unfolding carried
  carried-bit row f e = rw e (word-between (bit_from l false row.from))

  carried-value : (row : Row) → RowFine row → row.class ≡ AM → In sixteen (carried l row)
  unfolding carried
  carried-value row f e = rw e (value-sixteen lines l s row.from f.wired)

  publish-fits : (p : Place) (z : ℤ) → In (range_of lines p) z → In (range_of lines p) (publish_word rows l p z)
  publish-fits phase z h = zero-between
  publish-fits done z h = zero-between
  publish-fits mark z h = zero-between
  publish-fits elapsed z h = zero-between
  publish-fits (input k) z h = h
  publish-fits (analog k) z h = h
  publish-fits (flag k) z h =
      either-in (pos 0 to pos 1) (eqb k 8 && bit_of (word l mark)) (λ e. zero-between)
      (destined-in (pos 0 to pos 1) l M k zero-between rows (all_map RowFine (λ row. row.class ≡ M → In (pos 0 to pos 1) (carried l row)) carried-bit rows fine))
  publish-fits (analog_flag k) z h =
      destined-in sixteen l AM k (record { between = refl }) rows (all_map RowFine (λ row. row.class ≡ AM → In sixteen (carried l row)) carried-value rows fine)
  publish-fits (block k j) z h = h

  pub publish-sound : Sound lines (change (publish_word rows l) l)
  publish-sound =
      changed lines l (publish_word rows l) s.long
      (λ i h. publish-fits (place_of i) (at l i) (record { between = s.words i h }))
      (λ e. refl)
