-- A record is sound where each of its parts is: the fixed words run by run, the words of each block, and rest while waiting.
-- Assumes nothing.
use Prim.Native.Nat.{ℕ, ◌+◌, ◌*◌, ◌<◌}
use native.Mathlib.Omega.{arith}
use native.Mathlib.Numerals.{add-one}
use mathlib.Core.Path.{◌≡◌, refl, ap, ap₂, ◌∙◌}
use mathlib.Core.Bool.{Bool, ◌&&◌, ◌||◌}
use mathlib.Core.List.{List}
use lib.ListN.{length, get_or, take, length-map, get_or-map}
use lib.Seq.{length-take-le, get_or-take}
use lib.IntN.{ℤ, pos}
use Rattle.kinds.specs.Kinds.{Range, ◌to◌, in_range, sixteen}
use Rattle.kinds.proofs.Rows.{any-default}
use Rattle.decoding.specs.Decoded.{block_at}
use Rattle.lines.specs.Lines.{Line, line_of, no_line, line_at}
use Rattle.record.specs.Places.{Place, input, analog, flag, analog_flag, block, size_of, index_of, place_of, at, word}
use Rattle.record.specs.Sound.{block_range, range_of, every, in_scan, at_rest, fits_at, sound}
use Rattle.record.specs.Written.{run_fits, head_fits, fixed_fit, block_fits, blocks_fit, lines_at, Stand}
use Rattle.record.proofs.Located.{Real, place-index}
use Rattle.record.proofs.Runs.{every-add, every-same, every-three}

module _ (s : List ℕ) (n : ℕ) (offsets : List ℕ) (stand : Stand s n offsets) where
  abbrev lines : List Line
  lines = lines_at s n offsets

  abbrev line_from : ℕ → Line
  line_from x = line_of (block_at s x)

  -- there are as many lines as blocks
  pub lines-length : length lines ≡ n
  lines-length = length-map (take n offsets) line_from ∙ length-take-le n offsets (rw stand.long stand.few)

  -- and each is that of its block
  pub line-there : (d : ℕ) → d < n → line_at lines (d + 1) ≡ line_from (get_or offsets d 0)
  line-there d h =
      let there : d < length lines = rw lines-length h in
      rw add-one (any-default lines d no_line (line_from 0) there ∙ get_or-map line_from (take n offsets) d 0 ∙ ap line_from (get_or-take n offsets d 0 h))

  module _ (l : List ℤ) where
    abbrev ok : ℕ → Bool
    ok = fits_at lines l

    -- a word is tested by its place
    by_place : (p : Place) (i : ℕ) → Real n p → i ≡ index_of p → ok i ≡ in_range (range_of lines p) (at l i)
    by_place p i r e = ap (λ (q : Place). in_range (range_of lines q) (at l i)) (ap place_of e ∙ place-index n p r)

    run-part : (r : Range) (a m : ℕ) (p : ℕ → Place) → ((k : ℕ) → k < m → Real n (p k) × (a + k ≡ index_of (p k)) × (range_of lines (p k) ≡ r)) → every m (λ k. ok (a + k)) ≡ run_fits r l a m
    run-part r a m p f =
        every-same m (λ k. ok (a + k)) (λ k. in_range r (at l (a + k)))
        (λ k h. by_place (p k) (a + k) (f k h).0 (f k h).1 ∙ ap (λ (q : Range). in_range q (at l (a + k))) (f k h).2)

    head-part : every 4 ok ≡ head_fits (length lines) l
    unfolding every place_of index_of head_fits
    head-part = refl

    fixed-part : every 164 ok ≡ fixed_fit n l
    unfolding index_of fixed_fit
    fixed-part =
        let head = head-part ∙ ap (λ (m : ℕ). head_fits m l) lines-length in
        let inputs = run-part (pos 0 to pos 1) 4 24 (λ k. input (k + 1)) (λ k h. ((omega arith, omega arith), omega arith, refl)) in
        let analogs = run-part (pos 0 to pos 1000) 28 8 (λ k. analog (k + 1)) (λ k h. ((omega arith, omega arith), omega arith, refl)) in
        let flags = run-part (pos 0 to pos 1) 36 64 (λ k. flag (k + 1)) (λ k h. ((omega arith, omega arith), omega arith, refl)) in
        let analog_flags = run-part sixteen 100 64 (λ k. analog_flag (k + 1)) (λ k h. ((omega arith, omega arith), omega arith, refl)) in
        every-add 100 64 ok
        ∙ ap₂ ◌&&◌ (every-add 36 64 ok ∙ ap₂ ◌&&◌ (every-add 28 8 ok ∙ ap₂ ◌&&◌ (every-add 4 24 ok ∙ ap₂ ◌&&◌ head inputs) analogs) flags) analog_flags

    block-word : (d : ℕ) → d < n → (j i : ℕ) → j < 3 → i ≡ index_of (block (d + 1) j) → ok i ≡ in_range (block_range (line_from (get_or offsets d 0)) j) (word l (block (d + 1) j))
    block-word d h j i b e =
        by_place (block (d + 1) j) i (omega arith, omega arith, b) e
        ∙ ap₂ (λ (x : Line) (y : ℕ). in_range (block_range x j) (at l y)) (line-there d h) e

    block-part : (d : ℕ) → d < n → (ok (164 + 3 * d) && (ok (164 + (3 * d + 1)) && ok (164 + (3 * d + 2)))) ≡ block_fits (line_from (get_or offsets d 0)) l (d + 1)
    unfolding index_of block_fits
    block-part d h =
        ap₂ ◌&&◌ (block-word d h 0 (164 + 3 * d) (omega arith) (omega arith))
        (ap₂ ◌&&◌ (block-word d h 1 (164 + (3 * d + 1)) (omega arith) (omega arith)) (block-word d h 2 (164 + (3 * d + 2)) (omega arith) (omega arith)))

    blocks-part : every (3 * n) (λ k. ok (164 + k)) ≡ blocks_fit s n offsets l
    blocks-part = every-three n (λ k. ok (164 + k)) ∙ every-same n _ (λ d. block_fits (line_from (get_or offsets d 0)) l (d + 1)) block-part

    pub parts : sound lines l ≡ fixed_fit n l && blocks_fit s n offsets l && (in_scan l || at_rest l)
    unfolding sound
    parts =
        let words = ap (λ (m : ℕ). every (size_of m) ok) lines-length ∙ every-add 164 (3 * n) ok ∙ ap₂ ◌&&◌ fixed-part blocks-part in
        ap (λ (b : Bool). b && (in_scan l || at_rest l)) words
