-- The words that the starts and latch store are those of their definitions, place by place. Assumes nothing.
use Prim.Native.Nat.{ℕ, zero, suc, ◌+◌, ◌-◌, ◌*◌, ◌/◌, ◌%◌, ◌≤◌, ◌<◌}
use native.Mathlib.Omega.{arith}
use native.Mathlib.Nat.{eq-or-lt_of_le}
use mathlib.Core.Logic.{⊎_elim}
use mathlib.Core.Path.{◌≡◌, refl, sym, ap, ◌∙◌}
use mathlib.Core.Bool.{Bool, true, false, cond}
use mathlib.Core.List.{List}
use lib.Dec.{eqb}
use lib.ListN.{length, get_or, replicate, length-set, length-replicate, get_or-replicate}
use lib.Seq.{get_or-set_same, get_or-set_other}
use lib.IntN.{ℤ, pos}
use borrow.Author.Tests.{eqb-true, eqb-false}
use Rattle.words.specs.Signed.{word_of}
use Rattle.rules.specs.Rules.{three}
use Rattle.rules.specs.declared.BlockWords.{BlockWords}
use Rattle.decoding.specs.Decoded.{block_at}
use Rattle.lines.specs.Lines.{Line, line_of, line_at}
use Rattle.record.specs.Places.{Place, phase, mark, elapsed, input, flag, block, number, size_of, index_of, place_of, at, put, put_words, change}
use Rattle.record.specs.Written.{put_all, nothing, lines_at, Stand}
use Rattle.record.proofs.Located.{Spot, is-phase, is-done, is-mark, is-elapsed, is-input, is-analog, is-flag, is-analog_flag, is_block, spot, is-change, put-words-length, put-words-away, put-words-output, put-words-remembered, put-words-number}
use Rattle.record.proofs.Runs.{put-all-length, put-all-away, put-all-in}
use Rattle.record.proofs.Split.{line-there}
use Rattle.calls.specs.Calls.{fresh, cold_word, warm_word, latch_word}
use Rattle.effects.specs.Cleared.{cleared_up_to}

-- ---- the starts: all but the blocks is fresh

module _ (f : Place → ℤ → ℤ) (l m : List ℤ) (same : length m ≡ length l) (long : 164 ≤ length l)
    (zeros : (i : ℕ) → i < 164 → at m i ≡ pos 0)
    (fixed : (i : ℕ) → i < 164 → f (place_of i) (at l i) ≡ fresh (place_of i))
    (blocks : (i : ℕ) → 164 ≤ i → i < length l → at m i ≡ f (place_of i) (at l i)) where
  abbrev marked : List ℤ
  marked = put m mark (pos 1)

  away : (i : ℕ) → (i ≡ 2 → ⊥) → (i ≡ 43 → ⊥) → at (put marked (flag 8) (pos 1)) i ≡ at m i
  unfolding index_of
  away i a b = get_or-set_other marked 43 i (pos 1) (pos 0) b ∙ get_or-set_other m 2 i (pos 1) (pos 0) a

  zeroed : (i : ℕ) → (i ≡ 2 → ⊥) → (i ≡ 43 → ⊥) → i < 164 → fresh (place_of i) ≡ pos 0 → at (put marked (flag 8) (pos 1)) i ≡ f (place_of i) (at l i)
  zeroed i a b h e = away i a b ∙ zeros i h ∙ sym (fixed i h ∙ e)

  -- M8 is 1, the other flags 0
  flagged : (i : ℕ) (t : Bool) → eqb (i - 35) 8 ≡ t → 36 ≤ i → i < 100 → place_of i ≡ flag (i - 35) → at (put marked (flag 8) (pos 1)) i ≡ f (place_of i) (at l i)
  unfolding index_of
  flagged i true t a b e =
      let q : i ≡ 43 = omega (arith, eqb-true (i - 35) 8 t) in
      let one : fresh (place_of i) ≡ pos 1 = ap fresh e ∙ ap word_of t in
      ap (at (put marked (flag 8) (pos 1))) q
      ∙ get_or-set_same marked 43 (pos 1) (pos 0) (simp length-set (omega (arith, same, long)))
      ∙ sym (fixed i (omega arith) ∙ one)
  flagged i false t a b e =
      zeroed i (λ q. omega arith) (λ q. eqb-false (i - 35) 8 t (omega arith)) (omega arith) (ap fresh e ∙ ap word_of t)

  started-at : (i : ℕ) → i < length l → Spot i → at (put marked (flag 8) (pos 1)) i ≡ f (place_of i) (at l i)
  unfolding index_of
  started-at i h (is-phase q e) = zeroed i (λ r. omega arith) (λ r. omega arith) (omega arith) (ap fresh e)
  started-at i h (is-done q e) = zeroed i (λ r. omega arith) (λ r. omega arith) (omega arith) (ap fresh e)
  started-at i h (is-mark q e) =
      ap (at (put marked (flag 8) (pos 1))) q
      ∙ get_or-set_other marked 43 2 (pos 1) (pos 0) (λ r. omega arith)
      ∙ get_or-set_same m 2 (pos 1) (pos 0) (omega (arith, same, long))
      ∙ sym (fixed i (omega arith) ∙ ap fresh e)
  started-at i h (is-elapsed q e) = zeroed i (λ r. omega arith) (λ r. omega arith) (omega arith) (ap fresh e)
  started-at i h (is-input a b e) = zeroed i (λ r. omega arith) (λ r. omega arith) (omega arith) (ap fresh e)
  started-at i h (is-analog a b e) = zeroed i (λ r. omega arith) (λ r. omega arith) (omega arith) (ap fresh e)
  started-at i h (is-flag a b e) = flagged i (eqb (i - 35) 8) refl a b e
  started-at i h (is-analog_flag a b e) = zeroed i (λ r. omega arith) (λ r. omega arith) (omega arith) (ap fresh e)
  started-at i h (is_block a e) = away i (λ r. omega arith) (λ r. omega arith) ∙ blocks i a h

  started : put (put m mark (pos 1)) (flag 8) (pos 1) ≡ change f l
  started = is-change f l (put marked (flag 8) (pos 1)) (length-set marked _ _ ∙ length-set m _ _ ∙ same) started-at

-- ---- cold start

module _ (l : List ℤ) (long : 164 ≤ length l) where
  all-zero : (i : ℕ) → i < length l → at (replicate (length l) (pos 0)) i ≡ pos 0
  all-zero i h = get_or-replicate (length l) i (pos 0) (pos 0) h

  block-fresh : (i : ℕ) → 164 ≤ i → fresh (place_of i) ≡ pos 0
  block-fresh i h = by (spot i)
    where
      by : Spot i → fresh (place_of i) ≡ pos 0
      by (is-phase q e) = ap fresh e
      by (is-done q e) = ap fresh e
      by (is-mark q e) = let z : ⊥ = omega arith in absurd z
      by (is-elapsed q e) = ap fresh e
      by (is-input a b e) = ap fresh e
      by (is-analog a b e) = ap fresh e
      by (is-flag a b e) = let z : ⊥ = omega arith in absurd z
      by (is-analog_flag a b e) = ap fresh e
      by (is_block a e) = ap fresh e

  pub cold_is : put (put (replicate (length l) (pos 0)) mark (pos 1)) (flag 8) (pos 1) ≡ change cold_word l
  cold_is =
      started cold_word l (replicate (length l) (pos 0)) (length-replicate (length l) (pos 0)) long
      (λ i h. all-zero i (omega arith))
      (λ i h. refl)
      (λ i a h. all-zero i h ∙ sym (block-fresh i a))

-- ---- warm start

abbrev zero_words : BlockWords
zero_words = three (pos 0) (pos 0) (pos 0)

-- word j of a block whose words are zeroed
zero-at : (l : List ℤ) (k j : ℕ) → j < 3 → index_of (number k) < length l → at (put_words l k zero_words) (index_of (block k j)) ≡ pos 0
zero-at l k zero b h = put-words-output l k zero_words h
zero-at l k (suc zero) b h = put-words-remembered l k zero_words h
zero-at l k (suc (suc zero)) b h = put-words-number l k zero_words h
zero-at l k (suc (suc (suc j))) b h = let z : ⊥ = omega arith in absurd z

either-length : (t : Bool) (l : List ℤ) (k : ℕ) → length (cond t l (put_words l k zero_words)) ≡ length l
either-length true l k = refl
either-length false l k = put-words-length l k zero_words

either-away : (t : Bool) (l : List ℤ) (k i : ℕ) → ((j : ℕ) → j < 3 → i ≡ index_of (block k j) → ⊥) → at (cond t l (put_words l k zero_words)) i ≡ at l i
either-away true l k i a = refl
either-away false l k i a = put-words-away l k zero_words i a

either-in : (t : Bool) (l : List ℤ) (k j : ℕ) → j < 3 → index_of (number k) < length l → at (cond t l (put_words l k zero_words)) (index_of (block k j)) ≡ cond t (at l (index_of (block k j))) (pos 0)
either-in true l k j b h = refl
either-in false l k j b h = zero-at l k j b h

module _ (s offsets : List ℕ) (l : List ℤ) where
  abbrev kept : ℕ → Bool
  kept d = (line_of (block_at s (get_or offsets d 0))).retentive

  pub cleared-length : (m : ℕ) → length (cleared_up_to s offsets m l) ≡ length l
  unfolding cleared_up_to
  cleared-length zero = refl
  cleared-length (suc m) = either-length (kept m) (cleared_up_to s offsets m l) (m + 1) ∙ cleared-length m

  -- a word behind the blocks that were gone through
  later : (m d j : ℕ) → m ≤ d → j < 3 → at (cleared_up_to s offsets m l) (164 + 3 * d + j) ≡ at l (164 + 3 * d + j)
  unfolding cleared_up_to index_of
  later zero d j h b = refl
  later (suc m) d j h b =
      either-away (kept m) (cleared_up_to s offsets m l) (m + 1) (164 + 3 * d + j) (λ i c e. omega arith) ∙ later m d j (omega arith) b

  -- a word of the last of them
  here : (m j : ℕ) → j < 3 → 164 + 3 * suc m ≤ length l → at (cleared_up_to s offsets (suc m) l) (164 + 3 * m + j) ≡ cond (kept m) (at l (164 + 3 * m + j)) (pos 0)
  unfolding cleared_up_to index_of
  here m j b c =
      let e : 161 + 3 * (m + 1) + j ≡ 164 + 3 * m + j = omega arith in
      let before = cleared_up_to s offsets m l in
      let is : at (cond (kept m) (cleared_up_to s offsets m l) (put_words (cleared_up_to s offsets m l) (m + 1) zero_words)) (161 + 3 * (m + 1) + j) ≡ cond (kept m) (at (cleared_up_to s offsets m l) (161 + 3 * (m + 1) + j)) (pos 0) =
      either-in (kept m) (cleared_up_to s offsets m l) (m + 1) j b (omega (arith, cleared-length m)) in
      rw e at is ∙ ap (λ (z : ℤ). cond (kept m) z (pos 0)) (later m m j (omega arith) b)

  -- a word of one before it
  passed : (m d j : ℕ) → d < m → j < 3 → at (cleared_up_to s offsets (suc m) l) (164 + 3 * d + j) ≡ at (cleared_up_to s offsets m l) (164 + 3 * d + j)
  unfolding cleared_up_to index_of
  passed m d j h b = either-away (kept m) (cleared_up_to s offsets m l) (m + 1) (164 + 3 * d + j) (λ i g e. omega arith)

  -- a word of one of them
  gone : (m d j : ℕ) → d < m → j < 3 → 164 + 3 * m ≤ length l → at (cleared_up_to s offsets m l) (164 + 3 * d + j) ≡ cond (kept d) (at l (164 + 3 * d + j)) (pos 0)
  gone zero d j h b c = let z : ⊥ = omega arith in absurd z
  gone (suc m) d j h b c =
      ⊎_elim (λ (q : d ≡ m). rw q (here m j b c))
      (λ (q : d < m). passed m d j q b ∙ gone m d j q b (omega arith))
      (eq-or-lt_of_le {n = d} {m = m} (omega arith))

module _ (s : List ℕ) (n : ℕ) (offsets : List ℕ) (stand : Stand s n offsets) (l : List ℤ) (long : length l ≡ size_of n) where
  abbrev cleared : List ℤ
  cleared = cleared_up_to s offsets n l

  abbrev emptied : List ℤ
  emptied = put_all cleared (index_of phase) (size_of 0) nothing

  same_length : length emptied ≡ length l
  same_length = put-all-length cleared (index_of phase) (size_of 0) nothing ∙ cleared-length s offsets l n

  fixed_zero : (i : ℕ) → i < 164 → at emptied i ≡ pos 0
  unfolding index_of
  fixed_zero i h = put-all-in cleared 0 164 nothing i (omega arith) (omega arith) (omega (arith, cleared-length s offsets l n, long))

  fixed-fresh : (i : ℕ) → i < 164 → Spot i → warm_word (lines_at s n offsets) (place_of i) (at l i) ≡ fresh (place_of i)
  fixed-fresh i h (is-phase q e) = rw e
  fixed-fresh i h (is-done q e) = rw e
  fixed-fresh i h (is-mark q e) = rw e
  fixed-fresh i h (is-elapsed q e) = rw e
  fixed-fresh i h (is-input a b e) = rw e
  fixed-fresh i h (is-analog a b e) = rw e
  fixed-fresh i h (is-flag a b e) = rw e
  fixed-fresh i h (is-analog_flag a b e) = rw e
  fixed-fresh i h (is_block a e) = let z : ⊥ = omega arith in absurd z

  -- a word of a block
  block-word : (i : ℕ) → 164 ≤ i → i < length l → place_of i ≡ block ((i - 164) / 3 + 1) ((i - 164) % 3) → at emptied i ≡ warm_word (lines_at s n offsets) (place_of i) (at l i)
  unfolding index_of
  block-word i a h e =
      let q : 164 + 3 * ((i - 164) / 3) + (i - 164) % 3 ≡ i = omega arith in
      let low : (i - 164) / 3 < n = omega (arith, long) in
      let went : at cleared i ≡ cond (line_of (block_at s (get_or offsets ((i - 164) / 3) 0))).retentive (at l i) (pos 0) =
      rw q at (gone s offsets l n ((i - 164) / 3) ((i - 164) % 3) low (omega arith) (omega (arith, long))) in
      let told : (line_at (lines_at s n offsets) ((i - 164) / 3 + 1)).retentive ≡ (line_of (block_at s (get_or offsets ((i - 164) / 3) 0))).retentive =
      ap (λ (x : Line). x.retentive) (line-there s n offsets stand ((i - 164) / 3) low) in
      put-all-away cleared 0 164 nothing i (λ j b f. omega arith)
      ∙ rw e (went ∙ ap (λ (t : Bool). cond t (at l i) (pos 0)) (sym told))

  blocks-word : (i : ℕ) → 164 ≤ i → i < length l → Spot i → at emptied i ≡ warm_word (lines_at s n offsets) (place_of i) (at l i)
  blocks-word i a h (is-phase q e) = let z : ⊥ = omega arith in absurd z
  blocks-word i a h (is-done q e) = let z : ⊥ = omega arith in absurd z
  blocks-word i a h (is-mark q e) = let z : ⊥ = omega arith in absurd z
  blocks-word i a h (is-elapsed q e) = let z : ⊥ = omega arith in absurd z
  blocks-word i a h (is-input b c e) = let z : ⊥ = omega arith in absurd z
  blocks-word i a h (is-analog b c e) = let z : ⊥ = omega arith in absurd z
  blocks-word i a h (is-flag b c e) = let z : ⊥ = omega arith in absurd z
  blocks-word i a h (is-analog_flag b c e) = let z : ⊥ = omega arith in absurd z
  blocks-word i a h (is_block b e) = block-word i b h e

  pub warm-is : put (put (put_all (cleared_up_to s offsets n l) (index_of phase) (size_of 0) nothing) mark (pos 1)) (flag 8) (pos 1) ≡ change (warm_word (lines_at s n offsets)) l
  warm-is =
      started (warm_word (lines_at s n offsets)) l emptied same_length (omega (arith, long))
      fixed_zero
      (λ i h. fixed-fresh i h (spot i))
      (λ i a h. blocks-word i a h (spot i))

-- ---- latch

module _ (r : List ℤ) (e : ℤ) (l : List ℤ) (long : 164 ≤ length l) where
  abbrev l1 : List ℤ
  l1 = put_all l (index_of (input 1)) 32 (at r)

  abbrev l2 : List ℤ
  l2 = put l1 elapsed e

  length-1 : length l1 ≡ length l
  length-1 = put-all-length l (index_of (input 1)) 32 (at r)

  behind : (i : ℕ) → 1 ≤ i → (i ≡ 3 → ⊥) → at (put l2 phase (pos 1)) i ≡ at l1 i
  unfolding index_of
  behind i a n = get_or-set_other l2 0 i (pos 1) (pos 0) (λ q. omega arith) ∙ get_or-set_other l1 3 i e (pos 0) n

  stays : (i : ℕ) → 1 ≤ i → (i ≡ 3 → ⊥) → ((k : ℕ) → k < 32 → i ≡ 4 + k → ⊥) → at (put l2 phase (pos 1)) i ≡ at l i
  unfolding index_of
  stays i a n o = behind i a n ∙ put-all-away l 4 32 (at r) i o

  taken : (i : ℕ) → 4 ≤ i → i < 36 → at (put l2 phase (pos 1)) i ≡ at r (i - 4)
  unfolding index_of
  taken i a b = behind i (omega arith) (λ q. omega arith) ∙ put-all-in l 4 32 (at r) i a b (omega arith)

  latch-at : (i : ℕ) → i < length l → Spot i → at (put l2 phase (pos 1)) i ≡ latch_word r e (place_of i) (at l i)
  unfolding index_of
  latch-at i h (is-phase q p) =
      rw p (ap (at (put l2 phase (pos 1))) q ∙ get_or-set_same l2 0 (pos 1) (pos 0) (simp length-set (omega (arith, length-1))))
  latch-at i h (is-done q p) = rw p (stays i (omega arith) (λ f. omega arith) (λ k b f. omega arith))
  latch-at i h (is-mark q p) = rw p (stays i (omega arith) (λ f. omega arith) (λ k b f. omega arith))
  latch-at i h (is-elapsed q p) =
      rw p (ap (at (put l2 phase (pos 1))) q ∙ get_or-set_other l2 0 3 (pos 1) (pos 0) (λ f. omega arith) ∙ get_or-set_same l1 3 e (pos 0) (omega (arith, length-1)))
  latch-at i h (is-input a b p) =
      let g : i - 4 ≡ i - 3 - 1 = omega arith in
      rw p (taken i a (omega arith) ∙ ap (at r) g)
  latch-at i h (is-analog a b p) =
      let g : i - 4 ≡ 23 + (i - 27) = omega arith in
      rw p (taken i (omega arith) b ∙ ap (at r) g)
  latch-at i h (is-flag a b p) = rw p (stays i (omega arith) (λ f. omega arith) (λ k c f. omega arith))
  latch-at i h (is-analog_flag a b p) = rw p (stays i (omega arith) (λ f. omega arith) (λ k c f. omega arith))
  latch-at i h (is_block a p) = rw p (stays i (omega arith) (λ f. omega arith) (λ k c f. omega arith))

  pub latch-is : put (put (put_all l (index_of (input 1)) 32 (at r)) elapsed e) phase (pos 1) ≡ change (latch_word r e) l
  latch-is = is-change (latch_word r e) l (put l2 phase (pos 1)) (length-set l2 _ _ ∙ length-set l1 _ _ ∙ length-1) latch-at
