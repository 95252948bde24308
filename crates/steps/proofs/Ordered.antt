-- A block that is worked out once, and behind all blocks that it reads, ends with what its rule gives on its inputs as they stand in the
-- end. Where every block reads only earlier ones this holds along the working order, and it decides every word. Assumes nothing.
use Prim.Native.Nat.{ℕ, zero, suc, ◌+◌, ◌-◌, ◌*◌, ◌≤◌, ◌<◌, min}
use native.Mathlib.Omega.{arith}
use mathlib.Core.Path.{◌≡◌, refl, sym, ap, ◌∙◌}
use mathlib.Core.Bool.{Bool, true, false}
use mathlib.Core.List.{List, [], ◌∷◌, ◌++◌}
use lib.Dec.{ltb}
use lib.ListN.{length, drop, take-append-drop}
use lib.Seq.{ext_get_or}
use lib.IntN.{ℤ, pos}
use borrow.Author.Tests.{ltb-true, ltb-false}
use Rattle.words.specs.Signed.{over}
use Rattle.kinds.specs.Time.{ticks}
use Rattle.rules.specs.declared.BlockWords.{BlockWords}
use Rattle.connectors.specs.Connectors.{Connector, class_of, names_block}
use Rattle.blocks.specs.Blocks.{worked_out}
use Rattle.kept.specs.Keeps.{All}
use Rattle.kept.proofs.Lists.{all_map}
use Rattle.lines.specs.Lines.{Line, line_at}
use Rattle.record.specs.Places.{Place, elapsed, block, output, number, size_of, index_of, at, word, words_of}
use Rattle.steps.specs.Steps.{source_of, input_of, bits_of, values_of, becomes, step, count_from, order, along}
use Rattle.steps.specs.Wired.{Wired}
use Rattle.steps.specs.Reads.{or_none, sources}
use Rattle.steps.proofs.Keeps.{Connects, to-nothing, to-input, to-flag, to-analog, to-analog_flag, to_block, connects, Away, step_words, as_many, take_count, drop-count, all-count, along-append, along-length, along-away, count_head}
use Rattle.steps.proofs.Reading.{each-source, Agree, bits-same, values_same}

-- ---- the steps of other blocks

-- another block than k
abbrev pub Other : ℕ → ℕ → Type 0
Other k m = k ≡ m → ⊥

-- has its words elsewhere
other-away : (k j m : ℕ) → j < 3 → Other k m → Away (index_of (block k j)) m
unfolding index_of
other-away k j m h ne i g e = ne (omega arith)

elapsed-away : (ks : List ℕ) → All (Away (index_of elapsed)) ks
unfolding index_of
elapsed-away [] = tt
elapsed-away (k ∷ ks) = (λ j h e. omega arith, elapsed-away ks)

-- the words of block k stay
others-leave : (lines : List Line) (k : ℕ) (ks : List ℕ) (l : List ℤ) → All (Other k) ks → words_of (along lines ks l) k ≡ words_of l k
others-leave lines k ks l others =
    let away : (j : ℕ) → j < 3 → All (Away (index_of (block k j))) ks =
    λ j h. all_map (Other k) (Away (index_of (block k j))) (λ m ne. other-away k j m h ne) ks others in
    let own : (j : ℕ) → j < 3 → word (along lines ks l) (block k j) ≡ word l (block k j) =
    λ j h. along-away lines ks l (index_of (block k j)) (away j h) in
    rw (own 0 (omega arith), own 1 (omega arith), own 2 (omega arith))

-- ---- a block that is worked out once, wherever it stands among others

-- what the rule of a line gives on its inputs as they stand in w, on the three words that were, and on e
abbrev pub rule_gives : Line → List ℤ → BlockWords → ℤ → BlockWords
rule_gives line w was e = worked_out line.kind (bits_of w line) (values_of w line) line.prepared was (ticks (over e))

module _ (lines : List Line) (l : List ℤ) (before : List ℕ) (k : ℕ) (behind : List ℕ) where
  abbrev line : Line
  line = line_at lines k

  -- the words when its step comes
  abbrev reached : List ℤ
  reached = along lines before l

  abbrev end : List ℤ
  end = along lines (before ++ (k ∷ behind)) l

  -- neither it nor a block behind it writes there
  abbrev pub Settled : Place → Type 0
  Settled p = All (Away (index_of p)) (k ∷ behind)

  pub once-worked : index_of (number k) < length l → All (Other k) before → All (Other k) behind → All Settled (sources line)
      → words_of end k ≡ rule_gives line end (words_of l k) (word l elapsed)
  unfolding along becomes
  once-worked long first last settled =
      let split = along-append lines before (k ∷ behind) l in
      let stays : (p : Place) → Settled p → Agree end reached p = λ p a. rw split (along-away lines (k ∷ behind) reached (index_of p) a) in
      let agree : All (Agree end reached) (sources line) = all_map Settled (Agree end reached) stays (sources line) settled in
      let e : word reached elapsed ≡ word l elapsed = along-away lines before l (index_of elapsed) (elapsed-away before) in
      ap (λ (w : List ℤ). words_of w k) split
      ∙ others-leave lines k behind (step lines k reached) last
      ∙ step_words lines k reached (rw (along-length lines before l) long)
      ∙ rw (bits-same end reached line agree, values_same end reached line agree, others-leave lines k before l first, e)

-- ---- a block that reads only earlier ones

-- the word of a place stands before those of block k
abbrev pub Before : ℕ → Place → Type 0
Before k p = index_of p < index_of (output k)

-- a connector that names a block names one before block k
pub record Names (k : ℕ) (c : Connector) : Type 0 where
  pub earlier : names_block (class_of c) ≡ true → c.number < k

module _ (k : ℕ) (low : 1 ≤ k) where
  source-before : (c : Connector) → Wired c → Names k c → Connects c → All (Before k) (or_none (source_of c) [])
  unfolding index_of
  source-before c w h (to-nothing e) = rw e tt
  source-before c w h (to-input i e) = rw e (omega (arith, w.input i), tt)
  source-before c w h (to-flag i e) = rw e (omega (arith, w.flag i), tt)
  source-before c w h (to-analog i e) = rw e (omega (arith, w.analog i), tt)
  source-before c w h (to-analog_flag i e) = rw e (omega (arith, w.analog_flag i), tt)
  source-before c w h (to_block i e) = rw e (omega (arith, h.earlier i), tt)

  pub sources-before : (line : Line) → ((j : ℕ) → j < 4 → Wired (input_of line j)) → ((j : ℕ) → j < 4 → Names k (input_of line j))
      → All (Before k) (sources line)
  sources-before line wired named =
      each-source (Before k) line (λ j h. source-before (input_of line j) (wired j h) (named j h) (connects (input_of line j)))

-- ---- the working order

-- every block does
abbrev pub ReadsEarlier : List Line → Type 0
ReadsEarlier lines = (k : ℕ) → 1 ≤ k → k ≤ length lines → All (Before k) (sources (line_at lines k))

module _ (lines : List Line) (l : List ℤ) where
  abbrev n : ℕ
  n = length lines

  abbrev scan : List ℤ
  scan = along lines (order lines) l

  pub order-length : length scan ≡ length l
  order-length = along-length lines (order lines) l

  pub order-head : (i : ℕ) → i < 164 → at scan i ≡ at l i
  unfolding order
  order-head i h = count_head lines n 1 l (omega arith) i h

  -- the blocks before block d + 1, it, and those behind
  order-at : (d : ℕ) → d < n → order lines ≡ count_from 1 d ++ (suc d ∷ count_from (suc (suc d)) (n - suc d))
  unfolding order
  order-at d h =
      let first = take_count d 1 n ∙ as_many 1 (min d n) d (omega arith) in
      let rest = drop-count d 1 n (suc d) (omega arith) ∙ as_many (suc d) (n - d) (suc (n - suc d)) (omega arith) in
      sym (take-append-drop d (count_from 1 n))
      ∙ ap (λ (ks : List ℕ). ks ++ drop d (count_from 1 n)) first
      ∙ ap (λ (ks : List ℕ). count_from 1 d ++ ks) rest

  module _ (long : length l ≡ size_of n) (reads : ReadsEarlier lines) where
    next-worked : (d : ℕ) → d < n → words_of scan (suc d) ≡ rule_gives (line_at lines (suc d)) scan (words_of l (suc d)) (word l elapsed)
    unfolding index_of
    next-worked d h =
        let k : ℕ = suc d in
        let m : ℕ = n - k in
        let behind = count_from (suc k) m in
        let settles : (p : Place) → Before k p → All (Away (index_of p)) (k ∷ behind) =
        λ p b. all-count (Away (index_of p)) (suc m) k (λ i f g j a e. omega arith) in
        let first = all-count (Other k) d 1 (λ i f g e. omega arith) in
        let last = all-count (Other k) m (suc k) (λ i f g e. omega arith) in
        let settled = all_map (Before k) (λ p. All (Away (index_of p)) (k ∷ behind)) settles (sources (line_at lines k)) (reads k (omega arith) h) in
        rw (order-at d h) (once-worked lines l (count_from 1 d) k behind (rw long (omega arith)) first last settled)

    pub order-worked : (k : ℕ) → 1 ≤ k → k ≤ n → words_of scan k ≡ rule_gives (line_at lines k) scan (words_of l k) (word l elapsed)
    order-worked zero low high = let z : ⊥ = omega arith in absurd z
    order-worked (suc d) low high = next-worked d high

-- ---- two records that agree before the blocks, and on each block whose inputs they agree on, are equal

module _ (lines : List Line) (reads : ReadsEarlier lines) (w v : List ℤ) (head : (i : ℕ) → i < 164 → at w i ≡ at v i)
    (blocks : (k : ℕ) → 1 ≤ k → k ≤ length lines → All (Agree w v) (sources (line_at lines k)) → words_of w k ≡ words_of v k) where
  word_same : (k j : ℕ) → j < 3 → words_of w k ≡ words_of v k → word w (block k j) ≡ word v (block k j)
  word_same k zero h e = ap (λ (b : BlockWords). b.output) e
  word_same k (suc zero) h e = ap (λ (b : BlockWords). b.remembered) e
  word_same k (suc (suc zero)) h e = ap (λ (b : BlockWords). b.number) e
  word_same k (suc (suc (suc j))) h e = let z : ⊥ = omega arith in absurd z

  -- from the words up to block d those of block d + 1
  same_next : (d : ℕ) → d < length lines → ((i : ℕ) → i < size_of d → at w i ≡ at v i)
      → (i : ℕ) → i < size_of (suc d) → (b : Bool) → ltb i (size_of d) ≡ b → at w i ≡ at v i
  unfolding index_of
  same_next d high below i h true e = below i (ltb-true i (size_of d) e)
  same_next d high below i h false e =
      let k : ℕ = suc d in
      let f : size_of d ≤ i = ltb-false i (size_of d) e in
      let j : ℕ = i - size_of d in
      let there : 161 + 3 * k + j ≡ i = omega arith in
      let read : (p : Place) → Before k p → Agree w v p = λ p b. below (index_of p) (omega arith) in
      let agree = all_map (Before k) (Agree w v) read (sources (line_at lines k)) (reads k (omega arith) high) in
      rw there at (word_same k j (omega arith) (blocks k (omega arith) high agree))

  same-below : (d : ℕ) → d ≤ length lines → (i : ℕ) → i < size_of d → at w i ≡ at v i
  same-below zero high i h = head i (omega arith)
  same-below (suc d) high i h = same_next d high (same-below d (omega arith)) i h (ltb i (size_of d)) refl

  pub decided : length w ≡ size_of (length lines) → length w ≡ length v → w ≡ v
  decided long same = ext_get_or (pos 0) w v same (λ i h. same-below (length lines) (omega arith) i (rw long at h))
