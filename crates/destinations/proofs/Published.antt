-- What a publish writes to a record is the change of each word that the definition gives. Assumes nothing.
use Prim.Native.Nat.{ℕ, ◌+◌, ◌-◌, ◌≤◌, ◌<◌}
use native.Mathlib.Omega.{arith}
use mathlib.Core.Path.{◌≡◌, refl, ap, ◌∙◌}
use mathlib.Core.Bool.{Bool, true, false, cond, ◌&&◌}
use mathlib.Core.List.{List}
use lib.Dec.{eqb}
use lib.ListN.{length, length-set}
use lib.Seq.{get_or-set_same, get_or-set_other}
use lib.IntN.{ℤ, pos}
use borrow.Author.Tests.{eqb-true, eqb-false}
use Rattle.words.specs.Signed.{bit_of}
use Rattle.decoding.specs.Decoded.{Row}
use Rattle.kept.specs.Keeps.{All}
use Rattle.record.specs.Places.{phase, mark, flag, index_of, place_of, at, word, put, change}
use Rattle.record.specs.Written.{put_all, nothing}
use Rattle.record.proofs.Located.{Spot, is-phase, is-done, is-mark, is-elapsed, is-input, is-analog, is-flag, is-analog_flag, is_block, is-change}
use Rattle.record.proofs.Runs.{put-all-length, put-all-away, put-all-in}
use Rattle.destinations.specs.Destinations.{M, AM, destined, publish_word}
use Rattle.destinations.specs.Slots.{filled, AimedRow}
use Rattle.destinations.proofs.Filled.{Part, filled-m, filled-am}

-- M8 put to 0 where the mark is
abbrev pub cleared : Bool → List ℤ → List ℤ
cleared marked l = cond marked (put l (flag 8) (pos 0)) l

abbrev pub headless : List ℤ → List ℤ
headless l = put_all l (index_of phase) 4 nothing

-- ---- M8 and the head, in any record

cleared-length : (marked : Bool) (l : List ℤ) → length (cleared marked l) ≡ length l
cleared-length true l = length-set l (index_of (flag 8)) (pos 0)
cleared-length false l = refl

cleared-other : (marked : Bool) (l : List ℤ) (i : ℕ) → (i ≡ 43 → ⊥) → at (cleared marked l) i ≡ at l i
unfolding index_of
cleared-other true l i n = get_or-set_other l 43 i (pos 0) (pos 0) n
cleared-other false l i n = refl

cleared-eighth : (marked : Bool) (l : List ℤ) → 43 < length l → at (cleared marked l) 43 ≡ cond marked (pos 0) (at l 43)
unfolding index_of
cleared-eighth true l h = get_or-set_same l 43 (pos 0) (pos 0) h
cleared-eighth false l h = refl

head-zero : (l : List ℤ) (i : ℕ) → i < 4 → 4 ≤ length l → at (headless l) i ≡ pos 0
unfolding index_of
head-zero l i b h = put-all-in l 0 4 nothing i (omega arith) b (omega arith)

head-away : (l : List ℤ) (i : ℕ) → 4 ≤ i → at (headless l) i ≡ at l i
unfolding index_of
head-away l i h = put-all-away l 0 4 nothing i (λ k b e. omega arith)

-- ---- the whole

module _ (rows : List Row) (l : List ℤ) (fine : All AimedRow rows) (long : 164 ≤ length l) (from : List ℤ) (p : Part (filled rows l) 28 128 from) where
  -- with its flags, and with M8 too
  abbrev l1 : List ℤ
  l1 = put_all l (index_of (flag 1)) 128 (at from)

  abbrev l2 : List ℤ
  l2 = cleared (bit_of (word l mark)) l1

  length-1 : length l1 ≡ length l
  length-1 = put-all-length l (index_of (flag 1)) 128 (at from)

  length-2 : length l2 ≡ length l
  length-2 = cleared-length (bit_of (word l mark)) l1 ∙ length-1

  zeroed : (i : ℕ) → i < 4 → at (headless l2) i ≡ pos 0
  zeroed i b = head-zero l2 i b (rw length-2 (omega arith))

  -- what stands before and behind the flags stays
  stays : (i : ℕ) → 4 ≤ i → ((k : ℕ) → k < 128 → i ≡ 36 + k → ⊥) → (i ≡ 43 → ⊥) → at (headless l2) i ≡ at l i
  unfolding index_of
  stays i a o n = head-away l2 i a ∙ cleared-other (bit_of (word l mark)) l1 i n ∙ put-all-away l 36 128 (at from) i o

  written : (i : ℕ) → 36 ≤ i → i < 164 → at l1 i ≡ at (filled rows l) (28 + (i - 36))
  unfolding index_of
  written i a b = put-all-in l 36 128 (at from) i a b (omega arith) ∙ p.words (i - 36) (omega arith)

  flag_word : (i : ℕ) → 36 ≤ i → i < 100 → at l1 i ≡ destined rows l M (i - 35)
  flag_word i a b =
      let e : 1 + (i - 36) ≡ i - 35 = omega arith in
      written i a (omega arith) ∙ filled-m rows l fine (i - 36) (omega arith) ∙ ap (destined rows l M) e

  analog-word : (i : ℕ) → 100 ≤ i → i < 164 → at l1 i ≡ destined rows l AM (i - 99)
  analog-word i a b =
      let e : 28 + (i - 36) ≡ 92 + (i - 100) = omega arith in
      let f : 1 + (i - 100) ≡ i - 99 = omega arith in
      written i (omega arith) b ∙ ap (at (filled rows l)) e ∙ filled-am rows l fine (i - 100) (omega arith) ∙ ap (destined rows l AM) f

  flag_at : (i : ℕ) (t : Bool) → eqb (i - 35) 8 ≡ t → 36 ≤ i → i < 100
      → at (headless l2) i ≡ cond (t && bit_of (word l mark)) (pos 0) (destined rows l M (i - 35))
  flag_at i true e a b =
      let q : i ≡ 43 = omega (arith, eqb-true (i - 35) 8 e) in
      head-away l2 i (omega arith)
      ∙ rw q (cleared-eighth (bit_of (word l mark)) l1 (rw length-1 (omega arith)) ∙ ap (cond (bit_of (word l mark)) (pos 0)) (flag_word 43 (omega arith) (omega arith)))
  flag_at i false e a b =
      head-away l2 i (omega arith) ∙ cleared-other (bit_of (word l mark)) l1 i (λ q. eqb-false (i - 35) 8 e (omega arith)) ∙ flag_word i a b

  publish-at : (i : ℕ) → i < length l → Spot i → at (headless l2) i ≡ publish_word rows l (place_of i) (at l i)
  publish-at i b (is-phase q e) = rw e (zeroed i (omega arith))
  publish-at i b (is-done q e) = rw e (zeroed i (omega arith))
  publish-at i b (is-mark q e) = rw e (zeroed i (omega arith))
  publish-at i b (is-elapsed q e) = rw e (zeroed i (omega arith))
  publish-at i b (is-input a c e) = rw e (stays i a (λ k d f. omega arith) (λ f. omega arith))
  publish-at i b (is-analog a c e) = rw e (stays i (omega arith) (λ k d f. omega arith) (λ f. omega arith))
  publish-at i b (is-flag a c e) = rw e (flag_at i (eqb (i - 35) 8) refl a c)
  publish-at i b (is-analog_flag a c e) =
      rw e (head-away l2 i (omega arith) ∙ cleared-other (bit_of (word l mark)) l1 i (λ f. omega arith) ∙ analog-word i a c)
  publish-at i b (is_block a e) = rw e (stays i (omega arith) (λ k d f. omega arith) (λ f. omega arith))

  pub published : headless (cleared (bit_of (word l mark)) (put_all l (index_of (flag 1)) 128 (at from))) ≡ change (publish_word rows l) l
  published =
      is-change (publish_word rows l) l (headless l2) (put-all-length l2 (index_of phase) 4 nothing ∙ length-2) publish-at
