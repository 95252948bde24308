-- Places and indices go into each other; reading after writing; what a change by place makes of each word. Assumes nothing.
use Prim.Native.Nat.{ℕ, zero, suc, ◌+◌, ◌-◌, ◌*◌, ◌/◌, ◌%◌, ◌≤◌, ◌<◌}
use native.Mathlib.Omega.{arith}
use native.Mathlib.Nat.{add-zero, zero-add}
use mathlib.Core.Path.{◌≡◌, refl, sym, ap, ◌∙◌}
use mathlib.Core.Bool.{Bool, true, false}
use mathlib.Core.List.{List, [], ◌∷◌}
use lib.Dec.{ltb}
use lib.ListN.{length, length-set}
use lib.Seq.{get_or-set_same, get_or-set_other, ext_get_or}
use lib.IntN.{ℤ, pos}
use borrow.Author.Tests.{ltb-true, ltb-false, lt-ltb, le-ltb}
use Rattle.rules.specs.declared.BlockWords.{BlockWords}
use Rattle.record.specs.Places.{Place, phase, done, mark, elapsed, input, analog, flag, analog_flag, block, output, remembered, number, size_of, index_of, place_of, at, word, put, put_words, change_from, change}

-- a place that a record of n blocks has
abbrev pub Real : ℕ → Place → Type 0
Real n phase = Unit {0}
Real n done = Unit {0}
Real n mark = Unit {0}
Real n elapsed = Unit {0}
Real n (input k) = (1 ≤ k) × (k ≤ 24)
Real n (analog k) = (1 ≤ k) × (k ≤ 8)
Real n (flag k) = (1 ≤ k) × (k ≤ 64)
Real n (analog_flag k) = (1 ≤ k) × (k ≤ 64)
Real n (block k j) = (1 ≤ k) × (k ≤ n) × (j < 3)

-- ---- an index has its place

-- what stands at an index
pub data Spot (i : ℕ) : Type 0 where
  is-phase : i ≡ 0 → place_of i ≡ phase → Spot i
  is-done : i ≡ 1 → place_of i ≡ done → Spot i
  is-mark : i ≡ 2 → place_of i ≡ mark → Spot i
  is-elapsed : i ≡ 3 → place_of i ≡ elapsed → Spot i
  is-input : 4 ≤ i → i < 28 → place_of i ≡ input (i - 3) → Spot i
  is-analog : 28 ≤ i → i < 36 → place_of i ≡ analog (i - 27) → Spot i
  is-flag : 36 ≤ i → i < 100 → place_of i ≡ flag (i - 35) → Spot i
  is-analog_flag : 100 ≤ i → i < 164 → place_of i ≡ analog_flag (i - 99) → Spot i
  is_block : 164 ≤ i → place_of i ≡ block ((i - 164) / 3 + 1) ((i - 164) % 3) → Spot i

head-spot : (i : ℕ) → i < 4 → Spot i
unfolding place_of
head-spot zero h = is-phase refl refl
head-spot (suc zero) h = is-done refl refl
head-spot (suc (suc zero)) h = is-mark refl refl
head-spot (suc (suc (suc zero))) h = is-elapsed refl refl
head-spot (suc (suc (suc (suc i)))) h = let z : ⊥ = omega arith in absurd z

module _ (i : ℕ) where
  spot-from : (a b c d e : Bool) → ltb i 4 ≡ a → ltb i 28 ≡ b → ltb i 36 ≡ c → ltb i 100 ≡ d → ltb i 164 ≡ e → Spot i
  unfolding place_of
  spot-from true b c d e p q r s t = head-spot i (ltb-true i 4 p)
  spot-from false true c d e p q r s t = is-input (ltb-false i 4 p) (ltb-true i 28 q) (rw (p, q))
  spot-from false false true d e p q r s t = is-analog (ltb-false i 28 q) (ltb-true i 36 r) (rw (p, q, r))
  spot-from false false false true e p q r s t = is-flag (ltb-false i 36 r) (ltb-true i 100 s) (rw (p, q, r, s))
  spot-from false false false false true p q r s t = is-analog_flag (ltb-false i 100 s) (ltb-true i 164 t) (rw (p, q, r, s, t))
  spot-from false false false false false p q r s t = is_block (ltb-false i 164 t) (rw (p, q, r, s, t))

  pub spot : Spot i
  spot = spot-from (ltb i 4) (ltb i 28) (ltb i 36) (ltb i 100) (ltb i 164) refl refl refl refl refl

-- the place of an index below the size is one that there is, and stands there
index-spot : (i : ℕ) → Spot i → index_of (place_of i) ≡ i
unfolding index_of
index-spot i (is-phase q e) = rw (e, q)
index-spot i (is-done q e) = rw (e, q)
index-spot i (is-mark q e) = rw (e, q)
index-spot i (is-elapsed q e) = rw (e, q)
index-spot i (is-input a b e) = rw e (omega arith)
index-spot i (is-analog a b e) = rw e (omega arith)
index-spot i (is-flag a b e) = rw e (omega arith)
index-spot i (is-analog_flag a b e) = rw e (omega arith)
index-spot i (is_block a e) = rw e (omega arith)

pub index-place : (i : ℕ) → index_of (place_of i) ≡ i
index-place i = index-spot i (spot i)

real-spot : (n i : ℕ) → i < size_of n → Spot i → Real n (place_of i)
real-spot n i h (is-phase q e) = rw e tt
real-spot n i h (is-done q e) = rw e tt
real-spot n i h (is-mark q e) = rw e tt
real-spot n i h (is-elapsed q e) = rw e tt
real-spot n i h (is-input a b e) = rw e (omega arith, omega arith)
real-spot n i h (is-analog a b e) = rw e (omega arith, omega arith)
real-spot n i h (is-flag a b e) = rw e (omega arith, omega arith)
real-spot n i h (is-analog_flag a b e) = rw e (omega arith, omega arith)
real-spot n i h (is_block a e) = rw e (omega arith, omega arith, omega arith)

pub place-real : (n i : ℕ) → i < size_of n → Real n (place_of i)
place-real n i h = real-spot n i h (spot i)

-- ---- a place has its index

block-place : (i j k : ℕ) → 164 ≤ i → (i - 164) % 3 ≡ j → (i - 164) / 3 + 1 ≡ k → place_of i ≡ block k j
unfolding place_of
block-place i j k h e f =
    rw (le-ltb i 4 (omega arith), le-ltb i 28 (omega arith), le-ltb i 36 (omega arith), le-ltb i 100 (omega arith), le-ltb i 164 (omega arith), e, f)

pub place-index : (n : ℕ) (p : Place) → Real n p → place_of (index_of p) ≡ p
unfolding index_of place_of
place-index n phase r = refl
place-index n done r = refl
place-index n mark r = refl
place-index n elapsed r = refl
place-index n (input k) r = rw (le-ltb (3 + k) 4 (omega arith), lt-ltb (3 + k) 28 (omega arith)) (ap input (omega arith))
place-index n (analog k) r =
    rw (le-ltb (27 + k) 4 (omega arith), le-ltb (27 + k) 28 (omega arith), lt-ltb (27 + k) 36 (omega arith)) (ap analog (omega arith))
place-index n (flag k) r =
    rw (le-ltb (35 + k) 4 (omega arith), le-ltb (35 + k) 28 (omega arith), le-ltb (35 + k) 36 (omega arith), lt-ltb (35 + k) 100 (omega arith))
    (ap flag (omega arith))
place-index n (analog_flag k) r =
    rw (le-ltb (99 + k) 4 (omega arith), le-ltb (99 + k) 28 (omega arith), le-ltb (99 + k) 36 (omega arith), le-ltb (99 + k) 100 (omega arith), lt-ltb (99 + k) 164 (omega arith))
    (ap analog_flag (omega arith))
place-index n (block k j) r = block-place (161 + 3 * k + j) j k (omega arith) (omega arith) (omega arith)

pub index_below : (n : ℕ) (p : Place) → Real n p → index_of p < size_of n
unfolding index_of
index_below n phase r = omega arith
index_below n done r = omega arith
index_below n mark r = omega arith
index_below n elapsed r = omega arith
index_below n (input k) r = omega arith
index_below n (analog k) r = omega arith
index_below n (flag k) r = omega arith
index_below n (analog_flag k) r = omega arith
index_below n (block k j) r = omega arith

-- two places that there are stand apart
pub index-apart : (n : ℕ) (p q : Place) → Real n p → Real n q → (p ≡ q → ⊥) → index_of p ≡ index_of q → ⊥
index-apart n p q a b ne e = ne (sym (place-index n p a) ∙ ap place_of e ∙ place-index n q b)

-- ---- reading after writing, at every pair of places

module _ (n : ℕ) (l : List ℤ) (long : length l ≡ size_of n) where
  pub read_same : (p : Place) (z : ℤ) → Real n p → word (put l p z) p ≡ z
  read_same p z a = get_or-set_same l (index_of p) z (pos 0) (rw long (index_below n p a))

  pub read-other : (p q : Place) (z : ℤ) → Real n p → Real n q → (q ≡ p → ⊥) → word (put l p z) q ≡ word l q
  read-other p q z a b ne = get_or-set_other l (index_of p) (index_of q) z (pos 0) (index-apart n q p b a ne)

-- ---- a change of each word

length_from : (j : ℕ) (f : Place → ℤ → ℤ) (l : List ℤ) → length (change_from j f l) ≡ length l
unfolding change_from
length_from j f [] = refl
length_from j f (z ∷ l) = ap suc (length_from (j + 1) f l)

pub change-length : (f : Place → ℤ → ℤ) (l : List ℤ) → length (change f l) ≡ length l
change-length f l = length_from 0 f l

at_from : (j : ℕ) (f : Place → ℤ → ℤ) (l : List ℤ) (i : ℕ) → i < length l → at (change_from j f l) i ≡ f (place_of (j + i)) (at l i)
unfolding change_from
at_from j f [] i h = let z : ⊥ = omega arith in absurd z
at_from j f (z ∷ l) zero h = rw (add-zero j)
at_from j f (z ∷ l) (suc i) h =
    let e : j + 1 + i ≡ j + suc i = omega arith in
    rw (← e) (at_from (j + 1) f l i (omega arith))

pub change-at : (f : Place → ℤ → ℤ) (l : List ℤ) (i : ℕ) → i < length l → at (change f l) i ≡ f (place_of i) (at l i)
change-at f l i h = rw (zero-add i) at (at_from 0 f l i h)

-- the word of a place
pub change-word : (n : ℕ) (f : Place → ℤ → ℤ) (l : List ℤ) → length l ≡ size_of n → (p : Place) → Real n p → word (change f l) p ≡ f p (word l p)
change-word n f l long p r =
    change-at f l (index_of p) (rw long (index_below n p r)) ∙ ap (λ (q : Place). f q (word l p)) (place-index n p r)

-- a record that agrees with a change at every index is the change
pub is-change : (f : Place → ℤ → ℤ) (l m : List ℤ) → length m ≡ length l → ((i : ℕ) → i < length l → Spot i → at m i ≡ f (place_of i) (at l i)) → m ≡ change f l
is-change f l m e h =
    ext_get_or (pos 0) m (change f l) (e ∙ sym (change-length f l))
    (λ i k. let b : i < length l = rw e at k in h i b (spot i) ∙ sym (change-at f l i b))

-- ---- the three words of a block

module _ (l : List ℤ) (k : ℕ) (w : BlockWords) where
  abbrev l1 : List ℤ
  l1 = put l (output k) w.output

  abbrev l2 : List ℤ
  l2 = put l1 (remembered k) w.remembered

  pub put-words-length : length (put_words l k w) ≡ length l
  put-words-length = simp length-set

  -- every other word stays
  pub put-words-away : (i : ℕ) → ((j : ℕ) → j < 3 → i ≡ index_of (block k j) → ⊥) → at (put_words l k w) i ≡ at l i
  put-words-away i a =
      get_or-set_other l2 (index_of (number k)) i w.number (pos 0) (a 2 (omega arith))
      ∙ get_or-set_other l1 (index_of (remembered k)) i w.remembered (pos 0) (a 1 (omega arith))
      ∙ get_or-set_other l (index_of (output k)) i w.output (pos 0) (a 0 (omega arith))

  module _ (h : index_of (number k) < length l) where
    pub put-words-output : word (put_words l k w) (output k) ≡ w.output
    unfolding index_of
    put-words-output =
        get_or-set_other l2 (index_of (number k)) (index_of (output k)) w.number (pos 0) (λ e. omega arith)
        ∙ get_or-set_other l1 (index_of (remembered k)) (index_of (output k)) w.remembered (pos 0) (λ e. omega arith)
        ∙ get_or-set_same l (index_of (output k)) w.output (pos 0) (omega arith)

    pub put-words-remembered : word (put_words l k w) (remembered k) ≡ w.remembered
    unfolding index_of
    put-words-remembered =
        get_or-set_other l2 (index_of (number k)) (index_of (remembered k)) w.number (pos 0) (λ e. omega arith)
        ∙ get_or-set_same l1 (index_of (remembered k)) w.remembered (pos 0) (simp length-set (omega arith))

    pub put-words-number : word (put_words l k w) (number k) ≡ w.number
    unfolding index_of
    put-words-number = get_or-set_same l2 (index_of (number k)) w.number (pos 0) (simp length-set (omega arith))
