-- What a connector reads in a sound record has 16 bits; what a step, and the steps of a run, write and leave; a sound record stays sound.
-- Assumes nothing.
use Prim.Native.Nat.{ℕ, zero, suc, ◌+◌, ◌-◌, ◌*◌, ◌/◌, ◌%◌, ◌≤◌, ◌<◌, min}
use native.Mathlib.Omega.{arith}
use mathlib.Core.Path.{◌≡◌, refl, ap, ◌∙◌}
use mathlib.Core.Bool.{Bool, true, false}
use mathlib.Core.List.{List, [], ◌∷◌, ◌++◌}
use mathlib.Core.Option.{none, some}
use lib.Dec.{eqb, ltb}
use lib.ListN.{length, take, drop, get_or-eq_default}
use lib.Seq.{take-add, drop-drop}
use lib.IntN.{ℤ, pos}
use borrow.Author.Tests.{ltb-true, ltb-false, eqb-true, eqb-false}
use Rattle.words.specs.Signed.{over, Between}
use Rattle.words.proofs.Bounds.{between-sides, sides-between}
use Rattle.kinds.specs.Kinds.{Sort, digital, analog, In, sixteen, sort_range, kind_of}
use Rattle.kinds.specs.Time.{ticks}
use Rattle.connectors.specs.Connectors.{Connector, class_of, names_block}
use Rattle.kept.specs.Keeps.{All}
use Rattle.blocks.specs.Fit as blocks
use Rattle.blocks.specs.Fit.{Sixteen}
use Rattle.blocks.proofs.Stays.{stays-sound}
use Rattle.lines.specs.Lines.{Line, line_at}
use Rattle.record.specs.Places.{elapsed, input, flag, analog_flag, block, output, remembered, number, size_of, index_of, at, word, words_of}
use Rattle.record.specs.Places as places
use Rattle.record.specs.Sound.{range_of, fits_at, in_scan, at_rest}
use Rattle.record.proofs.Located.{Spot, is-phase, is-done, is-mark, is-elapsed, is-input, is-analog, is-flag, is-analog_flag, is_block, spot, place-index, put-words-length, put-words-away, put-words-output, put-words-remembered, put-words-number}
use Rattle.record.proofs.Held.{Sound, word_in}
use Rattle.steps.specs.Steps.{source_of, input_of, value_from, bits_of, values_of, becomes, step, count_from, order, along, steps_from}
use Rattle.steps.specs.Wired.{Wired, Fine, AllFine}
use Rattle.steps.proofs.Sources.{reads-input, reads-flag, reads-block, reads-analog, reads-analog_flag, reads-analog-block}

-- ---- what a connector reads, by its class

pub data Connects (c : Connector) : Type 0 where
  to-nothing : source_of c ≡ none → Connects c
  to-input : class_of c ≡ 1 → source_of c ≡ some (input c.number) → Connects c
  to-flag : class_of c ≡ 4 → source_of c ≡ some (flag c.number) → Connects c
  to-analog : class_of c ≡ 7 → source_of c ≡ some (places.analog c.number) → Connects c
  to-analog_flag : class_of c ≡ 8 → source_of c ≡ some (analog_flag c.number) → Connects c
  to_block : names_block (class_of c) ≡ true → source_of c ≡ some (output c.number) → Connects c

module _ (c : Connector) where
  by-class : (k : ℕ) → class_of c ≡ k → Connects c
  unfolding source_of names_block
  by-class zero e = to-nothing (rw e)
  by-class (suc zero) e = to-input e (reads-input c e)
  by-class (suc (suc zero)) e = to-nothing (rw e)
  by-class (suc (suc (suc zero))) e = to-nothing (rw e)
  by-class (suc (suc (suc (suc zero)))) e = to-flag e (reads-flag c e)
  by-class (suc (suc (suc (suc (suc zero))))) e = to-nothing (rw e)
  by-class (suc (suc (suc (suc (suc (suc zero)))))) e = to_block (rw e) (reads-block c e)
  by-class (suc (suc (suc (suc (suc (suc (suc zero))))))) e = to-analog e (reads-analog c e)
  by-class (suc (suc (suc (suc (suc (suc (suc (suc zero)))))))) e = to-analog_flag e (reads-analog_flag c e)
  by-class (suc (suc (suc (suc (suc (suc (suc (suc (suc zero))))))))) e = to_block (rw e) (reads-analog-block c e)
  by-class (suc (suc (suc (suc (suc (suc (suc (suc (suc (suc k)))))))))) e = to-nothing (rw e)

  pub connects : Connects c
  connects = by-class (class_of c) refl

-- ---- 16 bits

up-to-sixteen : {n : ℕ} {z : ℤ} → n ≤ 32767 → Between (pos 0) (pos n) z → In sixteen z
up-to-sixteen h b = let s = between-sides b in sides-between (omega arith) (omega arith)

sort-sixteen : (s : Sort) {z : ℤ} → In (sort_range s) z → In sixteen z
sort-sixteen digital b = up-to-sixteen (omega arith) b
sort-sixteen analog b = b

module _ (lines : List Line) (l : List ℤ) (s : Sound lines l) where
  -- from the inputs on, every word but what a block remembers and its number
  spot-sixteen : (i : ℕ) → fits_at lines l i ≡ true → Spot i → 4 ≤ i → (164 ≤ i → (i - 164) % 3 ≡ 0) → In sixteen (at l i)
  spot-sixteen i f (is-phase q e) h k = let z : ⊥ = omega arith in absurd z
  spot-sixteen i f (is-done q e) h k = let z : ⊥ = omega arith in absurd z
  spot-sixteen i f (is-mark q e) h k = let z : ⊥ = omega arith in absurd z
  spot-sixteen i f (is-elapsed q e) h k = let z : ⊥ = omega arith in absurd z
  spot-sixteen i f (is-input a b e) h k = up-to-sixteen {n = 1} (omega arith) (record { between = rw e at f })
  spot-sixteen i f (is-analog a b e) h k = up-to-sixteen {n = 1000} (omega arith) (record { between = rw e at f })
  spot-sixteen i f (is-flag a b e) h k = up-to-sixteen {n = 1} (omega arith) (record { between = rw e at f })
  spot-sixteen i f (is-analog_flag a b e) h k = record { between = rw e at f }
  spot-sixteen i f (is_block a e) h k =
      sort-sixteen (kind_of (line_at lines ((i - 164) / 3 + 1)).kind).output (record { between = rw (e, k a) at f })

  at-sixteen : (i : ℕ) → 4 ≤ i → (164 ≤ i → (i - 164) % 3 ≡ 0) → In sixteen (at l i)
  at-sixteen i h k = go (ltb i (size_of (length lines))) refl
    where
      go : (b : Bool) → ltb i (size_of (length lines)) ≡ b → In sixteen (at l i)
      go true e = spot-sixteen i (s.words i (ltb-true i (size_of (length lines)) e)) (spot i) h k
      go false e =
          let past : length l ≤ i = omega (arith, s.long, ltb-false i (size_of (length lines)) e) in
          rw (get_or-eq_default l (pos 0) past) (record { between = refl })

  value-by : (c : Connector) → Wired c → Connects c → In sixteen (value_from l c)
  unfolding index_of
  value-by c w (to-nothing e) = rw e (record { between = refl })
  value-by c w (to-input k e) = rw e (at-sixteen (3 + c.number) (omega (arith, w.first-input k)) (λ h. omega (arith, w.input k)))
  value-by c w (to-flag k e) = rw e (at-sixteen (35 + c.number) (omega arith) (λ h. omega (arith, w.flag k)))
  value-by c w (to-analog k e) = rw e (at-sixteen (27 + c.number) (omega arith) (λ h. omega (arith, w.analog k)))
  value-by c w (to-analog_flag k e) = rw e (at-sixteen (99 + c.number) (omega arith) (λ h. omega (arith, w.analog_flag k)))
  value-by c w (to_block k e) = rw e (at-sixteen (161 + 3 * c.number + 0) (omega arith) (λ h. omega arith))

  -- whatever a connector reads
  pub value-sixteen : (c : Connector) → Wired c → In sixteen (value_from l c)
  value-sixteen c w = value-by c w (connects c)

  -- Ax and Ay
  pub values-sixteen : (line : Line) → ((j : ℕ) → j < 4 → Wired (input_of line j)) → Sixteen (values_of l line)
  unfolding values_of
  values-sixteen line w =
      record {
        first-is = value-sixteen (input_of line 0) (w 0 (omega arith));
        second_is = value-sixteen (input_of line 1) (w 1 (omega arith));
      }

-- ---- a step

-- the word at an index is none of block k's
abbrev pub Away : ℕ → ℕ → Type 0
Away i k = (j : ℕ) → j < 3 → i ≡ index_of (block k j) → ⊥

module _ (lines : List Line) (k : ℕ) (l : List ℤ) where
  pub step-length : length (step lines k l) ≡ length l
  unfolding step
  step-length = put-words-length l k (becomes l k (line_at lines k))

  -- every other word stays
  pub step-away : (i : ℕ) → Away i k → at (step lines k l) i ≡ at l i
  unfolding step
  step-away i a = put-words-away l k (becomes l k (line_at lines k)) i a

  -- all that stands before the blocks
  pub step-head : 1 ≤ k → (i : ℕ) → i < 164 → at (step lines k l) i ≡ at l i
  unfolding index_of
  step-head low i h = step-away i (λ j b e. omega arith)

  -- and the three words are those of the rule
  module _ (h : index_of (number k) < length l) where
    pub step-output : word (step lines k l) (output k) ≡ (becomes l k (line_at lines k)).output
    unfolding step
    step-output = put-words-output l k (becomes l k (line_at lines k)) h

    pub step-remembered : word (step lines k l) (remembered k) ≡ (becomes l k (line_at lines k)).remembered
    unfolding step
    step-remembered = put-words-remembered l k (becomes l k (line_at lines k)) h

    pub step-number : word (step lines k l) (number k) ≡ (becomes l k (line_at lines k)).number
    unfolding step
    step-number = put-words-number l k (becomes l k (line_at lines k)) h

    pub step_words : words_of (step lines k l) k ≡ becomes l k (line_at lines k)
    step_words = rw (step-output, step-remembered, step-number)

-- a block of the circuit, on a sound record
module _ (lines : List Line) (l : List ℤ) (s : Sound lines l) (k : ℕ) (low : 1 ≤ k) (high : k ≤ length lines) (fine : Fine (line_at lines k)) where
  abbrev line : Line
  line = line_at lines k

  abbrev stepped : List ℤ
  stepped = step lines k l

  in-record : index_of (number k) < length l
  unfolding index_of
  in-record = rw s.long (omega arith)

  becomes-sound : blocks.Sound (kind_of line.kind) line.prepared.time (becomes l k line)
  unfolding becomes
  becomes-sound =
      stays-sound line.kind (bits_of l line) (values_of l line) line.prepared (words_of l k) (ticks (over (word l elapsed))) fine.fit
      (record {
        output-is = word_in lines l s (output k) (low, high, omega arith);
        remembered-is = word_in lines l s (remembered k) (low, high, omega arith);
        number_is = word_in lines l s (number k) (low, high, omega arith);
      })

  fits-at : (j : ℕ) → j < 3 → (i : ℕ) → i ≡ index_of (block k j) → In (range_of lines (block k j)) (word stepped (block k j)) → fits_at lines stepped i ≡ true
  fits-at j h i e b = rw (e, place-index (length lines) (block k j) (low, high, h)) b.between

  fits_after : (i : ℕ) → i < size_of (length lines) → (a b c : Bool) → eqb i (index_of (output k)) ≡ a → eqb i (index_of (remembered k)) ≡ b → eqb i (index_of (number k)) ≡ c → fits_at lines stepped i ≡ true
  fits_after i h true b c p q r =
      fits-at 0 (omega arith) i (eqb-true i (index_of (output k)) p) (rw (step-output lines k l in-record) becomes-sound.output-is)
  fits_after i h false true c p q r =
      fits-at 1 (omega arith) i (eqb-true i (index_of (remembered k)) q) (rw (step-remembered lines k l in-record) becomes-sound.remembered-is)
  fits_after i h false false true p q r =
      fits-at 2 (omega arith) i (eqb-true i (index_of (number k)) r) (rw (step-number lines k l in-record) becomes-sound.number_is)
  fits_after i h false false false p q r = rw (step-away lines k l i away) (s.words i h)
    where
      away : Away i k
      away zero b e = eqb-false i (index_of (output k)) p e
      away (suc zero) b e = eqb-false i (index_of (remembered k)) q e
      away (suc (suc zero)) b e = eqb-false i (index_of (number k)) r e
      away (suc (suc (suc j))) b e = let z : ⊥ = omega arith in absurd z

  rest-after : in_scan stepped ≡ false → at_rest stepped ≡ true
  unfolding index_of
  rest-after = rw (step-head lines k l low 0 (omega arith), step-head lines k l low 1 (omega arith), step-head lines k l low 3 (omega arith)) s.rest

  stepped-sound : Sound lines stepped
  stepped-sound =
      record {
        long = step-length lines k l ∙ s.long;
        words = λ i h. fits_after i h (eqb i (index_of (output k))) (eqb i (index_of (remembered k))) (eqb i (index_of (number k))) refl refl refl;
        rest = rest-after;
      }

pub step_keeps : (lines : List Line) (k : ℕ) (l : List ℤ) → AllFine lines → Sound lines l → 1 ≤ k → k ≤ length lines → Sound lines (step lines k l)
step_keeps lines k l fine s low high = stepped-sound lines l s k low high (fine.fine k low high)

-- ---- steps one after the other

-- as many of them
pub as_many : (a m n : ℕ) → m ≡ n → count_from a m ≡ count_from a n
as_many a m n e = ap (count_from a) e

pub take_count : (m a n : ℕ) → take m (count_from a n) ≡ count_from a (min m n)
take_count zero a n = as_many a 0 (min 0 n) (omega arith)
take_count (suc m) a zero = as_many a 0 (min (suc m) 0) (omega arith)
take_count (suc m) a (suc n) = ap (λ l. a ∷ l) (take_count m (suc a) n) ∙ as_many a (suc (min m n)) (min (suc m) (suc n)) (omega arith)

pub drop-count : (d a n b : ℕ) → a + d ≡ b → drop d (count_from a n) ≡ count_from b (n - d)
drop-count zero a n b e =
    let f : a ≡ b = omega arith in
    rw f (as_many b n (n - 0) (omega arith))
drop-count (suc d) a zero b e = as_many b 0 (0 - suc d) (omega arith)
drop-count (suc d) a (suc n) b e = drop-count d (suc a) n b (omega arith) ∙ as_many b (n - d) (suc n - suc d) (omega arith)

-- what holds of each of a, a + 1, ..
pub all-count : (P : ℕ → Type 0) (m a : ℕ) → ((k : ℕ) → a ≤ k → k < a + m → P k) → All P (count_from a m)
all-count P zero a h = tt
all-count P (suc m) a h = (h a (omega arith) (omega arith), all-count P m (suc a) (λ k f g. h k (omega arith) (omega arith)))

module _ (lines : List Line) where
  pub along-append : (ks js : List ℕ) (l : List ℤ) → along lines (ks ++ js) l ≡ along lines js (along lines ks l)
  unfolding along
  along-append [] js l = refl
  along-append (k ∷ ks) js l = along-append ks js (step lines k l)

  pub along-length : (ks : List ℕ) (l : List ℤ) → length (along lines ks l) ≡ length l
  unfolding along
  along-length [] l = refl
  along-length (k ∷ ks) l = along-length ks (step lines k l) ∙ step-length lines k l

  -- a word that is none of theirs stays
  pub along-away : (ks : List ℕ) (l : List ℤ) (i : ℕ) → All (Away i) ks → at (along lines ks l) i ≡ at l i
  unfolding along
  along-away [] l i a = refl
  along-away (k ∷ ks) l i a = along-away ks (step lines k l) i a.1 ∙ step-away lines k l i a.0

  -- blocks a, a + 1, ..
  pub count_head : (m a : ℕ) (l : List ℤ) → 1 ≤ a → (i : ℕ) → i < 164 → at (along lines (count_from a m) l) i ≡ at l i
  unfolding index_of
  count_head m a l low i h = along-away (count_from a m) l i (all-count (Away i) m a (λ k f g j b e. omega arith))

  count-keep : AllFine lines → (m a : ℕ) (l : List ℤ) → 1 ≤ a → a + m ≤ suc (length lines) → Sound lines l → Sound lines (along lines (count_from a m) l)
  unfolding along
  count-keep fine zero a l low high s = s
  count-keep fine (suc m) a l low high s =
      count-keep fine m (suc a) (step lines a l) (omega arith) (omega arith) (step_keeps lines a l fine s low (omega arith))

  -- which blocks a run works out
  run_of : (d m : ℕ) → take m (drop d (order lines)) ≡ count_from (suc d) (min m (length lines - d))
  unfolding order
  run_of d m = ap (take m) (drop-count d 1 (length lines) (suc d) (omega arith)) ∙ take_count m (suc d) (length lines - d)

  run-within : (d m : ℕ) → d + m ≤ length lines → take m (drop d (order lines)) ≡ count_from (suc d) m
  run-within d m h = run_of d m ∙ as_many (suc d) (min m (length lines - d)) m (omega arith)

  -- ---- a run of steps

  pub steps-length : (d m : ℕ) (l : List ℤ) → length (steps_from lines d m l) ≡ length l
  unfolding steps_from
  steps-length d m l = along-length (take m (drop d (order lines))) l

  -- all that stands before the blocks stays
  pub steps-head : (d m : ℕ) (l : List ℤ) (i : ℕ) → i < 164 → at (steps_from lines d m l) i ≡ at l i
  unfolding steps_from
  steps-head d m l i h = rw (run_of d m) (count_head (min m (length lines - d)) (suc d) l (omega arith) i h)

  pub steps-keep : AllFine lines → (d m : ℕ) (l : List ℤ) → d + m ≤ length lines → Sound lines l → Sound lines (steps_from lines d m l)
  unfolding steps_from
  steps-keep fine d m l h s = rw (run-within d m h) (count-keep fine m (suc d) l (omega arith) (omega arith) s)

  pub steps-zero : (d : ℕ) (l : List ℤ) → steps_from lines d 0 l ≡ l
  unfolding steps_from along
  steps-zero d l = refl

  -- a run of all is the whole order
  pub steps_all : (l : List ℤ) → steps_from lines 0 (length lines) l ≡ along lines (order lines) l
  unfolding steps_from order
  steps_all l = ap (λ (ks : List ℕ). along lines ks l) (run-within 0 (length lines) (omega arith))

  -- a run of a + b is a run of a, then one of b
  pub steps-add : (d a b : ℕ) (l : List ℤ) → steps_from lines d (a + b) l ≡ steps_from lines (d + a) b (steps_from lines d a l)
  unfolding steps_from
  steps-add d a b l =
      rw (take-add a b (drop d (order lines)), drop-drop a d (order lines)) (along-append (take a (drop d (order lines))) (take b (drop (d + a) (order lines))) l)

  -- one more: block d + m + 1
  pub steps-one : (d : ℕ) (l : List ℤ) → d < length lines → steps_from lines d 1 l ≡ step lines (suc d) l
  unfolding steps_from along
  steps-one d l h = ap (λ (ks : List ℕ). along lines ks l) (run-within d 1 (omega arith))

  pub steps-more : (d m : ℕ) (l : List ℤ) → d + m < length lines → steps_from lines d (suc m) l ≡ step lines (suc (d + m)) (steps_from lines d m l)
  steps-more d m l h =
      let e : suc m ≡ m + 1 = omega arith in
      ap (λ (x : ℕ). steps_from lines d x l) e ∙ steps-add d m 1 l ∙ steps-one (d + m) (steps_from lines d m l) h
