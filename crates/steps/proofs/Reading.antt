-- A step reads no place but those that `read_by` lists: where two records agree on them it makes the same three words. So a word that it
-- neither reads nor writes may be stored before it or after it; blocks done is one. Assumes nothing.
use Prim.Native.Nat.{ℕ, ◌<◌}
use native.Mathlib.Omega.{arith}
use mathlib.Core.Path.{◌≡◌, refl, sym}
use mathlib.Core.Bool.{Bool}
use mathlib.Core.List.{List, [], ◌∷◌}
use mathlib.Core.Option.{Option, none, some}
use lib.ListN.{take, drop}
use lib.Seq.{get_or-set_other, set_comm}
use lib.IntN.{ℤ, pos}
use Rattle.kinds.specs.Kinds.{kind_of}
use Rattle.rules.specs.declared.BlockWords.{BlockWords}
use Rattle.connectors.specs.Connectors.{Connector}
use Rattle.kept.specs.Keeps.{All}
use Rattle.kept.proofs.Lists.{all_map}
use Rattle.lines.specs.Lines.{Line, line_at}
use Rattle.record.specs.Places.{Place, done, elapsed, block, output, remembered, number, index_of, word, put, put_words}
use Rattle.steps.specs.Steps.{source_of, input_of, read_from, value_from, plain_bit, bit_from, bits_of, values_of, becomes, step, order, along, steps_from}
use Rattle.steps.specs.Reads.{or_none, sources, read_by}
use Rattle.steps.proofs.Keeps.{Connects, to-nothing, to-input, to-flag, to-analog, to-analog_flag, to_block, connects}

-- ---- what a line reads, connector by connector

or-none : (P : Place → Type 0) (o : Option Place) (ps : List Place) → All P (or_none o []) → All P ps → All P (or_none o ps)
or-none P none ps h all = all
or-none P (some p) ps h all = (h.0, all)

pub each-source : (P : Place → Type 0) (line : Line) → ((j : ℕ) → j < 4 → All P (or_none (source_of (input_of line j)) []))
    → All P (sources line)
each-source P line h =
    let o : ℕ → Option Place = λ j. source_of (input_of line j) in
    or-none P (o 0) (or_none (o 1) (or_none (o 2) (or_none (o 3) []))) (h 0 (omega arith))
    (or-none P (o 1) (or_none (o 2) (or_none (o 3) [])) (h 1 (omega arith))
    (or-none P (o 2) (or_none (o 3) []) (h 2 (omega arith)) (h 3 (omega arith))))

-- ---- two records that agree on what is read

module _ (l m : List ℤ) where
  -- they agree there
  abbrev pub Agree : Place → Type 0
  Agree p = word l p ≡ word m p

  -- on the first source of a list, and on the others
  first-source : (o : Option Place) (ps : List Place) → All Agree (or_none o ps) → (read_from l o ≡ read_from m o) × All Agree ps
  first-source none ps h = (refl, h)
  first-source (some p) ps h = (h.0, h.1)

  -- a connector that reads the same gives the same bit
  pub bit-same : (unused : Bool) (c : Connector) → value_from l c ≡ value_from m c → bit_from l unused c ≡ bit_from m unused c
  unfolding bit_from plain_bit
  bit-same unused c e = rw e

  -- connector j of a line reads the same
  abbrev Same : Line → ℕ → Type 0
  Same line j = value_from l (input_of line j) ≡ value_from m (input_of line j)

  inputs-same : (line : Line) → All Agree (sources line) → Same line 0 × Same line 1 × Same line 2 × Same line 3
  inputs-same line h =
      let o : ℕ → Option Place = λ j. source_of (input_of line j) in
      let s0 = first-source (o 0) (or_none (o 1) (or_none (o 2) (or_none (o 3) []))) h in
      let s1 = first-source (o 1) (or_none (o 2) (or_none (o 3) [])) s0.1 in
      let s2 = first-source (o 2) (or_none (o 3) []) s1.1 in
      let s3 = first-source (o 3) [] s2.1 in
      (s0.0, s1.0, s2.0, s3.0)

  pub bits-same : (line : Line) → All Agree (sources line) → bits_of l line ≡ bits_of m line
  unfolding bits_of
  bits-same line h =
      let v = inputs-same line h in
      let u = (kind_of line.kind).unused in
      rw (bit-same u (input_of line 0) v.0, bit-same u (input_of line 1) v.1, bit-same u (input_of line 2) v.2, bit-same u (input_of line 3) v.3)

  pub values_same : (line : Line) → All Agree (sources line) → values_of l line ≡ values_of m line
  unfolding values_of
  values_same line h = let v = inputs-same line h in rw (v.0, v.1)

  pub becomes-same : (k : ℕ) (line : Line) → All Agree (read_by k line) → becomes l k line ≡ becomes m k line
  unfolding becomes
  becomes-same k line h =
      let read = h.1.1.1.1 in
      rw (bits-same line read, values_same line read, h.0, h.1.0, h.1.1.0, h.1.1.1.0)

-- ---- a word that a step neither reads nor writes

put-words-other : (l : List ℤ) (k : ℕ) (w : BlockWords) (q : Place) (z : ℤ) → ((j : ℕ) → j < 3 → index_of (block k j) ≡ index_of q → ⊥) → put_words (put l q z) k w ≡ put (put_words l k w) q z
put-words-other l k w q z a =
    let l1 = put l (output k) w.output in
    let l2 = put l1 (remembered k) w.remembered in
    rw (set_comm l (index_of q) (index_of (output k)) z w.output (λ e. a 0 (omega arith) (sym e)), set_comm l1 (index_of q) (index_of (remembered k)) z w.remembered (λ e. a 1 (omega arith) (sym e)))
    (set_comm l2 (index_of q) (index_of (number k)) z w.number (λ e. a 2 (omega arith) (sym e)))

-- the word of p stands elsewhere than that of q
abbrev pub Elsewhere : Place → Place → Type 0
Elsewhere q p = index_of p ≡ index_of q → ⊥

pub step-apart : (lines : List Line) (q : Place) (k : ℕ) (l : List ℤ) (z : ℤ) → ((j : ℕ) → j < 3 → Elsewhere q (block k j)) → Elsewhere q elapsed → All (Elsewhere q) (sources (line_at lines k)) → step lines k (put l q z) ≡ put (step lines k l) q z
unfolding step
step-apart lines q k l z own e read =
    let line = line_at lines k in
    let other : (p : Place) → Elsewhere q p → word (put l q z) p ≡ word l p = λ p ne. get_or-set_other l (index_of q) (index_of p) z (pos 0) ne in
    let agree = all_map (Elsewhere q) (λ (p : Place). word (put l q z) p ≡ word l p) other (read_by k line)
    (own 0 (omega arith), (own 1 (omega arith), (own 2 (omega arith), (e, read)))) in
    rw (becomes-same (put l q z) l k line agree) (put-words-other l k (becomes l k line) q z own)

-- ---- blocks done is such a word

source-apart : (c : Connector) → Connects c → All (Elsewhere done) (or_none (source_of c) [])
unfolding index_of
source-apart c (to-nothing e) = rw e tt
source-apart c (to-input k e) = rw e (λ b. omega arith, tt)
source-apart c (to-flag k e) = rw e (λ b. omega arith, tt)
source-apart c (to-analog k e) = rw e (λ b. omega arith, tt)
source-apart c (to-analog_flag k e) = rw e (λ b. omega arith, tt)
source-apart c (to_block k e) = rw e (λ b. omega arith, tt)

sources-apart : (line : Line) → All (Elsewhere done) (sources line)
sources-apart line = each-source (Elsewhere done) line (λ j h. source-apart (input_of line j) (connects (input_of line j)))

-- so a connector reads the same
pub value-other : (l : List ℤ) (z : ℤ) (c : Connector) → value_from (put l done z) c ≡ value_from l c
value-other l z c = go (source_of c) (source-apart c (connects c))
  where
    go : (o : Option Place) → All (Elsewhere done) (or_none o []) → read_from (put l done z) o ≡ read_from l o
    go none h = refl
    go (some q) h = get_or-set_other l (index_of done) (index_of q) z (pos 0) h.0

module _ (lines : List Line) (z : ℤ) where
  pub step_other : (k : ℕ) (l : List ℤ) → step lines k (put l done z) ≡ put (step lines k l) done z
  unfolding index_of
  step_other k l = step-apart lines done k l z (λ j h e. omega arith) (λ e. omega arith) (sources-apart (line_at lines k))

  along-other : (ks : List ℕ) (l : List ℤ) → along lines ks (put l done z) ≡ put (along lines ks l) done z
  unfolding along
  along-other [] l = refl
  along-other (k ∷ ks) l = rw (step_other k l) (along-other ks (step lines k l))

  pub steps-other : (d m : ℕ) (l : List ℤ) → steps_from lines d m (put l done z) ≡ put (steps_from lines d m l) done z
  unfolding steps_from
  steps-other d m l = along-other (take m (drop d (order lines))) l
