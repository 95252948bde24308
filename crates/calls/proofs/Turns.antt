-- Turns on a record: they keep it sound and its scan open, and one of the blocks to go leaves none. Assumes nothing.
use Prim.Native.Nat.{ℕ, ◌+◌, ◌-◌, ◌≤◌, ◌<◌, min}
use native.Mathlib.Omega.{arith}
use native.Mathlib.Nat.{add_assoc, add-zero, zero-min}
use mathlib.Core.Path.{◌≡◌, refl, ap, ◌∙◌}
use mathlib.Core.Bool.{Bool, true, false}
use mathlib.Core.List.{List}
use lib.Dec.{eqb}
use lib.ListN.{length, length-set}
use lib.Seq.{get_or-set_same, get_or-set_other, set-set, set-get_or}
use lib.IntN.{ℤ, pos}
use borrow.Author.Tests.{eqb-true, eqb-false}
use Rattle.words.specs.Signed.{over}
use Rattle.words.proofs.Bounds.{amount-between, count-is, count-between}
use Rattle.lines.specs.Lines.{Line}
use Rattle.record.specs.Places.{done, size_of, index_of, place_of, put}
use Rattle.record.specs.Sound.{fits_at, in_scan}
use Rattle.record.proofs.Held.{Sound, word_in}
use Rattle.steps.specs.Steps.{steps_from, done_of, to_go, turn_of, turned}
use Rattle.steps.specs.Wired.{AllFine}
use Rattle.steps.proofs.Keeps.{steps-length, steps-head, steps-keep, steps-zero, steps-add}
use Rattle.steps.proofs.Reading.{steps-other}

-- ---- blocks done

pub done-most : (lines : List Line) (l : List ℤ) → Sound lines l → done_of l ≤ length lines
done-most lines l s = (amount-between (word_in lines l s done tt)).1

-- in a scan it may be any number of blocks
module _ (lines : List Line) (l : List ℤ) (s : Sound lines l) (scan : in_scan l ≡ true) (d : ℕ) (most : d ≤ length lines) where
  fits-done : (i : ℕ) (b : Bool) → eqb i 1 ≡ b → i < size_of (length lines) → fits_at lines (put l done (pos d)) i ≡ true
  unfolding place_of index_of
  fits-done i true e h =
      rw (eqb-true i 1 e, get_or-set_same l 1 (pos d) (pos 0) (rw s.long (omega arith))) (count-between most).between
  fits-done i false e h = rw (get_or-set_other l 1 i (pos d) (pos 0) (eqb-false i 1 e)) (s.words i h)

  pub put-done-keeps : Sound lines (put l done (pos d))
  unfolding index_of
  put-done-keeps =
      record {
        long = length-set l 1 (pos d) ∙ s.long;
        words = λ i h. fits-done i (eqb i 1) refl h;
        rest = rw (get_or-set_other l 1 0 (pos d) (pos 0) (λ e. omega arith), scan) (λ e. cc);
      }

-- ---- a turn

module _ (lines : List Line) (c : ℕ) (l : List ℤ) where
  abbrev d : ℕ
  d = done_of l

  abbrev k : ℕ
  k = turn_of lines c l

  pub turned-length : length (turned lines c l) ≡ length l
  unfolding turned
  turned-length = length-set (steps_from lines d k l) (index_of done) (pos (d + k)) ∙ steps-length lines d k l

  -- the scan stays open, or closed
  pub turned-scan : in_scan (turned lines c l) ≡ in_scan l
  unfolding turned index_of
  turned-scan =
      rw (get_or-set_other (steps_from lines d k l) 1 0 (pos (d + k)) (pos 0) (λ e. omega arith), steps-head lines d k l 0 (omega arith))

  module _ (long : 1 < length l) where
    pub turned-done : done_of (turned lines c l) ≡ done_of l + turn_of lines c l
    unfolding turned index_of
    turned-done = ap over (get_or-set_same (steps_from lines d k l) 1 (pos (d + k)) (pos 0) (rw (steps-length lines d k l) long))

    pub turned-to-go : to_go lines (turned lines c l) ≡ to_go lines l - turn_of lines c l
    turned-to-go = rw turned-done (omega arith)

  pub turned-keeps : AllFine lines → Sound lines l → in_scan l ≡ true → Sound lines (turned lines c l)
  unfolding turned index_of
  turned-keeps fine s scan =
      let most = done-most lines l s in
      let within : d + k ≤ length lines = omega arith in
      put-done-keeps lines (steps_from lines d k l) (steps-keep lines fine d k l within s) (rw (steps-head lines d k l 0 (omega arith)) scan) (d + k) within

pub turned-is : (lines : List Line) (c : ℕ) (l : List ℤ) → turned lines c l ≡ put (steps_from lines (done_of l) (turn_of lines c l) l) done (pos (done_of l + turn_of lines c l))
unfolding turned
turned-is lines c l = refl

-- ---- a turn of none, and one of all

-- "Run of 0 blocks in a scan: nothing changes"
pub turned_none : (lines : List Line) (l : List ℤ) → Sound lines l → turned lines 0 l ≡ l
unfolding turned
turned_none lines l s =
    rw (zero-min (to_go lines l), steps-zero lines (done_of l) l, add-zero (done_of l), count-is (word_in lines l s done tt))
    (set-get_or l (index_of done) (pos 0))

-- a turn of the blocks to go leaves none
pub turned-all : (lines : List Line) (l : List ℤ) → 1 < length l → to_go lines (turned lines (to_go lines l) l) ≡ 0
turned-all lines l long = rw (turned-to-go lines (to_go lines l) l long) (omega arith)

-- ---- turns join

-- the m blocks behind the first d worked out, and said to be done
abbrev worked : List Line → ℕ → ℕ → List ℤ → List ℤ
worked lines d m l = put (steps_from lines d m l) done (pos (d + m))

worked-add : (lines : List Line) (d j k : ℕ) (l : List ℤ) → worked lines (d + j) k (worked lines d j l) ≡ worked lines d (j + k) l
worked-add lines d j k l =
    rw (steps-other lines (pos (d + j)) (d + j) k (steps_from lines d j l), set-set, steps-add lines d j k l, add_assoc d j k)

-- of g blocks to go
min-add : (a b g : ℕ) → min a g + min b (g - min a g) ≡ min (a + b) g
min-add a b g = omega arith

-- a turn of up to a, then one of up to b, is one of up to a + b
pub turned-add : (lines : List Line) (a b : ℕ) (l : List ℤ) → 1 < length l → turned lines b (turned lines a l) ≡ turned lines (a + b) l
unfolding turned
turned-add lines a b l long =
    let d = done_of l in
    let j = turn_of lines a l in
    let k = min b (to_go lines l - j) in
    let next = worked lines d j l in
    let from : done_of next ≡ d + j = turned-done lines a l long in
    let more : turn_of lines b next ≡ k = rw (turned-to-go lines a l long) in
    let all : j + k ≡ turn_of lines (a + b) l = min-add a b (to_go lines l) in
    ap (λ (x : ℕ). worked lines x (turn_of lines b next) next) from
    ∙ ap (λ (x : ℕ). worked lines (d + j) x next) more
    ∙ worked-add lines d j k l
    ∙ ap (λ (x : ℕ). worked lines d x l) all
