-- A scan that is closed: `scan-in-turns` and `by-its-rule` say what it leaves; no connector reads blocks done, so a block's inputs as they
-- stand when it is closed are those that its rule took. Assumes nothing.
use Prim.Native.Nat.{ℕ, ◌+◌, ◌-◌, ◌≤◌, ◌<◌, min}
use native.Mathlib.Omega.{arith}
use native.Mathlib.Nat.{add-zero}
use mathlib.Core.Path.{◌≡◌, sym, ap, ◌∙◌}
use mathlib.Core.Bool.{Bool, true, false, not, ◌&&◌}
use mathlib.Core.List.{List, [], ◌∷◌}
use lib.ListN.{length}
use lib.Seq.{set-set}
use lib.IntN.{ℤ, pos}
use Rattle.words.specs.Signed.{over, word_of}
use Rattle.kinds.specs.Kinds.{kind_of}
use Rattle.kinds.specs.Time.{ticks}
use Rattle.rules.specs.Rules.{bit, tally}
use Rattle.rules.specs.declared.BlockWords.{BlockWords}
use Rattle.decoding.specs.Decoded.{Circuit}
use Rattle.blocks.specs.Blocks.{was_bit, was_number, worked_out}
use Rattle.lines.specs.Lines.{Line, lines_of, line_at}
use Rattle.record.specs.Places.{phase, done, block, number, remembered, size_of, index_of, place_of, word, put, words_of, change}
use Rattle.record.specs.Sound.{in_scan}
use Rattle.record.proofs.Located.{change-word}
use Rattle.steps.specs.Steps.{input_of, bit_at, bits_of, values_of, steps_from}
use Rattle.steps.proofs.Keeps.{steps-zero}
use Rattle.steps.proofs.Reading.{bit-same, value-other}
use Rattle.destinations.specs.Destinations.{publish_word}
use Rattle.calls.specs.Calls.{latch, run, publish}
use Rattle.calls.specs.Play.{on, Moment, reply_to, after, play}
use Rattle.calls.specs.InTurns.{CanLatch, InTurns, ByTheRules, scanned}
use Rattle.calls.proofs.InTurns.{scan-in-turns}
use Rattle.calls.proofs.ByRules.{by-its-rule}
use Rattle.counts.specs.Counts.{counter}
use Rattle.counts.proofs.Rule.{counts, remembers}

-- whatever stands in blocks done, a line's inputs are the same
bits-other : (l : List ℤ) (z : ℤ) (line : Line) → bits_of (put l done z) line ≡ bits_of l line
unfolding bits_of
bits-other l z line =
    let same : (j : ℕ) → bit_at (put l done z) line j ≡ bit_at l line j =
    λ j. bit-same (put l done z) l (kind_of line.kind).unused (input_of line j) (value-other l z (input_of line j)) in
    rw (same 0, same 1, same 2, same 3)

-- the latch, and then q blocks asked for
abbrev pub asked_for : List ℕ → List ℤ → ℤ → Moment → ℕ → Moment
asked_for s r e before q = (play s (on (latch r e) ∷ on (run q) ∷ []) before).last

module _ (s : List ℕ) (c : Circuit) (r : List ℤ) (e : ℤ) (before : Moment) (can : CanLatch s c r e before.rec) where
  abbrev lines : List Line
  lines = lines_of c

  abbrev n : ℕ
  n = length lines

  abbrev asking : ℕ → Moment
  asking = asked_for s r e before

  pub in_turns : (q : ℕ) → InTurns s c r e before (on (run q) ∷ []) (asking q)
  in_turns q = (scan-in-turns s c r e before can (on (run q) ∷ [])).in_turns

  pub opens : after s (on (latch r e)) before ≡ asking 0
  opens = (scan-in-turns s c r e before can []).in_turns.stopped

  pub runs : (q m : ℕ) → after s (on (run m)) (asking q) ≡ asking (q + m)
  runs q m = (scan-in-turns s c r e before can (on (run q) ∷ on (run m) ∷ [])).in_turns.stopped ∙ rw (add-zero m)

  pub scans : (q : ℕ) → in_scan (asking q).rec ≡ true
  unfolding index_of place_of
  scans q = rw ((in_turns q).fixed 0 (omega arith) (λ z. omega arith))

  -- ---- all blocks worked out

  abbrev w : List ℤ
  w = scanned c r e before.rec

  ruled : ByTheRules c r e before.rec w
  ruled = (by-its-rule s c r e before can).0

  -- a run with no block to go changes nothing but blocks done
  none_left : (d m : ℕ) (l : List ℤ) → d ≡ n → put (steps_from lines d (min m (n - d)) l) done (pos (d + min m (n - d))) ≡ put l done (pos n)
  none_left d m l all =
      let none : min m (n - d) ≡ 0 = omega arith in
      rw (none, add-zero d, all, steps-zero lines n l)

  whole : (q : ℕ) → n ≤ q → (asking q).rec ≡ put w done (pos n)
  whole q enough =
      let all : n + (q - n) ≡ q = omega arith in
      let last : (asking n).rec ≡ put w done (pos n) = (by-its-rule s c r e before can).1 in
      let more : (asking (n + (q - n))).rec ≡ put (asking n).rec done (pos n) =
      ap (λ (m : Moment). m.rec) (sym (runs n (q - n)) ∙ ((in_turns n).turn (q - n)).1)
      ∙ none_left (min (n + 0) n) (q - n) (asking n).rec (omega arith) in
      ap (λ (j : ℕ). (asking j).rec) (sym all) ∙ more ∙ rw (last, set-set)

  -- ---- and published

  module _ (q k : ℕ) (accepts : (reply_to s (on (publish k)) (asking q)).number ≡ 0) where
    abbrev end : Moment
    end = after s (on (publish k)) (asking q)

    closed : end.rec ≡ change (publish_word c.rows w) w
    closed = ((in_turns q).closed k accepts).rec

    long : length w ≡ size_of n
    long = ruled.long ∙ can.good.0

    pub waits-again : in_scan end.rec ≡ false
    waits-again = rw (closed, change-word n (publish_word c.rows w) w long phase tt)

    read : (line : Line) → bits_of (asking q).rec line ≡ bits_of w line
    read line =
        let all : n ≤ q = omega (arith, (((in_turns q).closes k).0 accepts).0) in
        rw (whole q all) (bits-other w (pos n) line)

    module _ (i : ℕ) (low : 1 ≤ i) (high : i ≤ n) (is : (line_at lines i).kind ≡ counter) where
      abbrev b : List Bool
      b = bits_of (asking q).rec (line_at lines i)

      abbrev was : BlockWords
      was = words_of before.rec i

      kept : (j : ℕ) → j < 3 → word end.rec (block i j) ≡ word w (block i j)
      kept j own = rw (closed, change-word n (publish_word c.rows w) w long (block i j) (low, high, own))

      worked : words_of w i ≡ worked_out counter b (values_of w (line_at lines i)) (line_at lines i).prepared was (ticks (over e))
      worked =
          ruled.blocks i low high
          ∙ ap (λ (kind : ℕ). worked_out kind (bits_of w (line_at lines i)) (values_of w (line_at lines i)) (line_at lines i).prepared was (ticks (over e))) is
          ∙ rw (read (line_at lines i))

      pub count-is : word end.rec (number i) ≡ pos (tally (bit b 0) (bit b 1 && not (was_bit was)) (bit b 2) (was_number was))
      count-is = kept 2 (omega arith) ∙ ap (λ (v : BlockWords). v.number) worked ∙ counts b _ _ was _

      pub cnt-is : word end.rec (remembered i) ≡ word_of (bit b 1)
      cnt-is = kept 1 (omega arith) ∙ ap (λ (v : BlockWords). v.remembered) worked ∙ remembers b _ _ was _
