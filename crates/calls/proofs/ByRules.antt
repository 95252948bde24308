-- The words of a scan are what the rules say, in no order: a block of an accepted circuit reads only what stands before its own words, so
-- its inputs stay once it is worked out; and the rules leave one outcome only, block after block. Assumes nothing.
use Prim.Native.Nat.{ℕ, ◌≤◌, ◌<◌}
use native.Mathlib.Omega.{arith}
use mathlib.Core.Path.{◌≡◌, sym, ◌∙◌}
use mathlib.Core.List.{List}
use lib.ListN.{length}
use lib.IntN.{ℤ}
use Rattle.decoding.specs.Decoded.{Circuit}
use Rattle.lines.specs.Lines.{Line, lines_of, line_at}
use Rattle.record.specs.Places.{elapsed, block, size_of, index_of, word, words_of, change}
use Rattle.record.proofs.Located.{change-length, change-at, change-word}
use Rattle.steps.proofs.Reading.{bits-same, values_same}
use Rattle.steps.proofs.Ordered.{ReadsEarlier, order-length, order-head, order-worked, decided}
use Rattle.calls.specs.Calls.{latch_word}
use Rattle.calls.specs.InTurns.{CanLatch, ByTheRules, scanned}
use Rattle.calls.specs.Promises.{ByItsRule, RulesDecide}
use Rattle.calls.proofs.Fine.{reads-earlier}
use Rattle.calls.proofs.InTurns.{one-go-words, one-go-closed}

module _ (s : List ℕ) (c : Circuit) (r : List ℤ) (e : ℤ) (l : List ℤ) (can : CanLatch s c r e l) where
  abbrev lines : List Line
  lines = lines_of c

  abbrev latched : List ℤ
  latched = change (latch_word r e) l

  as_long : length latched ≡ size_of (length lines)
  as_long = change-length (latch_word r e) l ∙ can.good.0

  earlier : ReadsEarlier lines
  earlier = reads-earlier s can.bytes c can.is

  -- latch leaves the words of blocks
  block-kept : (k : ℕ) → 1 ≤ k → k ≤ length lines → words_of latched k ≡ words_of l k
  block-kept k low high =
      let own : (j : ℕ) → j < 3 → word latched (block k j) ≡ word l (block k j) =
      λ j h. change-word (length lines) (latch_word r e) l can.good.0 (block k j) (low, high, h) in
      rw (own 0 (omega arith), own 1 (omega arith), own 2 (omega arith))

  elapsed-is : word latched elapsed ≡ e
  elapsed-is = change-word (length lines) (latch_word r e) l can.good.0 elapsed tt

  scanned-by : ByTheRules c r e l (scanned c r e l)
  unfolding index_of
  scanned-by =
      record {
        long = order-length lines latched ∙ change-length (latch_word r e) l;
        fixed = λ i h. order-head lines latched i h ∙ change-at (latch_word r e) l i (rw can.good.0 (omega arith));
        blocks = λ k low high. order-worked lines latched as_long earlier k low high ∙ rw (block-kept k low high, elapsed-is);
      }

pub by-its-rule : ByItsRule
by-its-rule s c r e before can =
    (scanned-by s c r e before.rec can, one-go-words s c r e before can, one-go-closed s c r e before can)

-- two outcomes that the rules allow are equal
pub rules-decide : RulesDecide
unfolding index_of
rules-decide s c r e l can w v a b =
    decided (lines_of c) (earlier s c r e l can) w v (λ i h. a.fixed i h ∙ sym (b.fixed i h))
    (λ k low high agree.
    let line = line_at (lines_of c) k in
    a.blocks k low high ∙ rw (bits-same w v line agree, values_same w v line agree) (sym (b.blocks k low high)))
    (a.long ∙ can.good.0) (a.long ∙ sym b.long)
