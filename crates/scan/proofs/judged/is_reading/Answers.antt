-- `scan::judged::is_reading` meets its contract: the length, 24 bits, 8 values and e. Assumes nothing.
use Prim.Native.Nat.{ℕ}
use native.Mathlib.Nat.{zero-add}
use mathlib.Core.Path.{◌≡◌, sym, ◌∙◌, ap}
use lib.ListN.{length, drop}
use Rattle.std.proofs.lemmas.List.{take_all, length-drop}
use Rattle.std.proofs.Common.{arith}
use lib.IntN.{pos}
use borrow.Author.Tests.{eq-eqb, ne_eqb}
use Rattle.words.proofs.Locals.{back}
use Rattle.kinds.specs.Kinds.{in_range, ◌to◌}
use Rattle.record.specs.Places.{at}
use Rattle.record.specs.Written.{all_fit}
use Rattle.record.proofs.Runs.{and_same, every-same, run-all}
use Rattle.calls.specs.Calls.{is_reading}
use Rattle.scan.proofs.judged.is_reading.Goals as goal

pub returns-then-inputs-ne-READING : goal.returns-then-inputs-ne-READING
unfolding is_reading
returns-then-inputs-ne-READING c = rw (ne_eqb _ 32 c.if-inputs-ne-READING.true)

pub returns : goal.returns
unfolding is_reading
returns c =
    let r = c.args.inputs.now in
    let long : length r ≡ 32 = c.if-inputs-ne-READING.false in
    let split = c.split_at.ensures in
    let bits =
    c.are_within.ensures
    ∙ ap (all_fit (pos 0 to pos 1)) split.front
    ∙ sym (run-all (pos 0 to pos 1) r 0 24 (omega arith))
    ∙ every-same 24 _ (λ (i : ℕ). in_range (pos 0 to pos 1) (at r i)) (λ k h. ap (λ (i : ℕ). in_range (pos 0 to pos 1) (at r i)) (zero-add k)) in
    let values =
    c.are_within-2.ensures
    ∙ ap (all_fit (pos 0 to pos 1000)) (split.back ∙ sym (take_all 8 (drop 24 r) (omega (arith, length-drop 24 r))))
    ∙ sym (run-all (pos 0 to pos 1000) r 24 8 (omega arith)) in
    rw (eq-eqb _ 32 long) (and_same bits (and_same values (rw (back c.ranges.e) at c.is_within.ensures)))
