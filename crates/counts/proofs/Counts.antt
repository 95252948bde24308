-- The count behind any calls: `moves`, call after call, from a cold start, which leaves 0; then `rises-less`. Assumes nothing.
use Prim.Native.Nat.{ℕ, ◌<◌}
use native.Mathlib.Omega.{arith}
use mathlib.Core.Path.{◌≡◌, sym, ap, ◌∙◌}
use mathlib.Core.Bool.{Bool, false, true≢false}
use mathlib.Core.List.{List, [], ◌∷◌}
use lib.ListN.{length}
use lib.IntN.{pos}
use Rattle.decoding.specs.Decoded.{Circuit}
use Rattle.lines.specs.Lines.{lines_of, line_at}
use Rattle.record.specs.Places.{block, number, size_of, word, change}
use Rattle.record.specs.Sound.{in_scan}
use Rattle.record.proofs.Located.{change-word}
use Rattle.calls.specs.Calls.{cold_start, plan_of, cold_word, leaves}
use Rattle.calls.specs.Play.{AnyCall, on, Moment, reply_to, after, play}
use Rattle.calls.proofs.Accepts.{cold-told}
use Rattle.calls.proofs.Play.{reply-number, after_is}
use Rattle.calls.proofs.Promises.{cold-start-sound}
use Rattle.counts.specs.Counts.{seen, count_behind, NoStart, IsCounter, CountIsTally, CountIsRises}
use Rattle.counts.proofs.Rises.{rises-less}
use Rattle.counts.proofs.Scanned.{scans}
use Rattle.counts.proofs.Moves.{Has, Stands, waiting, scanning, Moved, stays, counts, moves}

module _ (s : List ℕ) (c : Circuit) (k : ℕ) (h : IsCounter s c k) where
  -- ---- behind any calls: what the rule makes of what was seen, R and stops included

  abbrev ByRule : ℕ → List Bool → List AnyCall → Moment → Type 0
  ByRule n was xs m = word (play s xs m).last.rec (number k) ≡ pos (count_behind n was (seen s (line_at (lines_of c) k) xs m))

  at_rest : (n : ℕ) (was : List Bool) (m : Moment) → Stands s c k n was m → in_scan m.rec ≡ false → ByRule n was [] m
  at_rest n was m (waiting has) rest = has.count
  at_rest n was m (scanning r e before q can has is) rest =
      absurd (true≢false (sym (scans s c r e before can q) ∙ ap (λ (u : Moment). in_scan u.rec) (sym is) ∙ rest))

  count-by-rule : (xs : List AnyCall) (n : ℕ) (was : List Bool) (m : Moment) → Stands s c k n was m → NoStart s xs m
      → in_scan (play s xs m).last.rec ≡ false → ByRule n was xs m
  count-by-rule [] n was m stand ne rest = at_rest n was m stand rest
  count-by-rule (x ∷ xs) n was m stand ne rest =
      go (moves s c k h n was x m stand ne.0) (λ a b next. count-by-rule xs a b (after s x m) next ne.1 rest)
    where
      go : Moved s c k n was x m → ((a : ℕ) (b : List Bool) → Stands s c k a b (after s x m) → ByRule a b xs (after s x m)) → ByRule n was (x ∷ xs) m
      go (stays f next) rest-is = rw f (rest-is n was next)
      go (counts f next) rest-is = rw f (rest-is _ _ next)

  -- ---- from a cold start

  cold : (m : Moment) → (reply_to s (on cold_start) m).number ≡ 0 → Has c k 0 [] (after s (on cold_start) m).rec
  unfolding leaves
  cold m z =
      let accepts = sym (reply-number s c h.is cold_start m) ∙ z in
      let long : length m.rec ≡ size_of (length (lines_of c)) = cold-told (plan_of c) m.rec accepts in
      let right = cold-start-sound s c h.is m long in
      let now : (after s (on cold_start) m).rec ≡ change cold_word m.rec =
      ap (λ (u : Moment). u.rec) (after_is s c h.is cold_start m accepts) in
      let zero_is : (j : ℕ) → j < 3 → word (after s (on cold_start) m).rec (block k j) ≡ pos 0 =
      λ j own. rw now (change-word (length (lines_of c)) cold_word m.rec long (block k j) (h.low, h.high, own)) in
      record { good = right.1; waits = right.2; count = zero_is 2 (omega arith); cnt = zero_is 1 (omega arith) }

pub count-is-tally : CountIsTally
count-is-tally s c k before xs z given =
    let h = given.block in
    count-by-rule s c k h xs 0 [] (after s (on cold_start) before) (waiting (cold s c k h before z)) given.no_start given.waits

pub count-is-rises : CountIsRises
count-is-rises s c k before xs z given free =
    count-is-tally s c k before xs z given ∙ rises-less (seen s (line_at (lines_of c) k) xs (after s (on cold_start) before)) free
