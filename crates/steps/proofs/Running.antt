-- What the loop of a turn counts on: the lines that stand in the bytes, and that a record stays sound on the way. Assumes nothing.
use Prim.Native.Nat.{ℕ, suc, ◌+◌, ◌≤◌, ◌<◌}
use native.Mathlib.Omega.{arith}
use mathlib.Core.Path.{◌≡◌, sym, ap, ◌∙◌, subst}
use mathlib.Core.List.{List}
use lib.ListN.{length, get_or}
use lib.IntN.{ℤ}
use Rattle.words.proofs.Bounds.{amount-between}
use Rattle.decoding.specs.Decoded.{block_at}
use Rattle.lines.specs.Lines.{line_of}
use Rattle.record.specs.Places.{done, size_of, put_words}
use Rattle.record.specs.Written.{lines_at}
use Rattle.record.proofs.Split.{lines-length, line-there}
use Rattle.record.proofs.Held.{Sound, told, word_in}
use Rattle.steps.specs.Steps.{becomes, step, steps_from, done_of}
use Rattle.steps.specs.Wired.{Fine, Next, Runs}
use Rattle.steps.proofs.Keeps.{values-sixteen, steps-keep, steps-more}

module _ (s : List ℕ) (n : ℕ) (offsets : List ℕ) (l : List ℤ) (runs : Runs s n offsets l) where
  whole : length (lines_at s n offsets) ≡ n
  whole = lines-length s n offsets runs.stand

  pub starts-sound : Sound (lines_at s n offsets) l
  starts-sound = told (lines_at s n offsets) l (runs.long ∙ ap size_of (sym whole)) runs.is-sound

  pub done-within : done_of l ≤ n
  done-within = omega (arith, (amount-between (word_in (lines_at s n offsets) l starts-sound done tt)).1, whole)

  -- before each turn of the loop
  pub next-ready : (d i : ℕ) → d + i < n → Next s offsets (d + i) (steps_from (lines_at s n offsets) d i l)
  next-ready d i h =
      let few = runs.stand.few in
      let kept = steps-keep (lines_at s n offsets) runs.fine d i l (omega (arith, whole)) starts-sound in
      let e = line-there s n offsets runs.stand (d + i) h in
      let fine : Fine (line_of (block_at s (get_or offsets (d + i) 0))) =
      subst Fine e (runs.fine.fine (d + i + 1) (omega arith) (omega (arith, whole))) in
      record {
        long = runs.stand.long;
        low = omega arith;
        lies = runs.stand.lie (d + i) h;
        fine = fine;
        values = values-sixteen (lines_at s n offsets) (steps_from (lines_at s n offsets) d i l) kept (line_of (block_at s (get_or offsets (d + i) 0))) fine.wired;
      }

  -- and after it
  pub next-is : (d i : ℕ) → d + i < n
      → put_words (steps_from (lines_at s n offsets) d i l) (d + i + 1) (becomes (steps_from (lines_at s n offsets) d i l) (d + i + 1) (line_of (block_at s (get_or offsets (d + i) 0))))
      ≡ steps_from (lines_at s n offsets) d (i + 1) l
  unfolding step
  next-is d i h =
      let e : d + i + 1 ≡ suc (d + i) = omega arith in
      let f : i + 1 ≡ suc i = omega arith in
      let more = steps-more (lines_at s n offsets) d i l (omega (arith, whole)) in
      rw (← line-there s n offsets runs.stand (d + i) h, f) (sym (more ∙ sym (ap (λ (k : ℕ). step (lines_at s n offsets) k (steps_from (lines_at s n offsets) d i l)) e)))
