-- Each call, where it is refused and where it is accepted: its answer and every lent word. Assumes nothing.
use Prim.Native.Nat.{ℕ, ◌-◌}
use native.Mathlib.Omega.{arith}
use mathlib.Core.Path.{◌≡◌, refl, sym, ap, ◌∙◌}
use mathlib.Core.Bool.{Bool, true, false, cond, not, ◌&&◌, ◌||◌}
use mathlib.Core.List.{List}
use lib.Dec.{eqb}
use lib.ListN.{length}
use lib.IntN.{ℤ}
use borrow.Author.Tests.{eq-eqb, ne_eqb}
use Rattle.words.proofs.Bounds.{and-true}
use Rattle.refusals.specs.Limited.{ours}
use Rattle.refusals.specs.Answers.{accepted_with}
use Rattle.decoding.specs.Held.{rows_at}
use Rattle.decoding.specs.Decoded.{Row}
use Rattle.decoding.specs.Held.{Head}
use Rattle.circuit.specs.Judged.{Accepts}
use Rattle.lines.specs.Lines.{Line, lines_of}
use Rattle.record.specs.Places.{size_of, change}
use Rattle.record.specs.Sound.{in_scan, sound}
use Rattle.record.specs.Written.{lines_at}
use Rattle.steps.specs.Steps.{done_of, to_go, turn_of, turned}
use Rattle.record.proofs.Split.{lines-length}
use Rattle.destinations.specs.Destinations.{outputs_of, publish_word}
use Rattle.calls.specs.Calls.{cold_start, warm_start, latch, run, publish, Plan, plan_of, cold_word, warm_word, latch_word, is_reading, gives, leaves, shows, answer_after, record_after, outputs_after}
use Rattle.scan.specs.Opened.{Refuses, Opened}
use Rattle.scan.proofs.Opening.{told-number, answered, left_so, shown-so, twenty, cold-number, warm-number, latch-number, run-number, publish-number, plan-length}

-- ---- cold start

module _ (s : List ℕ) (head : Head) (offsets : List ℕ) (a : Accepts ours s head offsets) (l : List ℤ) where
  pub cold-20 : (length l ≡ size_of head.n → ⊥) → Refuses s cold_start l 20 0
  cold-20 ne =
      told-number s a.circuit a.is cold_start l 20 (λ z. omega arith)
      (twenty (plan_of a.circuit) l cold_start (ap (λ (n : ℕ). eqb (length l) (size_of n)) (plan-length s head offsets a) ∙ ne_eqb (length l) (size_of head.n) ne))

  pub cold-done : length l ≡ size_of head.n → (answer_after s cold_start l ≡ accepted_with 0 0) × (record_after s cold_start l ≡ change cold_word l)
  unfolding gives leaves
  cold-done e =
      let z = cold-number (plan_of a.circuit) l (ap (λ (n : ℕ). eqb (length l) (size_of n)) (plan-length s head offsets a) ∙ eq-eqb (length l) (size_of head.n) e) in
      (answered s a.circuit a.is cold_start l z, left_so s a.circuit a.is cold_start l z)

-- ---- the other calls, on a sound record

module _ (s : List ℕ) (l : List ℤ) (head : Head) (offsets : List ℕ) (o : Opened s l head offsets) where
  abbrev plan : Plan
  plan = plan_of o.circuit

  whole : length (lines_at s head.n offsets) ≡ head.n
  whole = lines-length s head.n offsets o.runs.stand

  is-long : eqb (length l) (size_of (length (lines_of o.circuit))) ≡ true
  is-long = eq-eqb (length l) (size_of (length (lines_of o.circuit))) (o.runs.long ∙ ap size_of (sym whole ∙ ap length o.lines))

  is-sound : sound (lines_of o.circuit) l ≡ true
  is-sound = ap (λ (m : List Line). sound m l) (sym o.lines) ∙ o.runs.is-sound

  pub warm-22 : in_scan l ≡ true → Refuses s warm_start l 22 0
  warm-22 e = told-number s o.circuit o.is warm_start l 22 (λ z. omega arith) (warm-number plan l is-long is-sound e)

  pub warm-done : in_scan l ≡ false → (answer_after s warm_start l ≡ accepted_with 0 0) × (record_after s warm_start l ≡ change (warm_word (lines_at s head.n offsets)) l)
  unfolding gives leaves
  warm-done e =
      let z = warm-number plan l is-long is-sound e in
      (answered s o.circuit o.is warm_start l z, left_so s o.circuit o.is warm_start l z ∙ ap (λ (m : List Line). change (warm_word m) l) (sym o.lines))

  module _ (r : List ℤ) (e : ℤ) where
    pub latch-22 : in_scan l ≡ true → Refuses s (latch r e) l 22 0
    latch-22 f = told-number s o.circuit o.is (latch r e) l 22 (λ z. omega arith) (latch-number plan l is-long is-sound r e f refl)

    pub latch-23 : in_scan l ≡ false → is_reading r e ≡ false → Refuses s (latch r e) l 23 0
    latch-23 f g = told-number s o.circuit o.is (latch r e) l 23 (λ z. omega arith) (latch-number plan l is-long is-sound r e f g)

    pub latch-done : in_scan l ≡ false → is_reading r e ≡ true → (answer_after s (latch r e) l ≡ accepted_with 0 0) × (record_after s (latch r e) l ≡ change (latch_word r e) l)
    unfolding gives leaves
    latch-done f g =
        let z = latch-number plan l is-long is-sound r e f g in
        (answered s o.circuit o.is (latch r e) l z, left_so s o.circuit o.is (latch r e) l z)

  module _ (c : ℕ) where
    pub run-22 : in_scan l ≡ false → Refuses s (run c) l 22 0
    run-22 f = told-number s o.circuit o.is (run c) l 22 (λ z. omega arith) (run-number plan l is-long is-sound c f)

    pub run-done : in_scan l ≡ true
        → (answer_after s (run c) l ≡ accepted_with (turn_of (lines_at s head.n offsets) c l) (to_go (lines_at s head.n offsets) l - turn_of (lines_at s head.n offsets) c l))
        × (record_after s (run c) l ≡ turned (lines_at s head.n offsets) c l)
    unfolding gives leaves
    run-done f =
        let z = run-number plan l is-long is-sound c f in (
          answered s o.circuit o.is (run c) l z
              ∙ ap (λ (m : List Line). accepted_with (turn_of m c l) (to_go m l - turn_of m c l)) (sym o.lines),
          left_so s o.circuit o.is (run c) l z ∙ ap (λ (m : List Line). turned m c l) (sym o.lines),
        )

  same-to-go : to_go (lines_of o.circuit) l ≡ head.n - done_of l
  same-to-go = ap (λ (n : ℕ). n - done_of l) (ap length (sym o.lines) ∙ whole)

  module _ (k : ℕ) where
    pub publish-22 : in_scan l && eqb (head.n - done_of l) 0 ≡ false → Refuses s (publish k) l 22 0
    publish-22 f =
        told-number s o.circuit o.is (publish k) l 22 (λ z. omega arith)
        (publish-number plan l is-long is-sound k refl (ap (λ (n : ℕ). eqb n 0) same-to-go) refl ∙ by (in_scan l) (eqb (head.n - done_of l) 0) f)
      where
        by : (t u : Bool) → t && u ≡ false → ◌≡◌ {A = ℕ} (cond (not t || not u) 22 (cond (not (eqb k 28)) 24 0)) 22
        by true true g = cc
        by true false g = refl
        by false u g = refl

    module _ (f : in_scan l && eqb (head.n - done_of l) 0 ≡ true) where
      told : {v : Bool} → eqb k 28 ≡ v → ◌≡◌ {A = ℕ} (cond (not (in_scan l) || not (eqb (head.n - done_of l) 0)) 22 (cond (not v) 24 0)) (cond (not v) 24 0)
      told g =
          let both = and-true (in_scan l) (eqb (head.n - done_of l) 0) f in
          rw (both.0, both.1)

      pub publish-24 : (k ≡ 28 → ⊥) → Refuses s (publish k) l 24 0
      publish-24 ne =
          told-number s o.circuit o.is (publish k) l 24 (λ z. omega arith)
          (publish-number plan l is-long is-sound k refl (ap (λ (n : ℕ). eqb n 0) same-to-go) (ne_eqb k 28 ne) ∙ told (ne_eqb k 28 ne))

      pub publish-done : k ≡ 28
          → (answer_after s (publish k) l ≡ accepted_with 0 0)
          × (record_after s (publish k) l ≡ change (publish_word (rows_at s head.start head.rows) l) l)
          × ((outs : List ℤ) → outputs_after s (publish k) l outs ≡ outputs_of (rows_at s head.start head.rows) l)
      unfolding gives leaves shows
      publish-done g =
          let z = publish-number plan l is-long is-sound k refl (ap (λ (n : ℕ). eqb n 0) same-to-go) (eq-eqb k 28 g) ∙ told (eq-eqb k 28 g) in (
            answered s o.circuit o.is (publish k) l z,
            left_so s o.circuit o.is (publish k) l z ∙ ap (λ (rows : List Row). change (publish_word rows l) l) (sym o.rows),
            λ outs. shown-so s o.circuit o.is (publish k) l z outs ∙ ap (λ (rows : List Row). outputs_of rows l) (sym o.rows),
          )
