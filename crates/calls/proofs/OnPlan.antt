-- The calls on the plan of a circuit: a sound record stays sound, a scan can be ended. Assumes nothing.
use Prim.Native.Nat.{ℕ}
use native.Mathlib.Omega.{arith}
use mathlib.Core.Path.{◌≡◌, ◌∙◌}
use mathlib.Core.Bool.{true}
use mathlib.Core.List.{List}
use lib.IntN.{ℤ}
use Rattle.record.specs.Sound.{in_scan}
use Rattle.record.proofs.Held.{Sound}
use Rattle.steps.specs.Steps.{to_go, turned}
use Rattle.calls.specs.Calls.{Call, cold_start, warm_start, latch, run, publish, Plan, refusal, leaves, record_on}
use Rattle.calls.specs.Fine.{FinePlan}
use Rattle.calls.proofs.Accepts.{latch-told, run-told, run-right, publish-right, record-accepted, record-refused, either_way}
use Rattle.calls.proofs.Fits.{cold-sound, warm-sound, reading, latch-sound, publish-sound}
use Rattle.calls.proofs.Turns.{turned-scan, turned-keeps, turned-all}

-- ---- a sound record stays sound

module _ (p : Plan) (fine : FinePlan p) where
  -- an accepted call
  leaves-sound : (x : Call) (l : List ℤ) → refusal p x l ≡ 0 → Sound p.lines l → Sound p.lines (leaves p x l)
  unfolding leaves
  leaves-sound cold_start l e s = cold-sound p.lines l s.long
  leaves-sound warm_start l e s = warm-sound p.lines l s
  leaves-sound (latch r t) l e s = latch-sound p.lines r t (reading r t (latch-told p l r t e).2) l s
  leaves-sound (run c) l e s = turned-keeps p.lines c l fine.lines s (run-told p l c e).1
  leaves-sound (publish k) l e s = publish-sound p.lines p.rows fine.rows l s

  pub after-sound : (x : Call) (l : List ℤ) → Sound p.lines l → Sound p.lines (record_on p x l)
  after-sound x l s =
      either_way (refusal p x l)
      (λ e. rw (record-accepted p x l e) (leaves-sound x l e s))
      (λ ne. rw (record-refused p x l ne) s)

-- ---- a scan can be ended

module _ (p : Plan) (fine : FinePlan p) (l : List ℤ) (s : Sound p.lines l) (scan : in_scan l ≡ true) where
  abbrev c : ℕ
  c = to_go p.lines l

  pub run_ends : refusal p (run c) l ≡ 0
  run_ends = run-right p l c s scan

  pub publish-ends : refusal p (publish 28) (leaves p (run c) l) ≡ 0
  unfolding leaves
  publish-ends =
      publish-right p (turned p.lines c l) (turned-keeps p.lines c l fine.lines s scan) (turned-scan p.lines c l ∙ scan)
      (turned-all p.lines l (rw s.long (omega arith)))
