-- A scan in turns: from the latch on the record is the latched one, turned by what the runs asked for together, whatever is called
-- between them (`moves`); `turned-add` joins the turns. Assumes nothing.
use Prim.Native.Nat.{ℕ, ◌+◌, ◌-◌, ◌≤◌, ◌<◌, min}
use native.Mathlib.Omega.{arith}
use native.Mathlib.Nat.{add_assoc, add-zero, zero-add}
use mathlib.Core.Path.{◌≡◌, refl, sym, ap, ◌∙◌, subst}
use mathlib.Core.Logic.{◌↔◌}
use mathlib.Core.Bool.{Bool, true, false, cond, true≢false}
use mathlib.Core.List.{List, [], ◌∷◌, ◌++◌}
use lib.Dec.{eqb}
use lib.ListN.{length, take, drop}
use lib.Seq.{get_or-set_other, length-take-le}
use lib.IntN.{ℤ, pos}
use borrow.Author.Tests.{eqb-false}
use Rattle.words.specs.Signed.{over}
use Rattle.words.proofs.Bounds.{and-true, amount-between}
use Rattle.refusals.specs.Answers.{accepted_with}
use Rattle.decoding.specs.Decoded.{Circuit}
use Rattle.lines.specs.Lines.{Line, lines_of}
use Rattle.record.specs.Places.{done, index_of, place_of, at, word, put, change}
use Rattle.record.specs.Sound.{in_scan, is_zero}
use Rattle.record.proofs.Located.{Spot, is-phase, is-done, is-mark, is-elapsed, is-input, is-analog, is-flag, is-analog_flag, is_block, spot, change-at}
use Rattle.record.proofs.Held.{Sound, told}
use Rattle.steps.specs.Steps.{steps_from, done_of, to_go, turn_of, turned}
use Rattle.steps.proofs.Keeps.{steps-head, steps_all}
use Rattle.destinations.specs.Destinations.{outputs_of, publish_word}
use Rattle.calls.specs.Calls.{Call, cold_start, warm_start, latch, run, publish, Plan, plan_of, latch_word, refusal, gives, leaves, shows}
use Rattle.calls.specs.Fine.{FinePlan}
use Rattle.calls.specs.Play.{AnyCall, check, on, Moment, moment, made, reply_to, after, play}
use Rattle.calls.specs.InTurns.{CanLatch, ends, during, behind, EndsFirst, asks, asked, scanned, Closed, InTurns, Course}
use Rattle.calls.specs.Promises.{ScanInTurns}
use Rattle.calls.proofs.Accepts.{warm-told, latch-told, latch-right, run-right, publish-told, publish-right}
use Rattle.calls.proofs.Fine.{accepted-fine}
use Rattle.calls.proofs.Fits.{reading, latch-sound}
use Rattle.calls.proofs.Turns.{turned-is, turned-scan, turned-done, turned-keeps, turned_none, turned-add}
use Rattle.calls.proofs.Closing.{publish-other, outputs-other}
use Rattle.calls.proofs.Play.{same-moment, reply-number, reply-is, after_is, after_none}

-- ---- any list of calls: those before the end of the scan, and those from it on

parts-of : (s : List ℕ) (xs : List AnyCall) (m : Moment) → during s xs m ++ behind s xs m ≡ xs
parts-of s [] m = refl
parts-of s (x ∷ xs) m = go (ends s x m) (parts-of s xs (after s x m))
  where
    go : (b : Bool) → during s xs (after s x m) ++ behind s xs (after s x m) ≡ xs → cond b [] (x ∷ during s xs (after s x m)) ++ cond b (x ∷ xs) (behind s xs (after s x m)) ≡ x ∷ xs
    go true q = refl
    go false q = ap (λ ys. x ∷ ys) q

ends_next : (s : List ℕ) (xs : List AnyCall) (m : Moment) → EndsFirst s (behind s xs m) (play s (during s xs m) m).last
ends_next s [] m = tt
ends_next s (x ∷ xs) m = go (ends s x m) refl (ends_next s xs (after s x m))
  where
    go : (b : Bool) → ends s x m ≡ b → EndsFirst s (behind s xs (after s x m)) (play s (during s xs (after s x m)) (after s x m)).last
        → EndsFirst s (cond b (x ∷ xs) (behind s xs (after s x m))) (play s (cond b [] (x ∷ during s xs (after s x m))) m).last
    go true q rest = q
    go false q rest = rest

-- ---- from the latch on

module _ (s : List ℕ) (c : Circuit) (r : List ℤ) (e : ℤ) (before : Moment) (h : CanLatch s c r e before.rec) where
  abbrev p : Plan
  p = plan_of c

  abbrev lines : List Line
  lines = lines_of c

  abbrev l : List ℤ
  l = before.rec

  abbrev o : List ℤ
  o = before.outputs

  abbrev latched : List ℤ
  latched = change (latch_word r e) l

  fine : FinePlan p
  fine = accepted-fine s h.bytes c h.is

  -- ---- the latch

  before-sound : Sound lines l
  before-sound = told lines l h.good.0 h.good.1

  latch-accepts : refusal p (latch r e) l ≡ 0
  latch-accepts = latch-right p l r e before-sound h.waits h.reading

  opened-is : after s (on (latch r e)) before ≡ moment latched o
  unfolding leaves shows
  opened-is = after_is s c h.is (latch r e) before latch-accepts

  latched-sound : Sound lines latched
  latched-sound = latch-sound lines r e (reading r e h.reading) l before-sound

  low : (i : ℕ) → i < 164 → at latched i ≡ latch_word r e (place_of i) (at l i)
  low i b = change-at (latch_word r e) l i (rw before-sound.long (omega arith))

  latched-scan : in_scan latched ≡ true
  unfolding index_of place_of
  latched-scan = rw (low 0 (omega arith))

  -- ---- the moments of the scan

  -- the latched record turned by m
  abbrev turned_by : ℕ → Moment
  turned_by m = moment (turned lines m latched) o

  turned-sound : (m : ℕ) → Sound lines (turned lines m latched)
  turned-sound m = turned-keeps lines m latched fine.lines latched-sound latched-scan

  scans : (m : ℕ) → in_scan (turned lines m latched) ≡ true
  scans m = turned-scan lines m latched ∙ latched-scan

  is-long : 1 < length latched
  is-long = rw latched-sound.long (omega arith)

  starts : after s (on (latch r e)) before ≡ turned_by 0
  starts = opened-is ∙ ap (λ w. moment w o) (sym (turned_none lines latched latched-sound))

  -- ---- one call

  run-accepts : (m k : ℕ) → refusal p (run k) (turned lines m latched) ≡ 0
  run-accepts m k = run-right p (turned lines m latched) k (turned-sound m) (scans m)

  -- it works out the next blocks, and shows nothing
  run-turns : (m k : ℕ) → leaves p (run k) (turned lines m latched) ≡ turned lines (m + k) latched
  unfolding leaves
  run-turns m k = turned-add lines m k latched is-long

  run-shows : (m k : ℕ) → shows p (run k) (turned lines m latched) [] ++ o ≡ o
  unfolding shows
  run-shows m k = refl

  run-moves : (m k : ℕ) → after s (on (run k)) (turned_by m) ≡ turned_by (m + k)
  run-moves m k = after_is s c h.is (run k) (turned_by m) (run-accepts m k) ∙ same-moment (run-turns m k) (run-shows m k)

  -- a call that a record in a scan refuses
  refused-in-scan : (x : Call) (m : ℕ) → (refusal p (made x o) (turned lines m latched) ≡ 0 → in_scan (turned lines m latched) ≡ false) → after s (on x) (turned_by m) ≡ turned_by m
  refused-in-scan x m f = after_none s c h.is x (turned_by m) (λ z. true≢false (sym (scans m) ∙ f z))

  -- a call whose answer is no 0
  refused-by-number : (x : Call) (m : ℕ) → eqb (reply_to s (on x) (turned_by m)).number 0 ≡ false → after s (on x) (turned_by m) ≡ turned_by m
  refused-by-number x m f =
      after_none s c h.is x (turned_by m)
      (λ z. eqb-false (reply_to s (on x) (turned_by m)).number 0 f (reply-number s c h.is x (turned_by m) ∙ z))

  -- what a call does that does not end the scan
  moves : (x : AnyCall) (m : ℕ) → ends s x (turned_by m) ≡ false → after s x (turned_by m) ≡ turned_by (m + asks x)
  moves check m f = ap turned_by (sym (add-zero m))
  moves (on cold_start) m f = refused-by-number cold_start m f ∙ ap turned_by (sym (add-zero m))
  moves (on warm_start) m f = refused-in-scan warm_start m (λ z. (warm-told p (turned lines m latched) z).1) ∙ ap turned_by (sym (add-zero m))
  moves (on (latch i t)) m f = refused-in-scan (latch i t) m (λ z. (latch-told p (turned lines m latched) i t z).1) ∙ ap turned_by (sym (add-zero m))
  moves (on (run k)) m f = run-moves m k
  moves (on (publish k)) m f = refused-by-number (publish k) m f ∙ ap turned_by (sym (add-zero m))

  -- ---- calls one after the other

  -- one more, given what the others do
  abbrev Plays : List AnyCall → ℕ → Type 0
  Plays ys m = (play s ys (turned_by m)).last ≡ turned_by (m + asked ys)

  from-here : (x : AnyCall) (xs : List AnyCall) (m : ℕ) (u : Moment) → u ≡ turned_by (m + asks x) → Plays (during s xs (turned_by (m + asks x))) (m + asks x) → (play s (during s xs u) u).last ≡ turned_by (m + (asks x + asked (during s xs u)))
  from-here x xs m u q rest =
      rw q (rest ∙ ap turned_by (add_assoc m (asks x) (asked (during s xs (turned_by (m + asks x))))))

  one_more : (x : AnyCall) (xs : List AnyCall) (m : ℕ) (b : Bool) → ends s x (turned_by m) ≡ b → Plays (during s xs (turned_by (m + asks x))) (m + asks x) → Plays (cond b [] (x ∷ during s xs (after s x (turned_by m)))) m
  one_more x xs m true q rest = ap turned_by (sym (add-zero m))
  one_more x xs m false q rest = from-here x xs m (after s x (turned_by m)) (moves x m q) rest

  played : (xs : List AnyCall) (m : ℕ) → Plays (during s xs (turned_by m)) m
  played [] m = ap turned_by (sym (add-zero m))
  played (x ∷ xs) m = one_more x xs m (ends s x (turned_by m)) refl (played xs (m + asks x))

  -- ---- a moment of the scan

  abbrev n : ℕ
  n = length lines

  none_done : done_of latched ≡ 0
  unfolding index_of place_of
  none_done =
      let rest = and-true (is_zero (word l done)) _ (before-sound.rest h.waits) in
      let zero_is = amount-between {l = 0} {g = 0} {x = word l done} (record { between = rest.0 }) in
      ap over (low 1 (omega arith)) ∙ omega (arith, zero_is.1)

  one-run : (q : ℕ) → (play s (on (latch r e) ∷ on (run q) ∷ []) before).last ≡ turned_by q
  one-run q = ap (after s (on (run q))) starts ∙ run-moves 0 q ∙ ap turned_by (zero-add q)

  worked-by : (q : ℕ) → done_of (turned lines q latched) ≡ min q n
  worked-by q = turned-done lines q latched is-long ∙ rw none_done (omega arith)

  fixed-by : (q i : ℕ) → i < 164 → (i ≡ 1 → ⊥) → at (turned lines q latched) i ≡ latch_word r e (place_of i) (at l i)
  unfolding turned index_of
  fixed-by q i b ne =
      get_or-set_other (steps_from lines (done_of latched) (turn_of lines q latched) latched) 1 i (pos (done_of latched + turn_of lines q latched)) (pos 0) ne
      ∙ steps-head lines (done_of latched) (turn_of lines q latched) latched i b
      ∙ low i b

  -- M1 to AM64
  flags-by : (q i : ℕ) → 36 ≤ i → i < 164 → at (turned lines q latched) i ≡ at l i
  flags-by q i a b = fixed-by q i b (λ z. omega arith) ∙ same (spot i)
    where
      same : Spot i → latch_word r e (place_of i) (at l i) ≡ at l i
      same (is-phase z f) = let y : ⊥ = omega arith in absurd y
      same (is-done z f) = let y : ⊥ = omega arith in absurd y
      same (is-mark z f) = let y : ⊥ = omega arith in absurd y
      same (is-elapsed z f) = let y : ⊥ = omega arith in absurd y
      same (is-input x y f) = let z : ⊥ = omega arith in absurd z
      same (is-analog x y f) = let z : ⊥ = omega arith in absurd z
      same (is-flag x y f) = rw f
      same (is-analog_flag x y f) = rw f
      same (is_block x f) = rw f

  turn_by : (q m : ℕ)
      → let d = min q n in
      let go = n - d in
      (reply_to s (on (run m)) (turned_by q) ≡ accepted_with (min m go) (go - min m go))
      × (after s (on (run m)) (turned_by q) ≡ moment (put (steps_from lines d (min m go) (turned lines q latched)) done (pos (d + min m go))) o)
  unfolding gives leaves shows
  turn_by q m = (
    reply-is s c h.is (run m) (turned_by q) (run-accepts q m)
        ∙ ap (λ (d : ℕ). accepted_with (min m (n - d)) (n - d - min m (n - d))) (worked-by q),
    after_is s c h.is (run m) (turned_by q) (run-accepts q m)
        ∙ ap (λ w. moment w o) (turned-is lines m (turned lines q latched)
        ∙ ap (λ (d : ℕ). put (steps_from lines d (min m (n - d)) (turned lines q latched)) done (pos (d + min m (n - d)))) (worked-by q)),
  )

  -- ---- the end of the scan

  abbrev lent : ℕ → List ℤ
  lent k = take k o

  to-go : (q : ℕ) → to_go lines (turned lines q latched) ≡ n - min q n
  to-go q = ap (λ (d : ℕ). n - d) (worked-by q)

  publish-number : (q k : ℕ) → (reply_to s (on (publish k)) (turned_by q)).number ≡ refusal p (publish (length (lent k))) (turned lines q latched)
  publish-number q k = reply-number s c h.is (publish k) (turned_by q)

  closes_by : (q k : ℕ) → ((reply_to s (on (publish k)) (turned_by q)).number ≡ 0) ↔ ((n ≤ q) × (length (lent k) ≡ 28))
  closes_by q k = (there, back)
    where
      there : (reply_to s (on (publish k)) (turned_by q)).number ≡ 0 → (n ≤ q) × (length (lent k) ≡ 28)
      there z =
          let x = publish-told p (turned lines q latched) (length (lent k)) (sym (publish-number q k) ∙ z) in
          (omega (arith, x.2, to-go q), x.3)

      back : (n ≤ q) × (length (lent k) ≡ 28) → (reply_to s (on (publish k)) (turned_by q)).number ≡ 0
      back b =
          let none_left : n - min q n ≡ 0 = omega (arith, b.0) in
          publish-number q k
          ∙ rw b.1 (publish-right p (turned lines q latched) (turned-sound q) (scans q) (to-go q ∙ none_left))

  -- all blocks worked out
  abbrev w : List ℤ
  w = scanned c r e l

  turned-whole : (q : ℕ) → n ≤ q → turned lines q latched ≡ put w done (pos n)
  turned-whole q b =
      let k : turn_of lines q latched ≡ n = omega (arith, none_done) in
      turned-is lines q latched
      ∙ ap (λ (d : ℕ). put (steps_from lines d (turn_of lines q latched) latched) done (pos (d + turn_of lines q latched))) none_done
      ∙ ap (λ (m : ℕ). put (steps_from lines 0 m latched) done (pos (0 + m))) k
      ∙ rw (steps_all lines latched, zero-add n)

  closed-by : (q k : ℕ) → (reply_to s (on (publish k)) (turned_by q)).number ≡ 0 → Closed s c r e before k (after s (on (publish k)) (turned_by q))
  unfolding leaves shows
  closed-by q k z =
      let b = ((closes_by q k).0 z).0 in
      let same : turned lines q latched ≡ put w done (pos n) = turned-whole q b in
      let all : turned lines n latched ≡ put w done (pos n) = turned-whole n (omega arith) in
      let shown = after_is s c h.is (publish k) (turned_by q) (sym (publish-number q k) ∙ z) in
      record {
        one-go = ap (after s (on (publish k))) (ap (λ t. moment t o) (same ∙ sym all) ∙ sym (one-run n));
        rec = ap (λ m. m.rec) shown ∙ ap (λ t. change (publish_word c.rows t) t) same ∙ publish-other w (pos n) c.rows;
        outputs = ap (λ m. m.outputs) shown ∙ ap (λ t. outputs_of c.rows t ++ drop k o) same ∙ ap (λ u. u ++ drop k o) (outputs-other w (pos n) c.rows);
      }

  -- as latch and one run of everything leave it
  pub one-go-words : (play s (on (latch r e) ∷ on (run n) ∷ []) before).last.rec ≡ put w done (pos n)
  one-go-words = ap (λ m. m.rec) (one-run n) ∙ turned-whole n (omega arith)

  pub one-go-closed : 28 ≤ length o
      → Closed s c r e before 28 (play s (on (latch r e) ∷ on (run n) ∷ on (publish 28) ∷ []) before).last
  one-go-closed enough =
      subst (λ m. Closed s c r e before 28 (after s (on (publish 28)) m)) (sym (one-run n))
      (closed-by n 28 ((closes_by n 28).1 (omega arith, length-take-le 28 o enough)))

  -- ---- the whole

  in_turns : (xs : List AnyCall) → InTurns s c r e before xs (turned_by (asked xs))
  unfolding index_of
  in_turns xs =
      let q = asked xs in
      record {
        stopped = sym (one-run q);
        worked = worked-by q;
        outputs = refl;
        flags = flags-by q;
        fixed = fixed-by q;
        turn = turn_by q;
        others = λ x a f. moves x q f ∙ rw (a, add-zero q);
        closes = closes_by q;
        closed = closed-by q;
      }

  course : (xs : List AnyCall) (u : Moment) → u ≡ turned_by 0 → Course s c r e before xs u
  unfolding gives
  course xs u f =
      record {
        opens = reply-is s c h.is (latch r e) before latch-accepts;
        parts = parts-of s xs u;
        in_turns = rw f (subst (InTurns s c r e before (during s xs (turned_by 0))) (sym (played xs 0 ∙ ap turned_by (zero-add (asked (during s xs (turned_by 0)))))) (in_turns (during s xs (turned_by 0))));
        next = ends_next s xs u;
      }

pub scan-in-turns : ScanInTurns
scan-in-turns s c r e before h xs = course s c r e before h xs (after s (on (latch r e)) before) (starts s c r e before h)
