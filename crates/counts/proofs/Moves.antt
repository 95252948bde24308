-- What one call makes of a counter's count: waiting, none changes it, and an accepted latch opens a scan; in a scan, none but an accepted
-- publish shows in it, and that counts what the scan had. Assumes nothing.
use Prim.Native.Nat.{ℕ, ◌+◌}
use mathlib.Core.Path.{◌≡◌, refl, sym, ◌∙◌, subst}
use mathlib.Core.Bool.{Bool, true, false, true≢false}
use mathlib.Core.List.{List}
use lib.ListN.{length, take}
use lib.IntN.{ℤ, pos}
use borrow.Author.Tests.{eq-eqb, ne_eqb}
use Rattle.words.specs.Signed.{word_of}
use Rattle.words.proofs.Bits.{bit_word}
use Rattle.rules.specs.Rules.{bit, tally}
use Rattle.decoding.specs.Decoded.{Circuit}
use Rattle.lines.specs.Lines.{lines_of, line_at}
use Rattle.record.specs.Places.{number, remembered, word}
use Rattle.record.specs.Sound.{in_scan}
use Rattle.steps.specs.Steps.{bits_of}
use Rattle.calls.specs.Calls.{Call, cold_start, warm_start, latch, run, publish, plan_of, refusal}
use Rattle.calls.specs.Play.{AnyCall, check, on, Moment, made, reply_to, after}
use Rattle.calls.specs.InTurns.{Good, CanLatch}
use Rattle.calls.proofs.Accepts.{latch-told, run-told, publish-told, either_way}
use Rattle.calls.proofs.Play.{reply-number, after_none}
use Rattle.calls.proofs.Promises.{stays-sound}
use Rattle.counts.specs.Counts.{closes, rises, is_start, IsCounter}
use Rattle.counts.proofs.Scanned.{asked_for, in_turns, opens, runs, waits-again, count-is, cnt-is}

-- a record that waits, in which block k has the count n, and Cnt was
pub record Has (c : Circuit) (k n : ℕ) (was : List Bool) (l : List ℤ) : Type 0 where
  pub good : Good (lines_of c) l
  pub waits : in_scan l ≡ false
  pub count : word l (number k) ≡ pos n
  pub cnt : word l (remembered k) ≡ word_of (bit was 1)

-- a moment behind which the count goes on from n, and Cnt was: it waits, or stands in a scan that was opened so
pub data Stands (s : List ℕ) (c : Circuit) (k n : ℕ) (was : List Bool) (m : Moment) : Type 0 where
  waiting : Has c k n was m.rec → Stands s c k n was m
  scanning : (r : List ℤ) (e : ℤ) (before : Moment) (q : ℕ) (can : CanLatch s c r e before.rec) → Has c k n was before.rec
      → m ≡ asked_for s r e before q → Stands s c k n was m

-- behind one more call
pub data Moved (s : List ℕ) (c : Circuit) (k n : ℕ) (was : List Bool) (x : AnyCall) (m : Moment) : Type 0 where
  stays : closes s x m ≡ false → Stands s c k n was (after s x m) → Moved s c k n was x m
  counts : closes s x m ≡ true
      → (let b = bits_of m.rec (line_at (lines_of c) k) in
      Stands s c k (tally (bit b 0) (rises was b) (bit b 2) n) b (after s x m))
      → Moved s c k n was x m

module _ (s : List ℕ) (c : Circuit) (k : ℕ) (h : IsCounter s c k) (n : ℕ) (was : List Bool) where
  -- a refused call changes nothing
  same : (x : Call) (m : Moment) → ((reply_to s (on x) m).number ≡ 0 → ⊥) → after s (on x) m ≡ m
  same x m ne = after_none s c h.is x m (λ z. ne (reply-number s c h.is x m ∙ z))

  -- ---- while the record waits

  module _ (m : Moment) (has : Has c k n was m.rec) where
    put-off : (x : Call) → closes s (on x) m ≡ false → ((reply_to s (on x) m).number ≡ 0 → ⊥) → Moved s c k n was (on x) m
    put-off x f ne = stays f (subst (Stands s c k n was) (sym (same x m ne)) (waiting has))

    -- a call that a record which waits refuses
    not_yet : (x : Call) → (refusal (plan_of c) (made x m.outputs) m.rec ≡ 0 → in_scan m.rec ≡ true) → (reply_to s (on x) m).number ≡ 0 → ⊥
    not_yet x f z = true≢false (sym (f (sym (reply-number s c h.is x m) ∙ z)) ∙ has.waits)

    opened : (r : List ℤ) (e : ℤ) → (reply_to s (on (latch r e)) m).number ≡ 0 → Stands s c k n was (after s (on (latch r e)) m)
    opened r e z =
        let l = latch-told (plan_of c) m.rec r e (sym (reply-number s c h.is (latch r e) m) ∙ z) in
        let can : CanLatch s c r e m.rec =
        record { bytes = h.bytes; is = h.is; good = has.good; waits = has.waits; reading = l.2 } in
        scanning r e m 0 can has (opens s c r e m can)

    waits-on : (x : AnyCall) → (is_start x ≡ true → (reply_to s x m).number ≡ 0 → ⊥) → Moved s c k n was x m
    waits-on check ne = stays refl (waiting has)
    waits-on (on cold_start) ne = put-off cold_start refl (ne refl)
    waits-on (on warm_start) ne = put-off warm_start refl (ne refl)
    waits-on (on (latch r e)) ne =
        either_way (reply_to s (on (latch r e)) m).number (λ z. stays refl (opened r e z)) (put-off (latch r e) refl)
    waits-on (on (run j)) ne = put-off (run j) refl (not_yet (run j) (λ z. (run-told (plan_of c) m.rec j z).1))
    waits-on (on (publish j)) ne =
        let y = length (take j m.outputs) in
        let refuses = not_yet (publish j) (λ z. (publish-told (plan_of c) m.rec y z).1) in
        put-off (publish j) (ne_eqb (reply_to s (on (publish j)) m).number 0 refuses) refuses

  -- ---- in a scan

  module _ (r : List ℤ) (e : ℤ) (before : Moment) (q : ℕ) (can : CanLatch s c r e before.rec) (has : Has c k n was before.rec) where
    abbrev now : Moment
    now = asked_for s r e before q

    unmoved : (x : AnyCall) → closes s x now ≡ false → after s x now ≡ now → Moved s c k n was x now
    unmoved x f is = stays f (scanning r e before q can has is)

    sound : (x : AnyCall) (m : Moment) → Good (lines_of c) m.rec → Good (lines_of c) (after s x m).rec
    sound = stays-sound s h.bytes c h.is

    closed : (j : ℕ) → (reply_to s (on (publish j)) now).number ≡ 0
        → let b = bits_of now.rec (line_at (lines_of c) k) in
        Has c k (tally (bit b 0) (rises was b) (bit b 2) n) b (after s (on (publish j)) now).rec
    closed j z =
        let count = count-is s c r e before can q j z k h.low h.high h.is-counter in
        record {
          good = sound (on (publish j)) now (sound (on (run q)) (after s (on (latch r e)) before) (sound (on (latch r e)) before has.good));
          waits = waits-again s c r e before can q j z;
          count = rw (has.count, has.cnt, bit_word (bit was 1)) at count;
          cnt = cnt-is s c r e before can q j z k h.low h.high h.is-counter;
        }

    scans-on : (x : AnyCall) → (is_start x ≡ true → (reply_to s x now).number ≡ 0 → ⊥) → Moved s c k n was x now
    scans-on check ne = unmoved check refl refl
    scans-on (on cold_start) ne = unmoved (on cold_start) refl (same cold_start now (ne refl))
    scans-on (on warm_start) ne = unmoved (on warm_start) refl (same warm_start now (ne refl))
    scans-on (on (latch i t)) ne = unmoved (on (latch i t)) refl ((in_turns s c r e before can q).others (on (latch i t)) refl refl)
    scans-on (on (run j)) ne = stays refl (scanning r e before (q + j) can has (runs s c r e before can q j))
    scans-on (on (publish j)) ne =
        let answer = (reply_to s (on (publish j)) now).number in
        either_way answer
        (λ z. counts (eq-eqb answer 0 z) (waiting (closed j z)))
        (λ refuses. unmoved (on (publish j)) (ne_eqb answer 0 refuses) (same (publish j) now refuses))

  pub moves : (x : AnyCall) (m : Moment) → Stands s c k n was m → (is_start x ≡ true → (reply_to s x m).number ≡ 0 → ⊥) → Moved s c k n was x m
  moves x m (waiting has) ne = waits-on m has x ne
  moves x m (scanning r e before q can has is) ne = rw is (scans-on r e before q can has x (rw is at ne))
