-- The two passes: what holds at each position, and what is left when no row is left. Assumes nothing.
use mathlib.Core.Path.{◌≡◌, refl, ap, ap₂, sym, ◌∙◌, subst}
use mathlib.Core.List.{List, [], ◌∷◌, ◌++◌}
use Prim.Native.Nat.{ℕ, ◌+◌, ◌≤◌, ◌<◌}
use native.Mathlib.Omega.{arith}
use lib.Dec.{ltb}
use lib.ListN.{length, length-append}
use lib.Seq.{sets, length-sets}
use Rattle.kept.specs.Keeps.{joined}
use Rattle.kept.proofs.Lists.{joined-append, joined_snoc}
use Rattle.rows.specs.Text.{TextRow, rows_of}
use Rattle.rows.specs.Columns.{row_number, fields_of}
use Rattle.rows.specs.Reading.{faulty, sound, reading_from, blocks_in, circuit_of}
use Rattle.rows.proofs.Laid.{sets-append}
use Rattle.reading.specs.Counted.{Judged}
use Rattle.reading.specs.Counted.{Counted}
use Rattle.reading.specs.declared.second_pass.Placed.{Placed}
use Rattle.std.specs.Prelude.{Err}
use Rattle.refusals.specs.declared.Refusal.{Refusal}
use Rattle.refusals.specs.Refusals.{number_of}
use Rattle.refusals.proofs.Numbers.{number-above}
use Rattle.reading.specs.Counted.{judged_of, surveyed_of, row_at, Goes, Judges, Puts, opened_with, counted_with, Surveys}
use Rattle.reading.proofs.Passed.{Passed, none_passed, all-passed, row-comes, one_more, fault-behind, sound-each}
use Rattle.reading.proofs.Sizes.{circuit-length}
use Rattle.reading.proofs.Counting.{Counts, counts-none, counts-more, blocks-few}

-- ---- the first pass

pub record Surveyed (s : List ℕ) (room at : ℕ) (c : Counted) : Type 0 where
  pub before : List TextRow
  pub passed : Passed s at before
  pub counts : Counts room before c
  pub inside : at ≤ length s
  pub few : c.rows ≤ at

pub surveyed-none : (s : List ℕ) (room : ℕ) (c : Counted) → c ≡ opened_with room → Surveyed s room 0 c
surveyed-none s room c e =
    let k : Counts room [] c = subst (Counts room []) (sym e) (counts-none room) in
    let n : c.rows ≡ 0 = k.many in
    record { before = []; passed = none_passed s; counts = k; inside = omega arith; few = omega arith }

module _ (s : List ℕ) (room at : ℕ) (c : Counted) (v : Surveyed s room at c) where
  pub fewer-blocks : c.blocks ≤ c.rows
  fewer-blocks =
      let a = v.counts.blocks in
      let b = v.counts.many in
      let f = blocks-few v.before in
      omega arith

  pub surveyed-all : length s ≤ at → Surveys s room c
  surveyed-all h =
      let all : rows_of s ≡ v.before = all-passed s at v.before h v.passed in
      record {
        faulted = λ n. absurd (n v.counts.number);
        clean = λ z. ap (reading_from 1) all ∙ v.counts.clean;
        rows = λ z. v.counts.many ∙ ap length (sym all);
        blocks = λ z. v.counts.blocks ∙ ap blocks_in (sym all);
        over = λ z. v.counts.takes.goes_over ∙ ap (ltb room) (sym (circuit-length v.before) ∙ ap (λ l. length (circuit_of l)) (sym all));
      }

  module _ (h : at < length s) where
    pub surveyed-fault : (refusal : Refusal) → Judges s at (judged_of (Err refusal)) → Surveys s room (surveyed_of (Err (record { refusal = refusal; place = c.rows + 1 })))
    surveyed-fault refusal j =
        let x = row-comes s at v.before h v.passed in
        let rows : 1 + length v.before ≡ c.rows + 1 = let b = v.counts.many in omega arith in
        let no : number_of refusal ≡ 0 → ⊥ = λ z. omega (arith, number-above refusal) in
        record {
          faulted =
              λ z.
              ap (reading_from 1) x.is
              ∙ fault-behind v.before (row_at s at) x.rest (number_of refusal) v.counts.clean j.number no
              ∙ ap (faulty (number_of refusal)) rows;
          clean = λ z. absurd (no z);
          rows = λ z. absurd (no z);
          blocks = λ z. absurd (no z);
          over = λ z. absurd (no z);
        }

    pub surveyed-more : (r : Judged) → Judges s at r → r.number ≡ 0 → (c' : Counted) → c' ≡ counted_with c r → Surveyed s room r.next c'
    unfolding counted_with
    surveyed-more r j z c' e =
        let g : Goes s at r.next = j.goes z in
        let o : at < r.next = g.on in
        let rows : c'.rows ≡ c.rows + 1 = ap (λ (y : Counted). y.rows) e in
        let f : c.rows ≤ at = v.few in
        record {
          before = v.before ++ (row_at s at ∷ []);
          passed = one_more s at v.before h r.next g v.passed;
          counts = subst (Counts room (v.before ++ (row_at s at ∷ []))) (sym e) (counts-more s at room v.before c r v.counts j z);
          inside = g.inside;
          few = omega arith;
        }

-- ---- the second pass

pub record Written (s lent : List ℕ) (at to : ℕ) (left : List ℕ) : Type 0 where
  pub before : List TextRow
  pub passed : Passed s at before
  pub bytes : left ≡ sets lent 6 (joined fields_of before)
  pub reached : to ≡ 6 + length (joined fields_of before)
  pub inside : at ≤ length s

pub written_none : (s lent : List ℕ) → Written s lent 0 6 lent
written_none s lent =
    record { before = []; passed = none_passed s; bytes = refl; reached = refl; inside = omega arith }

module _ (s lent : List ℕ) (at to : ℕ) (left : List ℕ) (v : Written s lent at to left) where
  pub same-room : length left ≡ length lent
  same-room = ap length v.bytes ∙ length-sets lent 6 (joined fields_of v.before)

  pub written_all : length s ≤ at → (left ≡ sets lent 6 (joined fields_of (rows_of s))) × (to ≡ 6 + length (joined fields_of (rows_of s)))
  written_all h =
      let all : rows_of s ≡ v.before = all-passed s at v.before h v.passed in
      (v.bytes ∙ ap (λ l. sets lent 6 (joined fields_of l)) (sym all), v.reached ∙ ap (λ l. 6 + length (joined fields_of l)) (sym all))

  module _ (h : at < length s) where
    pub sound-row : reading_from 1 (rows_of s) ≡ sound → row_number (row_at s at) ≡ 0
    sound-row p =
        let x = row-comes s at v.before h v.passed in
        sound-each 1 v.before (row_at s at) x.rest (ap (reading_from 1) (sym x.is) ∙ p)

    pub row_room : 6 + length (joined fields_of (rows_of s)) ≤ length lent → to + length (fields_of (row_at s at)) ≤ length left
    row_room p =
        let x = row-comes s at v.before h v.passed in
        let a = ap (λ l. length (joined fields_of l)) x.is in
        let b = ap length (joined-append fields_of v.before (row_at s at ∷ x.rest)) in
        let d = length-append (joined fields_of v.before) (fields_of (row_at s at) ++ joined fields_of x.rest) in
        let e = length-append (fields_of (row_at s at)) (joined fields_of x.rest) in
        let f = same-room in
        let g = v.reached in
        omega arith

    pub written-more : (r : Placed) (left' : List ℕ) → Puts s at to r left left' → Written s lent r.next r.end left'
    written-more r left' p =
        let J : List ℕ = joined fields_of v.before in
        let x : List ℕ = fields_of (row_at s at) in
        let m : joined fields_of (v.before ++ (row_at s at ∷ [])) ≡ J ++ x = joined_snoc fields_of v.before (row_at s at) in
        record {
          before = v.before ++ (row_at s at ∷ []);
          passed = one_more s at v.before h r.next p.goes v.passed;
          bytes =
              p.bytes
              ∙ ap₂ (λ (l : List ℕ) (k : ℕ). sets l k x) v.bytes v.reached
              ∙ sym (sets-append J x lent 6)
              ∙ ap (λ (l : List ℕ). sets lent 6 l) (sym m);
          reached =
              let k = ap length m in
              let n = length-append J x in
              let q = p.end in
              let g = v.reached in
              omega arith;
          inside = p.goes.inside;
        }
