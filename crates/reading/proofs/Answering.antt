-- The answer by what the first pass counted, and the lent slice behind the second. Assumes nothing.
use mathlib.Core.Path.{◌≡◌, refl, ap, ap₂, sym, ◌∙◌}
use mathlib.Core.Bool.{true, false, false≢true}
use Rattle.std.specs.Prelude.{Option, Some, None}
use Rattle.std.specs.Option.{is_some}
use mathlib.Core.List.{List, [], ◌∷◌, ◌++◌}
use Prim.Native.Nat.{ℕ, ◌+◌, ◌≤◌, ◌<◌}
use native.Mathlib.Omega.{arith}
use lib.ListN.{length}
use lib.Seq.{sets}
use borrow.Author.Tests.{ltb-true, ltb-false, eq-eqb, ne_eqb}
use Rattle.words.specs.Bytes.{bytes_of}
use Rattle.refusals.specs.Answers.{refused_at, accepted_with}
use Rattle.refusals.specs.declared.Answer.{Answer}
use Rattle.kept.specs.Keeps.{joined, field}
use Rattle.rows.specs.Text.{rows_of}
use Rattle.rows.specs.Columns.{fields_of}
use Rattle.rows.specs.Reading.{blocks_in, circuit_of, room_answer, answer_by, read_answer, laid_over, circuit_after}
use Rattle.rows.proofs.Laid.{sets-append, laid-sets}
use Rattle.rows.proofs.Outcome.{room-many, room-short, room-enough}
use Rattle.reading.specs.Counted.{Counted}
use Rattle.reading.specs.Counted.{Surveys, is_over}
use Rattle.reading.proofs.Sizes.{header-length, circuit-length}
use Rattle.reading.proofs.Putting.{end-put}

-- a refusal leaves the slice as it was
pub untouched : (s lent : List ℕ) (a : Answer) → a ≡ read_answer s (length lent) → (a.number ≡ 0 → ⊥) → lent ≡ circuit_after s lent
unfolding circuit_after
untouched s lent a e n =
    let z : (read_answer s (length lent)).number ≡ 0 → ⊥ = λ q. n (ap (λ (x : Answer). x.number) e ∙ q) in
    rw (ne_eqb (read_answer s (length lent)).number 0 z)

module _ (s : List ℕ) (room : ℕ) (c : Counted) (v : Surveys s room c) where
  pub faulty-answer : (c.number ≡ 0 → ⊥) → refused_at c.number c.rows ≡ read_answer s room
  unfolding read_answer answer_by
  faulty-answer n = rw (v.faulted n)

  module _ (z : c.number ≡ 0) where
    sound-answer : room_answer (rows_of s) room ≡ read_answer s room
    unfolding read_answer answer_by
    sound-answer = rw (v.clean z)

    pub blocks-answer : 400 < c.blocks → refused_at 34 0 ≡ read_answer s room
    blocks-answer h = let e = v.blocks z in sym (room-many (rows_of s) room (omega arith)) ∙ sound-answer

    module _ (h : c.blocks ≤ 400) where
      few : blocks_in (rows_of s) ≤ 400
      few = let e = v.blocks z in omega arith

      pub room-answer : c.over ≡ true → refused_at 33 0 ≡ read_answer s room
      room-answer o = sym (room-short (rows_of s) room few (ltb-true _ _ (sym (v.over z) ∙ o))) ∙ sound-answer

      module _ (o : c.over ≡ false) where
        pub has_room : 9 + length (joined fields_of (rows_of s)) ≤ room
        has_room =
            let a = ltb-false room (length (circuit_of (rows_of s))) (sym (v.over z) ∙ o) in
            let b = circuit-length (rows_of s) in
            omega arith

        pub whole-answer : (end : ℕ) → end ≡ 6 + length (joined fields_of (rows_of s)) → accepted_with (end + 3) c.rows ≡ read_answer s room
        whole-answer end e =
            let b = circuit-length (rows_of s) in
            let n : end + 3 ≡ length (circuit_of (rows_of s)) = omega arith in
            ap₂ accepted_with n (v.rows z) ∙ sym (room-enough (rows_of s) room few (ltb-false _ _ (sym (v.over z) ∙ o))) ∙ sound-answer

-- ---- header, fields and end one behind the other

laid : (s lent a b left : List ℕ) (end : ℕ) → a ≡ sets lent 0 (field 0x01 (1 ∷ bytes_of 2 (blocks_in (rows_of s))))
    → b ≡ sets a 6 (joined fields_of (rows_of s)) → end ≡ 6 + length (joined fields_of (rows_of s)) → left ≡ sets b end (field 0x7F [])
    → left ≡ sets lent 0 (circuit_of (rows_of s))
unfolding circuit_of
laid s lent a b left end p q e r =
    let H : List ℕ = field 0x01 (1 ∷ bytes_of 2 (blocks_in (rows_of s))) in
    let J : List ℕ = joined fields_of (rows_of s) in
    let E : List ℕ = field 0x7F [] in
    let six : 6 ≡ 0 + length H = let n = header-length (blocks_in (rows_of s)) in omega arith in
    r
    ∙ ap₂ (λ (x : List ℕ) (k : ℕ). sets x k E) q e
    ∙ sym (sets-append J E a 6)
    ∙ ap₂ (λ (x : List ℕ) (k : ℕ). sets x k (J ++ E)) p six
    ∙ sym (sets-append H (J ++ E) lent 0)

pub written_after : (s lent a b left : List ℕ) (blocks rows end : ℕ) → accepted_with (end + 3) rows ≡ read_answer s (length lent)
    → 9 + length (joined fields_of (rows_of s)) ≤ length lent → blocks ≡ blocks_in (rows_of s) → a ≡ sets lent 0 (field 0x01 (1 ∷ bytes_of 2 blocks))
    → b ≡ sets a 6 (joined fields_of (rows_of s)) → end ≡ 6 + length (joined fields_of (rows_of s)) → left ≡ sets b end (0x7F ∷ bytes_of 2 0)
    → left ≡ circuit_after s lent
unfolding circuit_after
written_after s lent a b left blocks rows end n room k p q e r =
    let z : (read_answer s (length lent)).number ≡ 0 = sym (ap (λ (x : Answer). x.number) n) in
    let p' : a ≡ sets lent 0 (field 0x01 (1 ∷ bytes_of 2 (blocks_in (rows_of s)))) =
    p ∙ ap (λ (m : ℕ). sets lent 0 (field 0x01 (1 ∷ bytes_of 2 m))) k in
    let m = circuit-length (rows_of s) in
    let w : left ≡ laid_over (circuit_of (rows_of s)) lent =
    laid s lent a b left end p' q e (end-put b left end r) ∙ laid-sets (circuit_of (rows_of s)) lent (omega arith) in
    rw (eq-eqb (read_answer s (length lent)).number 0 z) w

-- whether the room was gone over
pub gone_over : (left : Option ℕ) → is_some left ≡ false → is_over left ≡ true
gone_over None e = refl
gone_over (Some n) e = absurd (false≢true (sym e))

pub not_over : (left : Option ℕ) → is_some left ≡ true → is_over left ≡ false
not_over None e = absurd (false≢true e)
not_over (Some n) e = refl
