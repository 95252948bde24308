-- What `write_rows` answers and leaves: by the verdict, and by the room for the rows of an accepted circuit. Assumes nothing.
use mathlib.Core.Path.{◌≡◌, ap, ap₂, sym, ◌∙◌, subst}
use mathlib.Core.Bool.{true, false}
use mathlib.Core.List.{List}
use Prim.Native.Nat.{ℕ, ◌+◌, ◌-◌, ◌*◌, ◌≤◌, ◌<◌}
use native.Mathlib.Omega.{arith}
use lib.Dec.{ltb}
use lib.ListN.{length}
use lib.Seq.{sets}
use borrow.Author.Tests.{lt-ltb, le-ltb}
use Rattle.refusals.specs.Limited.{ours}
use Rattle.refusals.specs.Answers.{refused_at, accepted_with}
use Rattle.std.specs.Prelude.{Result, Ok, Err}
use Rattle.refusals.specs.declared.Refused.{Refused}
use Rattle.refusals.specs.Refusals.{number_of}
use Rattle.circuit.specs.Circuit.{Verdict}
use Rattle.circuit.specs.Judged.{Says, Accepts}
use Rattle.decoding.specs.Held.{head_of}
use Rattle.decoding.specs.declared.known.Known.{Known}
use Rattle.kept.specs.Keeps.{Bytes}
use Rattle.rows.specs.Writing.{text_of, answer_for, write_answer, text_for, text_after}
use Rattle.rows.proofs.Laid.{laid-sets}
use Rattle.writing.specs.Walked.{rows_at, Run}
use Rattle.writing.proofs.Standing.{circuit-rows}

module _ {s : List ℕ} {r : Result Unit Refused} {known : Known} (judged : Says ours s r known) where
  pub refused-answer : (e : Refused) → r ≡ Err e → (lent : List ℕ)
      → (refused_at (number_of e.refusal) e.place ≡ write_answer s (length lent)) × (lent ≡ text_after s lent)
  unfolding write_answer answer_for text_after text_for
  refused-answer f n lent =
      let e = sym (judged.refuses f n) in
      (ap (λ (v : Verdict). answer_for v (length lent)) e, ap (λ (v : Verdict). text_for v lent) e)

  -- the entries of an accepted circuit
  pub record Rows : Type 0 where
    pub run : Run s (known.n + known.rows) 6
    pub few : known.n ≤ 400
    pub inside : 8 * known.rows ≤ length s

  module _ (small : Bytes s) (z : r ≡ Ok tt) where
    accepts : Accepts ours s (head_of known) known.offsets
    accepts = judged.accepts z

    counted : known.n + known.rows ≡ length accepts.circuit.blocks + length accepts.circuit.rows
    counted = ap₂ (λ (x y : ℕ). x + y) accepts.blocks accepts.rows

    pub rows_run : Rows
    rows_run =
        let a = accepts in
        let x = circuit-rows s small a.circuit a.is in
        record { run = subst (λ (n : ℕ). Run s n 6) (sym counted) x.0; few = a.few; inside = omega (arith, a.rows_end) }

    text-is : rows_at s (known.n + known.rows) 6 ≡ text_of accepts.circuit
    text-is = ap (λ (n : ℕ). rows_at s n 6) counted ∙ (circuit-rows s small accepts.circuit accepts.is).1

    module _ (lent : List ℕ) where
      pub over-answer : length lent < length (rows_at s (known.n + known.rows) 6)
          → (refused_at 33 0 ≡ write_answer s (length lent)) × (lent ≡ text_after s lent)
      unfolding write_answer answer_for text_after text_for
      over-answer h =
          let f : ltb (length lent) (length (text_of accepts.circuit)) ≡ true = lt-ltb _ _ (rw text-is at h) in
          let v = accepts.is in
          (sym (ap (λ (v : Verdict). answer_for v (length lent)) v ∙ rw f), sym (ap (λ (v : Verdict). text_for v lent) v ∙ rw f))

      pub written-answer : (left : ℕ) (text : List ℕ)
          → left + length (rows_at s (known.n + known.rows) 6) ≡ length lent → text ≡ sets lent 0 (rows_at s (known.n + known.rows) 6)
          → (accepted_with (length lent - left) (known.n + known.rows) ≡ write_answer s (length lent)) × (text ≡ text_after s lent)
      unfolding write_answer answer_for text_after text_for
      written-answer left text l q =
          let a = accepts in
          let size : length lent - left ≡ length (text_of a.circuit) = omega (arith, ap length text-is) in
          let fits : length (text_of a.circuit) ≤ length lent = omega (arith, ap length text-is) in
          let f : ltb (length lent) (length (text_of a.circuit)) ≡ false = le-ltb _ _ fits in (
            ap₂ accepted_with size counted ∙ sym (ap (λ (v : Verdict). answer_for v (length lent)) a.is ∙ rw f),
            q ∙ ap (sets lent 0) text-is ∙ laid-sets (text_of a.circuit) lent fits ∙ sym (ap (λ (v : Verdict). text_for v lent) a.is ∙ rw f),
          )
