-- Which call a number stands for, and what is known once it is made. Assumes nothing.
use Prim.Native.Nat.{ℕ, min, ◌≤◌, ◌<◌}
use native.Mathlib.Omega.{arith}
use mathlib.Core.Logic.{⊎_elim}
use mathlib.Core.Path.{◌≡◌, refl}
use mathlib.Core.Bool.{false}
use mathlib.Core.List.{List, ◌++◌, append-nil}
use lib.ListN.{length, take, drop, drop_of_length-le}
use lib.Seq.{take_all}
use lib.IntN.{ℤ}
use Rattle.std.proofs.lemmas.Bool.{cases_lt}
use Rattle.refusals.specs.declared.Answer.{Answer}
use Rattle.calls.specs.Calls.{Call, latch, publish, answer_after, record_after, outputs_after}
use Rattle.calls.specs.Play.{AnyCall, on, moment, reply_to, after}
use Rattle.calls.proofs.Outputs.{closes, reply-kept, after_kept, reply-publish, after-publish}

-- ---- a call that is made, from its own contract

-- the answer, the record and the output words are what is said of the call x
abbrev pub Makes : List ℕ → AnyCall → List ℤ → List ℤ → Answer → List ℤ → List ℤ → Type 0
Makes s x l o a l' o' = (a ≡ reply_to s x (moment l o)) × (moment l' o' ≡ after s x (moment l o))

module _ (s : List ℕ) {x : AnyCall} (l o : List ℤ) {a : Answer} where
  -- lent no output words
  pub makes : (y : Call) → closes y ≡ false → x ≡ on y → {l' : List ℤ}
      → a ≡ answer_after s y l → l' ≡ record_after s y l → Makes s x l o a l' o
  makes y kept is answers leaves = rw (is, reply-kept s y l o kept, after_kept s y l o kept) (answers, rw leaves)

  -- e went over as it came
  pub makes-latch : (r : List ℤ) {e t : ℤ} → t ≡ e → x ≡ on (latch r e) → {l' : List ℤ}
      → a ≡ answer_after s (latch r t) l → l' ≡ record_after s (latch r t) l → Makes s x l o a l' o
  makes-latch r same is answers leaves = makes (latch r _) refl is (rw same at answers) (rw same at leaves)

-- publish
module _ (s : List ℕ) (l o : List ℤ) (k : ℕ) {a : Answer} {l' o' : List ℤ} where
  -- lent the first k output words
  pub makes-first : a ≡ answer_after s (publish (length (take k o))) l → l' ≡ record_after s (publish (length (take k o))) l
      → o' ≡ outputs_after s (publish (length (take k o))) l (take k o) → Makes s (on (publish k)) l o a l' (o' ++ drop k o)
  makes-first answers leaves shows = (answers, rw (leaves, shows))

  -- lent all of them
  pub makes-all : length o ≤ k → a ≡ answer_after s (publish (length o)) l → l' ≡ record_after s (publish (length o)) l
      → o' ≡ outputs_after s (publish (length o)) l o → Makes s (on (publish k)) l o a l' o'
  makes-all all answers leaves shows = rw (reply-publish s k l o all, after-publish s k l o all) (answers, rw (leaves, shows))

  -- lent the first k, or all where there are fewer
  pub makes_publish : (n : ℕ) → n ≡ min (length o) k → a ≡ answer_after s (publish (length (take n o))) l → l' ≡ record_after s (publish (length (take n o))) l
      → o' ≡ outputs_after s (publish (length (take n o))) l (take n o) → Makes s (on (publish k)) l o a l' (o' ++ drop n o)
  makes_publish n is answers leaves shows =
      ⊎_elim
      (λ (h : k < length o).
      let e : n ≡ k = omega arith in
      rw e (makes-first (rw e at answers) (rw e at leaves) (rw e at shows)))
      (λ (h : length o ≤ k).
      let all : length o ≤ n = omega arith in
      let t = take_all n o all in
      rw (drop_of_length-le o all, append-nil) (makes-all h (rw t at answers) (rw t at leaves) (rw t at shows)))
      (cases_lt k (length o))
