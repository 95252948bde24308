-- The rows of the code's table: the row of a kind, and how large what stands there can be. Assumes nothing.
use mathlib.Core.Path.{◌≡◌, refl}
use mathlib.Core.Bool.{Bool, true, false, ◌&&◌}
use mathlib.Core.List.{List, [], ◌∷◌}
use Prim.Native.Nat.{ℕ, zero, suc, ◌+◌, ◌≤◌, ◌<◌}
use native.Mathlib.Nat.{le_of_suc-le-suc, not-suc-le-zero}
use native.Mathlib.Omega.{arith}
use borrow.Author.Tests.{leb-true}
use lib.Dec.{leb}
use lib.ListN.{length, get_or}
use lib.IntN.{ℤ, nat_abs}
use mir.Facts.{to_z-of_z}
use mir.Syntax.{w32}
use mir.Val.{to_z, of_z}
use Rattle.std.specs.Prelude.{slice_index_or, ◌-◌, pos}
use Rattle.std.proofs.lemmas.Int.{fits_signed_from_abs}
use Rattle.words.proofs.Bounds.{and-true}
use Rattle.kinds.specs.Kinds.{Kind, gate, kinds, kind_of, content_length, range_at, scaled, timed, indexed, chosen}
use Rattle.kinds.specs.declared.kind.Kind.{Kind as Code}
use Rattle.kinds.specs.declared.kind.Kind.TheVariants.{And, AndEdge, Nand, NandEdge, Or, Nor, Xor, Not, OnDelay, OffDelay, LatchingRelay, ShiftRegister, ThresholdTrigger, Comparator, Multiplexer, DifferentialTrigger, UpDownCounter, StairwaySwitch, Amplifier}
use Rattle.kinds.specs.declared.table.Row.{Row}
use Rattle.kinds.specs.declared.table.TheConstants.{ROWS}
use Rattle.kinds.specs.Codes.{byte_of}
use Rattle.kinds.specs.Table.{row_of}

-- what stands at a place that a list has does not depend on the default
pub any-default {ℓ} : {A : Type ℓ} (l : List A) (k : ℕ) (d e : A) → k < length l → get_or l k d ≡ get_or l k e
any-default [] k d e h = absurd (not-suc-le-zero h)
any-default (a ∷ l) zero d e h = refl
any-default (a ∷ l) (suc k) d e h = any-default l k d e (le_of_suc-le-suc h)

-- the row that the code takes
pub table_is : (k : Code) (d : Row) → slice_index_or ROWS (byte_of k - 1) d ≡ row_of (kind_of (byte_of k))
unfolding kind_of kinds scaled timed indexed chosen
table_is And d = refl
table_is AndEdge d = refl
table_is Nand d = refl
table_is NandEdge d = refl
table_is Or d = refl
table_is Nor d = refl
table_is Xor d = refl
table_is Not d = refl
table_is OnDelay d = refl
table_is OffDelay d = refl
table_is LatchingRelay d = refl
table_is ShiftRegister d = refl
table_is ThresholdTrigger d = refl
table_is Comparator d = refl
table_is Multiplexer d = refl
table_is DifferentialTrigger d = refl
table_is UpDownCounter d = refl
table_is StairwaySwitch d = refl
table_is Amplifier d = refl

-- ---- one test over the whole table, and what it says of each kind

abbrev pub every : (Kind → Bool) → List Kind → Bool
every f [] = true
every f (k ∷ ks) = f k && every f ks

at_every : (f : Kind → Bool) (ks : List Kind) (d : Kind) → f d ≡ true → every f ks ≡ true → (i : ℕ) → f (get_or ks i d) ≡ true
at_every f [] d e es i = e
at_every f (k ∷ ks) d e es zero = (and-true (f k) (every f ks) es).0
at_every f (k ∷ ks) d e es (suc i) = at_every f ks d e (and-true (f k) (every f ks) es).1 i

pub each-kind : (f : Kind → Bool) → f (gate 0 false 0) ≡ true → every f kinds ≡ true → (kind : ℕ) → f (kind_of kind) ≡ true
unfolding kind_of
each-kind f e es kind = at_every f kinds (gate 0 false 0) e es kind

at_most : (f : Kind → ℕ) (n : ℕ) → leb (f (gate 0 false 0)) n ≡ true → every (λ k. leb (f k) n) kinds ≡ true → (kind : ℕ) → f (kind_of kind) ≤ n
at_most f n e es kind = leb-true (f (kind_of kind)) n (each-kind (λ k. leb (f k) n) e es kind)

pub record Small (k : Kind) : Type 0 where
  pub digitals : k.digitals ≤ 4
  pub analogs : k.analogs ≤ 2
  pub inputs : k.digitals + k.analogs ≤ 4
  pub parameters : length k.parameters ≤ 4
  pub times : k.times ≤ 3
  pub length-is : content_length k ≤ 27

pub small-kind : (kind : ℕ) → Small (kind_of kind)
unfolding kinds scaled timed indexed chosen
small-kind kind =
    record {
      digitals = at_most (λ k. k.digitals) 4 refl refl kind;
      analogs = at_most (λ k. k.analogs) 2 refl refl kind;
      inputs = at_most (λ k. k.digitals + k.analogs) 4 refl refl kind;
      parameters = at_most (λ k. length k.parameters) 4 refl refl kind;
      times = at_most (λ k. k.times) 3 refl refl kind;
      length-is = at_most content_length 27 refl refl kind;
    }

pub ruleset small = small-kind

-- ---- the ends of parameter j, as the code reads them in the row

short : ℤ → Bool
short x = leb (nat_abs x) 999999

short-back : (x : ℤ) → short x ≡ true → to_z w32 (of_z w32 x) ≡ x
unfolding short
short-back x e = let h = leb-true (nat_abs x) 999999 e in to_z-of_z (fits_signed_from_abs w32 x (omega arith))

pub least-read : (kind j : ℕ) → j < 4 → to_z w32 (of_z w32 (slice_index_or (row_of (kind_of kind)).least j (pos 0))) ≡ (range_at (kind_of kind) j).least
unfolding kinds scaled timed indexed chosen short
least-read kind zero h = short-back _ (each-kind (λ k. short (range_at k 0).least) refl refl kind)
least-read kind (suc zero) h = short-back _ (each-kind (λ k. short (range_at k 1).least) refl refl kind)
least-read kind (suc (suc zero)) h = short-back _ (each-kind (λ k. short (range_at k 2).least) refl refl kind)
least-read kind (suc (suc (suc zero))) h = short-back _ (each-kind (λ k. short (range_at k 3).least) refl refl kind)
least-read kind (suc (suc (suc (suc j)))) h = absurd (omega arith)

pub greatest-read : (kind j : ℕ) → j < 4 → to_z w32 (of_z w32 (slice_index_or (row_of (kind_of kind)).greatest j (pos 0))) ≡ (range_at (kind_of kind) j).greatest
unfolding kinds scaled timed indexed chosen short
greatest-read kind zero h = short-back _ (each-kind (λ k. short (range_at k 0).greatest) refl refl kind)
greatest-read kind (suc zero) h = short-back _ (each-kind (λ k. short (range_at k 1).greatest) refl refl kind)
greatest-read kind (suc (suc zero)) h = short-back _ (each-kind (λ k. short (range_at k 2).greatest) refl refl kind)
greatest-read kind (suc (suc (suc zero))) h = short-back _ (each-kind (λ k. short (range_at k 3).greatest) refl refl kind)
greatest-read kind (suc (suc (suc (suc j)))) h = absurd (omega arith)
