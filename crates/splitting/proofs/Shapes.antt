-- The shape of a row by the tests on its tag and its kind, in the code's order. Assumes nothing.
use mathlib.Core.Path.{◌≡◌, refl}
use mathlib.Core.Bool.{true, false}
use mathlib.Core.List.{List, []}
use Prim.Native.Nat.{ℕ, ◌<◌}
use native.Mathlib.Omega.{arith}
use lib.ListN.{length, get_or-eq_default}
use borrow.Author.Tests.{eq-eqb, ne_eqb}
use Rattle.digits.specs.Numbers.{Number}
use Rattle.digits.specs.Numbers.{digits, size_in, has_minus, number_of}
use Rattle.std.specs.Prelude.{Result, Ok, Err}
use Rattle.std.specs.Result.{result_ok}
use Rattle.kinds.specs.declared.kind.Kind.{Kind}
use Rattle.kinds.specs.declared.kind.UnknownKind.{UnknownKind}
use Rattle.kinds.specs.Codes.{Decodes}
use Rattle.kinds.specs.Kinds.{known}
use Rattle.std.specs.Prelude.{None}
use Rattle.rows.specs.Shape.{shape_said}
use Rattle.rows.specs.Columns.{said_in, block_shape, output_shape, no_shape, says, shape_by, shape_of, nth}
use Rattle.splitting.specs.Found.{text_in, Says}
use Rattle.splitting.proofs.Numbers.{said_same}

module _ (tag kind : Number) where
  pub no-tag : tag.ok ≡ false → shape_said None ≡ shape_by tag kind
  unfolding shape_by says no_shape
  no-tag e = rw e

  module _ (ok : tag.ok ≡ true) where
    pub output-tag : tag.size ≡ 0x30 → output_shape ≡ shape_by tag kind
    unfolding shape_by says
    output-tag e = rw (ok, eq-eqb tag.size 0x30 e)

    module _ (n : tag.size ≡ 0x30 → ⊥) where
      pub other_tag : (tag.size ≡ 0x10 → ⊥) → shape_said None ≡ shape_by tag kind
      unfolding shape_by says no_shape
      other_tag m = rw (ok, ne_eqb tag.size 0x30 n, ne_eqb tag.size 0x10 m)

      module _ (e : tag.size ≡ 0x10) where
        pub no_kind : kind.ok ≡ false → shape_said None ≡ shape_by tag kind
        unfolding shape_by says no_shape
        no_kind q = rw (ok, ne_eqb tag.size 0x30 n, eq-eqb tag.size 0x10 e, q)

        pub other-kind : kind.ok ≡ true → known kind.size ≡ false → shape_said None ≡ shape_by tag kind
        unfolding shape_by says no_shape
        other-kind q k = rw (ok, ne_eqb tag.size 0x30 n, eq-eqb tag.size 0x10 e, q, k)

        pub block-kind : kind.ok ≡ true → known kind.size ≡ true → block_shape kind.size ≡ shape_by tag kind
        unfolding shape_by says
        block-kind q k = rw (ok, ne_eqb tag.size 0x30 n, eq-eqb tag.size 0x10 e, q, k)

-- ---- the first cell says the tag, the second the kind

shape_is : (cells : List (List ℕ)) (tag kind : Number) → tag ≡ said_in 1 (nth cells 0) → kind ≡ said_in 1 (nth cells 1) → shape_by tag kind ≡ shape_of cells
unfolding shape_of
shape_is cells tag kind a b = rw (a, b)

module _ (s starts sizes : List ℕ) (cells : List (List ℕ)) (h : Says s starts sizes cells) (tag : Number) (is-tag : tag ≡ said_in 1 (text_in s starts sizes 0)) where
  pub by-tag : 0 < length cells → shape_by tag (said_in 1 (nth cells 1)) ≡ shape_of cells
  by-tag g = shape_is cells tag (said_in 1 (nth cells 1)) (said_same s starts sizes cells 1 0 tag h g (omega arith) is-tag) refl

  pub by_both : (kind : Number) → 1 < length cells → kind ≡ said_in 1 (text_in s starts sizes 1) → shape_by tag kind ≡ shape_of cells
  by_both kind g is-kind =
      shape_is cells tag kind (said_same s starts sizes cells 1 0 tag h (omega arith) (omega arith) is-tag)
      (said_same s starts sizes cells 1 1 kind h g (omega arith) is-kind)

-- an empty cell is no number
none_said : (said_in 1 []).ok ≡ false
unfolding said_in number_of has_minus size_in digits
none_said = refl

pub none-second : (cells : List (List ℕ)) → length cells < 2 → (said_in 1 (nth cells 1)).ok ≡ false
none-second cells h = rw (get_or-eq_default cells [] {n = 1} (omega arith)) none_said

-- the byte of a kind, decoded
pub not_decoded : (byte : ℕ) (r : Result Kind UnknownKind) → Decodes byte r → result_ok r ≡ None → known byte ≡ false
not_decoded byte (Ok kind) h e = absurd (let z : ◌≡◌ {A = ℕ} 0 1 = cc in omega arith)
not_decoded byte (Err x) h e = h
