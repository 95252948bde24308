-- The inputs of a block one after the other; what is read of a block is its line. Assumes nothing.
use mathlib.Core.Path.{sym, ◌≡◌, refl, ap, ◌∙◌}
use mathlib.Core.List.{List, [], ◌∷◌}
use Prim.Native.Nat.{ℕ, zero, suc, ◌+◌, ◌*◌, ◌≤◌, ◌<◌}
use native.Mathlib.Nat.{le_of_suc-le-suc}
use native.Mathlib.Omega.{arith}
use lib.Dec.{eqb}
use lib.IntN.{ℤ}
use Rattle.kinds.specs.Kinds.{kind_of}
use Rattle.connectors.specs.Connectors.{Connector, connector_at, connectors_at}
use Rattle.blockfield.specs.BlockField.{kind_at, option_at, parameters_at, four_of}
use Rattle.decoding.specs.Decoded.{block_at}
use Rattle.blocks.specs.Blocks.{prepared}
use Rattle.blocks.specs.declared.Prepared.{Prepared}
use Rattle.kept.proofs.Fields.{connectors-add}
use Rattle.lines.specs.Lines.{unused, nth, line_of}

-- ---- connectors one after the other

module _ (s : List ℕ) where
  pub connector-in : (count from j : ℕ) → j < count → nth (connectors_at s from count) j ≡ connector_at s (from + 3 * j)
  unfolding connectors_at
  connector-in zero from j h = let z : ⊥ = omega arith in absurd z
  connector-in (suc count) from zero h = let e : from ≡ from + 3 * 0 = omega arith in ap (connector_at s) e
  connector-in (suc count) from (suc j) h =
      let e : from + 3 + 3 * j ≡ from + 3 * suc j = omega arith in
      connector-in count (from + 3) j (le_of_suc-le-suc h) ∙ ap (connector_at s) e

  pub connector-out : (count from j : ℕ) → count ≤ j → nth (connectors_at s from count) j ≡ unused
  unfolding connectors_at
  connector-out zero from j h = refl
  connector-out (suc count) from zero h = let z : ⊥ = omega arith in absurd z
  connector-out (suc count) from (suc j) h = connector-out count (from + 3) j (le_of_suc-le-suc h)

-- what is read of a block is its line
pub line_read : (s : List ℕ) (at kind option count : ℕ) (v w x y : Connector) (params : List ℤ) (p : Prepared) → kind ≡ kind_at s at → option ≡ option_at s at → count ≡ (kind_of kind).digitals + (kind_of kind).analogs → v ≡ nth (connectors_at s (at + 5) count) 0 → w ≡ nth (connectors_at s (at + 5) count) 1 → x ≡ nth (connectors_at s (at + 5) count) 2 → y ≡ nth (connectors_at s (at + 5) count) 3 → params ≡ four_of (parameters_at s at (kind_of kind)) → p ≡ prepared kind params → record { kind = kind; retentive = eqb option 1; classes = v.class ∷ w.class ∷ x.class ∷ y.class ∷ []; numbers = v.number ∷ w.number ∷ x.number ∷ y.number ∷ []; prepared = p } ≡ line_of (block_at s at)
unfolding line_of
line_read s at kind option count v w x y params p k o n e f g h q r =
    let d = (kind_of (kind_at s at)).digitals in
    let a = (kind_of (kind_at s at)).analogs in
    rw (e, f, g, h, r, q, n, k, o, sym (connectors-add s (at + 5) d a))
