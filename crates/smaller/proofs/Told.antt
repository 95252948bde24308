-- A field without a fault at some limits has at any others none, or 4 of the header, or 6, or 9: the limits stand in these alone. Assumes
-- nothing.
use mathlib.Core.Path.{◌≡◌, refl}
use mathlib.Core.Bool.{Bool, true, false, not, ◌||◌, cond, true≢false}
use mathlib.Core.List.{List}
use Prim.Native.Nat.{ℕ, ◌+◌}
use lib.Dec.{eqb, ltb}
use lib.ListN.{get_or}
use borrow.Author.Tests.{eqb-true}
use Rattle.words.specs.Bytes.{number_at}
use Rattle.kinds.specs.Kinds.{kind_of}
use Rattle.refusals.specs.Faults.{lowest}
use Rattle.refusals.specs.Stages.{opening}
use Rattle.refusals.specs.declared.Limits.{Limits}
use Rattle.refusals.proofs.Tests.{or-false, not_is, None}
use Rattle.connectors.specs.Connectors.{connector_at, wrong}
use Rattle.blockfield.specs.BlockField.{kind_at, digitals_at, analogs_at, wrong_inputs, block_faults}
use Rattle.fields.specs.Fields.{header_faults, label_faults, row_faults, end_faults, spot_of, unknown, class_at, number_in}
use Rattle.decoding.specs.Decoded.{State}
use Rattle.circuit.specs.Circuit.{tag_faults}
use Rattle.circuit.proofs.Tags.{each-tag}

-- what is told of a field, in a stage
pub data Told (stage k : ℕ) : Type 0 where
  nothing : k ≡ 0 → Told stage k
  blocks : k ≡ 4 → stage ≡ opening → Told stage k
  connector : k ≡ 6 → Told stage k
  destination : k ≡ 9 → Told stage k

module _ (these others : Limits) (s : List ℕ) (at : ℕ) where
  header-told : (size stage : ℕ) → None (header_faults others s at size stage) → Told stage (lowest (header_faults these s at size stage))
  unfolding header_faults
  header-told size stage none = rw (none.0, none.1.0) (by (ltb these.blocks (number_at 2 s (at + 4))))
    where
      by : (b : Bool) → Told stage (cond b 4 0)
      by true = blocks refl (eqb-true _ _ ((not_is _).0 ((or-false (not (eqb stage opening)) (not (eqb size 3))).0 none.0).0))
      by false = nothing refl

  block-told : (size stage n count : ℕ) (sorts : List Bool) (used : Bool) → None (block_faults others s at size stage n count sorts used)
      → Told stage (lowest (block_faults these s at size stage n count sorts used))
  unfolding block_faults
  block-told size stage n count sorts used none =
      let rest = none.1.1.1.1.1 in
      rw (none.0, none.1.0, none.1.1.0, none.1.1.1.0, rest.0, rest.1.0, rest.1.1.0)
      (by (wrong_inputs these (count + 1) n sorts (digitals_at s at (kind_of (kind_at s at))) (analogs_at s at (kind_of (kind_at s at)))))
    where
      by : (b : Bool) → Told stage (cond b 6 0)
      by true = connector refl
      by false = nothing refl

  row_told : (size stage n count : ℕ) (sorts : List Bool) (used : Bool) → None (row_faults others s at size stage n count sorts used)
      → Told stage (lowest (row_faults these s at size stage n count sorts used))
  unfolding row_faults
  row_told size stage n count sorts used none =
      let free = ((or-false (unknown others (class_at s at) (number_in s at)) used).0 none.1.1.1.0).1 in
      rw (none.0, none.1.0, free)
      (by (wrong these (spot_of (class_at s at)) (count + 1) n sorts (connector_at s (at + 5))) (unknown these (class_at s at) (number_in s at)))
    where
      by : (b d : Bool) → Told stage (cond b 6 (cond (d || false) 9 0))
      by true d = connector refl
      by false true = destination refl
      by false false = nothing refl

  label-told : (size stage : ℕ) → None (label_faults size stage) → Told stage (lowest (label_faults size stage))
  unfolding label_faults
  label-told size stage none = rw none.0 (nothing refl)

  end-told : (size stage n count : ℕ) → None (end_faults size stage n count) → Told stage (lowest (end_faults size stage n count))
  unfolding end_faults
  end-told size stage n count none = rw (none.0, none.1.0) (nothing refl)

  -- by a field's own tag
  pub tag-told : (st : State) → None (tag_faults others s at st) → Told st.stage (lowest (tag_faults these s at st))
  unfolding tag_faults
  tag-told st =
      each-tag (λ l m. None l → Told st.stage (lowest m)) (get_or s at 0) _ _ _ _ _ _ _ _ _ _ _ _
      (λ q. header-told _ _)
      (λ q. block-told _ _ _ _ _ _)
      (λ q. label-told _ _)
      (λ q. row_told _ _ _ _ _ _)
      (λ q. end-told _ _ _ _)
      (λ none. absurd (true≢false none.0))
