-- What holds for a field does not depend on more than is said of the earlier ones: of the sorts only those of the blocks before, of the
-- marks only those of a known destination, of a right index. Assumes nothing.
use mathlib.Core.Path.{◌≡◌, refl, ap, ap₂, sym}
use mathlib.Core.Bool.{Bool, beq, true, false, not, ◌&&◌, ◌||◌, cond}
use mathlib.Core.List.{List, [], ◌∷◌}
use Prim.Native.Nat.{ℕ, suc, ◌+◌, ◌<◌}
use native.Mathlib.Numerals.{add-one}
use lib.Dec.{eqb, leb, ltb}
use lib.ListN.{get_or, take}
use lib.Seq.{get_or-take}
use borrow.Author.Tests.{eqb-true, ltb-true}
use Rattle.words.proofs.Bounds.{and-true}
use Rattle.kinds.specs.Kinds.{kind_of, allowed}
use Rattle.refusals.specs.Faults.{lowest}
use Rattle.refusals.specs.declared.Limits.{Limits}
use Rattle.connectors.specs.Connectors.{Connector, class_of, names_block, names_analog, unknown_row, digital_input, analog_input, connector_at, misfits, wrong_sort, wrong, any_of}
use Rattle.blockfield.specs.BlockField.{kind_at, option_at, digitals_at, analogs_at, parameters_at, wrong_length, wrong_kind, wrong_inputs, later_inputs, shift_register, block_faults}
use Rattle.fields.specs.Fields.{spot_of, unknown, class_at, number_in, row_faults}

-- a test behind another one matters only where that one passes, or fails
and-agree : (a x y : Bool) → (a ≡ true → x ≡ y) → (a && x) ≡ (a && y)
and-agree true x y h = h refl
and-agree false x y h = refl

or-agree : (a x y : Bool) → (a ≡ false → x ≡ y) → (a || x) ≡ (a || y)
or-agree true x y h = refl
or-agree false x y h = h refl

any-agree : (f g : Connector → Bool) → ((c : Connector) → f c ≡ g c) → (l : List Connector) → any_of f l ≡ any_of g l
unfolding any_of
any-agree f g h [] = refl
any-agree f g h (c ∷ l) = ap₂ (λ (x y : Bool). x || y) (h c) (any-agree f g h l)

-- ---- the sorts of the blocks before

module _ (limits : Limits) (count n : ℕ) (sorts : List Bool) where
  sort-agree : (number : ℕ) → ltb number (count + 1) ≡ true → get_or (false ∷ sorts) number false ≡ get_or (false ∷ take count sorts) number false
  sort-agree number e =
      let h : number < suc count = rw add-one at (ltb-true number (count + 1) e) in
      sym (get_or-take (suc count) (false ∷ sorts) number false h)

  wrong-agree : (spot : ℕ) (c : Connector) → wrong limits spot (count + 1) n sorts c ≡ wrong limits spot (count + 1) n (take count sorts) c
  unfolding wrong wrong_sort
  wrong-agree spot c =
      let k = class_of c in
      ap (λ (b : Bool). misfits limits spot n c || b)
      (and-agree (names_block k && ltb c.number (count + 1))
      (not (eqb spot unknown_row) && not (beq (get_or (false ∷ sorts) c.number false) (names_analog k)))
      (not (eqb spot unknown_row) && not (beq (get_or (false ∷ take count sorts) c.number false) (names_analog k)))
      (λ e. ap (λ (x : Bool). not (eqb spot unknown_row) && not (beq x (names_analog k))) (sort-agree c.number (and-true (names_block k) _ e).1)))

  inputs-agree : (digitals analogs : List Connector) → wrong_inputs limits (count + 1) n sorts digitals analogs ≡ wrong_inputs limits (count + 1) n (take count sorts) digitals analogs
  unfolding wrong_inputs
  inputs-agree digitals analogs =
      ap₂ (λ (x y : Bool). x || y)
      (any-agree (wrong limits digital_input (count + 1) n sorts) (wrong limits digital_input (count + 1) n (take count sorts)) (wrong-agree digital_input) digitals)
      (any-agree (wrong limits analog_input (count + 1) n sorts) (wrong limits analog_input (count + 1) n (take count sorts)) (wrong-agree analog_input) analogs)

  pub block-agree : (s : List ℕ) (at size stage : ℕ) (u : Bool) → lowest (block_faults limits s at size stage n count sorts u) ≡ lowest (block_faults limits s at size stage n count (take count sorts) u)
  unfolding block_faults
  block-agree s at size stage u =
      rw (inputs-agree (digitals_at s at (kind_of (kind_at s at))) (analogs_at s at (kind_of (kind_at s at))))

  -- and whether a destination is used matters only where it is known
  pub row-agree : (s : List ℕ) (at size stage : ℕ) (u v : Bool) → (unknown limits (class_at s at) (number_in s at) ≡ false → u ≡ v) → lowest (row_faults limits s at size stage n count sorts u) ≡ lowest (row_faults limits s at size stage n count (take count sorts) v)
  unfolding row_faults
  row-agree s at size stage u v h =
      rw (wrong-agree (spot_of (class_at s at)) (connector_at s (at + 5)), or-agree (unknown limits (class_at s at) (number_in s at)) u v h)

-- ---- whether an index is used

last-agree : (d r u v : Bool) → (d ≡ true → r ≡ true → u ≡ v) → ◌≡◌ {A = ℕ} (cond (not d) 8 (cond (r && u) 10 0)) (cond (not d) 8 (cond (r && v) 10 0))
last-agree true r u v h = ap (λ (b : Bool). cond b 10 0) (and-agree r u v (h refl))
last-agree false r u v h = refl

-- it matters only to a shift register whose parameters are allowed
pub used-agree : (limits : Limits) (s : List ℕ) (at size stage n count : ℕ) (sorts : List Bool) (u v : Bool) → (kind_at s at ≡ shift_register → allowed (kind_at s at) (parameters_at s at (kind_of (kind_at s at))) ≡ true → u ≡ v) → lowest (block_faults limits s at size stage n count sorts u) ≡ lowest (block_faults limits s at size stage n count sorts v)
unfolding block_faults
used-agree limits s at size stage n count sorts u v h =
    let kind = kind_at s at in
    let k = kind_of kind in
    ap
    (λ (t : ℕ).
    cond (eqb stage 0 || eqb stage 3) 2
    (cond (wrong_length kind size) 2
    (cond (leb n count) 4
    (cond (wrong_kind kind (option_at s at)) 5
    (cond (wrong_inputs limits (count + 1) n sorts (digitals_at s at k) (analogs_at s at k)) 6
    (cond (later_inputs (count + 1) (digitals_at s at k) (analogs_at s at k)) 7 t))))))
    (last-agree (allowed kind (parameters_at s at k)) (eqb kind shift_register) u v (λ d e. h (eqb-true kind shift_register e) d))
