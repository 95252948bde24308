-- What a field without a fault says of itself: of header, label and end all of it, both ways. Assumes nothing.
use mathlib.Core.Logic.{◌↔◌}
use mathlib.Core.Path.{◌≡◌, refl, sym, ◌∙◌}
use mathlib.Core.Bool.{Bool, true, false, not, ◌&&◌}
use mathlib.Core.List.{List}
use Prim.Native.Nat.{ℕ, ◌+◌, ◌≤◌, ◌<◌}
use lib.Dec.{eqb, ltb}
use lib.ListN.{get_or}
use borrow.Author.Tests.{ltb-false, le-ltb, leb-false, eqb-true, eqb-false, eq-eqb, ne_eqb}
use Rattle.words.specs.Bytes.{number_at}
use Rattle.kinds.specs.Kinds.{kind_of, known, content_length, allowed}
use Rattle.refusals.specs.Faults.{lowest}
use Rattle.refusals.specs.Stages.{opening, after_block, among_rows}
use Rattle.refusals.specs.declared.Limits.{Limits}
use Rattle.refusals.proofs.Tests.{or-false, not_is, none-holds}
use Rattle.blockfield.specs.BlockField.{kind_at, option_at, parameters_at, wrong_length, most_option, wrong_kind, block_faults}
use Rattle.blockfield.proofs.Laws.{right-length}
use Rattle.fields.specs.Fields.{header_faults, label_faults, row_faults, end_faults, class_at, number_in, unknown}

-- ---- header, label, end

pub record HeaderRight (limits : Limits) (s : List ℕ) (at size stage : ℕ) : Type 0 where
  pub first : stage ≡ opening
  pub long : size ≡ 3
  pub version : get_or s (at + 3) 0 ≡ 1
  pub few : number_at 2 s (at + 4) ≤ limits.blocks

pub header-iff : (limits : Limits) (s : List ℕ) (at size stage : ℕ)
    → (lowest (header_faults limits s at size stage) ≡ 0) ↔ HeaderRight limits s at size stage
unfolding header_faults
header-iff limits s at size stage =
    let faults = none-holds (header_faults limits s at size stage) refl in (
      λ e.
          let none = faults.0 e in
          let a = (or-false _ _).0 none.0 in
          record {
            first = eqb-true _ _ ((not_is _).0 a.0);
            long = eqb-true _ _ ((not_is _).0 a.1);
            version = eqb-true _ _ ((not_is _).0 none.1.0);
            few = ltb-false _ _ none.1.1.0;
          },
      λ r.
          faults.1 (
            (or-false _ _).1 ((not_is _).1 (eq-eqb _ _ r.first), (not_is _).1 (eq-eqb _ _ r.long)),
            ((not_is _).1 (eq-eqb _ _ r.version), (le-ltb _ _ r.few, tt)),
          ),
    )

pub record LabelRight (size stage : ℕ) : Type 0 where
  pub after : stage ≡ after_block
  pub short : size ≤ 16

pub label-iff : (size stage : ℕ) → (lowest (label_faults size stage) ≡ 0) ↔ LabelRight size stage
unfolding label_faults
label-iff size stage =
    let faults = none-holds (label_faults size stage) refl in (
      λ e.
          let a = (or-false _ _).0 (faults.0 e).0 in
          record { after = eqb-true _ _ ((not_is _).0 a.0); short = ltb-false _ _ a.1 },
      λ r. faults.1 ((or-false _ _).1 ((not_is _).1 (eq-eqb _ _ r.after), le-ltb _ _ r.short), tt),
    )

pub record EndRight (size stage n count : ℕ) : Type 0 where
  pub late : stage ≡ opening → ⊥
  pub empty : size ≡ 0
  pub full : n ≤ count

pub end-iff : (size stage n count : ℕ) → (lowest (end_faults size stage n count) ≡ 0) ↔ EndRight size stage n count
unfolding end_faults
end-iff size stage n count =
    let faults = none-holds (end_faults size stage n count) refl in (
      λ e.
          let none = faults.0 e in
          let a = (or-false _ _).0 none.0 in
          record { late = eqb-false _ _ a.0; empty = eqb-true _ _ ((not_is _).0 a.1); full = ltb-false _ _ none.1.0 },
      λ r.
          faults.1
          ((or-false _ _).1 (ne_eqb _ _ r.late, (not_is _).1 (eq-eqb _ _ r.empty)), (le-ltb _ _ r.full, tt)),
    )

-- ---- a block, a row

pub record BlockRight (s : List ℕ) (at size stage n count : ℕ) : Type 0 where
  pub not-opening : stage ≡ opening → ⊥
  pub not-rows : stage ≡ among_rows → ⊥
  pub is_known : known (kind_at s at) ≡ true
  pub size_is : size ≡ content_length (kind_of (kind_at s at))
  pub room : count < n
  pub is-allowed : allowed (kind_at s at) (parameters_at s at (kind_of (kind_at s at))) ≡ true

pub block-right : (limits : Limits) {s : List ℕ} {at size stage n count : ℕ} (sorts : List Bool) (used : Bool) {number : ℕ} → number ≡ lowest (block_faults limits s at size stage n count sorts used) → number ≡ 0 → BlockRight s at size stage n count
unfolding block_faults wrong_length wrong_kind
block-right limits {s} {at} {size} {stage} {n} {count} sorts used told z =
    let e = sym told ∙ z in
    let kind = kind_at s at in
    let none = (none-holds (block_faults limits s at size stage n count sorts used) refl).0 e in
    let stages = (or-false (eqb stage opening) (eqb stage among_rows)).0 none.0 in
    let sized = (or-false (eqb size 0) (known kind && not (eqb size (content_length (kind_of kind))))).0 none.1.0 in
    let k = (not_is (known kind)).0 ((or-false (not (known kind)) (ltb (most_option (kind_of kind)) (option_at s at))).0 none.1.1.1.0).0 in
    record {
      not-opening = eqb-false stage opening stages.0;
      not-rows = eqb-false stage among_rows stages.1;
      is_known = k;
      size_is = right-length kind size k sized.1;
      room = leb-false n count none.1.1.0;
      is-allowed = (not_is (allowed kind (parameters_at s at (kind_of kind)))).0 none.1.1.1.1.1.1.0;
    }

pub record RowRight (limits : Limits) (s : List ℕ) (at size n count : ℕ) : Type 0 where
  pub size_is : size ≡ 5
  pub complete : n ≤ count
  pub is_known : unknown limits (class_at s at) (number_in s at) ≡ false

pub row-right : {limits : Limits} {s : List ℕ} {at size : ℕ} (stage : ℕ) {n count : ℕ} (sorts : List Bool) (used : Bool) {number : ℕ} → number ≡ lowest (row_faults limits s at size stage n count sorts used) → number ≡ 0 → RowRight limits s at size n count
unfolding row_faults
row-right {limits} {s} {at} {size} stage {n} {count} sorts used told z =
    let e = sym told ∙ z in
    let none = (none-holds (row_faults limits s at size stage n count sorts used) refl).0 e in
    record {
      size_is = eqb-true size 5 ((not_is (eqb size 5)).0 ((or-false (eqb stage opening) (not (eqb size 5))).0 none.0).1);
      complete = ltb-false count n none.1.0;
      is_known = ((or-false (unknown limits (class_at s at) (number_in s at)) used).0 none.1.1.1.0).0;
    }
