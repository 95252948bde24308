-- What the functions below the judging of a block answer. Not part of what a reader has to believe.
use Rattle.std.specs.Prelude.{ℕ, ◌+◌, ◌-◌, ◌≤◌, ◌≡◌, Bool, true, not, List, [], ◌∷◌, length}
use Rattle.words.specs.Signed.{over}
use Rattle.kinds.specs.Kinds.{kind_of, known, content_length, allowed}
use Rattle.refusals.specs.Faults.{Fault, ◌when◌}
use Rattle.refusals.specs.declared.Limits.{Limits}
use Rattle.blockfield.specs.BlockField.{kind_at, digitals_at, analogs_at, parameters_at, signed_at, index_from, wrong_inputs, later_inputs}

-- a shift register's index as a mark, from 0
abbrev pub index_mark : List ℕ → ℕ → ℕ
index_mark s at = over (signed_at s (index_from at)) - 1

-- a block without a fault lies at a place
pub record Lies (s : List ℕ) (at : ℕ) : Type 0 where
  pub is_known : known (kind_at s at) ≡ true
  pub inside : (at + 3) + content_length (kind_of (kind_at s at)) ≤ length s
  pub is-allowed : allowed (kind_at s at) (parameters_at s at (kind_of (kind_at s at))) ≡ true

-- what holds for a block of a known kind and a right length, an index used twice aside
unfoldable pub known_faults : Limits → List ℕ → ℕ → ℕ → ℕ → ℕ → List Bool → List Fault
known_faults limits s at kind own n sorts =
    let digitals = digitals_at s at (kind_of kind) in
    let analogs = analogs_at s at (kind_of kind) in
    (6 when wrong_inputs limits own n sorts digitals analogs
    ∷ 7 when later_inputs own digitals analogs
    ∷ 8 when not (allowed kind (parameters_at s at (kind_of kind)))
    ∷ [])
