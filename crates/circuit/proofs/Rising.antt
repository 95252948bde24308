-- Each field's numbers rise, so the one that is named is the lowest that holds for it. Assumes nothing.
use mathlib.Core.Path.{◌≡◌, refl}
use mathlib.Core.Bool.{true}
use mathlib.Core.List.{List}
use Prim.Native.Nat.{ℕ}
use lib.ListN.{get_or}
use Rattle.refusals.specs.Faults.{Fault, AtMost, rises}
use Rattle.refusals.specs.declared.Limits.{Limits}
use Rattle.refusals.proofs.Laws.{least-of-rising}
use Rattle.blockfield.specs.BlockField.{block_faults}
use Rattle.fields.specs.Fields.{header_faults, label_faults, row_faults, end_faults}
use Rattle.decoding.specs.Decoded.{State}
use Rattle.circuit.proofs.Tags.{by-tag}
use Rattle.circuit.specs.Circuit.{tag_faults, field_faults, field_number}

pub field-rises : (limits : Limits) (s : List ℕ) (at : ℕ) (st : State) → rises (field_faults limits s at st) ≡ true
unfolding field_faults tag_faults header_faults block_faults label_faults row_faults end_faults
field-rises limits s at st = by-tag (λ (l : List Fault). rises l ≡ true) (get_or s at 0) _ _ _ _ _ _ refl refl refl refl refl refl

-- "with the lowest number that holds for it"
pub field-lowest : (limits : Limits) (s : List ℕ) (at : ℕ) (st : State) → AtMost (field_number limits s at st) (field_faults limits s at st)
unfolding field_number
field-lowest limits s at st = least-of-rising (field_faults limits s at st) (field-rises limits s at st)
