-- The shape of a row: whether tag and kind are known; the field's tag; how many connectors and parameters it has; whether a label may follow.
use Rattle.std.specs.Prelude.{ℕ, Bool, true, false, Option, Some, None}
use Rattle.rows.specs.declared.shape.Shape.{Shape as Known}

pub record Shape : Type 0 where
  pub known : Bool
  pub tag : ℕ
  pub inputs : ℕ
  pub parameters : ℕ
  pub labelled : Bool

-- the code has a shape for a known tag and kind alone
abbrev pub known_shape : Known → Shape
known_shape s = record { known = true; tag = s.tag; inputs = s.inputs; parameters = s.parameters; labelled = s.labelled }

abbrev pub shape_said : Option Known → Shape
shape_said (Some s) = known_shape s
shape_said None = record { known = false; tag = 0; inputs = 0; parameters = 0; labelled = false }
