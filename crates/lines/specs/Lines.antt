-- The line of a block, ready to be worked out: kind, whether retentive, four connectors, parameters made ready. The lines of a circuit.
use Rattle.std.specs.Prelude.{ℕ, Bool, false, List, [], ◌∷◌, map, eqb, get_or}
use Rattle.kinds.specs.Codes.{byte_of}
use Rattle.connectors.specs.Connectors.{Connector}
use Rattle.blockfield.specs.BlockField.{four_of}
use Rattle.decoding.specs.Decoded.{Block, Circuit}
use Rattle.blocks.specs.Blocks.{prepared}
use Rattle.blocks.specs.declared.Prepared.{Prepared}
use Rattle.lines.specs.declared.Input.{Input}
use Rattle.lines.specs.declared.Line.{Line as Held}

-- kind, retentive or not, class bytes and numbers of four connectors (0 where there is none), parameters made ready
pub record Line : Type 0 where
  pub kind : ℕ
  pub retentive : Bool
  pub classes : List ℕ
  pub numbers : List ℕ
  pub prepared : Prepared

-- "0 unused (number 0)"
abbrev pub unused : Connector
unused = record { class = 0; number = 0 }

-- connector j of a list, from 0; unused where there is none
abbrev pub nth : List Connector → ℕ → Connector
nth l j = get_or l j unused

-- four of them
abbrev pub classes_of : List Connector → List ℕ
classes_of l = (nth l 0).class ∷ (nth l 1).class ∷ (nth l 2).class ∷ (nth l 3).class ∷ []

abbrev pub numbers_of : List Connector → List ℕ
numbers_of l = (nth l 0).number ∷ (nth l 1).number ∷ (nth l 2).number ∷ (nth l 3).number ∷ []

-- the same as the code holds it
abbrev pub input_said : Input → Connector
input_said c = record { class = c.class; number = c.number }

abbrev pub inputs_said : List Input → ℕ → Connector
inputs_said l j = input_said (get_or l j (record { class = 0; number = 0 }))

abbrev pub line_said : Held → Line
line_said l =
    let at = inputs_said l.inputs in
    record {
      kind = byte_of l.kind;
      retentive = l.retentive;
      classes = (at 0).class ∷ (at 1).class ∷ (at 2).class ∷ (at 3).class ∷ [];
      numbers = (at 0).number ∷ (at 1).number ∷ (at 2).number ∷ (at 3).number ∷ [];
      prepared = l.prepared;
    }

-- "Option bit 0 is retentive"
unfoldable pub line_of : Block → Line
line_of b =
    record {
      kind = b.kind;
      retentive = eqb b.option 1;
      classes = classes_of b.inputs;
      numbers = numbers_of b.inputs;
      prepared = prepared b.kind (four_of b.parameters);
    }

-- ---- the lines of a circuit

unfoldable pub lines_of : Circuit → List Line
lines_of c = map line_of c.blocks

-- no block
abbrev pub no_line : Line
no_line = record { kind = 0; retentive = false; classes = classes_of []; numbers = numbers_of []; prepared = prepared 0 [] }

-- the line of block k: "Blocks are numbered 1, 2, .."
abbrev pub line_at : List Line → ℕ → Line
line_at lines k = get_or (no_line ∷ lines) k no_line
