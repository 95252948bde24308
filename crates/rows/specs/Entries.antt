-- A block or row of a circuit by the numbers of its field, so that reader and writer go through both alike.
-- Not part of what a reader has to believe.
use Rattle.std.specs.Prelude.{ℕ, ◌≡◌, true, cond, List, [], ◌∷◌, ◌++◌, map, get_or, ℤ, pos}
use Rattle.std.proofs.Math.Option.{Option, none}
use Rattle.words.specs.Signed.{minus, Between}
use Rattle.kinds.specs.Kinds.{known}
use Rattle.connectors.specs.Connectors.{Connector}
use Rattle.decoding.specs.Decoded.{Block, Row, Circuit}
use Rattle.kept.specs.Keeps.{Match, Labelled, field, label_bytes}
use Rattle.digits.specs.Numbers.{decimal, signed_decimal}
use Rattle.rows.specs.Shape.{Shape}
use Rattle.rows.specs.Columns.{below_of, above_of, packed, widths_of, block_shape, output_shape}
use Rattle.rows.specs.Writing.{label_cells, written}

pub record Entry : Type 0 where
  pub shape : Shape
  -- the numbers behind the tag
  pub numbers : List ℤ
  pub label : Option (List ℕ)

-- ---- its bytes

unfoldable pub packed_all : List ℕ → List ℤ → List ℕ
packed_all [] vs = []
packed_all (w ∷ ws) [] = []
packed_all (w ∷ ws) (v ∷ vs) = packed w v ++ packed_all ws vs

unfoldable pub entry_bytes : Entry → List ℕ
entry_bytes e =
    field e.shape.tag (packed_all (widths_of e.shape) e.numbers)
    ++ cond e.shape.labelled (label_bytes e.label) []

-- ---- its cells

unfoldable pub entry_cells : Entry → List (List ℕ)
entry_cells e =
    decimal e.shape.tag
    ∷ (map signed_decimal e.numbers ++ cond e.shape.labelled (label_cells e.label) [])

abbrev pub entry_text : Entry → List ℕ
entry_text e = written (entry_cells e)

-- ---- what is known of it

-- a number goes into so many bytes
abbrev pub FitsIn : ℕ → ℤ → Type 0
FitsIn width v = Between (minus (below_of width)) (pos (above_of width)) v

-- its shape is that of a known kind, which is its first number, or an output row's
pub data Shaped (e : Entry) : Type 0 where
  block : (kind : ℕ) → known kind ≡ true → e.shape ≡ block_shape kind → get_or e.numbers 0 (pos 0) ≡ pos kind → Shaped e
  output : e.shape ≡ output_shape → Shaped e

pub record Fine (e : Entry) : Type 0 where
  pub shaped : Shaped e
  pub fit : Match FitsIn (widths_of e.shape) e.numbers
  pub label : Labelled e.label

-- ---- the entries of a circuit

unfoldable pub connector_numbers : List Connector → List ℤ
connector_numbers [] = []
connector_numbers (c ∷ l) = pos c.class ∷ pos c.number ∷ connector_numbers l

unfoldable pub block_entry : Block → Entry
block_entry b =
    record {
      shape = block_shape b.kind;
      numbers = pos b.kind ∷ pos b.option ∷ (connector_numbers b.inputs ++ b.parameters);
      label = b.label;
    }

unfoldable pub row_entry : Row → Entry
row_entry r =
    record {
      shape = output_shape;
      numbers = pos r.class ∷ pos r.number ∷ connector_numbers (r.from ∷ []);
      label = none;
    }

unfoldable pub entries_of : Circuit → List Entry
entries_of c = map block_entry c.blocks ++ map row_entry c.rows
