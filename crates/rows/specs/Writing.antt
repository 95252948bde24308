-- What `write_rows` answers and leaves, on every byte string and every lent slice. Document 01, "Forms that document 02 leans on": "Writing out".
use Rattle.std.specs.Prelude.{ℕ, ◌+◌, cond, List, [], ◌∷◌, ◌++◌, map, ltb, length}
use Rattle.std.proofs.Math.Option.{Option, none, some}
use Rattle.refusals.specs.Answers.{refused_at, accepted_with}
use Rattle.refusals.specs.declared.Answer.{Answer}
use Rattle.connectors.specs.Connectors.{Connector}
use Rattle.decoding.specs.Decoded.{Block, Row, Circuit}
use Rattle.circuit.specs.Circuit.{Verdict, refused, accepted, verdict}
use Rattle.kept.specs.Keeps.{joined}
use Rattle.digits.specs.Numbers.{decimal, signed_decimal}
use Rattle.cells.specs.Cells.{write_cell}
use Rattle.rows.specs.Reading.{laid_over}

-- ---- the cells of a row

-- class and number
unfoldable pub connector_cells : List Connector → List (List ℕ)
connector_cells [] = []
connector_cells (c ∷ l) = decimal c.class ∷ decimal c.number ∷ connector_cells l

-- "1 and its label, or 0 and an empty cell"
unfoldable pub label_cells : Option (List ℕ) → List (List ℕ)
label_cells none = decimal 0 ∷ [] ∷ []
label_cells (some x) = decimal 1 ∷ x ∷ []

-- tag, kind, options, connectors, parameters, label
unfoldable pub block_cells : Block → List (List ℕ)
block_cells b =
    decimal 0x10
    ∷ decimal b.kind
    ∷ decimal b.option
    ∷ (connector_cells b.inputs ++ (map signed_decimal b.parameters ++ label_cells b.label))

-- tag, class and number of the destination, connector
unfoldable pub row_cells : Row → List (List ℕ)
row_cells r = decimal 0x30 ∷ decimal r.class ∷ decimal r.number ∷ connector_cells (r.from ∷ [])

-- ---- the text

-- cells parted by commas; "each row ends in CRLF"
unfoldable pub written : List (List ℕ) → List ℕ
written [] = 13 ∷ 10 ∷ []
written (c ∷ []) = write_cell c ++ (13 ∷ 10 ∷ [])
written (c ∷ d ∷ l) = write_cell c ++ (44 ∷ written (d ∷ l))

abbrev pub block_text : Block → List ℕ
block_text b = written (block_cells b)

abbrev pub row_text : Row → List ℕ
row_text r = written (row_cells r)

-- one row a block or row, in their order
unfoldable pub text_of : Circuit → List ℕ
text_of c = joined block_text c.blocks ++ joined row_text c.rows

-- ---- the call

-- "this paper's refusals, then 33"; accepted: bytes and rows written
unfoldable pub answer_for : Verdict → ℕ → Answer
answer_for (refused number place) room = refused_at number place
answer_for (accepted c) room =
    cond (ltb room (length (text_of c))) (refused_at 33 0)
    (accepted_with (length (text_of c)) (length c.blocks + length c.rows))

unfoldable pub write_answer : List ℕ → ℕ → Answer
write_answer circuit room = answer_for (verdict circuit) room

-- the lent text afterwards: untouched where it is refused, else the rows, and bytes behind stay
unfoldable pub text_for : Verdict → List ℕ → List ℕ
text_for (refused number place) lent = lent
text_for (accepted c) lent = cond (ltb (length lent) (length (text_of c))) lent (laid_over (text_of c) lent)

unfoldable pub text_after : List ℕ → List ℕ → List ℕ
text_after circuit lent = text_for (verdict circuit) lent
