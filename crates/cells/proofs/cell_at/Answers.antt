-- A quote at the position begins a quoted cell, anything else a plain one. Assumes nothing.
use Rattle.std.proofs.Common.{◌∙◌, arith}
use borrow.Author.Tests.{ltb-true, ltb-false, eqb-false}
use Rattle.cells.proofs.Laws.{rest_from, quoted_found, plain_found, none_found}
use Rattle.cells.proofs.cell_at.Goals as goal
use Rattle.cells.proofs.cell_at.Goals.{in_default-via-then-rest-lt1, in_default-via-else-rest-lt1+in_default-1}

pub returns-in-34 : goal.returns-in-34
returns-in-34 c =
    let is = c.bytes_from-rest.ensures in
    c.quoted_cell.ensures c.args.text.now (rest_from _ _ c.args.at 1 is) ∙ quoted_found _ _ _ is (omega arith) (omega arith)

pub returns-in_default : goal.returns-in_default
returns-in_default c =
    let is = c.bytes_from-rest.ensures in
    let size = c.plain_size-size in
    c.finished.ensures c.args.text.now (rest_from _ _ c.args.at size.result is)
    ∙ elim c.in_default.branch [
      | in_default-via-then-rest-lt1 w ↦ none_found _ _ _ is _ size.ensures.0 (omega (arith, ltb-true, ltb-false))
      | in_default-via-else-rest-lt1+in_default-1 w ↦ plain_found _ _ _ is _ size.ensures.0 (λ q. omega (arith, eqb-false))
    ]
