-- A quote behind the text closes it. Assumes nothing.
use Rattle.std.proofs.Common.{◌+◌, ◌∙◌, arith}
use Rattle.cells.proofs.Laws.{rest_from, closed_yes, closed_other, closed_none}
use Rattle.cells.proofs.quoted_cell.Goals as goal

pub returns-in-34 : goal.returns-in-34
returns-in-34 c =
    λ text is.
    c.finished.ensures text (rest_from text _ (c.args.start + c.quoted_size-size.result) 1 (rest_from text _ c.args.start c.quoted_size-size.result is))
    ∙ closed_yes text _ _ _ is c.quoted_size-size.ensures.0 (omega arith) (omega arith)

pub returns-in_default : goal.returns-in_default
returns-in_default c = λ text is. closed_none text _ _ _ is c.quoted_size-size.ensures.0 (omega arith)

pub returns-in_default-2 : goal.returns-in_default-2
returns-in_default-2 c = λ text is. closed_other text _ _ _ is c.quoted_size-size.ensures.0 (λ q. omega arith)
