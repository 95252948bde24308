-- The cell's bytes, between quotes where one of them wants them. Assumes nothing.
use Rattle.std.proofs.Common.{sym, ◌∙◌, arith, length-set}
use Rattle.writing.proofs.Cell.{quoted_length, plain_double, put_quoted}
use Rattle.writing.proofs.label.put_cell.Goals as goal

pub put_double-requires : goal.put_double-requires
put_double-requires c = rw (plain_double _ (sym c.any_special.ensures ∙ c.if-not-any_special.true)) at c.requires

pub returns-then-not-any_special : goal.returns-then-not-any_special
returns-then-not-any_special c = rw (plain_double _ (sym c.any_special.ensures ∙ c.if-not-any_special.true)) c.put_double.ensures

pub bounds-text-to : goal.bounds-text-to
bounds-text-to c = omega (arith, quoted_length _ (sym c.any_special.ensures ∙ c.if-not-any_special.false), c.requires)

pub put_double-close-requires : goal.put_double-close-requires
put_double-close-requires c =
    simp length-set (omega (arith, quoted_length _ (sym c.any_special.ensures ∙ c.if-not-any_special.false), c.requires))

pub bounds-text-close : goal.bounds-text-close
bounds-text-close c =
    omega (arith, quoted_length _ (sym c.any_special.ensures ∙ c.if-not-any_special.false), c.requires, c.put_double-close.ensures.0, simp length-set at c.put_double-close.auto.text)

pub overflow_add-result : goal.overflow_add-result
overflow_add-result c =
    omega (arith, quoted_length _ (sym c.any_special.ensures ∙ c.if-not-any_special.false), c.requires, c.put_double-close.ensures.0, c.well_formed)

pub returns : goal.returns
returns c = put_quoted _ _ _ _ _ (sym c.any_special.ensures ∙ c.if-not-any_special.false) c.put_double-close.ensures
