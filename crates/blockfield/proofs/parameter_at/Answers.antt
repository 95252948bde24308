-- `blockfield::parameter_at` meets its contract: parameters stand one behind the other, four bytes each. Assumes nothing.
use mathlib.Core.Path.{sym, ◌∙◌}
use Rattle.words.proofs.Locals.{back_to}
use Rattle.blockfield.proofs.Laws.{signed-in, signed-out}
use Rattle.blockfield.proofs.parameter_at.Goals as goal

pub returns-then-j-count : goal.returns-then-j-count
returns-then-j-count c =
    let a = c.args in
    back_to _ c.signed_four_at.type_inv (c.signed_four_at.ensures ∙ sym (signed-in a.bytes.now a.count a.from a.j c.if-j-count.true))

pub returns-else-j-count : goal.returns-else-j-count
returns-else-j-count c = let a = c.args in sym (signed-out a.bytes.now a.count a.from a.j c.if-j-count.false)
