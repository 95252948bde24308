-- `lines::input_at` meets its contract: connectors stand one behind the other, three bytes each. Assumes nothing.
use mathlib.Core.Path.{sym}
use Rattle.lines.proofs.Laws.{connector-in, connector-out}
use Rattle.lines.proofs.input_at.Goals as goal

pub returns-then-j-count : goal.returns-then-j-count
returns-then-j-count c =
    let a = c.args in
    rw (connector-in a.bytes.now a.count a.from a.j c.if-j-count.true, c.two_at.ensures.0)

pub returns-else-j-count : goal.returns-else-j-count
returns-else-j-count c = let a = c.args in sym (connector-out a.bytes.now a.count a.from a.j c.if-j-count.false)
