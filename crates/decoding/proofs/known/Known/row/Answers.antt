-- `Known::row` meets its contract: a row without a fault stands right behind the last one, and its destination has a mark of its own.
-- Assumes nothing.
use Rattle.std.proofs.Common.{rules}
use mathlib.Core.Path.{sym, ◌∙◌, ap}
use Rattle.refusals.specs.Refusals.{number_in}
use Rattle.decoding.specs.Held.{seen}
use Rattle.decoding.proofs.Steps.{row_same, row-taken, passes-on}
use Rattle.decoding.proofs.known.Known.row.Goals as goal

pub returns-in_err-mark-clause-takes : goal.returns-in_err-mark-clause-takes
returns-in_err-mark-clause-takes c =
    let f = c.args.field.now in
    let r = c.reach-reach.ensures in
    let number = rw (r.limits, r.n, r.blocks, r.sorts) at c.judge_row.ensures.number in
    λ st h. passes-on c.in_err-mark.was (search rules) (number ∙ row_same c.args.limits.now f.bytes.now f.at f.size (seen c.args.self.now) st h)

pub returns-clause-takes : goal.returns-clause-takes
returns-clause-takes c =
    let f = c.args.field.now in
    let r = c.reach-reach.ensures in
    let number = rw (r.limits, r.n, r.blocks, r.sorts) at c.judge_row.ensures.number in
    λ st h.
    row-taken c.args.limits.now f.bytes.now f.at f.size f.inside (seen c.args.self.now) c.requires.0 st h c.requires.1 c.requires.2 _ c.in_ok-mark.ensures.mark.0
    (sym (ap number_in c.in_ok-mark.was) ∙ number)
