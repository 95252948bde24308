-- `Known::header` meets its contract: a header without a fault comes first, so nothing is held yet. Assumes nothing.
use mathlib.Core.Path.{sym, ◌∙◌, ap}
use Rattle.refusals.specs.Refusals.{number_in}
use Rattle.decoding.specs.Held.{seen}
use Rattle.decoding.proofs.Steps.{header-taken}
use Rattle.decoding.proofs.known.Known.header.Goals as goal

pub returns-clause-takes : goal.returns-clause-takes
returns-clause-takes c =
    let f = c.args.field.now in
    λ st h.
    header-taken c.args.limits.now f.bytes.now f.at f.size f.inside (seen c.args.self.now) c.requires.0 st h c.requires.1 _ _ c.in_ok-self.ensures.n c.end-self.ensures
    (sym (ap number_in c.in_ok-self.was) ∙ c.judge_header.ensures.number)
