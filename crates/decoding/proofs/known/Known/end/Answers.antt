-- `Known::end` meets its contract: nothing is added. Assumes nothing.
use mathlib.Core.Path.{sym, ◌∙◌, ap}
use Rattle.refusals.specs.Refusals.{number_in}
use Rattle.decoding.specs.Held.{seen}
use Rattle.decoding.proofs.Steps.{end-taken}
use Rattle.decoding.proofs.known.Known.end.Goals as goal

pub returns-clause-takes : goal.returns-clause-takes
returns-clause-takes c =
    let f = c.args.field.now in
    λ limits s st h.
    end-taken limits s f.at f.size (seen c.args.self.now) c.requires.0 st h c.requires.1
    (sym (ap number_in c.in_ok-judge_end.was) ∙ c.judge_end.ensures)
