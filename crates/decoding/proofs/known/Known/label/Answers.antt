-- `Known::label` meets its contract: a label changes nothing that is held. Assumes nothing.
use mathlib.Core.Path.{sym, ◌∙◌, ap}
use Rattle.refusals.specs.Refusals.{number_in}
use Rattle.decoding.specs.Held.{seen}
use Rattle.decoding.proofs.Steps.{label-taken}
use Rattle.decoding.proofs.known.Known.label.Goals as goal

pub returns-clause-takes : goal.returns-clause-takes
returns-clause-takes c =
    let f = c.args.field.now in
    λ limits s st h.
    label-taken limits s f.at f.size (seen c.args.self.now) c.requires st h _ c.end-self.ensures
    (sym (ap number_in c.in_ok-judge_label.was) ∙ c.judge_label.ensures)
