-- `serifdove::serifdove_latch` meets its contract: e goes over as it came. Assumes nothing.
use mathlib.Core.Path.{◌∙◌, ap}
use lib.IntN.{ℤ}
use Rattle.words.proofs.Locals.{back}
use Rattle.calls.specs.Calls.{latch, answer_after, record_after}
use Rattle.serifdove.proofs.serifdove_latch.Goals as goal

pub returns : goal.returns
returns c =
    let e = back c.ranges.e in
    let s = c.args.circuit.now in
    let l = c.args.rec.now in
    let r = c.args.inputs.now in (
      c.latch.ensures.0 ∙ ap (λ (z : ℤ). answer_after s (latch r z) l) e,
      c.latch.ensures.1 ∙ ap (λ (z : ℤ). record_after s (latch r z) l) e,
    )
