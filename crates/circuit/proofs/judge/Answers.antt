-- `judge` meets its contract: the loop holds what `Reached` says; a field without a fault brings it nearer to the end of the bytes.
-- Assumes nothing.
use Rattle.std.proofs.Common.{◌≡◌, sym, ap, ◌∙◌, rules, arith}
use Rattle.decoding.specs.Held.{seen}
use Rattle.refusals.specs.Refusals.{number_of, number_in}
use Rattle.refusals.specs.Stages.{ended, stage_of}
use Rattle.refusals.specs.declared.Refused.{Refused}
use Rattle.circuit.proofs.Walk.{begins, goes_on, says-refused, says-surplus, says-ok, accepts-all}
use Rattle.circuit.proofs.judge.Goals as goal

pub loop-limits-init : goal.loop-limits-init
loop-limits-init c = record { same = c.new-fields.ensures.0; reached = begins _ _ _ c.begin.new.self c.requires c.new-fields.ensures.1 c.begin.ensures }

pub returns-in-Err : goal.returns-in-Err
returns-in-Err c =
    let i = c.loop-limits.invariant in
    let going : stage_of c.loop-limits.known.stage ≡ ended → ⊥ = search rules in
    let at : c.at.result.place ≡ c.loop-limits.fields.at = ap (λ (x : Refused). x.place) c.at.ensures ∙ c.place-place.ensures in
    says-refused _ _ _ _ i.reached _ going _ i.same c.take_next.ensures.answers _ _ at (ap number_in c.in-Err.is ∙ ap (λ (x : Refused). number_of x.refusal) (sym c.at.ensures))

pub loop-limits-preserved : goal.loop-limits-preserved
loop-limits-preserved c =
    let i = c.loop-limits.invariant in
    let going : stage_of c.loop-limits.known.stage ≡ ended → ⊥ = search rules in
    record { same = c.take_next.ensures.same ∙ i.same; reached = goes_on _ _ _ _ i.reached _ going _ i.same c.take_next.ensures.answers (ap number_in c.in_default.is) }

pub returns-then-place-circuit : goal.returns-then-place-circuit
returns-then-place-circuit c =
    let there : stage_of c.loop-limits.known.stage ≡ ended = search rules in
    says-surplus _ _ _ (seen c.loop-limits.known) c.loop-limits.invariant.reached there (omega arith) _ _ (search rules)

pub returns : goal.returns
returns c =
    let there : stage_of c.loop-limits.known.stage ≡ ended = search rules in
    says-ok _ _ _ (accepts-all _ _ _ (seen c.loop-limits.known) c.loop-limits.invariant.reached there (omega arith))
