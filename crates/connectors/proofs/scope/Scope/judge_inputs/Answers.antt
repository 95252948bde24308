-- `connectors::Scope::judge_inputs` meets its contract: what is left gives the answer, one connector after the other. Assumes nothing.
use mathlib.Core.Path.{sym, ap, ◌∙◌, refl}
use mathlib.Core.Bool.{Bool, cond, false}
use native.Mathlib.Omega.{arith}
use Rattle.refusals.specs.Refusals.{number_of}
use Rattle.connectors.specs.Codes.{spot_code}
use Rattle.connectors.specs.Connectors.{wrong, later}
use Rattle.connectors.proofs.Laws.{or_false, one-more, from-none, carried-true, carried-false, seven-told, none-told}
use Rattle.connectors.proofs.scope.Scope.judge_inputs.Goals.{in-Err+in-OwnOrLaterBlock, in_default}
use Rattle.connectors.proofs.scope.Scope.judge_inputs.Goals as goal

pub loop-j-preserved : goal.loop-j-preserved
loop-j-preserved c =
    let a = c.args in
    let s = a.self.now in
    let f = wrong s.limits.now (spot_code a.spot) s.own s.n s.sorts.now in
    let g = later s.own in
    let wrong_left = one-more f a.bytes.now a.at a.count c.loop-j.j c.loop-j-test.true in
    let later_left = one-more g a.bytes.now a.at a.count c.loop-j.j c.loop-j-test.true in
    elim c.match-judge.branch [
      | in-Err+in-OwnOrLaterBlock w ↦
          let t = seven-told _ _ (ap number_of (sym w.in-OwnOrLaterBlock.is) ∙ w.in-Err.ensures) in
          (carried-false false false _ _ _ _ wrong_left c.loop-j.invariant.0 t.0 refl, carried-true c.loop-j.is_later _ _ _ _ _ later_left c.loop-j.invariant.1 t.1 w.is_later-is)
      | in_default w ↦
          let t = none-told _ _ w.in_default.ensures in
          (carried-false false false _ _ _ _ wrong_left c.loop-j.invariant.0 t.0 refl, carried-false c.loop-j.is_later _ _ _ _ _ later_left c.loop-j.invariant.1 t.1 w.is_later-is)
    ]

pub returns-clause-number : goal.returns-clause-number
returns-clause-number c =
    let a = c.args in
    let s = a.self.now in
    let f = wrong s.limits.now (spot_code a.spot) s.own s.n s.sorts.now in
    ap (λ (x : Bool). cond x 6 0) (sym (from-none f a.bytes.now a.at a.count c.loop-j.j (omega arith)) ∙ c.loop-j.invariant.0)

pub returns-clause-later : goal.returns-clause-later
returns-clause-later c =
    let a = c.args in
    let s = a.self.now in
    let none = from-none (later s.own) a.bytes.now a.at a.count c.loop-j.j (omega arith) in
    let all = rw none at c.loop-j.invariant.1 in
    sym (or_false c.loop-j.is_later) ∙ all
