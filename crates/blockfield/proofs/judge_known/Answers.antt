-- `blockfield::judge_known` meets its contract: 6 and 7 of the inputs come first, then 8; a kind without parameters allows none.
-- Assumes nothing.
use mathlib.Core.Path.{◌≡◌, sym, ◌∙◌, ap}
use native.Mathlib.Omega.{arith}
use Prim.Native.Nat.{◌+◌}
use Rattle.std.proofs.lemmas.Grind.{common_steps}
use Rattle.kinds.specs.Codes.{byte_of}
use Rattle.kinds.specs.Kinds.{kind_of, allowed}
use Rattle.refusals.specs.Refusals.{number_of, number_in}
use Rattle.refusals.proofs.Numbers.{number-above}
use Rattle.blockfield.specs.BlockField.{parameters_at}
use Rattle.blockfield.specs.Marked.{known_faults}
use Rattle.blockfield.proofs.Laws.{wrong_at, later_at, allowed_at, first-six, none_at_all, eight, none_allowed, allowed-four}
use Rattle.blockfield.proofs.judge_known.Goals as goal

pub returns-in_err-judge_inputs : goal.returns-in_err-judge_inputs
unfolding known_faults
returns-in_err-judge_inputs c =
    let a = c.args in
    let k = byte_of a.kind in
    let s = a.reach.now in
    let w = wrong_at s.limits a.bytes.now a.at k (s.blocks + 1) s.n s.sorts.now in
    let l = later_at s.limits a.bytes.now a.at k (s.blocks + 1) s.n s.sorts.now in
    let d = allowed_at s.limits a.bytes.now a.at k (s.blocks + 1) s.n s.sorts.now in
    let e : number_in c.from_residual.result ≡ number_of c.in_err-judge_inputs.field-0.0 = grind (arith, common_steps) in
    e ∙ c.in_err-judge_inputs.ensures ∙ first-six w l d (λ z. let y : number_of c.in_err-judge_inputs.field-0.0 ≡ 0 = c.in_err-judge_inputs.ensures ∙ z in omega (arith, number-above c.in_err-judge_inputs.field-0.0, y))

pub returns-then-parameters-eq0 : goal.returns-then-parameters-eq0
unfolding known_faults
returns-then-parameters-eq0 c =
    let a = c.args in
    let k = byte_of a.kind in
    let s = a.reach.now in
    let w = wrong_at s.limits a.bytes.now a.at k (s.blocks + 1) s.n s.sorts.now in
    let l = later_at s.limits a.bytes.now a.at k (s.blocks + 1) s.n s.sorts.now in
    let d = allowed_at s.limits a.bytes.now a.at k (s.blocks + 1) s.n s.sorts.now in
    none_at_all w l d (sym c.in_ok-judge_inputs.ensures) (none_allowed a.bytes.now a.at k (sym c.parameters.ensures.0 ∙ c.if-parameters-eq0.true))

pub returns-then-not-allows : goal.returns-then-not-allows
unfolding known_faults
returns-then-not-allows c =
    let a = c.args in
    let k = byte_of a.kind in
    let s = a.reach.now in
    let w = wrong_at s.limits a.bytes.now a.at k (s.blocks + 1) s.n s.sorts.now in
    let l = later_at s.limits a.bytes.now a.at k (s.blocks + 1) s.n s.sorts.now in
    let d = allowed_at s.limits a.bytes.now a.at k (s.blocks + 1) s.n s.sorts.now in
    let e = sym (c.allows.ensures ∙ ap (allowed k) c.parameters_at.ensures ∙ allowed-four k (parameters_at a.bytes.now a.at (kind_of k))) ∙ c.if-not-allows.true in
    eight w l d (sym c.in_ok-judge_inputs.ensures) e

pub returns : goal.returns
unfolding known_faults
returns c =
    let a = c.args in
    let k = byte_of a.kind in
    let s = a.reach.now in
    let w = wrong_at s.limits a.bytes.now a.at k (s.blocks + 1) s.n s.sorts.now in
    let l = later_at s.limits a.bytes.now a.at k (s.blocks + 1) s.n s.sorts.now in
    let d = allowed_at s.limits a.bytes.now a.at k (s.blocks + 1) s.n s.sorts.now in
    let e = sym (c.allows.ensures ∙ ap (allowed k) c.parameters_at.ensures ∙ allowed-four k (parameters_at a.bytes.now a.at (kind_of k))) ∙ c.if-not-allows.false in
    none_at_all w l d (sym c.in_ok-judge_inputs.ensures) e
