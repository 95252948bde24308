-- `blockfield::judge_inputs` meets its contract: what holds for the digital or the analog inputs holds for the block. Assumes nothing.
use mathlib.Core.Path.{◌≡◌, ◌∙◌}
use native.Mathlib.Omega.{arith}
use Prim.Native.Nat.{◌+◌}
use Rattle.std.proofs.lemmas.Grind.{common_steps}
use Rattle.kinds.specs.Codes.{byte_of}
use Rattle.kinds.specs.Kinds.{kind_of}
use Rattle.refusals.specs.Refusals.{number_of, number_in}
use Rattle.blockfield.proofs.Laws.{refused-digital, refused-analog, seven-or-none}
use Rattle.blockfield.proofs.judge_inputs.Goals as goal

pub returns-in_err-of_digitals : goal.returns-in_err-of_digitals
returns-in_err-of_digitals c =
    let e : number_in c.from_residual.result ≡ number_of c.in_err-of_digitals.field-0.0 = grind (arith, common_steps) in
    e ∙ refused-digital c.args.reach.now.limits (c.args.reach.now.blocks + 1) c.args.reach.now.n c.args.reach.now.sorts.now c.args.bytes.now c.args.at (kind_of (byte_of c.args.kind)) _ _ c.digital_inputs-d.ensures.0 c.analog_inputs-a.ensures.0 _ c.in_err-of_digitals.ensures.number

pub returns-in_err-of_analogs : goal.returns-in_err-of_analogs
returns-in_err-of_analogs c =
    let e : number_in c.from_residual-in_err-of_analogs.result ≡ number_of c.in_err-of_analogs.field-0.0 = grind (arith, common_steps) in
    e ∙ refused-analog c.args.reach.now.limits (c.args.reach.now.blocks + 1) c.args.reach.now.n c.args.reach.now.sorts.now c.args.bytes.now c.args.at (kind_of (byte_of c.args.kind)) _ _ c.digital_inputs-d.ensures.0 c.analog_inputs-a.ensures.0 _ c.in_ok-of_digitals.ensures.number c.in_err-of_analogs.ensures.number

pub returns-then-of_digitals-of_analogs : goal.returns-then-of_digitals-of_analogs
returns-then-of_digitals-of_analogs c =
    seven-or-none c.args.reach.now.limits (c.args.reach.now.blocks + 1) c.args.reach.now.n c.args.reach.now.sorts.now c.args.bytes.now c.args.at (kind_of (byte_of c.args.kind)) _ _ c.digital_inputs-d.ensures.0 c.analog_inputs-a.ensures.0 _ _ _ c.in_ok-of_digitals.ensures.later c.in_ok-of_analogs.ensures.later c.if-of_digitals-of_analogs.true c.in_ok-of_digitals.ensures.number c.in_ok-of_analogs.ensures.number

pub returns : goal.returns
returns c =
    seven-or-none c.args.reach.now.limits (c.args.reach.now.blocks + 1) c.args.reach.now.n c.args.reach.now.sorts.now c.args.bytes.now c.args.at (kind_of (byte_of c.args.kind)) _ _ c.digital_inputs-d.ensures.0 c.analog_inputs-a.ensures.0 _ _ _ c.in_ok-of_digitals.ensures.later c.in_ok-of_analogs.ensures.later c.if-of_digitals-of_analogs.false c.in_ok-of_digitals.ensures.number c.in_ok-of_analogs.ensures.number
