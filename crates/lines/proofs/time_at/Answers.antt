-- `lines::time_at` meets its contract: base and T stand first among the parameters. Assumes nothing.
use mathlib.Core.Path.{sym, ◌∙◌}
use native.Mathlib.Omega.{arith}
use Rattle.words.proofs.Locals.{back_to}
use Rattle.lines.proofs.Timed.{not-timed, pair-read}
use Rattle.lines.proofs.time_at.Goals as goal

pub returns-then-times-eq0 : goal.returns-then-times-eq0
returns-then-times-eq0 c = not-timed c.args.bytes.now c.args.at _ c.kind_at-kind.ensures (sym c.times.ensures.0 ∙ c.if-times-eq0.true)

pub signed_four_at-requires : goal.signed_four_at-requires
signed_four_at-requires c =
    let p = pair-read _ _ _ _ _ _ c.kind_at-kind.ensures c.requires c.digital_inputs.ensures.0 c.analog_inputs.ensures.0 c.times.ensures.0 c.if-times-eq0.false in
    omega (arith, p.inside)

pub signed_four_at-requires-2 : goal.signed_four_at-requires-2
signed_four_at-requires-2 c =
    let p = pair-read _ _ _ _ _ _ c.kind_at-kind.ensures c.requires c.digital_inputs.ensures.0 c.analog_inputs.ensures.0 c.times.ensures.0 c.if-times-eq0.false in
    omega (arith, p.inside)

pub new-setting-requires : goal.new-setting-requires
new-setting-requires c =
    let p = pair-read _ _ _ _ _ _ c.kind_at-kind.ensures c.requires c.digital_inputs.ensures.0 c.analog_inputs.ensures.0 c.times.ensures.0 c.if-times-eq0.false in
    let base = back_to _ c.signed_four_at.type_inv c.signed_four_at.ensures in
    let t = back_to _ c.signed_four_at-2.type_inv c.signed_four_at-2.ensures in
    (rw base p.base-is, rw t p.time-is)

pub returns : goal.returns
returns c =
    let p = pair-read _ _ _ _ _ _ c.kind_at-kind.ensures c.requires c.digital_inputs.ensures.0 c.analog_inputs.ensures.0 c.times.ensures.0 c.if-times-eq0.false in
    let base = back_to _ c.signed_four_at.type_inv c.signed_four_at.ensures in
    let t = back_to _ c.signed_four_at-2.type_inv c.signed_four_at-2.ensures in
    rw (← p.ticks-are, ← base, ← t, ← c.new-setting.ensures) c.into.ensures
