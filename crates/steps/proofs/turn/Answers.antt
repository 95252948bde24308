-- `steps::turn` meets its contract: as many steps as asked or as remain, then the blocks done. Assumes nothing.
use Prim.Native.Nat.{◌+◌, ◌<◌}
use mir.Syntax.{w32}
use Rattle.std.proofs.lemmas.Int.{to_z_pos}
use native.Mathlib.Omega.{arith}
use mathlib.Core.Path.{◌∙◌, ap}
use mathlib.Core.List.{List}
use lib.IntN.{ℤ, pos}
use Rattle.record.specs.Places.{done, put}
use Rattle.steps.specs.Steps.{turned}
use Rattle.record.proofs.Split.{lines-length}
use Rattle.steps.proofs.Running.{done-within}
use Rattle.steps.proofs.turn.Goals as goal

pub overflow_sub-left : goal.overflow_sub-left
overflow_sub-left c =
    let plan = c.args.plan.now in
    omega (arith, c.done_of-d.ensures.0, done-within plan.bytes.now plan.n plan.offsets.now c.args.rec.now c.requires)

pub steps_from-requires : goal.steps_from-requires
steps_from-requires c =
    let plan = c.args.plan.now in
    let fewer = done-within plan.bytes.now plan.n plan.offsets.now c.args.rec.now c.requires in
    (c.requires, omega (arith, c.done_of-d.ensures.0, fewer))

pub returns : goal.returns
unfolding turned
returns c =
    let plan = c.args.plan.now in
    let n = lines-length plan.bytes.now plan.n plan.offsets.now plan.stand in
    let d = c.done_of-d.ensures.0 in
    let m = rw (d, ← n) at c.min-worked.ensures in
    let fewer = done-within plan.bytes.now plan.n plan.offsets.now c.args.rec.now c.requires in
    let few : c.done_of-d.result + c.min-worked.result < 2147483648 = omega (arith, plan.stand.few, d, fewer) in
    let put_is = rw (to_z_pos w32 _ few) at c.put.ensures in
    (m, rw (n, ← d), rw (← m, ← d) (put_is ∙ ap (λ (l : List ℤ). put l done (pos (c.done_of-d.result + c.min-worked.result))) c.steps_from.ensures))
