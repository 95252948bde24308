-- `player::make` meets its contract: each call's own contract says what is left. Assumes nothing.
use mathlib.Core.Path.{refl}
use mir.Syntax.{w32}
use Rattle.std.proofs.lemmas.Int.{to_z-of_z}
use Rattle.calls.specs.Calls.{cold_start, warm_start, run}
use Rattle.player.proofs.Made.{makes, makes-latch}
use Rattle.player.proofs.make.Goals as goal

pub returns-in-ColdStart : goal.returns-in-ColdStart
returns-in-ColdStart c =
    let a = c.args in
    makes a.circuit.now a.rec.now a.outs.now cold_start refl (c.in-ColdStart.ensures a.c a.e a.inputs.now) c.cold_start.ensures.0 c.cold_start.ensures.1

pub returns-in-WarmStart : goal.returns-in-WarmStart
returns-in-WarmStart c =
    let a = c.args in
    makes a.circuit.now a.rec.now a.outs.now warm_start refl (c.in-WarmStart.ensures a.c a.e a.inputs.now) c.warm_start.ensures.0 c.warm_start.ensures.1

pub returns-in-Latch : goal.returns-in-Latch
returns-in-Latch c =
    let a = c.args in
    makes-latch a.circuit.now a.rec.now a.outs.now a.inputs.now (to_z-of_z w32 a.e c.ranges.e) (c.in-Latch.ensures a.c a.e a.inputs.now) c.latch.ensures.0 c.latch.ensures.1

pub returns-in-Run : goal.returns-in-Run
returns-in-Run c =
    let a = c.args in
    makes a.circuit.now a.rec.now a.outs.now (run a.c) refl (c.in-Run.ensures a.c a.e a.inputs.now) c.run.ensures.0 c.run.ensures.1
