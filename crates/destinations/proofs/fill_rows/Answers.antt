-- `destinations::fill_rows` meets its contract: the slots hold the rows from this one on. Assumes nothing.
use Prim.Native.Nat.{◌-◌}
use native.Mathlib.Omega.{arith}
use mathlib.Core.Path.{sym, ◌∙◌}
use Rattle.destinations.proofs.Filled.{filled_none, filled_more, row_fine}
use Rattle.destinations.proofs.fill_rows.Goals as goal

pub loop-row-init : goal.loop-row-init
loop-row-init c =
    let a = c.args in
    c.requires.1 ∙ sym (filled_none a.bytes.now a.start a.count a.rec.now)

pub fill_row-requires : goal.fill_row-requires
fill_row-requires c =
    let a = c.args in
    let rows = c.requires.0 in
    let there = rows.there in
    (omega arith, row_fine a.bytes.now a.start a.count rows (c.loop-row.row - 1) (omega arith))

pub loop-row-preserved : goal.loop-row-preserved
loop-row-preserved c =
    let a = c.args in
    rw (filled_more a.bytes.now a.start a.count a.rec.now c.loop-row.row (omega arith) (omega arith), ← c.loop-row.invariant) c.fill_row.ensures
