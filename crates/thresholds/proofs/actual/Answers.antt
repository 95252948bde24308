-- `thresholds::actual` meets its contract: each step fits 32 bits, and what is held is in 16. Assumes nothing.
use lib.IntN.{pos, ◌+ℤ◌, ◌*ℤ◌}
use lib.Signed.{quot_z}
use mir.Syntax.{w32}
use mir.Val.{SFits}
use mir.Facts.{to_z-of_z}
use native.Mathlib.Omega.{arith}
use Rattle.words.proofs.Ranges.{whole}
use Rattle.rules.specs.Rules.{unheld_of, actual_of}
use Rattle.rules.proofs.Actual.{actual-in}
use Rattle.thresholds.proofs.Scale.{quotient-range}
use Rattle.std.proofs.Common.{rules}
use Rattle.thresholds.proofs.actual.Goals as goal

pub returns : goal.returns
unfolding unheld_of actual_of
returns c =
    let a = c.args in
    let product : SFits w32 (a.input *ℤ a.gain) = search (rules, whole) in
    let quotient = quotient-range c.requires in
    let sum : SFits w32 (quot_z (a.input *ℤ a.gain) (pos 100) +ℤ a.offset) = search (rules, whole) in
    let held = actual-in a.input a.gain a.offset in
    grind (arith, to_z-of_z, c.hundredth.ensures, c.held.ensures)
