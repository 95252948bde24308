-- `thresholds::comparator` meets its contract: the difference of two actual values fits. Assumes nothing.
use mir.Facts.{to_z-of_z}
use native.Mathlib.Omega.{arith}
use Rattle.rules.specs.Rules.{compared}
use Rattle.thresholds.proofs.Apart.{held_apart}
use Rattle.thresholds.proofs.comparator.Goals as goal

pub returns : goal.returns
unfolding compared
returns c =
    let apart = held_apart _ _ c.actual-x.ensures.1 c.actual-y.ensures.1 in
    grind (arith, to_z-of_z, c.actual-x.ensures.0, c.actual-y.ensures.0, c.triggered_by.ensures)
