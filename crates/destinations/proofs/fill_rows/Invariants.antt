use mathlib.Core.Path.{◌≡◌}
use Rattle.destinations.proofs.Filled.{filled_from}
use Rattle.destinations.proofs.fill_rows.Given as goal

abbrev pub invariant-loop-row : goal.invariant-loop-row
invariant-loop-row l = l.slots ≡ filled_from l.bytes l.start l.count l.rec l.row
