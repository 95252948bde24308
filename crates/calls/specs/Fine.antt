-- What the calls count on, of the plan of an accepted circuit. Not part of what a reader has to believe.
use Rattle.decoding.specs.Decoded.{Row}
use Rattle.kept.specs.Keeps.{All}
use Rattle.steps.specs.Wired.{Wired, AllFine}
use Rattle.destinations.specs.Slots.{Aimed}
use Rattle.calls.specs.Calls.{Plan}

-- a row to a destination that there is, whose connector reads a place that there is
pub record RowFine (r : Row) : Type 0 where
  pub aimed : Aimed r.class r.number
  pub wired : Wired r.from

-- each line and each row
pub record FinePlan (p : Plan) : Type 0 where
  pub lines : AllFine p.lines
  pub rows : All RowFine p.rows
