-- `fields::destination::spot_at` meets its contract: the spot of what is no class is the unknown one. Assumes nothing.
use Rattle.fields.proofs.Laws.{spot-of-none}
use Rattle.fields.proofs.destination.spot_at.Goals as goal

pub returns-in-Err : goal.returns-in-Err
returns-in-Err c = spot-of-none c.args.code c.in-Err.ensures.1
