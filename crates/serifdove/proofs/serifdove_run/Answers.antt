-- `serifdove::serifdove_run` meets its contract: c goes over as it came. Assumes nothing.
use Rattle.serifdove.proofs.serifdove_run.Goals as goal

pub returns : goal.returns
returns c = c.run.ensures
