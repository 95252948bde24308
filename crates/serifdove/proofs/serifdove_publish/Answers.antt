-- `serifdove::serifdove_publish` meets its contract: record and outputs go over as they came. Assumes nothing.
use Rattle.serifdove.proofs.serifdove_publish.Goals as goal

pub returns : goal.returns
returns c = c.publish.ensures
