-- `player::publish_first` meets its contract: publish writes the words that it is lent, and those behind them stay. Assumes nothing.
use Rattle.player.proofs.Made.{makes_publish}
use Rattle.player.proofs.publish_first.Goals as goal

pub returns : goal.returns
returns c =
    let a = c.args in
    makes_publish a.circuit.now a.rec.now a.outs.now a.k _ c.min-n.ensures c.publish.ensures.0 c.publish.ensures.1 c.publish.ensures.2
