-- `player::play_all` meets its contract: the chunks of three are the orders. Assumes nothing.
use mathlib.Core.Path.{refl, ap, ◌∙◌}
use mathlib.Core.List.{List, map}
use Rattle.calls.specs.Play.{AnyCall, moment, play}
use Rattle.player.specs.Numbers.{order_call}
use Rattle.player.proofs.Orders.{whole_orders}
use Rattle.player.proofs.play_all.Goals as goal

pub returns : goal.returns
returns c =
    let a = c.args in
    c.play_each.ensures
    ∙ ap (λ (xs : List AnyCall). (play a.circuit.now xs (moment a.rec.now a.outs.now)).last)
    (ap (map (order_call a.inputs.now)) c.as_chunks.ensures.front ∙ whole_orders a.inputs.now a.orders.now _ refl)
