use mathlib.Core.Path.{◌≡◌}
use mathlib.Core.List.{map}
use lib.ListN.{drop}
use Rattle.calls.specs.Play.{moment, play}
use Rattle.player.specs.Numbers.{order_call}
use Rattle.player.proofs.play_each.Given as goal

abbrev pub invariant-loop-order : goal.invariant-loop-order
invariant-loop-order l =
    (play l.circuit (map (order_call l.inputs) (drop l.order-index l.orders)) (moment l.rec l.outs)).last
    ≡ (play l.circuit (map (order_call l.inputs) l.orders) (moment l.initial.rec l.initial.outs)).last
