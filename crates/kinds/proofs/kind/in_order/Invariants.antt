use Rattle.std.proofs.Common.{◌≡◌, true}
use Rattle.kinds.specs.Kinds.{in_order}
use Rattle.kinds.proofs.kind.in_order.Given as goal

abbrev pub invariant-loop-j : goal.invariant-loop-j
invariant-loop-j l = in_order l.j l.params ≡ true
