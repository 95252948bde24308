use mathlib.Core.Path.{◌≡◌}
use mathlib.Core.Bool.{◌||◌}
use Rattle.connectors.specs.Codes.{spot_code}
use Rattle.connectors.specs.Connectors.{wrong, later, any_of, connectors_at}
use Rattle.connectors.proofs.Laws.{any_from}
use Rattle.connectors.proofs.scope.Scope.judge_inputs.Given as goal

abbrev pub invariant-loop-j : goal.invariant-loop-j
invariant-loop-j l =
    (any_from (wrong l.self.limits.now (spot_code l.spot) l.self.own l.self.n l.self.sorts.now) l.bytes l.at l.count l.j ≡ any_of (wrong l.self.limits.now (spot_code l.spot) l.self.own l.self.n l.self.sorts.now) (connectors_at l.bytes l.at l.count))
    × ((l.is_later || any_from (later l.self.own) l.bytes l.at l.count l.j) ≡ any_of (later l.self.own) (connectors_at l.bytes l.at l.count))
