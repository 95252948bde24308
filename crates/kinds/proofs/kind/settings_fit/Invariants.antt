use Rattle.std.proofs.Common.{◌≡◌, true}
use Rattle.kinds.specs.Kinds.{settings_fit}
use Rattle.kinds.proofs.kind.settings_fit.Given as goal

abbrev pub invariant-loop-j : goal.invariant-loop-j
invariant-loop-j l = settings_fit l.j l.params ≡ true
