use Rattle.std.proofs.Common.{◌≡◌}
use lib.Seq.{sets}
use Rattle.digits.specs.Numbers.{last_digits}
use Rattle.digits.proofs.put_digits.Given as goal

abbrev pub invariant-loop-j : goal.invariant-loop-j
invariant-loop-j l = sets l.t l.at (last_digits l.j l.others) ≡ sets l.initial.t l.at (last_digits l.k l.n)
