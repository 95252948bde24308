use Rattle.std.proofs.Common.{◌≡◌, ◌≤◌, drop}
use Rattle.digits.specs.Carried.{size_from}
use Rattle.digits.proofs.size_in.Given as goal

abbrev pub invariant-loop-x : goal.invariant-loop-x
invariant-loop-x l = (l.size ≤ l.limit) × (size_from l.limit l.size (drop l.x-index l.digits) ≡ size_from l.limit 0 l.digits)
