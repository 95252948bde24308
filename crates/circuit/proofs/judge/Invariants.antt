use Prim.Native.Nat.{◌-◌}
use lib.ListN.{length}
use Rattle.std.proofs.Common.{◌≡◌}
use Rattle.decoding.specs.Held.{seen}
use Rattle.circuit.proofs.Walk.{Reached}
use Rattle.circuit.proofs.judge.Given as goal

abbrev pub invariant-loop-limits : goal.invariant-loop-limits
invariant-loop-limits l = record { same : l.fields.bytes.now ≡ l.circuit; reached : Reached l.limits l.circuit l.fields.at (seen l.known) }

abbrev pub decreases-loop-limits : goal.decreases-loop-limits
decreases-loop-limits l = length l.circuit - l.fields.at
