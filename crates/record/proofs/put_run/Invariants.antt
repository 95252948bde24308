use mathlib.Core.Path.{◌≡◌}
use Rattle.record.specs.Places.{at}
use Rattle.record.specs.Written.{put_all}
use Rattle.record.proofs.put_run.Given as goal

abbrev pub invariant-loop-i : goal.invariant-loop-i
invariant-loop-i l = l.rec ≡ put_all l.initial.rec l.a l.i (at l.from)
