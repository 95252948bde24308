use Rattle.std.proofs.Common.{◌≡◌, ◌+◌, ◌-◌, length}
use Rattle.writing.specs.Walked.{rows_at, Run}
use Rattle.writing.proofs.measure.Given as goal

abbrev pub invariant-loop : goal.invariant-loop
invariant-loop l = Run l.bytes (l.count - l.counter) l.at
    × (l.free + length (rows_at l.bytes l.count 6) ≡ l.room + length (rows_at l.bytes (l.count - l.counter) l.at))
