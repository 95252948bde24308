use Rattle.std.proofs.Common.{◌≡◌, ◌+◌, ◌-◌, length}
use lib.Seq.{sets}
use Rattle.writing.specs.Walked.{rows_at, Run}
use Rattle.writing.proofs.fill.Given as goal

abbrev pub invariant-loop : goal.invariant-loop
invariant-loop l = Run l.bytes (l.entries - l.counter) l.at
    × (l.to + length (rows_at l.bytes (l.entries - l.counter) l.at) ≡ length (rows_at l.bytes l.entries 6))
    × (sets l.text l.to (rows_at l.bytes (l.entries - l.counter) l.at) ≡ sets l.initial.text 0 (rows_at l.bytes l.entries 6))
