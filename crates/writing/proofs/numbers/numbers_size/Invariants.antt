use Rattle.std.proofs.Common.{◌≡◌, ◌+◌, ◌-◌, ◌*◌, ◌≤◌, length}
use Rattle.writing.specs.Walked.{numbers_text, numbers_end}
use Rattle.writing.proofs.numbers.numbers_size.Given as goal

abbrev pub invariant-loop-j : goal.invariant-loop-j
invariant-loop-j l = (l.size ≤ 12 * l.j)
    × (l.size + length (numbers_text l.inputs l.bytes (l.count - l.j) l.j l.place) ≡ length (numbers_text l.inputs l.bytes l.count 0 l.at))
    × (numbers_end l.inputs (l.count - l.j) l.j l.place ≡ numbers_end l.inputs l.count 0 l.at)
