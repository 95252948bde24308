use Rattle.std.proofs.Common.{◌≡◌, ◌+◌, ◌-◌, length}
use lib.Seq.{sets}
use Rattle.writing.specs.Walked.{numbers_text, numbers_end}
use Rattle.writing.proofs.numbers.put_numbers.Given as goal

abbrev pub invariant-loop-j : goal.invariant-loop-j
invariant-loop-j l = (l.behind + length (numbers_text l.inputs l.bytes (l.count - l.j) l.j l.place) ≡ l.to + length (numbers_text l.inputs l.bytes l.count 0 l.at))
    × (numbers_end l.inputs (l.count - l.j) l.j l.place ≡ numbers_end l.inputs l.count 0 l.at)
    × (sets l.text l.behind (numbers_text l.inputs l.bytes (l.count - l.j) l.j l.place) ≡ sets l.initial.text l.to (numbers_text l.inputs l.bytes l.count 0 l.at))
