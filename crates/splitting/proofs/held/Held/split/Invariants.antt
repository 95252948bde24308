use Rattle.std.proofs.Common.{◌≡◌, ◌+◌, ◌-◌, length}
use Rattle.splitting.specs.Spans.{starts_of, sizes_of}
use Rattle.splitting.proofs.Walk.{Walked}
use Rattle.splitting.proofs.held.Held.split.Given as goal

abbrev pub invariant-loop-cursor : goal.invariant-loop-cursor
invariant-loop-cursor l =
    (l.self.text ≡ l.initial.self.text) × Walked l.initial.self.text.now l.at (starts_of l.self.spans) (sizes_of l.self.spans) l.count l.cursor

abbrev pub decreases-loop-cursor : goal.decreases-loop-cursor
decreases-loop-cursor l = length l.initial.self.text.now + 1 - l.cursor
