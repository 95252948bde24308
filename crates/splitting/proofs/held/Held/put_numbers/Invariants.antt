use Rattle.std.proofs.Common.{◌≡◌, ℕ, List, ◌+◌, ◌*◌, ◌≤◌, length, drop}
use lib.Seq.{sets}
use Rattle.rows.specs.Columns.{widths, numbers_bytes}
use Rattle.rows.proofs.Widths.{total}
use Rattle.splitting.specs.Found.{SaysOf}
use Rattle.splitting.proofs.held.Held.put_numbers.Given as goal

abbrev pub invariant-loop-j : goal.invariant-loop-j
invariant-loop-j l =
    (l.place + total (drop l.j (widths l.shape.inputs l.shape.parameters)) ≡ l.to + total (widths l.shape.inputs l.shape.parameters))
    × ((cells : List (List ℕ)) → SaysOf l.self.text.now l.self.spans cells → 3 + 2 * l.shape.inputs + l.shape.parameters ≤ length cells
    → sets l.circuit l.place (numbers_bytes (drop l.j (widths l.shape.inputs l.shape.parameters)) (drop (l.j + 1) cells))
    ≡ sets l.initial.circuit l.to (numbers_bytes (widths l.shape.inputs l.shape.parameters) (drop 1 cells)))
