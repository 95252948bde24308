use Rattle.std.proofs.Common.{◌≡◌, ℕ, List, ◌+◌, ◌*◌, ◌≤◌, length, drop}
use Rattle.rows.specs.Columns.{widths, numbers_fit}
use Rattle.splitting.specs.Found.{SaysOf}
use Rattle.splitting.proofs.held.Held.numbers_fit.Given as goal

abbrev pub invariant-loop-j : goal.invariant-loop-j
invariant-loop-j l =
    (cells : List (List ℕ)) → SaysOf l.self.text.now l.self.spans cells → 3 + 2 * l.shape.inputs + l.shape.parameters ≤ length cells
    → numbers_fit (drop l.j (widths l.shape.inputs l.shape.parameters)) (drop (l.j + 1) cells)
    ≡ numbers_fit (widths l.shape.inputs l.shape.parameters) (drop 1 cells)
