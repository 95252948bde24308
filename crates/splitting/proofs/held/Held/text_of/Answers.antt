-- A cell that is held lies within the text. Assumes nothing.
use Rattle.std.proofs.Common.{length, arith}
use Rattle.splitting.proofs.Spans.{lies}
use Rattle.splitting.proofs.held.Held.text_of.Goals as goal

pub overflow_add-result : goal.overflow_add-result
overflow_add-result c = let held = c.args.self.now in omega (arith, lies held.spans (length held.text.now) c.args.j (held.inside c.args.j))

pub slice_bounds-result-end : goal.slice_bounds-result-end
slice_bounds-result-end c = let held = c.args.self.now in omega (arith, lies held.spans (length held.text.now) c.args.j (held.inside c.args.j))
