-- A cell more that lies within the text. Assumes nothing.
use Rattle.std.proofs.Common.{arith, length-set, ◌∙◌}
use borrow.Author.Tests.{lt-ltb}
use Rattle.splitting.proofs.Spans.{starts_set, sizes_set, lies_set}
use Rattle.splitting.proofs.held.Held.hold.Goals as goal

pub invariant_of-self : goal.invariant_of-self
invariant_of-self c =
    let held = c.args.self.now in record {
      long = length-set held.spans c.args.k _ ∙ held.long;
      inside = lies_set held.spans c.args.k _ _ (omega arith) c.requires held.inside;
    }

pub returns-then-k-lt-HELD-clause-starts : goal.returns-then-k-lt-HELD-clause-starts
returns-then-k-lt-HELD-clause-starts c = rw (lt-ltb _ _ c.if-k-lt-HELD.true) (starts_set c.args.self.now.spans c.args.k _)

pub returns-then-k-lt-HELD-clause-sizes : goal.returns-then-k-lt-HELD-clause-sizes
returns-then-k-lt-HELD-clause-sizes c = rw (lt-ltb _ _ c.if-k-lt-HELD.true) (sizes_set c.args.self.now.spans c.args.k _)
