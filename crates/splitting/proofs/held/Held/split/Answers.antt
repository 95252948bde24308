-- The loop is the walk over the cells. Assumes nothing.
use Rattle.std.proofs.Common.{refl, arith, ◌∙◌}
use Rattle.splitting.proofs.Walk.{walk-starts, walks-on, walk-breaks, walk_ends, comma-moves, cell-inside, comma_is, broken_is, others_end}
use Rattle.splitting.proofs.Spans.{starts_long, sizes_long}
use Rattle.splitting.proofs.held.Held.split.Goals as goal

pub loop-cursor-init : goal.loop-cursor-init
loop-cursor-init c =
    let held = c.args.self.now in
    (refl, walk-starts held.text.now c.args.at _ _ (omega arith) (starts_long held.spans held.long) (sizes_long held.spans held.long))

pub hold-requires : goal.hold-requires
hold-requires c =
    let loop = c.loop-cursor in
    let is = rw loop.invariant.0 at c.cell_from-cell.ensures in
    rw loop.invariant.0 (cell-inside _ _ _ _ _ _ loop.invariant.1 _ is).text

pub loop-cursor-smaller : goal.loop-cursor-smaller
loop-cursor-smaller c =
    let loop = c.loop-cursor in
    let is = rw loop.invariant.0 at c.cell_from-cell.ensures in
    omega (arith, comma-moves _ _ _ _ _ _ loop.invariant.1 _ is (comma_is _ c.in-Comma.is), loop.invariant.1.inside)

pub loop-cursor-preserved : goal.loop-cursor-preserved
loop-cursor-preserved c =
    let loop = c.loop-cursor in
    let is = rw loop.invariant.0 at c.cell_from-cell.ensures in (
      c.hold.ensures.text ∙ loop.invariant.0,
      rw (c.hold.ensures.starts, c.hold.ensures.sizes) (walks-on _ _ _ _ _ _ loop.invariant.1 _ is (comma_is _ c.in-Comma.is)),
    )

pub returns-in-Broken-clause-finds : goal.returns-in-Broken-clause-finds
returns-in-Broken-clause-finds c =
    let loop = c.loop-cursor in
    let is = rw loop.invariant.0 at c.cell_from-cell.ensures in
    rw (c.hold.ensures.starts, c.hold.ensures.sizes) (walk-breaks _ _ _ _ _ _ loop.invariant.1 _ is (broken_is _ c.in-Broken.is))

pub returns-in_default : goal.returns-in_default
returns-in_default c =
    let loop = c.loop-cursor in
    let is = rw loop.invariant.0 at c.cell_from-cell.ensures in
    let n = others_end _ c.in_default.not-Comma c.in_default.not-Broken in
    record {
      text = c.hold.ensures.text ∙ loop.invariant.0;
      finds = rw (c.hold.ensures.starts, c.hold.ensures.sizes) (walk_ends _ _ _ _ _ _ loop.invariant.1 _ is c.requires n.0 n.1);
    }
