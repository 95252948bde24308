-- By whether a label may follow, and whether one does. Assumes nothing.
use Rattle.std.proofs.Common.{length, ap, sym, arith}
use Rattle.writing.proofs.Field.{tail_none, tail-bare, tail-some, tail-size-is}
use Rattle.writing.proofs.label.tail_size.Goals as goal

pub returns-then-not-labelled : goal.returns-then-not-labelled
returns-then-not-labelled c =
    let e = tail_none c.args.bytes.now c.args.at c.args.labelled c.if-not-labelled.true in (sym (ap length e.0), sym e.1, omega arith)

pub returns-then-bytes-at-ne32 : goal.returns-then-bytes-at-ne32
returns-then-bytes-at-ne32 c =
    let e = tail-bare c.args.bytes.now c.args.at c.args.labelled c.if-not-labelled.false c.if-bytes-at-ne32.true in (sym (ap length e.0), sym e.1, omega arith)

pub label_at-label-requires : goal.label_at-label-requires
label_at-label-requires c =
    let e = tail-some c.args.bytes.now c.args.at c.args.labelled c.if-not-labelled.false c.if-bytes-at-ne32.false in (c.requires.0, omega (arith, e.1, c.requires.1))

pub returns : goal.returns
returns c =
    tail-size-is _ _ _ c.label_at-label.ensures.is c.label_at-label.ensures.size.0 _ c.if-not-labelled.false c.if-bytes-at-ne32.false _ c.cell_size.ensures
