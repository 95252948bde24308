-- By whether a label may follow, and whether one does. Assumes nothing.
use Rattle.std.proofs.Common.{length, ap, sym, ◌∙◌, arith}
use lib.Seq.{sets}
use Rattle.cells.specs.Cells.{write_cell}
use Rattle.writing.proofs.Field.{tail_none, tail-bare, tail-some, put_some}
use Rattle.writing.proofs.label.put_tail.Goals as goal

pub returns-then-not-labelled : goal.returns-then-not-labelled
returns-then-not-labelled c =
    let e = tail_none c.args.bytes.now c.args.at c.args.labelled c.if-not-labelled.true in
    (omega (arith, ap length e.0), sym e.1, sym (ap (sets c.args.text.now c.args.to) e.0))

pub put_mark-bare-requires : goal.put_mark-bare-requires
put_mark-bare-requires c =
    omega (arith, ap length (tail-bare c.args.bytes.now c.args.at c.args.labelled c.if-not-labelled.false c.if-bytes-at-ne32.true).0, c.requires.2)

pub returns-then-bytes-at-ne32 : goal.returns-then-bytes-at-ne32
returns-then-bytes-at-ne32 c =
    let e = tail-bare c.args.bytes.now c.args.at c.args.labelled c.if-not-labelled.false c.if-bytes-at-ne32.true in
    let p = c.put_mark-bare.ensures in
    (omega (arith, p.0, ap length e.0), sym e.1, p.1 ∙ sym (ap (sets c.args.text.now c.args.to) e.0))

pub label_at-label-requires : goal.label_at-label-requires
label_at-label-requires c =
    let e = tail-some c.args.bytes.now c.args.at c.args.labelled c.if-not-labelled.false c.if-bytes-at-ne32.false in (c.requires.0, omega (arith, e.1, c.requires.1))

pub put_mark-cell-requires : goal.put_mark-cell-requires
put_mark-cell-requires c =
    omega (arith, ap length (tail-some c.args.bytes.now c.args.at c.args.labelled c.if-not-labelled.false c.if-bytes-at-ne32.false).0, c.requires.2)

pub put_cell-behind-requires : goal.put_cell-behind-requires
put_cell-behind-requires c =
    let e = tail-some c.args.bytes.now c.args.at c.args.labelled c.if-not-labelled.false c.if-bytes-at-ne32.false in
    omega (arith, ap length e.0, ap (λ x. length (write_cell x)) c.label_at-label.ensures.is, c.put_mark-cell.auto.text, c.put_mark-cell.ensures.0, c.requires.2)

pub returns : goal.returns
returns c =
    put_some _ _ _ c.label_at-label.ensures.is c.label_at-label.ensures.size.0 _ c.if-not-labelled.false c.if-bytes-at-ne32.false _ _ _ _ _ _ c.put_mark-cell.ensures c.put_cell-behind.ensures
