-- What is put and what is left from place j on are the numbers' bytes. Assumes nothing.
use Rattle.std.proofs.Common.{ap, sym, ◌∙◌, ◌+◌, drop, arith}
use lib.Seq.{sets}
use Rattle.rows.proofs.Widths.{widths-total}
use Rattle.splitting.proofs.Numbers.{said-on, said-small, total-on, bytes-done}
use Rattle.splitting.proofs.Packs.{put_on}
use Rattle.splitting.proofs.held.Held.put_numbers.Goals as goal

pub put_packed-requires-clause-room : goal.put_packed-requires-clause-room
put_packed-requires-clause-room c =
    let shape = c.args.shape in
    omega (arith, total-on shape.inputs shape.parameters c.loop-j.j (omega arith), widths-total shape.inputs shape.parameters, c.width_at-width.ensures)

pub put_packed-requires-clause-small : goal.put_packed-requires-clause-small
put_packed-requires-clause-small c = said-small c.width_at-width.result _ _ c.said.ensures

pub overflow_add-place : goal.overflow_add-place
overflow_add-place c =
    let shape = c.args.shape in
    omega (arith, total-on shape.inputs shape.parameters c.loop-j.j (omega arith), widths-total shape.inputs shape.parameters, c.width_at-width.ensures)

pub loop-j-preserved : goal.loop-j-preserved
loop-j-preserved c =
    let shape = c.args.shape in
    let loop = c.loop-j in
    let width = c.width_at-width in (
      omega (arith, total-on shape.inputs shape.parameters loop.j (omega arith), width.ensures),
      λ cells says long.
          let is = said-on _ _ _ cells _ _ loop.j width.result _ shape.few.1 says long (omega arith) c.said.ensures in
          put_on _ _ loop.j (omega arith) cells long loop.circuit c.put_packed.new.circuit loop.place width.result _ width.ensures is
          (c.put_packed.ensures shape.inputs loop.j width.ensures)
          ∙ loop.invariant.1 cells says long,
    )

pub returns : goal.returns
returns c =
    let loop = c.loop-j in
    λ cells says long.
    sym (ap (sets loop.circuit loop.place) (bytes-done c.args.shape.inputs c.args.shape.parameters loop.j (omega arith) (drop (loop.j + 1) cells)))
    ∙ loop.invariant.1 cells says long
