-- Nothing where the mark is not 1, else the head of the field and the label. Assumes nothing.
use Rattle.std.proofs.Common.{◌≡◌, ◌+◌, length, ap, arith, ◌∙◌, sym}
use Rattle.splitting.specs.Spans.{starts_of, sizes_of}
use Rattle.splitting.specs.Found.{said_by}
use Rattle.reading.specs.Counted.{label_in, label_field_in}
use Rattle.reading.proofs.Labels.{content-as}
use Rattle.reading.proofs.Putting.{label-absent, label-room, label-put}
use Rattle.reading.proofs.second_pass.put_label.Goals as goal
use Rattle.reading.proofs.second_pass.put_label.Goals.{After-text_of}

-- what the second cell says
said : (c : After-text_of) → said_by c.text_of.result.now c.args.quoted
    ≡ label_in c.args.held.now.text.now (starts_of c.args.held.now.spans) (sizes_of c.args.held.now.spans) (c.args.j + 1) c.args.quoted
said c = content-as _ _ _ _ _ c.text_of.ensures

room : (c : After-text_of) → length (label_field_in c.args.held.now.text.now (starts_of c.args.held.now.spans) (sizes_of c.args.held.now.spans) c.args.j c.args.quoted)
    ≡ 3 + length (said_by c.text_of.result.now c.args.quoted)
room c =
    label-room _ _ (label_in c.args.held.now.text.now (starts_of c.args.held.now.spans) (sizes_of c.args.held.now.spans) (c.args.j + 1) c.args.quoted) c.in-Some.ensures c.args.to c.if-mark-eq1.true
    ∙ ap (λ l. 3 + length l) (sym (said c))

pub put_content-size-requires : goal.put_content-size-requires
put_content-size-requires c = omega (arith, room c, c.requires.room)

pub put_head-requires : goal.put_head-requires
put_head-requires c = omega (arith, room (goal.at.put_head-requires c).After-text_of, c.requires.room, c.put_content-size.auto.circuit)

pub overflow_add-result-in-Some : goal.overflow_add-result-in-Some
overflow_add-result-in-Some c = omega (arith, room (goal.at.overflow_add-result-in-Some c).After-text_of, c.requires.room, c.put_content-size.ensures.1, c.well_formed)

pub returns-in-Some : goal.returns-in-Some
returns-in-Some c =
    let label = said (goal.at.returns-in-Some c).After-text_of in
    let put = rw label at c.put_content-size.ensures in
    label-put _ _ _ c.in-Some.ensures c.args.to c.if-mark-eq1.true _ _ _ _ put.0 c.put_head.ensures put.1

pub returns-in_default : goal.returns-in_default
returns-in_default c = label-absent _ _ _ c.in-Some.ensures _ _ (λ q. omega arith)

pub returns-in_default-2 : goal.returns-in_default-2
returns-in_default-2 c = label-absent _ _ _ c.in_default.ensures _ _ (λ q. omega arith)
