-- Each answer is that of what was counted, and a refusal comes before anything is put. Assumes nothing.
use Rattle.std.proofs.Common.{◌≡◌, ◌+◌, ◌≤◌, Ok, Err, refl, length, arith, rules}
use Rattle.kept.specs.Keeps.{joined}
use Rattle.refusals.specs.Answers.{refused_at}
use Rattle.refusals.proofs.Numbers.{number-above}
use Rattle.rows.specs.Text.{rows_of}
use Rattle.rows.specs.Columns.{fields_of}
use Rattle.rows.specs.Reading.{read_answer}
use Rattle.reading.specs.Counted.{Surveys, surveyed_of, counted_of}
use Rattle.reading.proofs.Answering.{untouched, faulty-answer, blocks-answer, room-answer, has_room, whole-answer, written_after, gone_over, not_over}
use Rattle.reading.proofs.read.Goals as goal
use Rattle.reading.proofs.read.Goals.{After-survey, In_ok-counted, Then-are_too_many, Then-is_none, Else-is_none}

surveyed : (c : After-survey) → Surveys c.args.text.now (length c.args.circuit.now) (surveyed_of c.survey.result)
surveyed c = rw c.new-held.ensures at c.survey.ensures.surveys

counted : (c : In_ok-counted) → Surveys c.args.text.now (length c.args.circuit.now) (counted_of c.in_ok-counted.counted)
counted c =
    let is : c.survey.result ≡ Ok c.in_ok-counted.counted = search rules in
    rw is at (surveyed (goal.at.In_ok-counted c).After-survey)

too_many : (c : Then-are_too_many) → refused_at 34 0 ≡ read_answer c.args.text.now (length c.args.circuit.now)
too_many c = blocks-answer _ _ _ (counted (goal.at.Then-are_too_many c).In_ok-counted) refl (omega arith)

no_room : (c : Then-is_none) → refused_at 33 0 ≡ read_answer c.args.text.now (length c.args.circuit.now)
no_room c = room-answer _ _ _ (counted (goal.at.Then-is_none c).In_ok-counted) refl (omega arith) (gone_over _ c.if-is_none.ensures)

room : (c : Else-is_none) → 9 + length (joined fields_of (rows_of c.args.text.now)) ≤ length c.args.circuit.now
room c = has_room _ _ _ (counted (goal.at.Else-is_none c).In_ok-counted) refl (omega arith) (not_over _ c.if-is_none.ensures)

pub returns-in_err-counted-clause-answer : goal.returns-in_err-counted-clause-answer
returns-in_err-counted-clause-answer c =
    let is : c.survey.result ≡ Err c.in_err-counted.field-0.0 = search rules in
    let out : c.from_residual.result ≡ Err c.in_err-counted.field-0.0 = search rules in
    rw out (faulty-answer _ _ _ (rw is at (surveyed (goal.at.returns-in_err-counted-clause-answer c).After-survey)) (λ z. omega (arith, number-above c.in_err-counted.field-0.0.refusal)))

pub returns-in_err-counted-clause-circuit : goal.returns-in_err-counted-clause-circuit
returns-in_err-counted-clause-circuit c =
    let is : c.survey.result ≡ Err c.in_err-counted.field-0.0 = search rules in
    let n = number-above c.in_err-counted.field-0.0.refusal in
    untouched _ _ _ (faulty-answer _ _ _ (rw is at (surveyed (goal.at.returns-in_err-counted-clause-circuit c).After-survey)) (λ z. omega (arith, n))) (λ z. omega (arith, n))

pub returns-then-are_too_many-clause-answer : goal.returns-then-are_too_many-clause-answer
returns-then-are_too_many-clause-answer c = rw c.into.ensures (too_many (goal.at.returns-then-are_too_many-clause-answer c).Then-are_too_many)

pub returns-then-are_too_many-clause-circuit : goal.returns-then-are_too_many-clause-circuit
returns-then-are_too_many-clause-circuit c = untouched _ _ _ (too_many (goal.at.returns-then-are_too_many-clause-circuit c).Then-are_too_many) (λ z. omega arith)

pub returns-then-is_none-clause-answer : goal.returns-then-is_none-clause-answer
returns-then-is_none-clause-answer c = rw c.into-then-is_none.ensures (no_room (goal.at.returns-then-is_none-clause-answer c).Then-is_none)

pub returns-then-is_none-clause-circuit : goal.returns-then-is_none-clause-circuit
returns-then-is_none-clause-circuit c = untouched _ _ _ (no_room (goal.at.returns-then-is_none-clause-circuit c).Then-is_none) (λ z. omega arith)

pub put_header-requires : goal.put_header-requires
put_header-requires c = omega (arith, room (goal.at.put_header-requires c).Else-is_none)

pub fill-end-requires-clause-sound : goal.fill-end-requires-clause-sound
fill-end-requires-clause-sound c =
    rw (c.survey.ensures.text, c.new-held.ensures) ((counted (goal.at.fill-end-requires-clause-sound c).In_ok-counted).clean refl)

pub fill-end-requires-clause-room : goal.fill-end-requires-clause-room
fill-end-requires-clause-room c =
    rw (c.survey.ensures.text, c.new-held.ensures) (omega (arith, room (goal.at.fill-end-requires-clause-room c).Else-is_none, c.put_header.auto.circuit))

pub put_head-requires : goal.put_head-requires
put_head-requires c =
    let end = rw (c.survey.ensures.text, c.new-held.ensures) at c.fill-end.ensures in
    omega (arith, room (goal.at.put_head-requires c).Else-is_none, end.1, c.fill-end.auto.circuit, c.put_header.auto.circuit)

pub overflow_add-result : goal.overflow_add-result
overflow_add-result c =
    let end = rw (c.survey.ensures.text, c.new-held.ensures) at c.fill-end.ensures in
    omega (arith, room (goal.at.overflow_add-result c).Else-is_none, end.1, c.well_formed)

pub returns-clause-answer : goal.returns-clause-answer
returns-clause-answer c =
    let v = counted (goal.at.returns-clause-answer c).In_ok-counted in
    let end = rw (c.survey.ensures.text, c.new-held.ensures) at c.fill-end.ensures in
    whole-answer _ _ _ v refl (omega arith) (not_over _ c.if-is_none.ensures) _ end.1

pub returns-clause-circuit : goal.returns-clause-circuit
returns-clause-circuit c =
    let v = counted (goal.at.returns-clause-circuit c).In_ok-counted in
    let end = rw (c.survey.ensures.text, c.new-held.ensures) at c.fill-end.ensures in
    written_after _ _ _ _ _ _ _ _ (whole-answer _ _ _ v refl (omega arith) (not_over _ c.if-is_none.ensures) _ end.1)
    (room (goal.at.returns-clause-circuit c).Else-is_none) (v.blocks refl) c.put_header.ensures end.0 end.1 c.put_head.ensures
