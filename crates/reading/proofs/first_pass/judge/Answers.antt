-- Each outcome is what the definition says of the row (`judged-broken` to `judged-block`). Assumes nothing.
use Rattle.std.proofs.Common.{◌≡◌, Err, Some, None, refl, ap, sym, ◌∙◌, arith, rules}
use borrow.Author.Tests.{not-true, not-false}
use Rattle.refusals.specs.declared.Refusal.TheVariants.{Quote, TagKindOrColumns, NumberOrLabel}
use Rattle.rows.specs.Shape.{known_shape}
use Rattle.splitting.specs.Spans.{starts_of, sizes_of}
use Rattle.splitting.specs.Found.{found_of}
use Rattle.reading.specs.Counted.{label_sized}
use Rattle.reading.proofs.Judging.{Held, Fills, holds, fills, judged-broken, judged-unknown, judged-columns, judged-numbers, judged-output, judged-label, judged-block, label-count, label-few}
use Rattle.reading.proofs.first_pass.judge.Goals as goal
use Rattle.reading.proofs.first_pass.judge.Goals.{In_ok-shape, Else-row-columns}

-- the row and its shape
held : (c : In_ok-shape) → Held c.args.held.now.text.now c.args.at (found_of (Some c.in_ok-row.row)) (starts_of c.split.new.self.spans) (sizes_of c.split.new.self.spans) (known_shape c.in_ok-shape.shape)
held c =
    let row : c.split.result ≡ Some c.in_ok-row.row = search rules in
    let shape : c.shape.result ≡ Some c.in_ok-shape.shape = search rules in
    holds _ _ _ _ (Some c.in_ok-shape.shape) (rw row at c.split.ensures.finds) (rw (c.split.ensures.text, shape) at c.shape.ensures)

-- with as many columns as the shape wants
full : (c : Else-row-columns) → Fills c.args.held.now.text.now c.args.at (found_of (Some c.in_ok-row.row)) (starts_of c.split.new.self.spans) (sizes_of c.split.new.self.spans) (known_shape c.in_ok-shape.shape)
full c = fills _ _ _ _ _ _ (held (goal.at.Else-row-columns c).In_ok-shape) refl (c.if-row-columns.false ∙ c.columns.ensures)

pub returns-in_err-row-clause-judges : goal.returns-in_err-row-clause-judges
returns-in_err-row-clause-judges c =
    let none : c.split.result ≡ None = search rules in
    let is : c.from_residual.result ≡ Err Quote = search rules in
    rw is (judged-broken _ _ _ _ _ _ c.split.ensures.finds (ap (λ r. (found_of r).whole) none) refl)

pub returns-in_err-shape-clause-judges : goal.returns-in_err-shape-clause-judges
returns-in_err-shape-clause-judges c =
    let row : c.split.result ≡ Some c.in_ok-row.row = search rules in
    let none : c.shape.result ≡ None = search rules in
    let is : c.from_residual-in_err-shape.result ≡ Err TagKindOrColumns = search rules in
    rw is (judged-unknown _ _ _ _ _ _ (holds _ _ _ _ None (rw row at c.split.ensures.finds) (rw (c.split.ensures.text, none) at c.shape.ensures)) _ refl refl)

pub returns-then-row-columns-clause-judges : goal.returns-then-row-columns-clause-judges
returns-then-row-columns-clause-judges c =
    judged-columns _ _ _ _ _ _ (held (goal.at.returns-then-row-columns-clause-judges c).In_ok-shape) _ refl (λ q. c.if-row-columns.true (q ∙ sym c.columns.ensures)) refl

pub returns-then-not-numbers_fit-clause-judges : goal.returns-then-not-numbers_fit-clause-judges
returns-then-not-numbers_fit-clause-judges c =
    let K = full (goal.at.returns-then-not-numbers_fit-clause-judges c).Else-row-columns in
    judged-numbers _ _ _ _ _ _ K _ (rw c.split.ensures.text at c.numbers_fit.ensures) _ c.if-not-numbers_fit.true refl

pub returns-then-not-shape-clause-judges : goal.returns-then-not-shape-clause-judges
returns-then-not-shape-clause-judges c =
    let K = full (goal.at.returns-then-not-shape-clause-judges c).Else-row-columns in
    judged-output _ _ _ _ _ _ K _ (rw c.split.ensures.text at c.numbers_fit.ensures) _ c.if-not-numbers_fit.false (not-true _ c.if-not-shape.true) refl refl refl refl

pub overflow_sub-row : goal.overflow_sub-row
overflow_sub-row c =
    let K = full (goal.at.overflow_sub-row c).Else-row-columns in
    omega (arith, label-count _ _ _ _ _ _ K (not-false _ c.if-not-shape.false))

pub label_size-requires : goal.label_size-requires
label_size-requires c =
    let K = full (goal.at.label_size-requires c).Else-row-columns in
    label-few _ _ _ _ _ _ K (not-false _ c.if-not-shape.false)

pub returns-in_err-label-clause-judges : goal.returns-in_err-label-clause-judges
returns-in_err-label-clause-judges c =
    let K = full (goal.at.returns-in_err-label-clause-judges c).Else-row-columns in
    let none : c.label_size.result ≡ None = search rules in
    let is : c.from_residual-in_err-label.result ≡ Err NumberOrLabel = search rules in
    rw is (judged-label _ _ _ _ _ _ K (not-false _ c.if-not-shape.false) _ _ (rw c.split.ensures.text at c.numbers_fit.ensures) c.if-not-numbers_fit.false (rw c.split.ensures.text at c.label_size.ensures.fits) _
    (ap (λ o. (label_sized o).fits) none) refl)

pub returns-clause-judges : goal.returns-clause-judges
returns-clause-judges c =
    let K = full (goal.at.returns-clause-judges c).Else-row-columns in
    let some : c.label_size.result ≡ Some c.in_ok-label.label = search rules in
    let looks = rw (c.split.ensures.text, some) at c.label_size.ensures in
    judged-block _ _ _ _ _ _ K (not-false _ c.if-not-shape.false) _ _ (rw c.split.ensures.text at c.numbers_fit.ensures) c.if-not-numbers_fit.false looks.fits _ _ refl (looks.size refl) refl refl refl refl
