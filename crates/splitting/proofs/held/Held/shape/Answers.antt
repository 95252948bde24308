-- By the tests on tag and kind. Assumes nothing.
use Rattle.std.proofs.Common.{◌≡◌, Ok, None, refl, ap, ◌∙◌, arith, rules}
use Rattle.std.specs.Result.{result_ok}
use Rattle.rows.specs.Columns.{said_in, nth, block_shape}
use Rattle.splitting.proofs.Numbers.{said-byte}
use Rattle.splitting.proofs.Shapes.{no-tag, output-tag, other_tag, no_kind, other-kind, block-kind, none-second, by-tag, by_both, not_decoded}
use Rattle.splitting.proofs.held.Held.shape.Goals as goal

pub returns-in_err-said : goal.returns-in_err-said
returns-in_err-said c =
    λ cells says many. rw c.from_residual.ensures (no-tag _ _ refl ∙ by-tag _ _ _ cells says _ c.in_err-said.ensures (omega arith))

pub returns-in_err-said-in-16 : goal.returns-in_err-said-in-16
returns-in_err-said-in-16 c =
    λ cells says many. rw c.from_residual-in_err-said-in-16.ensures
    (no_kind _ _ refl (λ q. omega arith) c.in-16.is refl
    ∙ by_both _ _ _ cells says _ c.in_ok-said.ensures _ (omega arith) c.in_err-said-in-16.ensures)

pub overflow_cast-branch : goal.overflow_cast-branch
overflow_cast-branch c = omega (arith, said-byte _ _ c.in_ok-said-in-16.ensures)

pub returns-in_err-kind-in-16 : goal.returns-in_err-kind-in-16
returns-in_err-kind-in-16 c =
    let none : result_ok c.try_from.result ≡ None = search rules in
    λ cells says many. rw c.from_residual-in_err-kind-in-16.ensures
    (other-kind _ _ refl (λ q. omega arith) c.in-16.is refl (not_decoded _ _ c.try_from.ensures none)
    ∙ by_both _ _ _ cells says _ c.in_ok-said.ensures _ (omega arith) c.in_ok-said-in-16.ensures)

pub returns-in-48 : goal.returns-in-48
returns-in-48 c =
    λ cells says many. c.output_shape.ensures ∙ output-tag _ (said_in 1 (nth cells 1)) refl c.in-48.is ∙ by-tag _ _ _ cells says _ c.in_ok-said.ensures (omega arith)

pub returns-in_ok-kind-in-16 : goal.returns-in_ok-kind-in-16
returns-in_ok-kind-in-16 c =
    let is : c.try_from.result ≡ Ok c.in_ok-kind-in-16.kind = search rules in
    let decoded = rw is at c.try_from.ensures in
    λ cells says many. c.block_shape.ensures.0 ∙ ap block_shape decoded.0
    ∙ block-kind _ _ refl (λ q. omega arith) c.in-16.is refl decoded.1
    ∙ by_both _ _ _ cells says _ c.in_ok-said.ensures _ (omega arith) c.in_ok-said-in-16.ensures

pub returns-in_default : goal.returns-in_default
returns-in_default c =
    λ cells says many. no_kind _ _ refl (λ q. omega arith) c.in-16.is (none-second cells (omega arith))
    ∙ by-tag _ _ _ cells says _ c.in_ok-said.ensures (omega arith)

pub returns-in_default-2 : goal.returns-in_default-2
returns-in_default-2 c =
    λ cells says many. other_tag _ (said_in 1 (nth cells 1)) refl (λ q. omega arith) (λ q. omega arith)
    ∙ by-tag _ _ _ cells says _ c.in_ok-said.ensures (omega arith)
