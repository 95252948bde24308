-- By mark and size. Assumes nothing.
use Rattle.std.proofs.Common.{refl, ap, ◌∙◌, length, arith}
use Rattle.reading.proofs.Labels.{looks-unmarked, looks-none, looks-beside, looks-long, looks-one, looks-as, mark-small, content-as}
use Rattle.reading.proofs.first_pass.label_size.Goals as goal

pub returns-in_err-mark : goal.returns-in_err-mark
returns-in_err-mark c = rw c.from_residual.ensures (looks-as _ _ _ _ c.in_err-mark.ensures (looks-unmarked _ _ refl))

pub returns-in-0 : goal.returns-in-0
returns-in-0 c =
    let n = c.content_size-size.ensures.0 ∙ ap length (content-as _ _ _ c.args.quoted _ c.text_of.ensures) in
    looks-as _ _ _ _ c.in_ok-mark.ensures (looks-none _ _ _ n refl c.in-0.is (omega arith))

pub returns-in-1 : goal.returns-in-1
returns-in-1 c =
    let n = c.content_size-size.ensures.0 ∙ ap length (content-as _ _ _ c.args.quoted _ c.text_of.ensures) in
    looks-as _ _ _ _ c.in_ok-mark.ensures (looks-one _ _ _ n refl c.in-1.is (omega arith))

pub returns-in_default : goal.returns-in_default
returns-in_default c =
    let n = c.content_size-size.ensures.0 ∙ ap length (content-as _ _ _ c.args.quoted _ c.text_of.ensures) in
    looks-as _ _ _ _ c.in_ok-mark.ensures (looks-beside _ _ _ n refl c.in-0.is (λ q. omega arith))

pub returns-in_default-2 : goal.returns-in_default-2
returns-in_default-2 c =
    let n = c.content_size-size.ensures.0 ∙ ap length (content-as _ _ _ c.args.quoted _ c.text_of.ensures) in
    looks-as _ _ _ _ c.in_ok-mark.ensures (looks-long _ _ _ n refl c.in-1.is (omega arith))

pub returns-in_default-3 : goal.returns-in_default-3
returns-in_default-3 c = absurd (omega (arith, mark-small _ _ c.in_ok-mark.ensures))
