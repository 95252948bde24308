-- `blockfield::index_mark` meets its contract: an index in its range is 1 to 4. Assumes nothing.
use mathlib.Core.Path.{sym, ◌∙◌, ap}
use Prim.Native.Nat.{ℕ, ◌-◌}
use native.Mathlib.Omega.{arith}
use Rattle.words.specs.Signed.{over}
use Rattle.words.proofs.Bounds.{amount-between}
use Rattle.blockfield.specs.BlockField.{signed_at}
use Rattle.blockfield.proofs.Laws.{index-from}
use Rattle.blockfield.proofs.index_mark.Goals as goal

pub amount_at-requires : goal.amount_at-requires
amount_at-requires c = omega (arith, c.requires.0, index-from c.args.at)

pub overflow_sub-result : goal.overflow_sub-result
overflow_sub-result c =
    let e = c.amount_at.ensures ∙ ap (λ (i : ℕ). over (signed_at c.args.bytes.now i)) (sym (index-from c.args.at)) in
    omega (arith, e, amount-between c.requires.1)

pub returns : goal.returns
returns c =
    let e = c.amount_at.ensures ∙ ap (λ (i : ℕ). over (signed_at c.args.bytes.now i)) (sym (index-from c.args.at)) in
    (ap (λ (x : ℕ). x - 1) e, omega (arith, e, amount-between c.requires.1))
