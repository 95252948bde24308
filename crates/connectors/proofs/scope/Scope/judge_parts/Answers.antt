-- `connectors::Scope::judge_parts` meets its contract. Assumes nothing.
use mathlib.Core.Path.{◌≡◌, sym, ◌∙◌}
use native.Mathlib.Omega.{arith}
use Rattle.std.proofs.lemmas.Grind.{common_steps}
use Rattle.words.proofs.Masks.{low-seven-bits}
use Rattle.refusals.specs.Refusals.{number_in}
use Rattle.connectors.specs.Connectors.{wrong, misfits}
use Rattle.connectors.specs.Named.{six_or_seven}
use Rattle.connectors.proofs.Laws.{taken-nowhere, is-counted, sort-told}
use Rattle.connectors.proofs.scope.Scope.judge_parts.Goals as goal

pub returns-in_err-class : goal.returns-in_err-class
unfolding six_or_seven wrong misfits
returns-in_err-class c =
    let e : number_in c.from_residual.result ≡ 6 = grind (arith, common_steps) in
    e ∙ simp (sym (low-seven-bits c.args.byte), taken-nowhere c.args.spot _ c.in_err-class.ensures.1)

pub overflow_sub-number : goal.overflow_sub-number
overflow_sub-number c =
    is-counted _ _ c.args.self.now.own _ c.args.self.now.sorts.now _ _ _ (c.in_ok-class.ensures ∙ low-seven-bits c.args.byte) c.if-not-allows.ensures c.if-not-names_block.ensures

pub returns-then-self-number-2 : goal.returns-then-self-number-2
returns-then-self-number-2 c =
    sort-told _ _ c.args.self.now.own _ _ _ _ _ (c.in_ok-class.ensures ∙ low-seven-bits c.args.byte) c.if-not-allows.ensures c.if-not-names_block.ensures (omega arith) _ _ c.if-not-has_sort.ensures c.names_analog.ensures c.if-self-number-2.true

pub returns : goal.returns
returns c =
    sort-told _ _ c.args.self.now.own _ _ _ _ _ (c.in_ok-class.ensures ∙ low-seven-bits c.args.byte) c.if-not-allows.ensures c.if-not-names_block.ensures (omega arith) _ _ c.if-not-has_sort.ensures c.names_analog.ensures c.if-self-number-2.false
