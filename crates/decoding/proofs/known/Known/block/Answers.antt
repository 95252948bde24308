-- `Known::block` meets its contract: a block without a fault has room: its place, sort and index go where the next block is counted.
-- Assumes nothing.
use mathlib.Core.Path.{sym, ◌∙◌, ap}
use Prim.Native.Nat.{ℕ, ◌+◌, ◌≤◌}
use native.Mathlib.Omega.{arith}
use lib.ListN.{length}
use Rattle.std.proofs.Common.{rules}
use Rattle.kinds.specs.Kinds.{kind_of, content_length, is_analog}
use Rattle.refusals.specs.Refusals.{number_in}
use Rattle.blockfield.specs.BlockField.{kind_at}
use Rattle.blockfield.proofs.Laws.{index-range, register-there}
use Rattle.decoding.specs.Held.{seen}
use Rattle.decoding.proofs.Right.{block-right}
use Rattle.decoding.proofs.Steps.{block_same, block-taken, passes-on}
use Rattle.decoding.proofs.known.Known.block.Goals as goal

pub returns-in_err-kind-clause-takes : goal.returns-in_err-kind-clause-takes
returns-in_err-kind-clause-takes c =
    let f = c.args.field.now in
    let r = c.reach-reach.ensures in
    let number = rw (r.limits, r.n, r.blocks, r.sorts) at c.judge_block.ensures.number in
    λ st h. passes-on c.in_err-kind.was (search rules) (number ∙ block_same c.args.limits.now f.bytes.now f.at f.size (seen c.args.self.now) st h)

pub mark_register-requires : goal.mark_register-requires
mark_register-requires c =
    let f = c.args.field.now in
    let r = c.reach-reach.ensures in
    let number = rw (r.limits, r.n, r.blocks, r.sorts) at c.judge_block.ensures.number in
    let right = block-right _ _ _ number (ap number_in c.in_ok-kind.was) in
    let fit : (f.at + 3) + content_length (kind_of (kind_at f.bytes.now f.at)) ≤ length f.bytes.now = omega (arith, right.size_is, f.inside) in
    (c.in_ok-kind.ensures.kind, λ e. (register-there f.bytes.now f.at _ e fit, index-range f.bytes.now f.at _ e right.is-allowed))

pub bounds-self-count : goal.bounds-self-count
bounds-self-count c =
    let r = c.reach-reach.ensures in
    let number = rw (r.limits, r.n, r.blocks, r.sorts) at c.judge_block.ensures.number in
    let right = block-right _ _ _ number (ap number_in c.in_ok-kind.was) in
    omega (arith, right.room, c.requires.0.few)

pub bounds-self-count-2 : goal.bounds-self-count-2
bounds-self-count-2 c =
    let r = c.reach-reach.ensures in
    let number = rw (r.limits, r.n, r.blocks, r.sorts) at c.judge_block.ensures.number in
    let right = block-right _ _ _ number (ap number_in c.in_ok-kind.was) in
    omega (arith, right.room, c.requires.0.few)

pub returns-clause-takes : goal.returns-clause-takes
returns-clause-takes c =
    let f = c.args.field.now in
    let r = c.reach-reach.ensures in
    let number = rw (r.limits, r.n, r.blocks, r.sorts) at c.judge_block.ensures.number in
    λ st h.
    block-taken c.args.limits.now f.bytes.now f.at f.size f.inside (seen c.args.self.now) c.requires.0 st h c.requires.1 _ c.end-self.ensures _ c.mark_register.ensures _
    (c.is_analog.ensures ∙ ap (λ (k : ℕ). is_analog (kind_of k).output) c.in_ok-kind.ensures.kind)
    (sym (ap number_in c.in_ok-kind.was) ∙ number)
