-- `blockfield::judge_block` meets its contract: the tests come in the order of the numbers; a known kind of a right length has
-- its option, inputs and parameters within the bytes. Assumes nothing.
use mathlib.Core.Path.{◌≡◌, sym, refl, ◌∙◌, ap}
use mathlib.Core.Bool.{true, false}
use Prim.Native.Nat.{ℕ, ◌+◌, ◌≤◌}
use native.Mathlib.Omega.{arith}
use lib.Dec.{eqb}
use lib.ListN.{length, get_or}
use borrow.Author.Tests.{eqb-true, not-true, not-false}
use Rattle.std.proofs.lemmas.Grind.{common_steps}
use Rattle.kinds.specs.Codes.{byte_of}
use Rattle.kinds.specs.Kinds.{kind_of, content_length}
use Rattle.refusals.specs.Refusals.{number_of, number_in}
use Rattle.refusals.specs.Stages.{stage_of}
use Rattle.refusals.proofs.Numbers.{number-above}
use Rattle.blockfield.specs.BlockField.{shift_register}
use Rattle.blockfield.specs.Marked.{index_mark}
use Rattle.blockfield.proofs.Laws.{by-own, proper-of, is-register, proper-fault, proper-last, proper-allowed, index-range, register-there}
use Rattle.blockfield.proofs.judge_block.Goals as goal

pub returns-in_err-judge_known-clause-number : goal.returns-in_err-judge_known-clause-number
returns-in_err-judge_known-clause-number c =
    let a = c.args in
    let r = a.reach.now in
    let f = a.field.now in
    let k = byte_of c.in-Ok.kind in
    let p = proper-of f.bytes.now f.at f.size a.stage r.n r.blocks c.in-Ok.kind c.in-Ok.ensures.0 c.if-eq.ensures c.if-eq-2.ensures c.if-field-eq0.false (sym c.wrong_length.ensures ∙ c.if-wrong_length.false) c.if-reach.false (sym c.wrong_option.ensures ∙ c.if-wrong_option.false) in
    let e : number_in c.from_residual.result ≡ number_of c.in_err-judge_known.field-0.0 = grind (arith, common_steps) in
    e ∙ proper-fault r.limits f.bytes.now f.at f.size (stage_of a.stage) r.n r.blocks k r.sorts.now _ p _ (by-own _ _ _ _ _ _ _ _ _ c.in_err-judge_known.ensures (omega arith)) (λ z. omega (arith, number-above c.in_err-judge_known.field-0.0, z))

pub returns-then-ne-clause-number : goal.returns-then-ne-clause-number
returns-then-ne-clause-number c =
    let a = c.args in
    let r = a.reach.now in
    let f = a.field.now in
    let k = byte_of c.in-Ok.kind in
    let p = proper-of f.bytes.now f.at f.size a.stage r.n r.blocks c.in-Ok.kind c.in-Ok.ensures.0 c.if-eq.ensures c.if-eq-2.ensures c.if-field-eq0.false (sym c.wrong_length.ensures ∙ c.if-wrong_length.false) c.if-reach.false (sym c.wrong_option.ensures ∙ c.if-wrong_option.false) in
    let ne : eqb k shift_register ≡ false = sym (is-register c.in-Ok.kind) ∙ not-true _ (sym c.if-ne.ensures) in
    proper-last r.limits f.bytes.now f.at f.size (stage_of a.stage) r.n r.blocks k r.sorts.now _ p _ (by-own _ _ _ _ _ _ _ _ _ c.in_ok-judge_known.ensures (omega arith)) refl 0 (simp ne)

pub index_mark-requires : goal.index_mark-requires
index_mark-requires c =
    let a = c.args in
    let r = a.reach.now in
    let f = a.field.now in
    let k = byte_of c.in-Ok.kind in
    let p = proper-of f.bytes.now f.at f.size a.stage r.n r.blocks c.in-Ok.kind c.in-Ok.ensures.0 c.if-eq.ensures c.if-eq-2.ensures c.if-field-eq0.false (sym c.wrong_length.ensures ∙ c.if-wrong_length.false) c.if-reach.false (sym c.wrong_option.ensures ∙ c.if-wrong_option.false) in
    let same : k ≡ shift_register = eqb-true k shift_register (sym (is-register c.in-Ok.kind) ∙ not-false _ (sym c.if-ne.ensures)) in
    let inside : (f.at + 3) + content_length (kind_of k) ≤ length f.bytes.now = omega (arith, p.size_is, f.inside) in
    let ok = proper-allowed r.limits f.bytes.now f.at f.size (stage_of a.stage) r.n r.blocks k r.sorts.now false p _ (by-own _ _ _ _ _ _ _ _ _ c.in_ok-judge_known.ensures (omega arith)) refl in
    (register-there f.bytes.now f.at k same inside, index-range f.bytes.now f.at k same ok)

pub returns-then-registers-index_mark-clause-number : goal.returns-then-registers-index_mark-clause-number
returns-then-registers-index_mark-clause-number c =
    let a = c.args in
    let r = a.reach.now in
    let f = a.field.now in
    let k = byte_of c.in-Ok.kind in
    let p = proper-of f.bytes.now f.at f.size a.stage r.n r.blocks c.in-Ok.kind c.in-Ok.ensures.0 c.if-eq.ensures c.if-eq-2.ensures c.if-field-eq0.false (sym c.wrong_length.ensures ∙ c.if-wrong_length.false) c.if-reach.false (sym c.wrong_option.ensures ∙ c.if-wrong_option.false) in
    let same : eqb k shift_register ≡ true = sym (is-register c.in-Ok.kind) ∙ not-false _ (sym c.if-ne.ensures) in
    let used : get_or a.registers.now (index_mark f.bytes.now f.at) false ≡ true =
    ap (λ (j : ℕ). get_or a.registers.now j false) (sym c.index_mark.ensures.0) ∙ c.if-registers-index_mark.true in
    proper-last r.limits f.bytes.now f.at f.size (stage_of a.stage) r.n r.blocks k r.sorts.now _ p _ (by-own _ _ _ _ _ _ _ _ _ c.in_ok-judge_known.ensures (omega arith)) refl 10 (simp (same, used))

pub returns-clause-number : goal.returns-clause-number
returns-clause-number c =
    let a = c.args in
    let r = a.reach.now in
    let f = a.field.now in
    let k = byte_of c.in-Ok.kind in
    let p = proper-of f.bytes.now f.at f.size a.stage r.n r.blocks c.in-Ok.kind c.in-Ok.ensures.0 c.if-eq.ensures c.if-eq-2.ensures c.if-field-eq0.false (sym c.wrong_length.ensures ∙ c.if-wrong_length.false) c.if-reach.false (sym c.wrong_option.ensures ∙ c.if-wrong_option.false) in
    let same : eqb k shift_register ≡ true = sym (is-register c.in-Ok.kind) ∙ not-false _ (sym c.if-ne.ensures) in
    let used : get_or a.registers.now (index_mark f.bytes.now f.at) false ≡ false =
    ap (λ (j : ℕ). get_or a.registers.now j false) (sym c.index_mark.ensures.0) ∙ c.if-registers-index_mark.false in
    proper-last r.limits f.bytes.now f.at f.size (stage_of a.stage) r.n r.blocks k r.sorts.now _ p _ (by-own _ _ _ _ _ _ _ _ _ c.in_ok-judge_known.ensures (omega arith)) refl 0 (simp (same, used))
