-- `lines::line_at` meets its contract: the parameters of a block without a fault are allowed. Assumes nothing.
use mathlib.Core.Path.{◌≡◌, refl, sym, ◌∙◌, ap, ap₂, subst}
use mathlib.Core.Bool.{true}
use Prim.Native.Nat.{ℕ, ◌+◌}
use Rattle.kinds.specs.Codes.{byte_of}
use Rattle.kinds.specs.Kinds.{kind_of, allowed}
use Rattle.blockfield.specs.BlockField.{parameters_at}
use Rattle.blockfield.proofs.Laws.{allowed-four}
use Rattle.lines.proofs.Laws.{line_read}
use Rattle.lines.proofs.line_at.Goals as goal

pub prepare-requires : goal.prepare-requires
prepare-requires c =
    let s = c.args.bytes.now in
    let at = c.args.at in
    let kind = byte_of c.kind_at-kind.result in
    let ok = subst (λ (k : ℕ). allowed k (parameters_at s at (kind_of k)) ≡ true) (sym c.kind_at-kind.ensures) c.requires.is-allowed in
    ap (allowed kind) c.parameters_at-params.ensures ∙ allowed-four kind (parameters_at s at (kind_of kind)) ∙ ok

pub returns : goal.returns
returns c =
    line_read c.args.bytes.now c.args.at _ _ _ _ _ _ _ _ _ c.kind_at-kind.ensures refl (ap₂ (λ (x y : ℕ). x + y) c.digital_inputs.ensures.0 c.analog_inputs.ensures.0)
    c.input_at.ensures c.input_at-2.ensures c.input_at-3.ensures c.input_at-4.ensures c.parameters_at-params.ensures c.prepare.ensures
