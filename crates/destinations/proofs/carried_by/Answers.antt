-- `destinations::carried_by` meets its contract: the connector stands behind class and number, and the class says which it is.
-- Assumes nothing.
use Prim.Native.Nat.{ℕ, ◌+◌}
use native.Mathlib.Omega.{arith}
use mathlib.Core.Path.{◌≡◌, sym, ap, ◌∙◌}
use mathlib.Core.Bool.{true, false}
use lib.Dec.{leb}
use Rattle.std.proofs.Common.{rules}
use Rattle.fields.specs.Fields.{class_at}
use Rattle.destinations.specs.Destinations.{M, carried}
use Rattle.destinations.proofs.carried_by.Goals as goal

pub returns-then-is_digital : goal.returns-then-is_digital
unfolding carried
returns-then-is_digital c =
    let e : c.args.at + 5 + 1 ≡ c.args.at + 6 = omega arith in
    let digital : leb (class_at c.args.bytes.now c.args.at) M ≡ true = ap (λ (k : ℕ). leb k M) (sym c.requires.1) ∙ sym c.is_digital.ensures ∙ c.if-is_digital.true in
    rw (e, digital, ← c.two_at.ensures.0, ← c.bit_from.ensures) (search rules)

pub returns-else-is_digital : goal.returns-else-is_digital
unfolding carried
returns-else-is_digital c =
    let e : c.args.at + 5 + 1 ≡ c.args.at + 6 = omega arith in
    let digital : leb (class_at c.args.bytes.now c.args.at) M ≡ false = ap (λ (k : ℕ). leb k M) (sym c.requires.1) ∙ sym c.is_digital.ensures ∙ c.if-is_digital.false in
    rw (e, digital, ← c.two_at.ensures.0, ← c.value_from.ensures) (search rules)
