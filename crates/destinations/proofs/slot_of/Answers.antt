-- `destinations::slot_of` meets its contract: what stands before, and the number from 0. Assumes nothing.
use native.Mathlib.Omega.{arith}
use mathlib.Core.Path.{refl}
use Rattle.fields.specs.Codes.{class_code}
use Rattle.destinations.proofs.Filled.{slot-below}
use Rattle.destinations.proofs.slot_of.Goals as goal

pub overflow_add-result : goal.overflow_add-result
overflow_add-result c = omega (arith, c.base_of.ensures.is, slot-below (class_code c.args.class) c.args.number c.requires)

pub returns : goal.returns
returns c = rw c.base_of.ensures.is (refl, slot-below (class_code c.args.class) c.args.number c.requires)
