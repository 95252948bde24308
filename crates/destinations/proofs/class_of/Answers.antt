-- `destinations::class_of` meets its contract: a row that is shown goes to a class that there is. Assumes nothing.
use Rattle.fields.specs.Fields.{class_at, number_in}
use Rattle.destinations.proofs.Filled.{aimed-class}
use Rattle.destinations.proofs.class_of.Goals as goal

pub unreachable-requires : goal.unreachable-requires
unreachable-requires c =
    let none = rw c.in_default.is at c.try_from.ensures in
    let a = aimed-class (class_at c.args.bytes.now c.args.at) (number_in c.args.bytes.now c.args.at) c.requires.1 in
    none.1 a.0 a.1
