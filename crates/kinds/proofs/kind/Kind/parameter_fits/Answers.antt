-- `Kind::parameter_fits` meets its contract: the two ends stand in the row. Assumes nothing.
use native.Mathlib.Omega.{arith}
use mir.Facts.{to_z-of_z}
use Rattle.kinds.specs.Codes.{byte_of}
use Rattle.kinds.proofs.Rows.{least-read, greatest-read}
use Rattle.kinds.proofs.kind.Kind.parameter_fits.Goals as goal

pub returns-then-row-j : goal.returns-then-row-j
returns-then-row-j c =
    let k = byte_of c.args.self in
    let j = c.args.j in
    let l = least-read k j c.requires in
    let g = greatest-read k j c.requires in
    grind (arith, to_z-of_z)

pub returns-else-row-j : goal.returns-else-row-j
returns-else-row-j c =
    let l = least-read (byte_of c.args.self) c.args.j c.requires in
    grind (arith, to_z-of_z)
