-- The head of the field, and its numbers. Assumes nothing.
use mathlib.Core.Path.{sym}
use native.Mathlib.Omega.{arith}
use lib.ListN.{drop}
use Rattle.rows.specs.Shape.{known_shape}
use Rattle.rows.specs.Columns.{widths_of, numbers_bytes}
use Rattle.reading.proofs.Sizes.{numbers-size}
use Rattle.reading.proofs.Putting.{field_put}
use Rattle.reading.proofs.second_pass.put_field.Goals as goal

pub returns : goal.returns
returns c =
    let shape = known_shape c.args.shape in (
      λ cells says many.
          field_put _ _ _ _ _ _ (numbers_bytes (widths_of shape) (drop 1 cells)) c.put_head.ensures (c.put_numbers.ensures cells says many) (sym (numbers-size shape cells many)),
      omega arith,
    )
