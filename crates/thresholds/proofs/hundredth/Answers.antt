-- `thresholds::hundredth` meets its contract: each step fits its width, and together they are the quotient. Assumes nothing.
use mathlib.Core.Path.{◌≡◌, refl, ◌∙◌}
use mathlib.Core.Bool.{Bool, true, false}
use lib.Dec.{lit≤}
use mir.Syntax.{w32}
use mir.Val.{to_z, bool_byte}
use Rattle.words.specs.Signed.{word_of}
use Rattle.words.proofs.Bits.{word-between}
use Rattle.words.proofs.Locals.{read, back}
use Rattle.thresholds.proofs.Shifted.{wide_fits, product-fits, shifted_fits, sum_is, sum_fits, hundredth-is}
use Rattle.thresholds.proofs.hundredth.Goals as goal

-- the bit below zero, as it is cast
cast-is : (b : Bool) → to_z w32 (bool_byte b) ≡ read w32 (word_of b)
cast-is true = refl
cast-is false = refl

pub overflow_cast-result : goal.overflow_cast-result
overflow_cast-result c = wide_fits c.ranges.x

pub overflow_mul-result : goal.overflow_mul-result
overflow_mul-result c = product-fits c.ranges.x (lit≤ tt)

pub overflow_cast-result-2 : goal.overflow_cast-result-2
overflow_cast-result-2 c = shifted_fits c.ranges.x (lit≤ tt) (lit≤ tt)

pub overflow_add-result : goal.overflow_add-result
overflow_add-result c = rw cast-is (sum_fits c.ranges.x (lit≤ tt) (lit≤ tt) (word-between _))

pub returns : goal.returns
returns c =
    let f = c.ranges.x in
    back (overflow_add-result c) ∙ rw (cast-is, sum_is f (lit≤ tt) (lit≤ tt) (word-between _), back f) (hundredth-is f)
