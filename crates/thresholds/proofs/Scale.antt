-- Input · A / 100 is at most 327,680 either way. Assumes nothing.
use lib.IntN.{ℤ, pos, ◌*ℤ◌}
use lib.Signed.{quot_z}
use Rattle.words.specs.Signed.{minus, Between}
use Rattle.words.proofs.Ranges.{product-between, quotient-between}
use Rattle.rules.specs.Scaled.{Scaled}

module _ {x a b : ℤ} (s : Scaled x a b) where
  pub quotient-range : Between (minus 327680) (pos 327680) (quot_z (x *ℤ a) (pos 100))
  quotient-range = quotient-between 100 (product-between s.input-is s.gain-is)
