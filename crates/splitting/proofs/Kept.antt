-- A law that a page names: a minus before 0 changes no bit. Assumes nothing.
use mathlib.Core.Path.{◌≡◌}
use mathlib.Core.Bool.{true}
use mir.Syntax.{w32}
use mir.Val.{of_z}
use Rattle.digits.specs.Numbers.{Number, value_of}

module _ (n : Number) where
  pub bits_none : n.negative ≡ true → n.size ≡ 0 → 0 ≡ of_z w32 (value_of n)
  bits_none e z = rw (e, z)
