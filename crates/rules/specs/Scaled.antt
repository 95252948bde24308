-- What an input, a gain and an offset may be: the function counts on it, the rule does not. Not part of what a reader has to believe.
use Rattle.std.specs.Prelude.{ℤ}
use Rattle.kinds.specs.Kinds.{In, gain, offset, sixteen}

pub record Scaled (x a b : ℤ) : Type 0 where
  pub input-is : In sixteen x
  pub gain-is : In gain a
  pub offset-is : In offset b
