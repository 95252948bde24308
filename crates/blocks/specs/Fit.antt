-- What the functions of the rules count on, and which three words a block may have. Not part of what a reader has to believe.
use Rattle.std.specs.Prelude.{◌≡◌, List, ℕ, ◌≤◌, ◌<◌, ◌^◌, ℤ}
use Rattle.kinds.specs.Kinds.{Kind, In, kind_of, parameter, range_at, gain, offset, sixteen, output_range, remembered_range, number_range}
use Rattle.kinds.specs.declared.Ticks.{Ticks}
use Rattle.rules.specs.declared.BlockWords.{BlockWords}
use Rattle.blocks.specs.declared.Prepared.{Prepared}

-- of the parameters of an accepted circuit. Off of kind 16 has no range of its own
pub record Fit (kind : ℕ) (p : Prepared) : Type 0 where
  pub time-is : p.time.0 < 2 ^ 31
  pub warning-is : p.warning.0 ≤ p.time.0
  pub dark-is : p.dark.0 ≤ p.warning.0
  pub params_are : (j : ℕ) → j < 4 → (kind ≡ 16 → j < 3) → In (range_at (kind_of kind) j) (parameter p.params j)

-- of the gain and the offset among them
pub record Scaling (p : Prepared) : Type 0 where
  pub gain-is : In gain (parameter p.params 0)
  pub offset-is : In offset (parameter p.params 1)

-- of the analog inputs that a sound record gives
pub record Sixteen (a : List ℤ) : Type 0 where
  pub first-is : In sixteen (parameter a 0)
  pub second_is : In sixteen (parameter a 1)

-- three words that a sound record may have, by kind and ticks set
pub record Sound (k : Kind) (t : Ticks) (w : BlockWords) : Type 0 where
  pub output-is : In (output_range k) w.output
  pub remembered-is : In (remembered_range k) w.remembered
  pub number_is : In (number_range k t) w.number
