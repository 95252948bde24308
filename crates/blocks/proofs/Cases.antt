-- The case of document 01 that speaks of a setting, computed from the definitions. Assumes nothing.
use mathlib.Core.Path.{◌≡◌, refl}
use mathlib.Core.Bool.{true, false}
use mathlib.Core.List.{[], ◌∷◌}
use lib.IntN.{pos}
use Rattle.kinds.specs.Time.{ticks, ticks_of}
use Rattle.kinds.specs.Kinds.{kinds, kind_of, setting_fits}
use Rattle.blocks.specs.Blocks.{prepared}

-- "Hours 5999: 35,994,000 ticks; 6000: 8."
pub record BlockCases : Type 0 where
  pub hours : (prepared 9 (pos 2 ∷ pos 5999 ∷ [])).time ≡ ticks 35994000
  pub hours-most : setting_fits (pos 2) (pos 5999) ≡ true
  pub hours-over : setting_fits (pos 2) (pos 6000) ≡ false

pub block-cases : BlockCases
unfolding kinds kind_of ticks_of prepared
block-cases = record { hours = refl; hours-most = refl; hours-over = refl }
