-- What a step makes of a counter's count and of Cnt remembered: its line of the dispatch. Assumes nothing.
use mathlib.Core.Path.{◌≡◌, refl, ap}
use mathlib.Core.Bool.{Bool, not, ◌&&◌}
use mathlib.Core.List.{List}
use lib.IntN.{ℤ, pos}
use Rattle.words.specs.Signed.{word_of}
use Rattle.kinds.specs.declared.Ticks.{Ticks}
use Rattle.rules.specs.Rules.{bit, tally, up_down_counter}
use Rattle.rules.specs.declared.BlockWords.{BlockWords}
use Rattle.blocks.specs.Blocks.{was_bit, was_on, was_number, rules, worked_out}
use Rattle.blocks.specs.declared.Prepared.{Prepared}
use Rattle.counts.specs.Counts.{counter}

module _ (b : List Bool) (a : List ℤ) (p : Prepared) (was : BlockWords) (e : Ticks) where
  dispatched : worked_out counter b a p was e ≡ up_down_counter (bit b 0) (bit b 1) (bit b 2) (was_bit was) (was_on was) (was_number was) p.params
  unfolding worked_out rules
  dispatched = refl

  pub counts : (worked_out counter b a p was e).number ≡ pos (tally (bit b 0) (bit b 1 && not (was_bit was)) (bit b 2) (was_number was))
  unfolding up_down_counter
  counts = ap (λ (w : BlockWords). w.number) dispatched

  pub remembers : (worked_out counter b a p was e).remembered ≡ word_of (bit b 1)
  unfolding up_down_counter
  remembers = ap (λ (w : BlockWords). w.remembered) dispatched
