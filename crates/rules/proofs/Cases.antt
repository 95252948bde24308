-- What the starred cases do not say of a rule: for every Ta and e, and with In 0; that a rise sets the off-delay. And the gain, and where an
-- actual value is held, said here too: an edit of a definition is refused at these, since it proves its own crate alone. Assumes nothing.
use mathlib.Core.Path.{◌≡◌, refl}
use mathlib.Core.Bool.{Bool, true, false, not, ◌&&◌}
use mathlib.Core.List.{[], ◌∷◌}
use Prim.Native.Nat.{ℕ}
use native.Mathlib.Nat.{zero-min}
use lib.IntN.{ℤ, pos}
use Rattle.words.specs.Signed.{minus, bit_of}
use Rattle.kinds.specs.Time.{ticks}
use Rattle.kinds.specs.declared.Ticks.{Ticks}
use Rattle.rules.specs.Rules.{gives, shows, on_delay, off_delay, shift_register, unheld_of, actual_of, triggers_on, compared}

-- the register after a rising Trg, In 0
abbrev register : ℕ → Bool → ℤ
register r down = (shift_register false true down false r 1).number

pub record RuleCases : Type 0 where
  -- "On-delay, T 0: Q follows Trg at once."
  pub on-delay : (trg was : Bool) (ta e : Ticks) → bit_of (on_delay trg was ta (ticks 0) e).output ≡ trg
  -- off-delay: "Q becomes 1 on a rise only", and on each one without R
  pub set-by-a-rise : (r trg was : Bool) (ta t e : Ticks) → bit_of (off_delay r trg was false ta t e).output ≡ not r && (trg && not was)
  -- off while Trg is held, it stays so for as long, whatever R is
  pub held-off : (r : Bool) (ta t e : Ticks) → off_delay r true true false ta t e ≡ gives false true 0
  -- "Gain −33, input 10, B 0: −3."
  pub gain : actual_of (pos 10) (minus 33) (pos 0) ≡ minus 3
  -- both ends: −32,770 and 32,770 before
  pub held-lowest : actual_of (minus 3277) (pos 1000) (pos 0) ≡ minus 32768
  pub held-highest : actual_of (pos 3277) (pos 1000) (pos 0) ≡ pos 32767
  -- "after the offset": 40,000 − 10,000
  pub held-behind : actual_of (pos 4000) (pos 1000) (minus 10000) ≡ pos 30000
  -- "the comparator subtracts two held values": 32,767 − 30,000, where 327,670 − 30,000 was; On 2767 is below Off 2768
  pub held-each : compared (pos 32767) (pos 3000) (pos 1000 ∷ pos 0 ∷ pos 2767 ∷ pos 2768 ∷ []) false ≡ shows true
  -- nothing goes round
  pub up-in-0 : register 128 false ≡ pos 0
  pub down-in-0 : register 128 true ≡ pos 64
  pub down-from-1-in-0 : register 1 true ≡ pos 0

at_once : (trg was : Bool) (ta e : Ticks) → bit_of (on_delay trg was ta (ticks 0) e).output ≡ trg
unfolding on_delay
at_once true true ta e = rw zero-min
at_once true false ta e = refl
at_once false was ta e = refl

by-a-rise : (r trg was : Bool) (ta t e : Ticks) → bit_of (off_delay r trg was false ta t e).output ≡ not r && (trg && not was)
unfolding off_delay
by-a-rise true trg was ta t e = refl
by-a-rise false true false ta t e = refl
by-a-rise false true true ta t e = refl
by-a-rise false false true ta t e = refl
by-a-rise false false false ta t e = refl

stays-off : (r : Bool) (ta t e : Ticks) → off_delay r true true false ta t e ≡ gives false true 0
unfolding off_delay
stays-off true ta t e = refl
stays-off false ta t e = refl

pub rule-cases : RuleCases
unfolding shift_register unheld_of actual_of triggers_on compared
rule-cases =
    record {
      on-delay = at_once;
      set-by-a-rise = by-a-rise;
      held-off = stays-off;
      gain = refl;
      held-lowest = refl;
      held-highest = refl;
      held-behind = refl;
      held-each = refl;
      up-in-0 = refl;
      down-in-0 = refl;
      down-from-1-in-0 = refl;
    }
