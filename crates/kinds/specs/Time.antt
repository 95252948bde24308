-- Document 01, "Time": a tick is 10 ms; a setting is counted in its timebase. "A setting and a count of ticks must never stand for
-- one another."
use Rattle.std.specs.Prelude.{ℕ, zero, suc, ◌*◌, ℤ}
use Rattle.words.specs.Signed.{over}
use Rattle.kinds.specs.declared.Setting.{Setting}
use Rattle.kinds.specs.declared.Ticks.{Ticks}

-- a count of ticks
abbrev pub ticks : ℕ → Ticks
ticks n = record { 0 = n }

-- the longest setting, by its timebase: "0 seconds (T 0..9999, hundredths), 1 minutes (0..5999 seconds), 2 hours (0..5999 minutes)"
abbrev pub longest : ℕ → ℕ
longest zero = 9999
longest (suc n) = 5999

-- the setting that two parameters are: base, T
abbrev pub setting_of : ℤ → ℤ → Setting
setting_of base t = record { 0 = over base; 1 = over t }

-- "Ticks are T, 100·T, 6000·T": those of T 1, by the timebase
abbrev pub unit : ℕ → ℕ
unit zero = 1
unit (suc zero) = 100
unit (suc (suc n)) = 6000

-- the one conversion
unfoldable pub ticks_of : Setting → Ticks
ticks_of s = ticks (unit s.0 * s.1)
