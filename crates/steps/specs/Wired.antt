-- What a step counts on, of its line and of the record. Not part of what a reader has to believe.
use Rattle.std.specs.Prelude.{ℕ, ◌≤◌, ◌<◌, ◌≡◌, Bool, true, false, List, length, get_or, ℤ, Option, None, Some}
use Rattle.std.proofs.Math.Option.{Option as Maybe, none, some}
use Rattle.kinds.specs.Kinds.{known}
use Rattle.blocks.specs.Fit.{Fit, Sixteen}
use Rattle.connectors.specs.Connectors.{Connector, class_of}
use Rattle.blockfield.specs.Marked.{Lies}
use Rattle.decoding.specs.Decoded.{block_at}
use Rattle.lines.specs.Lines.{Line, line_of, line_at}
use Rattle.connectors.specs.declared.class.Class.{Class}
use Rattle.connectors.specs.declared.class.Class.TheVariants.{Unused, Input, Low, High, Flag, Block, AnalogInput, AnalogFlag, AnalogBlock}
use Rattle.record.specs.Places.{Place, input, flag, analog, analog_flag, output, size_of}
use Rattle.record.specs.Said.{said}
use Rattle.record.specs.declared.place.Place.{Place as Named}
use Rattle.record.specs.Sound.{sound}
use Rattle.record.specs.Written.{lines_at, Stand}
use Rattle.steps.specs.Steps.{read_from, input_of, values_of}
use Rattle.words.specs.Signed.{bit_of}

-- a class byte and a number as a connector
abbrev pub connector : ℕ → ℕ → Connector
connector class number = record { class = class; number = number }

-- the place that a class and a number name
abbrev pub named : Class → ℕ → Maybe Place
named Unused n = none
named Input n = some (input n)
named Low n = none
named High n = none
named Flag n = some (flag n)
named Block n = some (output n)
named AnalogInput n = some (analog n)
named AnalogFlag n = some (analog_flag n)
named AnalogBlock n = some (output n)

-- the bit that they name, before it is inverted
abbrev pub plain_named : List ℤ → Bool → Class → ℕ → Bool
plain_named l unused Unused n = unused
plain_named l unused Low n = false
plain_named l unused High n = true
plain_named l unused class n = bit_of (read_from l (named class n))

-- what the code gives for the place that a connector reads
abbrev pub source_said : Option Named → Maybe Place
source_said None = none
source_said (Some p) = some (said p)

-- the place that a connector reads is one that there is
pub record Wired (c : Connector) : Type 0 where
  pub small : c.number < 65536
  -- before I1 stands e, which 16 bits do not hold
  pub first-input : class_of c ≡ 1 → 1 ≤ c.number
  pub input : class_of c ≡ 1 → c.number ≤ 24
  pub flag : class_of c ≡ 4 → c.number ≤ 64
  pub analog : class_of c ≡ 7 → c.number ≤ 8
  pub analog_flag : class_of c ≡ 8 → c.number ≤ 64

-- a line that can be worked out
pub record Fine (line : Line) : Type 0 where
  pub is_known : known line.kind ≡ true
  pub fit : Fit line.kind line.prepared
  pub wired : (j : ℕ) → j < 4 → Wired (input_of line j)

-- each line of a circuit
pub record AllFine (lines : List Line) : Type 0 where
  pub few : length lines ≤ 400
  pub fine : (k : ℕ) → 1 ≤ k → k ≤ length lines → Fine (line_at lines k)

-- the block behind the first d of the order stands in the bytes, and can be worked out on a record
pub record Next (s : List ℕ) (offsets : List ℕ) (d : ℕ) (l : List ℤ) : Type 0 where
  pub long : length offsets ≡ 400
  pub low : d < 400
  pub lies : Lies s (get_or offsets d 0)
  pub fine : Fine (line_of (block_at s (get_or offsets d 0)))
  pub values : Sixteen (values_of l (line_of (block_at s (get_or offsets d 0))))

-- n blocks stand in the bytes, and all can be worked out on a record, which is sound
pub record Runs (s : List ℕ) (n : ℕ) (offsets : List ℕ) (l : List ℤ) : Type 0 where
  pub stand : Stand s n offsets
  pub fine : AllFine (lines_at s n offsets)
  pub long : length l ≡ size_of n
  pub is-sound : sound (lines_at s n offsets) l ≡ true
