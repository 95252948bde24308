-- Classes and spots as the numbers by which the definitions know them.
use Rattle.std.specs.Prelude.{ℕ, ◌≡◌, Result, Ok, Err}
use Rattle.refusals.specs.declared.Refusal.{Refusal}
use Rattle.refusals.specs.declared.Refusal.TheVariants.{Connector}
use Rattle.connectors.specs.declared.class.Class.{Class}
use Rattle.connectors.specs.declared.class.Class.TheVariants.{Unused, Input, Low, High, Flag, Block, AnalogInput, AnalogFlag, AnalogBlock}
use Rattle.connectors.specs.declared.class.Spot.{Spot}
use Rattle.connectors.specs.declared.class.Spot.TheVariants.{DigitalInput, AnalogInput as InAnalogInput, DigitalRow, AnalogRow, UnknownRow}
use Rattle.connectors.specs.Connectors.{digital_input, analog_input, digital_row, analog_row, unknown_row}

abbrev pub class_code : Class → ℕ
class_code Unused = 0
class_code Input = 1
class_code Low = 2
class_code High = 3
class_code Flag = 4
class_code Block = 6
class_code AnalogInput = 7
class_code AnalogFlag = 8
class_code AnalogBlock = 9

-- what a code is judged to be: the class that has it, and refused where none has
abbrev pub Decodes : ℕ → Result Class Refusal → Type 0
Decodes code (Ok class) = class_code class ≡ code
Decodes code (Err refusal) = (refusal ≡ Connector) × ((class : Class) → class_code class ≡ code → ⊥)

abbrev pub spot_code : Spot → ℕ
spot_code DigitalInput = digital_input
spot_code InAnalogInput = analog_input
spot_code DigitalRow = digital_row
spot_code AnalogRow = analog_row
spot_code UnknownRow = unknown_row
