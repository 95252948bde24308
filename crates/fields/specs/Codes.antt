-- Destination classes as the numbers by which the definitions know them.
use Rattle.std.specs.Prelude.{ℕ, ◌≡◌, Result, Ok, Err}
use Rattle.refusals.specs.declared.Refusal.{Refusal}
use Rattle.refusals.specs.declared.Refusal.TheVariants.{Destination as NoDestination}
use Rattle.fields.specs.declared.destination.Destination.{Destination}
use Rattle.fields.specs.declared.destination.Destination.TheVariants.{Output, Flag, AnalogOutput, AnalogFlag}

abbrev pub class_code : Destination → ℕ
class_code Output = 1
class_code Flag = 2
class_code AnalogOutput = 3
class_code AnalogFlag = 4

-- what a code is judged to be: the class that has it, and refused where none has
abbrev pub Decodes : ℕ → Result Destination Refusal → Type 0
Decodes code (Ok class) = class_code class ≡ code
Decodes code (Err refusal) = (refusal ≡ NoDestination) × ((class : Destination) → class_code class ≡ code → ⊥)
