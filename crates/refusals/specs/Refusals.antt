-- Document 01, "Refusal numbers and their order", and document 02, No. 1: each refusal's number.
use Rattle.std.specs.Prelude.{ℕ, Result, Ok, Err}
use Rattle.refusals.specs.declared.Refusal.{Refusal}
use Rattle.refusals.specs.declared.Refusal.TheVariants.{CutShort, TagOrLength, Version, NumberOfBlocks, KindOrOption, Connector, OwnOrLaterBlock, Parameter, Destination, IndexUsedTwice, SurplusBytes, RecordLength, RecordNotSound, WrongPhase, InputWords, OutputWords, Quote, TagKindOrColumns, NumberOrLabel, NoRoom, TooManyBlocks}

abbrev pub number_of : Refusal → ℕ
number_of CutShort = 1
number_of TagOrLength = 2
number_of Version = 3
number_of NumberOfBlocks = 4
number_of KindOrOption = 5
number_of Connector = 6
number_of OwnOrLaterBlock = 7
number_of Parameter = 8
number_of Destination = 9
number_of IndexUsedTwice = 10
number_of SurplusBytes = 11
number_of RecordLength = 20
number_of RecordNotSound = 21
number_of WrongPhase = 22
number_of InputWords = 23
number_of OutputWords = 24
number_of Quote = 30
number_of TagKindOrColumns = 31
number_of NumberOrLabel = 32
number_of NoRoom = 33
number_of TooManyBlocks = 34

-- the number of what is refused, and 0 of what is not
abbrev pub number_in : {A : Type 0} → Result A Refusal → ℕ
number_in (Ok x) = 0
number_in (Err refusal) = number_of refusal
