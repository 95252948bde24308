-- No refusal has number 0, and no two have the same; the limits in the code are those of the definitions. Assumes nothing.
use Rattle.std.specs.Prelude.{ℕ, ◌≡◌, ◌≤◌, eqb, if◌then◌else◌, Result, Ok, Err}
use Rattle.refusals.specs.declared.Refusal.{Refusal}
use Rattle.refusals.specs.declared.Refusal.TheVariants.{CutShort, TagOrLength, Version, NumberOfBlocks, KindOrOption, Connector, OwnOrLaterBlock, Parameter, Destination, IndexUsedTwice, SurplusBytes, RecordLength, RecordNotSound, WrongPhase, InputWords, OutputWords, Quote, TagKindOrColumns, NumberOrLabel, NoRoom, TooManyBlocks}
use Rattle.refusals.specs.declared.TheConstants.{OURS, OLDER}
use Rattle.refusals.specs.Refusals.{number_of, number_in}
use Rattle.refusals.specs.Limited.{ours, older}
use mathlib.Core.Path.{refl, sym, ap, ◌∙◌}
use native.Mathlib.Omega.{arith}

pub number-above : (refusal : Refusal) → 1 ≤ number_of refusal
number-above CutShort = omega arith
number-above TagOrLength = omega arith
number-above Version = omega arith
number-above NumberOfBlocks = omega arith
number-above KindOrOption = omega arith
number-above Connector = omega arith
number-above OwnOrLaterBlock = omega arith
number-above Parameter = omega arith
number-above Destination = omega arith
number-above IndexUsedTwice = omega arith
number-above SurplusBytes = omega arith
number-above RecordLength = omega arith
number-above RecordNotSound = omega arith
number-above WrongPhase = omega arith
number-above InputWords = omega arith
number-above OutputWords = omega arith
number-above Quote = omega arith
number-above TagKindOrColumns = omega arith
number-above NumberOrLabel = omega arith
number-above NoRoom = omega arith
number-above TooManyBlocks = omega arith

-- the refusal that has a number
abbrev named_by : ℕ → Refusal
named_by n =
    if eqb n 1 then CutShort else
    if eqb n 2 then TagOrLength else
    if eqb n 3 then Version else
    if eqb n 4 then NumberOfBlocks else
    if eqb n 5 then KindOrOption else
    if eqb n 6 then Connector else
    if eqb n 7 then OwnOrLaterBlock else
    if eqb n 8 then Parameter else
    if eqb n 9 then Destination else
    if eqb n 10 then IndexUsedTwice else
    if eqb n 11 then SurplusBytes else
    if eqb n 20 then RecordLength else
    if eqb n 21 then RecordNotSound else
    if eqb n 22 then WrongPhase else
    if eqb n 23 then InputWords else
    if eqb n 24 then OutputWords else
    if eqb n 30 then Quote else
    if eqb n 31 then TagKindOrColumns else
    if eqb n 32 then NumberOrLabel else
    if eqb n 33 then NoRoom else
    TooManyBlocks

named : (refusal : Refusal) → named_by (number_of refusal) ≡ refusal
named CutShort = refl
named TagOrLength = refl
named Version = refl
named NumberOfBlocks = refl
named KindOrOption = refl
named Connector = refl
named OwnOrLaterBlock = refl
named Parameter = refl
named Destination = refl
named IndexUsedTwice = refl
named SurplusBytes = refl
named RecordLength = refl
named RecordNotSound = refl
named WrongPhase = refl
named InputWords = refl
named OutputWords = refl
named Quote = refl
named TagKindOrColumns = refl
named NumberOrLabel = refl
named NoRoom = refl
named TooManyBlocks = refl

pub numbers-differ : (one other : Refusal) → number_of one ≡ number_of other → one ≡ other
numbers-differ one other e = sym (named one) ∙ ap named_by e ∙ named other

pub ours-is : OURS ≡ ours
ours-is = refl

pub older-is : OLDER ≡ older
older-is = refl

-- a result with number 0 is one that is not refused
pub none-refused : (result : Result Unit Refusal) → number_in result ≡ 0 → result ≡ Ok tt
none-refused (Ok x) e = refl
none-refused (Err refusal) e = let z : ⊥ = omega (arith, number-above refusal) in absurd z
