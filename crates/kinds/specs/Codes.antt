-- The numbers of the kinds: document 01, "Sixteen kinds", 1 to 16; document 02, 17 to 19.
use Rattle.std.specs.Prelude.{ℕ, ◌≡◌, true, false, Result, MatchResult}
use Rattle.kinds.specs.declared.kind.Kind.{Kind}
use Rattle.kinds.specs.declared.kind.Kind.TheVariants.{And, AndEdge, Nand, NandEdge, Or, Nor, Xor, Not, OnDelay, OffDelay, LatchingRelay, ShiftRegister, ThresholdTrigger, Comparator, Multiplexer, DifferentialTrigger, UpDownCounter, StairwaySwitch, Amplifier}
use Rattle.kinds.specs.declared.kind.UnknownKind.{UnknownKind}
use Rattle.kinds.specs.Kinds.{known}

-- the byte that stands for a kind
abbrev pub byte_of : Kind → ℕ
byte_of And = 1
byte_of AndEdge = 2
byte_of Nand = 3
byte_of NandEdge = 4
byte_of Or = 5
byte_of Nor = 6
byte_of Xor = 7
byte_of Not = 8
byte_of OnDelay = 9
byte_of OffDelay = 10
byte_of LatchingRelay = 11
byte_of ShiftRegister = 12
byte_of ThresholdTrigger = 13
byte_of Comparator = 14
byte_of Multiplexer = 15
byte_of DifferentialTrigger = 16
byte_of UpDownCounter = 17
byte_of StairwaySwitch = 18
byte_of Amplifier = 19

-- a known byte gives its kind, any other byte none
abbrev pub Decodes : ℕ → Result Kind UnknownKind → Type 0
Decodes byte r = MatchResult r (λ kind. (byte_of kind ≡ byte) × (known byte ≡ true)) (λ _. known byte ≡ false)
