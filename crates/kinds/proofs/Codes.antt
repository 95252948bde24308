-- Each kind's byte is known, and a known byte is some kind's. Assumes nothing.
use mathlib.Core.Path.{◌≡◌, refl}
use mathlib.Core.Bool.{true, ◌&&◌}
use lib.Dec.{leb, ltb}
use Prim.Native.Nat.{ℕ, zero, suc, ◌<◌}
use native.Mathlib.Omega.{arith}
use borrow.Author.Tests.{leb-true, ltb-true}
use Rattle.words.proofs.Bounds.{and-true}
use Rattle.kinds.specs.declared.kind.Kind.{Kind}
use Rattle.kinds.specs.declared.kind.Kind.TheVariants.{And, AndEdge, Nand, NandEdge, Or, Nor, Xor, Not, OnDelay, OffDelay, LatchingRelay, ShiftRegister, ThresholdTrigger, Comparator, Multiplexer, DifferentialTrigger, UpDownCounter, StairwaySwitch, Amplifier}
use Rattle.kinds.specs.Kinds.{known, kinds}
use Rattle.kinds.specs.Codes.{byte_of}

pub known-byte : (k : Kind) → known (byte_of k) ≡ true
unfolding known kinds
known-byte And = refl
known-byte AndEdge = refl
known-byte Nand = refl
known-byte NandEdge = refl
known-byte Or = refl
known-byte Nor = refl
known-byte Xor = refl
known-byte Not = refl
known-byte OnDelay = refl
known-byte OffDelay = refl
known-byte LatchingRelay = refl
known-byte ShiftRegister = refl
known-byte ThresholdTrigger = refl
known-byte Comparator = refl
known-byte Multiplexer = refl
known-byte DifferentialTrigger = refl
known-byte UpDownCounter = refl
known-byte StairwaySwitch = refl
known-byte Amplifier = refl

-- as two tests of numbers
pub known_is : (byte : ℕ) → known byte ≡ leb 1 byte && ltb byte 20
unfolding known kinds
known_is byte = refl

-- a kind has each number from 1 to 19
numbered : (n : ℕ) → n < 19 → (k : Kind) × (byte_of k ≡ suc n)
numbered zero h = (And, refl)
numbered (suc zero) h = (AndEdge, refl)
numbered (suc (suc zero)) h = (Nand, refl)
numbered (suc (suc (suc zero))) h = (NandEdge, refl)
numbered (suc (suc (suc (suc zero)))) h = (Or, refl)
numbered (suc (suc (suc (suc (suc zero))))) h = (Nor, refl)
numbered (suc (suc (suc (suc (suc (suc zero)))))) h = (Xor, refl)
numbered (suc (suc (suc (suc (suc (suc (suc zero))))))) h = (Not, refl)
numbered (suc (suc (suc (suc (suc (suc (suc (suc zero)))))))) h = (OnDelay, refl)
numbered (suc (suc (suc (suc (suc (suc (suc (suc (suc zero))))))))) h = (OffDelay, refl)
numbered (suc (suc (suc (suc (suc (suc (suc (suc (suc (suc zero)))))))))) h = (LatchingRelay, refl)
numbered (suc (suc (suc (suc (suc (suc (suc (suc (suc (suc (suc zero))))))))))) h = (ShiftRegister, refl)
numbered (suc (suc (suc (suc (suc (suc (suc (suc (suc (suc (suc (suc zero)))))))))))) h = (ThresholdTrigger, refl)
numbered (suc (suc (suc (suc (suc (suc (suc (suc (suc (suc (suc (suc (suc zero))))))))))))) h = (Comparator, refl)
numbered (suc (suc (suc (suc (suc (suc (suc (suc (suc (suc (suc (suc (suc (suc zero)))))))))))))) h = (Multiplexer, refl)
numbered (suc (suc (suc (suc (suc (suc (suc (suc (suc (suc (suc (suc (suc (suc (suc zero))))))))))))))) h = (DifferentialTrigger, refl)
numbered (suc (suc (suc (suc (suc (suc (suc (suc (suc (suc (suc (suc (suc (suc (suc (suc zero)))))))))))))))) h = (UpDownCounter, refl)
numbered (suc (suc (suc (suc (suc (suc (suc (suc (suc (suc (suc (suc (suc (suc (suc (suc (suc zero))))))))))))))))) h = (StairwaySwitch, refl)
numbered (suc (suc (suc (suc (suc (suc (suc (suc (suc (suc (suc (suc (suc (suc (suc (suc (suc (suc zero)))))))))))))))))) h = (Amplifier, refl)
numbered (suc (suc (suc (suc (suc (suc (suc (suc (suc (suc (suc (suc (suc (suc (suc (suc (suc (suc (suc n))))))))))))))))))) h = absurd (omega arith)

pub some-kind : (byte : ℕ) → known byte ≡ true → (k : Kind) × (byte_of k ≡ byte)
some-kind zero e = absurd (omega (arith, leb-true 1 0 (and-true (leb 1 0) (ltb 0 20) (rw known_is at e)).0))
some-kind (suc n) e = numbered n (omega (arith, ltb-true (suc n) 20 (and-true (leb 1 (suc n)) (ltb (suc n) 20) (rw known_is at e)).1))
