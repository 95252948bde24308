-- A bit and its word, there and back. Assumes nothing.
use mathlib.Core.Path.{◌≡◌, refl}
use mathlib.Core.Bool.{Bool, true, false}
use Prim.Native.Nat.{ℕ, zero, suc, ◌≤◌}
use native.Mathlib.Omega.{arith}
use lib.IntN.{ℤ, pos, negsuc}
use Rattle.words.specs.Signed.{Between, bit_of, word_of}
use Rattle.words.proofs.Bounds.{between-sides, count-between, zero-between}

pub bit_word : (b : Bool) → bit_of (word_of b) ≡ b
bit_word true = refl
bit_word false = refl

pub word-bit : {x : ℤ} → Between (pos 0) (pos 1) x → word_of (bit_of x) ≡ x
word-bit {x = pos zero} e = refl
word-bit {x = pos (suc zero)} e = refl
word-bit {x = pos (suc (suc n))} e = absurd (let s = between-sides e in omega arith)
word-bit {x = negsuc n} e = absurd (let s = between-sides e in omega arith)

pub bit-between : (b : Bool) {n : ℕ} → 1 ≤ n → Between (pos 0) (pos n) (word_of b)
bit-between true h = count-between h
bit-between false h = zero-between

pub word-between : (b : Bool) → Between (pos 0) (pos 1) (word_of b)
word-between b = bit-between b (omega arith)
