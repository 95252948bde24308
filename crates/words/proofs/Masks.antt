-- A mask of lower bits is a remainder, at the masks of the code, which rewriting looks for. Assumes nothing.
use mathlib.Core.Path.{◌≡◌}
use Prim.Native.Nat.{ℕ, ◌%◌}
use lib.Bits.{bit_and, and_mask}

pub low_bit : (n : ℕ) → bit_and n 1 ≡ n % 2
low_bit n = and_mask n 1

pub low-three-bits : (n : ℕ) → bit_and n 7 ≡ n % 8
low-three-bits n = and_mask n 3

pub low-seven-bits : (n : ℕ) → bit_and n 127 ≡ n % 128
low-seven-bits n = and_mask n 7

pub low_byte : (n : ℕ) → bit_and n 255 ≡ n % 256
low_byte n = and_mask n 8

pub low-two-bytes : (n : ℕ) → bit_and n 65535 ≡ n % 65536
low-two-bytes n = and_mask n 16
