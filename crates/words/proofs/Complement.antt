-- Two's complement: what the upper half of the bits stands for, at every width. Assumes nothing.
use mathlib.Core.Path.{◌≡◌}
use Prim.Native.Nat.{ℕ, suc, ◌-◌, ◌≤◌, ◌<◌, ◌^◌}
use native.Mathlib.Omega.{arith}
use borrow.Author.Tests.{le-ltb}
use lib.IntN.{pos, negsuc, ◌-ℤ◌}
use mir.Syntax.{Width, w32}
use mir.Val.{SFits, bits, hbits, to_z}
use mir.Facts.{to_z_pos}
use Rattle.words.proofs.Sides.{same, sub-sides'}

pub upper : (w : Width) (n : ℕ) → 2 ^ hbits w ≤ n → to_z w n ≡ negsuc (2 ^ bits w - suc n)
upper w n h = simp (le-ltb n (2 ^ hbits w) h)

less : (k : ℕ) → negsuc 0 -ℤ pos k ≡ negsuc k
less k = same (negsuc 0 -ℤ pos k) (negsuc k) (omega (arith, sub-sides' (negsuc 0) (pos k)))

-- −1 − k, worked out in a word
module _ (k : ℕ) (h : k < 2 ^ 31) where
  pub below-zero-fits : SFits w32 (negsuc 0 -ℤ to_z w32 k)
  below-zero-fits = rw (to_z_pos w32 {n = k} h, less k) (record { sfits = h })

  pub below-zero : negsuc 0 -ℤ to_z w32 k ≡ negsuc k
  below-zero = rw (to_z_pos w32 {n = k} h) (less k)
