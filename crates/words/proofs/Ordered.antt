-- std's order of bytes, the high byte first, is the order of the papers: `from_be_bytes` is `number_at`, and `to_be_bytes` is `bytes_of`.
-- Assumes nothing.
use mathlib.Core.Path.{◌≡◌, refl, ap, ◌∙◌}
use mathlib.Core.List.{List}
use Prim.Native.Nat.{ℕ, ◌+◌, ◌/◌, ◌%◌, ◌<◌}
use native.Mathlib.Nat.{div-one}
use native.Mathlib.Omega.{arith}
use lib.Bits.{bit_and, and_mask}
use lib.ListN.{get_or, take, drop}
use mir.Syntax.{w16, w32}
use Rattle.std.specs.Int.{from_be_bytes, to_be_bytes}
use Rattle.std.proofs.lemmas.List.{get_or-take, get_or-drop}
use Rattle.words.specs.Bytes.{number_at, bytes_of}

part_at : (n : ℕ) (s : List ℕ) (at i j : ℕ) → i < n → at + i ≡ j → get_or (take n (drop at s)) i 0 ≡ get_or s j 0
part_at n s at i j h e = get_or-take n (drop at s) i 0 h ∙ get_or-drop at s i 0 ∙ ap (λ k. get_or s k 0) e

pub two_read : (s : List ℕ) (at : ℕ) → from_be_bytes w16 (take 2 (drop at s)) ≡ number_at 2 s at
unfolding number_at
two_read s at = rw (part_at 2 s at 0 at (omega arith) (omega arith), part_at 2 s at 1 (at + 1) (omega arith) (omega arith)) (omega arith)

pub four_read : (s : List ℕ) (at : ℕ) → from_be_bytes w32 (take 4 (drop at s)) ≡ number_at 4 s at
unfolding number_at
four_read s at =
    let p = part_at 4 s at in
    rw (p 0 at (omega arith) (omega arith), p 1 (at + 1) (omega arith) (omega arith))
    (rw (p 2 (at + 1 + 1) (omega arith) (omega arith), p 3 (at + 1 + 1 + 1) (omega arith) (omega arith)) (omega arith))

pub two_written : (n : ℕ) → to_be_bytes w16 n ≡ bytes_of 2 n
unfolding bytes_of
two_written n = rw div-one refl

pub four_written : (n : ℕ) → to_be_bytes w32 n ≡ bytes_of 4 n
unfolding bytes_of
four_written n = rw div-one refl

-- of a greater number than two bytes hold, the last two
pub last_two : (n : ℕ) → bytes_of 2 (bit_and n 65535) ≡ bytes_of 2 n
unfolding bytes_of
last_two n =
    let high : n % 65536 / 256 % 256 ≡ n / 256 % 256 = omega arith in
    let low : n % 65536 % 256 ≡ n % 256 = omega arith in
    simp (and_mask n 16, div-one, high, low) refl
