-- Numbers put into bytes: by width, and one place after the other. Assumes nothing.
use mathlib.Core.Path.{◌≡◌, ap, sym, ◌∙◌}
use mathlib.Core.Bool.{Bool, true, false, cond}
use mathlib.Core.List.{List, ◌++◌}
use Prim.Native.Nat.{ℕ, ◌+◌, ◌*◌, ◌%◌, ◌≤◌, ◌<◌}
use native.Mathlib.Nat.{div-one}
use lib.Bits.{bit_and}
use lib.Dec.{eqb, ltb}
use lib.ListN.{length, set, drop}
use lib.Seq.{sets}
use lib.IntN.{ℤ}
use mir.Syntax.{w32}
use mir.Val.{of_z}
use Rattle.words.specs.Bytes.{bytes_of}
use Rattle.words.proofs.Masks.{low_byte}
use Rattle.digits.specs.Numbers.{Number}
use Rattle.digits.specs.Numbers.{value_of}
use Rattle.rows.specs.Columns.{said_in, packed, widths, numbers_bytes, nth}
use Rattle.rows.specs.Widths.{width_at}
use Rattle.rows.proofs.Widths.{packed-length}
use Rattle.rows.proofs.Laid.{sets-append}
use Rattle.splitting.proofs.Numbers.{bytes_on}

-- ---- the bytes

module _ (l : List ℕ) (to width bits : ℕ) (v : ℤ) (is : bits ≡ of_z w32 v) where
  pub pack-is : (k : ℕ) → width ≡ k → sets l to (bytes_of k bits) ≡ sets l to (packed width v)
  unfolding packed
  pack-is k e = rw (e, is)

  pub pack_one : width ≡ 1 → set l to (bit_and bits 255) ≡ sets l to (packed width v)
  unfolding bytes_of
  pack_one e = rw low_byte (sym (rw div-one) ∙ pack-is 1 e)

pub width_some : (i j w : ℕ) → w ≡ width_at i j → (w ≡ 4 → ⊥) → (w ≡ 2 → ⊥) → (w ≡ 1 → ⊥) → ⊥
unfolding width_at
width_some i j w e four two one = by (ltb j 2) (ltb j (2 + 2 * i)) (eqb (j % 2) 0) e
  where
    by : (a b c : Bool) → w ≡ cond a 1 (cond b (cond c 1 2) 4) → ⊥
    by true b c q = one q
    by false true true q = one q
    by false true false q = two q
    by false false c q = four q

-- ---- one place after the other

module _ (i p j : ℕ) (h : j < 2 + 2 * i + p) (cells : List (List ℕ)) (g : 3 + 2 * i + p ≤ length cells) where
  pub put_on : (l after : List ℕ) (place width : ℕ) (n : Number) → width ≡ width_at i j → n ≡ said_in width (nth cells (j + 1))
      → after ≡ sets l place (packed width (value_of n))
      → sets after (place + width) (numbers_bytes (drop (j + 1) (widths i p)) (drop (j + 1 + 1) cells)) ≡ sets l place (numbers_bytes (drop j (widths i p)) (drop (j + 1) cells))
  put_on l after place width n w e a =
      let rest = numbers_bytes (drop (j + 1) (widths i p)) (drop (j + 1 + 1) cells) in
      let first = packed width (value_of n) in
      ap (λ (m : List ℕ). sets m (place + width) rest) a
      ∙ ap (λ (k : ℕ). sets (sets l place first) (place + k) rest) (sym (packed-length width (value_of n)))
      ∙ sym (sets-append first rest l place)
      ∙ ap (sets l place) (here w e)
    where
      here : width ≡ width_at i j → n ≡ said_in width (nth cells (j + 1))
          → packed width (value_of n) ++ numbers_bytes (drop (j + 1) (widths i p)) (drop (j + 1 + 1) cells) ≡ numbers_bytes (drop j (widths i p)) (drop (j + 1) cells)
      here w e = rw (e, w) (sym (bytes_on i p j h cells g))
