-- What `search` is handed to close what signed code asks: `search (rules, whole)`. A sum, a difference, a product or a
-- quotient fits 32 bits where each operand lies between two literals (`Between`, in what the goal is handed) and the
-- literals leave room, which computes. Assumes nothing.
use mathlib.Core.Path.{◌≡◌}
use Prim.Native.Nat.{ℕ, zero, suc, zero-le, max, ◌+◌, ◌*◌, ◌/◌, ◌^◌, ◌≤◌}
use native.Mathlib.Nat.{le-max_left, le-max_right, mul-le-mul, div-zero, div-mul-le_self, le-div_iff_mul-le, le_trans, zero-lt-suc}
use native.Mathlib.Omega.{arith}
use lib.Dec.{T, ltb, ltb→lt}
use lib.IntN.{ℤ, pos, nat_abs, neg_ℤ, ◌+ℤ◌, ◌-ℤ◌, ◌*ℤ◌}
use lib.Signed.{le_z, quot_z, ◌≤ℤ◌, le_z_yes}
use mir.Syntax.{w32}
use mir.Val.{SFits}
use Rattle.words.specs.Signed.{Between}
use Rattle.words.proofs.Sides.{abs_is, ≤-sides, sides-≤}
use Rattle.words.proofs.Bounds.{abs-le, between-sides, sides-between, abs-mul, abs-add, abs-sub, abs-quot, abs-between, abs-fits, add-fits, sub-fits, quot_fits}

-- how far from zero a number between two ends can be
abbrev pub reach : ℤ → ℤ → ℕ
reach l g = max (nat_abs l) (nat_abs g)

pub between-reach : {l g x : ℤ} → Between l g x → nat_abs x ≤ reach l g
between-reach {l} {g} {x} e =
    let s = between-sides e in
    let a = abs_is l in
    let b = abs_is g in
    let m = le-max_left (nat_abs l) (nat_abs g) in
    let n = le-max_right (nat_abs l) (nat_abs g) in
    abs-le x (reach l g) (omega arith) (omega arith)

pub one-fits : {l g x : ℤ} → Between l g x → T (ltb (reach l g) (2 ^ 31)) → SFits w32 x
one-fits {l} {g} {x} e t = abs-fits x (omega (arith, between-reach e, ltb→lt (reach l g) (2 ^ 31) t))

module _ {l g m h x y : ℤ} (e : Between l g x) (f : Between m h y) where
  pub sum_fits : T (ltb (reach l g + reach m h) (2 ^ 31)) → SFits w32 (x +ℤ y)
  sum_fits t = add-fits x y (omega (arith, between-reach e, between-reach f, ltb→lt (reach l g + reach m h) (2 ^ 31) t))

  pub difference-fits : T (ltb (reach l g + reach m h) (2 ^ 31)) → SFits w32 (x -ℤ y)
  difference-fits t = sub-fits x y (omega (arith, between-reach e, between-reach f, ltb→lt (reach l g + reach m h) (2 ^ 31) t))

  pub product-fits : T (ltb (reach l g * reach m h) (2 ^ 31)) → SFits w32 (x *ℤ y)
  product-fits t =
      abs-fits (x *ℤ y) (omega (arith, abs-mul x y, mul-le-mul (between-reach e) (between-reach f), ltb→lt (reach l g * reach m h) (2 ^ 31) t))

-- the ends of a result
module _ {l g m h x y : ℤ} (e : Between l g x) (f : Between m h y) where
  pub sum-between : Between (neg_ℤ (pos (reach l g + reach m h))) (pos (reach l g + reach m h)) (x +ℤ y)
  sum-between = abs-between (reach l g + reach m h) (omega (arith, abs-add x y, between-reach e, between-reach f))

  pub difference-between : Between (neg_ℤ (pos (reach l g + reach m h))) (pos (reach l g + reach m h)) (x -ℤ y)
  difference-between = abs-between (reach l g + reach m h) (omega (arith, abs-sub x y, between-reach e, between-reach f))

  pub product-between : Between (neg_ℤ (pos (reach l g * reach m h))) (pos (reach l g * reach m h)) (x *ℤ y)
  product-between = abs-between (reach l g * reach m h) (omega (arith, abs-mul x y, mul-le-mul (between-reach e) (between-reach f)))

div_mono : (k : ℕ) {a b : ℕ} → a ≤ b → a / k ≤ b / k
div_mono zero {a} {b} h = rw (div-zero a) zero-le
div_mono (suc k) {a} {b} h = (le-div_iff_mul-le (zero-lt-suc k)).1 (le_trans (div-mul-le_self a (suc k)) h)

pub quotient-between : {l g x : ℤ} (k : ℕ) → Between l g x → Between (neg_ℤ (pos (reach l g / k))) (pos (reach l g / k)) (quot_z x (pos k))
quotient-between {l} {g} {x} k e =
    abs-between (reach l g / k) (omega (arith, abs-quot x k, div_mono k (between-reach e)))

-- wider ends, and a least end that is not negative
pub wider : {l g x l' g' : ℤ} → Between l g x → T (le_z l' l) → T (le_z g g') → Between l' g' x
wider {l} {g} {x} {l'} {g'} e h k =
    let s = between-sides e in
    let a = ≤-sides {a = l'} {b = l} (le_z_yes h) in
    let b = ≤-sides {a = g} {b = g'} (le_z_yes k) in
    sides-between (omega arith) (omega arith)

pub at-least-zero : {l g x : ℤ} → Between l g x → T (le_z (pos 0) l) → pos 0 ≤ℤ x
at-least-zero {l} {g} {x} e h =
    let s = between-sides e in
    let a = ≤-sides {a = pos 0} {b = l} (le_z_yes h) in
    sides-≤ (omega arith)

-- a value and its range, from what it equals
pub ranged : {l g x y : ℤ} → x ≡ y → Between l g y → (x ≡ y) × Between l g x
ranged e b = (e, rw e b)

pub ruleset whole = (one-fits, sum_fits, difference-fits, product-fits, quot_fits, wider, at-least-zero)
