-- A list of orders, three words at a time from its front. Assumes nothing.
use Prim.Native.Nat.{ℕ, suc, ◌/◌}
use native.Mathlib.Omega.{arith}
use mathlib.Core.Path.{◌≡◌, refl, ap}
use mathlib.Core.List.{List, [], ◌∷◌, map}
use lib.ListN.{length}
use lib.IntN.{ℤ}
use Rattle.std.specs.Simd.{first_chunks}
use Rattle.player.specs.Orders.{calls_of, call_at}
use Rattle.player.specs.Numbers.{order_call}

module _ (r : List ℤ) where
  -- whole orders are the list's
  pub whole_orders : (l : List ℕ) (k : ℕ) → k ≡ length l / 3 → map (order_call r) (first_chunks 3 k l) ≡ calls_of l r
  whole_orders [] k e = let z : k ≡ 0 = omega arith in rw z
  whole_orders (x ∷ []) k e = let z : k ≡ 0 = omega arith in rw z
  whole_orders (x ∷ y ∷ []) k e = let z : k ≡ 0 = omega arith in rw z
  whole_orders (x ∷ y ∷ z ∷ l) k e =
      let more : k ≡ suc (length l / 3) = omega arith in
      rw more (ap (λ xs. call_at (x ∷ y ∷ z ∷ []) 0 r ∷ xs) (whole_orders l (length l / 3) refl))
