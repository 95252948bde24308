-- Every list of calls on the same input words is the list of some orders: what is proved of `play_all` is proved of it. Assumes nothing.
use Prim.Native.Nat.{ℕ}
use mathlib.Core.Path.{◌≡◌, refl}
use mathlib.Core.List.{List, [], ◌∷◌}
use lib.IntN.{ℤ}
use mir.Syntax.{w32}
use mir.Val.{to_z, of_z, Fits}
use mir.ValLaws.{of_z_fits}
use borrow.Author.Rules.{rules}
use Rattle.words.proofs.Locals.{back}
use Rattle.kept.specs.Keeps.{All}
use Rattle.calls.specs.Calls.{cold_start, warm_start, latch, run, publish}
use Rattle.calls.specs.Play.{AnyCall, check, on}
use Rattle.player.specs.Orders.{call_of, Given, Ordered}

module _ (r : List ℤ) where
  -- one order in front of others
  order : (which c e : ℕ) → Fits w32 which → Fits w32 c → Fits w32 e → {x : AnyCall} → call_of which c (to_z w32 e) r ≡ x
      → {xs : List AnyCall} → Ordered r xs → Ordered r (x ∷ xs)
  order which c e f g h is rest =
      record { orders = which ∷ c ∷ e ∷ rest.orders; words = (f, (g, (h, rest.words))); are = rw (is, rest.are) }

  next : (x : AnyCall) → Given r x → {xs : List AnyCall} → Ordered r xs → Ordered r (x ∷ xs)
  unfolding call_of
  next check g = order 5 0 0 (search rules) (search rules) (search rules) refl
  next (on cold_start) g = order 0 0 0 (search rules) (search rules) (search rules) refl
  next (on warm_start) g = order 1 0 0 (search rules) (search rules) (search rules) refl
  next (on (latch q e)) g = order 2 0 (of_z w32 e) (search rules) (search rules) (of_z_fits w32 e g.1) (rw (g.0, back g.1))
  next (on (run c)) g = order 3 c 0 (search rules) g (search rules) refl
  next (on (publish k)) g = order 4 k 0 (search rules) g (search rules) refl

  pub any-list : (xs : List AnyCall) → All (Given r) xs → Ordered r xs
  any-list [] g = record { orders = []; words = tt; are = refl }
  any-list (x ∷ xs) g = next x g.0 (any-list xs g.1)
