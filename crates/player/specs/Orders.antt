-- Calls as numbers, so that a program can be given a list of them.
use Rattle.std.specs.Prelude.{ℕ, ◌+◌, ◌≡◌, cond, List, [], ◌∷◌, eqb, get_or, ℤ}
use Rattle.std.specs.Int.{w32}
use Rattle.std.proofs.Common.{to_z, Fits, SFits}
use Rattle.kept.specs.Keeps.{All}
use Rattle.calls.specs.Calls.{cold_start, warm_start, latch, run, publish}
use Rattle.calls.specs.Play.{AnyCall, check, on}

-- 0 cold start, 1 warm start, 2 latch of the input words r and e, 3 run c, 4 publish with the first c output words, any other number check
unfoldable pub call_of : ℕ → ℕ → ℤ → List ℤ → AnyCall
call_of which c e r =
    cond (eqb which 0) (on cold_start)
    (cond (eqb which 1) (on warm_start)
    (cond (eqb which 2) (on (latch r e))
    (cond (eqb which 3) (on (run c)) (cond (eqb which 4) (on (publish c)) check))))

-- an order has three words: the number of the call, c, and the bits of e; fewer words at the end are none
abbrev pub calls_of : List ℕ → List ℤ → List AnyCall
calls_of [] r = []
calls_of (which ∷ []) r = []
calls_of (which ∷ c ∷ []) r = []
calls_of (which ∷ c ∷ e ∷ rest) r = call_of which c (to_z w32 e) r ∷ calls_of rest r

-- the order that begins at a place
abbrev pub call_at : List ℕ → ℕ → List ℤ → AnyCall
call_at orders i r = call_of (get_or orders i 0) (get_or orders (i + 1) 0) (to_z w32 (get_or orders (i + 2) 0)) r

-- ---- every list of calls has its orders

-- a call on the input words r whose numbers are of 32 bits
abbrev pub Given : List ℤ → AnyCall → Type 0
Given r check = Unit {0}
Given r (on cold_start) = Unit {0}
Given r (on warm_start) = Unit {0}
Given r (on (latch q e)) = (q ≡ r) × SFits w32 e
Given r (on (run c)) = Fits w32 c
Given r (on (publish k)) = Fits w32 k

pub record Ordered (r : List ℤ) (xs : List AnyCall) : Type 0 where
  pub orders : List ℕ
  pub words : All (Fits w32) orders
  pub are : calls_of orders r ≡ xs
