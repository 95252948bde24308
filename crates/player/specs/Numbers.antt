-- Orders as the code takes them. Not part of what a reader has to believe.
use Rattle.std.specs.Prelude.{ℕ, ◌≡◌, List, ℤ}
use Rattle.calls.specs.Calls.{cold_start, warm_start, latch, run, publish}
use Rattle.calls.specs.Play.{AnyCall, check, on}
use Rattle.player.specs.Orders.{call_of, call_at}
use Rattle.player.specs.declared.Asked.{Asked}
use Rattle.player.specs.declared.Asked.TheVariants.{ColdStart, WarmStart, Latch, Run, Publish, Check}

-- the call that is asked for
abbrev pub asked_call : Asked → ℕ → ℤ → List ℤ → AnyCall
asked_call ColdStart c e r = on cold_start
asked_call WarmStart c e r = on warm_start
asked_call Latch c e r = on (latch r e)
asked_call Run c e r = on (run c)
asked_call Publish c e r = on (publish c)
asked_call Check c e r = check

-- a number asks for the call that it stands for
abbrev pub Numbers : ℕ → Asked → Type 0
Numbers which asked = (c : ℕ) (e : ℤ) (r : List ℤ) → call_of which c e r ≡ asked_call asked c e r

-- the call of an order's three words
abbrev pub order_call : List ℤ → List ℕ → AnyCall
order_call r order = call_at order 0 r
