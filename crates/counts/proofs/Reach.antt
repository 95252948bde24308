-- No scan has R or is held at a stop exactly when none has R and the difference of the rises stays in 0..999,999: a rise is held back
-- exactly where it would leave that range, and else the count is the difference (`moved`). Assumes nothing.
use Prim.Native.Nat.{ℕ, zero, suc, ◌+◌, ◌≤◌}
use native.Mathlib.Omega.{arith}
use mathlib.Core.Path.{◌≡◌, refl}
use mathlib.Core.Bool.{Bool, true, false, not, ◌&&◌}
use mathlib.Core.List.{List, [], ◌∷◌}
use lib.ListN.{take}
use borrow.Author.Tests.{ne_eqb}
use Rattle.kept.specs.Keeps.{All}
use Rattle.kinds.specs.Kinds.{most_count}
use Rattle.rules.specs.Rules.{bit, digit, tally}
use Rattle.counts.specs.Counts.{rises, ups, downs, held_back, Free, FreeExactly}
use Rattle.counts.proofs.Rises.{moved}

-- scans without R
abbrev Plain : List (List Bool) → Type 0
Plain bits = All (λ b. bit b 0 ≡ false) bits

-- behind the first j of some scans, from a count n
abbrev Reach : ℕ → List Bool → List (List Bool) → ℕ → Type 0
Reach n was bits j =
    (downs was (take j bits) ≤ n + ups was (take j bits)) × (n + ups was (take j bits) ≤ most_count + downs was (take j bits))

free-plain : (bits : List (List Bool)) (n : ℕ) (was : List Bool) → Free n was bits → Plain bits
free-plain [] n was free = tt
free-plain (b ∷ bits) n was free = (free.0, free-plain bits _ b free.2)

free-reach : (bits : List (List Bool)) (n : ℕ) (was : List Bool) → n ≤ most_count → Free n was bits → (j : ℕ) → Reach n was bits j
free-reach bits n was most free zero = (omega arith, omega arith)
free-reach [] n was most free (suc j) = (omega arith, omega arith)
free-reach (b ∷ bits) n was most free (suc j) =
    let one = moved (rises was b) (bit b 2) n most free.1 in
    let rest = free-reach bits (tally false (rises was b) (bit b 2) n) b one.1 free.2 j in
    (omega arith, omega arith)

-- a rise that leaves the difference in reach is not held back
not-held : (up down : Bool) (n : ℕ) → digit (up && down) ≤ n + digit (up && not down) → n + digit (up && not down) ≤ most_count + digit (up && down)
    → held_back up down n ≡ false
not-held false down n low high = refl
not-held true false n low high = ne_eqb n most_count (λ e. omega arith)
not-held true true n low high = ne_eqb n 0 (λ e. omega arith)

reach-free : (bits : List (List Bool)) (n : ℕ) (was : List Bool) → n ≤ most_count → Plain bits → ((j : ℕ) → Reach n was bits j) → Free n was bits
reach-free [] n was most plain reach = tt
reach-free (b ∷ bits) n was most plain reach =
    let first = reach 1 in
    let held = not-held (rises was b) (bit b 2) n (omega arith) (omega arith) in
    let one = moved (rises was b) (bit b 2) n most held in
    let next = tally false (rises was b) (bit b 2) n in
    let rest : (j : ℕ) → Reach next b bits j = λ j. let all = reach (suc j) in (omega arith, omega arith) in
    (plain.0, held, reach-free bits next b one.1 plain.1 rest)

pub free-exactly : FreeExactly
free-exactly was bits = (
  λ free. (free-plain bits 0 was free, λ j. let r = free-reach bits 0 was (omega arith) free j in (omega arith, omega arith)),
  λ both. reach-free bits 0 was (omega arith) both.0 (λ j. let r = both.1 j in (omega arith, omega arith)),
)
