-- A counter's count, scan after scan, is n and the rises up less the rises down, while no scan has R and no rise is held back: each scan
-- then moves it by one, or not at all, and leaves it in 0..999,999. Assumes nothing.
use Prim.Native.Nat.{ℕ, ◌+◌, ◌≤◌}
use native.Mathlib.Omega.{arith}
use mathlib.Core.Path.{◌≡◌, refl}
use mathlib.Core.Bool.{Bool, true, false, not, ◌&&◌}
use mathlib.Core.List.{List, [], ◌∷◌}
use lib.IntN.{pos, ◌-ℤ◌}
use borrow.Author.Tests.{eqb-false}
use Rattle.words.proofs.Sides.{same, sub-sides'}
use Rattle.kinds.specs.Kinds.{most_count}
use Rattle.rules.specs.Rules.{bit, digit, tally}
use Rattle.counts.specs.Counts.{rises, ups, downs, count_behind, held_back, Free}

-- ---- one scan

-- whether Cnt rises, Dir
pub moved : (up down : Bool) (n : ℕ) → n ≤ most_count → held_back up down n ≡ false
    → (tally false up down n + digit (up && down) ≡ n + digit (up && not down)) × (tally false up down n ≤ most_count)
moved false down n most e = (refl, most)
moved true false n most e = let ne = eqb-false n most_count e in (omega arith, omega arith)
moved true true n most e = let ne = eqb-false n 0 e in (omega arith, omega arith)

-- ---- scan after scan

pub behind-rises : (bits : List (List Bool)) (n : ℕ) (was : List Bool) → n ≤ most_count → Free n was bits
    → count_behind n was bits + downs was bits ≡ n + ups was bits
behind-rises [] n was most free = refl
behind-rises (b ∷ bits) n was most free =
    let one = moved (rises was b) (bit b 2) n most free.1 in
    let rest = behind-rises bits (tally false (rises was b) (bit b 2) n) b one.1 free.2 in
    rw free.0 (omega arith)

-- from 0, as a difference
pub rises-less : (bits : List (List Bool)) → Free 0 [] bits → pos (count_behind 0 [] bits) ≡ pos (ups [] bits) -ℤ pos (downs [] bits)
rises-less bits free =
    let u = ups [] bits in
    let d = downs [] bits in
    let difference = sub-sides' (pos u) (pos d) in
    let count = behind-rises bits 0 [] (omega arith) free in
    same (pos (count_behind 0 [] bits)) (pos u -ℤ pos d) (omega arith)
