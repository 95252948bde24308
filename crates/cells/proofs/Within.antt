-- Where a cell lies: its text and its end are inside the list, and what ends it is passed. Assumes nothing.
use mathlib.Core.Path.{◌≡◌, refl}
use mathlib.Core.Bool.{Bool, true, false, cond}
use mathlib.Core.List.{List}
use Prim.Native.Nat.{ℕ, ◌+◌, ◌-◌, ◌≤◌, ◌<◌}
use native.Mathlib.Omega.{arith}
use lib.ListN.{length, drop, length-drop}
use Rattle.cells.specs.Cells.{Cell, starts, none, ending, ending_size, plain_size, quoted_size, finish, closed, cell_at}
use Rattle.cells.proofs.Laws.{plain_fits, quoted-fits, starts-in, ending_size-fits, cell-quoted, cell-plain}

pub record Within (s : List ℕ) (at : ℕ) (c : Cell) : Type 0 where
  pub text : c.start + c.size ≤ length s
  pub inside : c.next ≤ length s
  pub moves : at + ending_size c.how ≤ c.next
  pub ends : (c.how ≡ 0 → ⊥) → (c.how ≡ 30 → ⊥) → 0 < ending_size c.how

marked : (a b c d e : Bool) → let m : ℕ = cond a 1 (cond b 2 (cond c (cond d 3 30) (cond e 0 30))) in (m ≡ 0 → ⊥) → (m ≡ 30 → ⊥) → 0 < ending_size m
unfolding ending_size
marked true b c d e z f = omega arith
marked false true c d e z f = omega arith
marked false false true true e z f = omega arith
marked false false true false e z f = absurd (f refl)
marked false false false d true z f = absurd (z refl)
marked false false false d false z f = absurd (f refl)

ending-ends : (l : List ℕ) → (ending l ≡ 0 → ⊥) → (ending l ≡ 30 → ⊥) → 0 < ending_size (ending l)
unfolding ending
ending-ends l = marked (starts 44 l) (starts 10 l) (starts 13 l) (starts 10 (drop 1 l)) (none l)

finish-within : (s : List ℕ) (q : Bool) (at from size e : ℕ) → at ≤ e → from + size ≤ e → e ≤ length s → Within s at (finish s q from size e)
unfolding finish
finish-within s q at from size e a b h =
    record {
      text = omega arith;
      inside = omega (arith, ending_size-fits (drop e s), length-drop e s);
      moves = omega arith;
      ends = ending-ends (drop e s);
    }

open-within : (s : List ℕ) (at from size : ℕ) → at ≤ from + size → from + size ≤ length s
    → Within s at (record { start = from; size = size; quoted = true; how = 30; next = from + size })
unfolding ending_size
open-within s at from size a h = record { text = h; inside = h; moves = omega arith; ends = λ z f. absurd (f refl) }

closed-within : (s : List ℕ) (at from size : ℕ) → at ≤ from → from + size ≤ length s → Within s at (closed s from size)
unfolding closed
closed-within s at from size a h = by (starts 34 (drop (from + size) s)) refl
  where
    by : (t : Bool) → starts 34 (drop (from + size) s) ≡ t → Within s at (closed s from size)
    by true e = rw e (finish-within s true at from size (from + size + 1) (omega arith) (omega arith) (omega (arith, starts-in s (from + size) 34 e)))
    by false e = rw e (open-within s at from size (omega arith) h)

pub cell-within : (s : List ℕ) (at : ℕ) → at ≤ length s → Within s at (cell_at s at)
cell-within s at h = by (starts 34 (drop at s)) refl
  where
    by : (t : Bool) → starts 34 (drop at s) ≡ t → Within s at (cell_at s at)
    by true e =
        let i : at < length s = starts-in s at 34 e in
        rw (← cell-quoted s at e) (closed-within s at (at + 1) (quoted_size (drop (at + 1) s)) (omega arith) (omega (arith, quoted-fits (drop (at + 1) s), length-drop (at + 1) s)))
    by false e =
        let n = plain_size (drop at s) in
        let k : (at + n) - at ≡ n = omega arith in
        rw (← cell-plain s at (at + n) e refl) (rw k (finish-within s false at at n (at + n) (omega arith) (omega arith) (omega (arith, plain_fits (drop at s), length-drop at s))))
