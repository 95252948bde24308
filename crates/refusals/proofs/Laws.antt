-- The first number that holds is the lowest where the numbers rise; our limits and those of the older series are modest. Assumes nothing.
use mathlib.Core.Path.{◌≡◌, refl, sym, subst, ◌∙◌}
use mathlib.Core.Bool.{Bool, true, false, false≢true}
use mathlib.Core.List.{List, [], ◌∷◌}
use Prim.Native.Nat.{ℕ, ◌≤◌}
use native.Mathlib.Omega.{arith}
use borrow.Author.Tests.{leb-true}
use lib.Dec.{leb}
use Rattle.words.proofs.Bounds.{and-true}
use Rattle.refusals.specs.Faults.{Fault, lowest, AtMost, rises_from, rises}
use Rattle.refusals.specs.Limited.{ours, older}
use Rattle.refusals.specs.Modest.{Modest}

-- what rises from a number on is not below it
from_on : (k j : ℕ) (l : List Fault) → j ≤ k → rises_from k l ≡ true → AtMost j l
from_on k j [] h e = tt
from_on k j (f ∷ l) h e =
    let both = and-true (leb k f.number) (rises_from f.number l) e in
    let low : k ≤ f.number = leb-true k f.number both.0 in
    let lower : j ≤ f.number = omega arith in
    (λ x. lower, from_on f.number j l lower both.1)

one_more : (f : Fault) (l : List Fault) → rises_from f.number l ≡ true → AtMost (lowest l) l → AtMost (lowest (f ∷ l)) (f ∷ l)
one_more f l e below = go f.holds refl
  where
    go : (b : Bool) → f.holds ≡ b → AtMost (lowest (f ∷ l)) (f ∷ l)
    go true h =
        let n : lowest (f ∷ l) ≡ f.number = rw h refl in
        ((λ x. omega (arith, n)), subst (λ k. AtMost k l) (sym n) (from_on f.number f.number l (omega arith) e))
    go false h =
        let n : lowest (f ∷ l) ≡ lowest l = rw h refl in
        ((λ x. absurd (false≢true (sym h ∙ x))), subst (λ k. AtMost k l) (sym n) below)

least-from : (k : ℕ) (l : List Fault) → rises_from k l ≡ true → AtMost (lowest l) l
least-from k [] e = tt
least-from k (f ∷ l) e =
    let on = (and-true (leb k f.number) (rises_from f.number l) e).1 in
    one_more f l on (least-from f.number l on)

-- "the lowest number that holds"
pub least-of-rising : (l : List Fault) → rises l ≡ true → AtMost (lowest l) l
least-of-rising l e = least-from 1 l e

pub ours-modest : Modest ours
ours-modest = record { blocks = omega arith; q = omega arith; aq = omega arith; m = omega arith; am = omega arith }

pub older-modest : Modest older
older-modest = record { blocks = omega arith; q = omega arith; aq = omega arith; m = omega arith; am = omega arith }
