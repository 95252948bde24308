-- A number written in decimal is read as itself. Assumes nothing.
use mathlib.Core.Path.{◌≡◌, refl, ap, sym, ◌∙◌}
use mathlib.Core.Bool.{Bool, true, false, cond}
use mathlib.Core.List.{List, [], ◌∷◌, ◌++◌}
use Prim.Native.Nat.{ℕ, zero, suc, ◌+◌, ◌-◌, ◌*◌, ◌/◌, ◌%◌, ◌≤◌, ◌<◌}
use native.Mathlib.Numerals.{add-one}
use native.Mathlib.Omega.{arith}
use lib.ListN.{length, length-append}
use lib.ListN.{set}
use lib.Seq.{sets, set_comm}
use native.Mathlib.Nat.{add-zero}
use lib.Dec.{ltb}
use borrow.Author.Tests.{le-leb, ltb-true}
use Rattle.digits.specs.Numbers.{digit, all_digits, value_from, value, last_digits, width, decimal}

value-snoc : (a : ℕ) (l : List ℕ) (x : ℕ) → value_from a (l ++ (x ∷ [])) ≡ value_from a l * 10 + (x - 48)
unfolding value_from
value-snoc a [] x = refl
value-snoc a (y ∷ l) x = value-snoc (a * 10 + (y - 48)) l x

digits-snoc : (l : List ℕ) (x : ℕ) → all_digits l ≡ true → digit x ≡ true → all_digits (l ++ (x ∷ [])) ≡ true
unfolding all_digits
digits-snoc [] x e d = rw d
digits-snoc (y ∷ l) x e d = by (λ g. digits-snoc l x g d) (digit y) refl
  where
    by : (all_digits l ≡ true → all_digits (l ++ (x ∷ [])) ≡ true) → (t : Bool) → digit y ≡ t → all_digits ((y ∷ l) ++ (x ∷ [])) ≡ true
    by ih true f = let g : all_digits l ≡ true = rw f at e in rw f (ih g)
    by ih false f = let z : ◌≡◌ {A = Bool} false true = rw f at e in let q : ◌≡◌ {A = ℕ} 0 1 = cc in absurd (omega arith)

digit-is : (d : ℕ) → d < 10 → digit (48 + d) ≡ true
unfolding digit
digit-is d h = let a : 48 ≤ 48 + d = omega arith in let b : 48 + d ≤ 57 = omega arith in rw (le-leb _ _ a, le-leb _ _ b)

-- ten to the k
unfoldable pub ten : ℕ → ℕ
ten zero = 1
ten (suc k) = ten k * 10

pub last-value : (k n : ℕ) → n < ten k → value (last_digits k n) ≡ n
unfolding last_digits ten value_from
last-value zero n h = omega arith
last-value (suc k) n h =
    let g : n / 10 < ten k = omega arith in
    value-snoc 0 (last_digits k (n / 10)) (48 + n % 10) ∙ omega (arith, last-value k (n / 10) g)

pub last_digits_lem : (k n : ℕ) → all_digits (last_digits k n) ≡ true
unfolding last_digits all_digits
last_digits_lem zero n = refl
last_digits_lem (suc k) n =
    let m : n % 10 < 10 = omega arith in
    digits-snoc (last_digits k (n / 10)) (48 + n % 10) (last_digits_lem k (n / 10)) (digit-is (n % 10) m)

pub last-length : (k n : ℕ) → length (last_digits k n) ≡ k
unfolding last_digits
last-length zero n = refl
last-length (suc k) n = rw (length-append, last-length k (n / 10)) (omega arith)

pub decimal-length : (n : ℕ) → length (decimal n) ≡ width n
unfolding decimal
decimal-length n = last-length (width n) n

-- a number of so many digits is below that power of ten
wide : (n k b : ℕ) → n < ten b → n < ten (cond (ltb n (ten k)) k b)
wide n k b h = by (ltb n (ten k)) refl
  where
    by : (t : Bool) → ltb n (ten k) ≡ t → n < ten (cond t k b)
    by true e = ltb-true n (ten k) e
    by false e = h

reach : (n : ℕ) → n < 10000000000 → n < ten (width n)
unfolding width ten
reach n h = wide n 1 _ (wide n 2 _ (wide n 3 _ (wide n 4 _ (wide n 5 _ (wide n 6 _ (wide n 7 _ (wide n 8 _ (wide n 9 10 h))))))))

-- a number written in decimal and read again
pub decimal-value : (n : ℕ) → n < 10000000000 → value (decimal n) ≡ n
unfolding decimal
decimal-value n h = last-value (width n) n (reach n h)

-- a run of stores grows at its end
pub sets_last : (xs l : List ℕ) (at d : ℕ) → sets (set l (at + length xs) d) at xs ≡ sets l at (xs ++ (d ∷ []))
sets_last [] l at d = rw add-zero
sets_last (x ∷ xs) l at d =
    let n : (at + suc (length xs)) ≡ suc at + length xs = omega arith in
    let o : at ≡ suc at + length xs → ⊥ = λ q. omega arith in
    rw (n, ← set_comm l at (suc at + length xs) x d o) (sets_last xs (set l at x) (suc at) d)

-- one turn of `put_digits`
pub put-turn : (l : List ℕ) (at j m : ℕ) → sets (set l (at + j) (48 + m % 10)) at (last_digits j (m / 10)) ≡ sets l at (last_digits (j + 1) m)
unfolding last_digits
put-turn l at j m =
    rw add-one
    (ap (λ (i : ℕ). sets (set l (at + i) (48 + m % 10)) at (last_digits j (m / 10))) (sym (last-length j (m / 10))) ∙ sets_last (last_digits j (m / 10)) l at (48 + m % 10))

pub put-done : (l : List ℕ) (at j m : ℕ) → j ≤ 0 → sets l at (last_digits j m) ≡ l
unfolding last_digits
put-done l at zero m h = refl
put-done l at (suc j) m h = absurd (omega arith)

pub ruleset put_turns = (put-turn, put-done)

pub ruleset lengths = (decimal-length, last-length)
