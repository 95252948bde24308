-- What a cell says as a number does not depend on doubled quotes: with a quote it is no number, without one nothing is doubled. And a
-- number written out holds no byte that a cell is quoted for. Assumes nothing.
use mathlib.Core.Path.{◌≡◌, refl, ap, sym, ◌∙◌}
use mathlib.Core.Bool.{Bool, true, false, cond, false≢true}
use mathlib.Core.List.{List, [], ◌∷◌}
use Prim.Native.Nat.{ℕ, suc, ◌≤◌}
use native.Mathlib.Omega.{arith}
use lib.Dec.{eqb}
use lib.ListN.{drop}
use lib.IntN.{ℤ, pos, negsuc}
use borrow.Author.Tests.{eqb-true, ne_eqb}
use Rattle.cells.specs.Cells.{undouble, special, any_special}
use Rattle.cells.proofs.Laws.{quote-or}
use Rattle.cells.proofs.Again.{undouble-text}
use Rattle.digits.specs.Numbers.{digit, all_digits, digits, size_in, has_minus, number_of, decimal, signed_decimal}
use Rattle.digits.proofs.Signed.{digit_low, other-digits, decimal-digits}

-- ---- doubled quotes

undouble-quote : (y : ℕ) (l : List ℕ) → undouble (34 ∷ y ∷ l) ≡ 34 ∷ undouble l
unfolding undouble
undouble-quote y l = refl

undouble-one : (x : ℕ) → undouble (x ∷ []) ≡ x ∷ []
unfolding undouble
undouble-one x = refl

undouble-nil : undouble [] ≡ []
unfolding undouble
undouble-nil = refl

quote-first : (l : List ℕ) → all_digits (34 ∷ l) ≡ false
unfolding all_digits digit
quote-first l = refl

digits_step : (x : ℕ) (l m : List ℕ) → all_digits l ≡ all_digits m → all_digits (x ∷ l) ≡ all_digits (x ∷ m)
unfolding all_digits
digits_step x l m e = rw e

undouble-digits : (l : List ℕ) → all_digits (undouble l) ≡ all_digits l
undouble-digits [] = rw undouble-nil
undouble-digits (x ∷ []) = rw undouble-one
undouble-digits (x ∷ y ∷ l) =
    let rest = undouble-digits (y ∷ l) in
    quote-or {P = λ z. all_digits (undouble (z ∷ y ∷ l)) ≡ all_digits (z ∷ y ∷ l)}
    (rw (undouble-quote y l, quote-first (undouble l), quote-first (y ∷ l)))
    (λ z e. rw (undouble-text z (y ∷ l) e) (digits_step z (undouble (y ∷ l)) (y ∷ l) rest)) x

-- digits hold no quote
undouble-same : (l : List ℕ) → all_digits l ≡ true → undouble l ≡ l
undouble-same [] e = undouble-nil
undouble-same (x ∷ l) e =
    let low = digit_low x l e in
    let other : eqb x 34 ≡ false = ne_eqb x 34 (λ q. omega arith) in
    undouble-text x l other ∙ ap (λ (m : List ℕ). x ∷ m) (undouble-same l (other-digits x l e))

no-digits : (l : List ℕ) → all_digits l ≡ false → digits l ≡ false
unfolding digits
no-digits [] e = refl
no-digits (x ∷ l) e = e

no_size : (negative : Bool) (limit : ℕ) (l : List ℕ) → all_digits l ≡ false
    → size_in negative limit l ≡ record { ok = false; negative = false; size = 0 }
unfolding size_in
no_size negative limit l e = rw (no-digits l e)

undouble-size : (negative : Bool) (limit : ℕ) (l : List ℕ) → size_in negative limit (undouble l) ≡ size_in negative limit l
undouble-size negative limit l = by (all_digits l) refl
  where
    by : (t : Bool) → all_digits l ≡ t → size_in negative limit (undouble l) ≡ size_in negative limit l
    by true e = ap (size_in negative limit) (undouble-same l e)
    by false e = no_size negative limit (undouble l) (undouble-digits l ∙ e) ∙ sym (no_size negative limit l e)

-- what a minus stands before
record Signed (l : List ℕ) : Type 0 where
  rest : List ℕ
  is : l ≡ 45 ∷ rest

minus-first : (below : ℕ) (l : List ℕ) → has_minus below l ≡ true → Signed l
unfolding has_minus
minus-first below [] e = absurd (false≢true e)
minus-first below (x ∷ l) e = by (eqb below 0) e
  where
    by : (t : Bool) → cond t false (eqb x 45) ≡ true → Signed (x ∷ l)
    by true f = absurd (false≢true f)
    by false f = record { rest = l; is = ap (λ (y : ℕ). y ∷ l) (eqb-true x 45 f) }

undouble-minus : (below : ℕ) (l : List ℕ) → has_minus below (undouble l) ≡ has_minus below l
unfolding has_minus
undouble-minus below [] = rw undouble-nil
undouble-minus below (x ∷ []) = rw undouble-one
undouble-minus below (x ∷ y ∷ l) =
    quote-or {P = λ z. has_minus below (undouble (z ∷ y ∷ l)) ≡ has_minus below (z ∷ y ∷ l)} (rw (undouble-quote y l))
    (λ z e. rw (undouble-text z (y ∷ l) e)) x

signed_of : (below above : ℕ) (l : List ℕ) → has_minus below l ≡ true → number_of below above l ≡ size_in true below (drop 1 l)
unfolding number_of
signed_of below above l e = rw e

plain_of : (below above : ℕ) (l : List ℕ) → has_minus below l ≡ false → number_of below above l ≡ size_in false above l
unfolding number_of
plain_of below above l e = rw e

undouble-rest : (l : List ℕ) → Signed l → drop 1 (undouble l) ≡ undouble (drop 1 l)
undouble-rest l q = rw (q.is, undouble-text 45 q.rest refl)

pub undouble-number : (below above : ℕ) (l : List ℕ) → number_of below above (undouble l) ≡ number_of below above l
undouble-number below above l = by (has_minus below l) refl
  where
    by : (t : Bool) → has_minus below l ≡ t → number_of below above (undouble l) ≡ number_of below above l
    by true e =
        signed_of below above (undouble l) (undouble-minus below l ∙ e)
        ∙ ap (size_in true below) (undouble-rest l (minus-first below l e))
        ∙ undouble-size true below (drop 1 l)
        ∙ sym (signed_of below above l e)
    by false e =
        plain_of below above (undouble l) (undouble-minus below l ∙ e) ∙ undouble-size false above l ∙ sym (plain_of below above l e)

-- ---- no byte that a cell is quoted for

special-low : (x : ℕ) → 45 ≤ x → special x ≡ false
unfolding special
special-low x h =
    rw (ne_eqb x 44 (λ q. omega arith), ne_eqb x 34 (λ q. omega arith), ne_eqb x 13 (λ q. omega arith), ne_eqb x 10 (λ q. omega arith))

pub digits-common : (l : List ℕ) → all_digits l ≡ true → any_special l ≡ false
unfolding any_special
digits-common [] e = refl
digits-common (x ∷ l) e =
    let low = digit_low x l e in
    rw (special-low x (omega arith)) (digits-common l (other-digits x l e))

pub signed-common : (v : ℤ) → any_special (signed_decimal v) ≡ false
unfolding signed_decimal any_special
signed-common (pos n) = digits-common (decimal n) (decimal-digits n)
signed-common (negsuc n) = rw (special-low 45 (omega arith)) (digits-common (decimal (suc n)) (decimal-digits (suc n)))
