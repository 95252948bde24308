-- The widths of a field's numbers, place by place. Assumes nothing.
use mathlib.Core.Path.{◌≡◌, refl, ap₂, sym, ◌∙◌}
use mathlib.Core.Bool.{Bool, true, false}
use mathlib.Core.List.{List, [], ◌∷◌, ◌++◌}
use Prim.Native.Nat.{ℕ, zero, suc, ◌+◌, ◌*◌, ◌%◌, ◌≤◌, ◌<◌}
use native.Mathlib.Omega.{arith}
use lib.Dec.{eqb, ltb}
use lib.ListN.{length, get_or, replicate, length-append, length-replicate, get_or-replicate}
use lib.IntN.{ℤ}
use mir.Syntax.{w32}
use mir.Val.{of_z}
use borrow.Author.Tests.{eqb-true, eqb-false, ltb-true, ltb-false, eq-eqb, ne_eqb, lt-ltb, le-ltb}
use Rattle.words.proofs.Written.{length-bytes}
use Rattle.digits.specs.Numbers.{value_of}
use Rattle.rows.specs.Columns.{widths, connector_widths, said_in, packed, numbers_bytes}
use Rattle.rows.specs.Entries.{packed_all}
use Rattle.rows.specs.Widths.{width_at}

pub width-single : (i j : ℕ) → j < 2 → 1 ≡ width_at i j
unfolding width_at
width-single i j h = rw (lt-ltb j 2 h)

pub width-parameter : (i j : ℕ) → 2 + 2 * i ≤ j → 4 ≡ width_at i j
unfolding width_at
width-parameter i j h = let a : 2 ≤ j = omega arith in rw (le-ltb j 2 a, le-ltb j (2 + 2 * i) h)

pub width-class : (i j : ℕ) → 2 ≤ j → j < 2 + 2 * i → j % 2 ≡ 0 → 1 ≡ width_at i j
unfolding width_at
width-class i j a h e = rw (le-ltb j 2 a, lt-ltb j (2 + 2 * i) h, eq-eqb (j % 2) 0 e)

pub width-number : (i j : ℕ) → 2 ≤ j → j < 2 + 2 * i → (j % 2 ≡ 0 → ⊥) → 2 ≡ width_at i j
unfolding width_at
width-number i j a h n = rw (le-ltb j 2 a, lt-ltb j (2 + 2 * i) h, ne_eqb (j % 2) 0 n)

-- ---- the list of widths, place by place

-- two places on, one connector more
width-shift : (i j : ℕ) → 2 ≤ j → width_at i j ≡ width_at (suc i) (suc (suc j))
width-shift i j h = by (ltb j (2 + 2 * i)) refl
  where
    inside : j < 2 + 2 * i → (t : Bool) → eqb (j % 2) 0 ≡ t → width_at i j ≡ width_at (suc i) (suc (suc j))
    inside g true e =
        let z : j % 2 ≡ 0 = eqb-true (j % 2) 0 e in
        sym (width-class i j h g z) ∙ width-class (suc i) (suc (suc j)) (omega arith) (omega arith) (omega arith)
    inside g false e =
        let z : j % 2 ≡ 0 → ⊥ = eqb-false (j % 2) 0 e in
        sym (width-number i j h g z) ∙ width-number (suc i) (suc (suc j)) (omega arith) (omega arith) (λ (y : suc (suc j) % 2 ≡ 0). z (omega arith))

    by : (t : Bool) → ltb j (2 + 2 * i) ≡ t → width_at i j ≡ width_at (suc i) (suc (suc j))
    by true e = inside (ltb-true j (2 + 2 * i) e) (eqb (j % 2) 0) refl
    by false e =
        let g : 2 + 2 * i ≤ j = ltb-false j (2 + 2 * i) e in
        sym (width-parameter i j g) ∙ width-parameter (suc i) (suc (suc j)) (omega arith)

rest-is : (i p k : ℕ) → k < 2 * i + p → get_or (connector_widths i ++ replicate p 4) k 0 ≡ width_at i (suc (suc k))
unfolding connector_widths
rest-is zero p k h = get_or-replicate p k 4 0 (omega arith) ∙ width-parameter 0 (suc (suc k)) (omega arith)
rest-is (suc i) p zero h = width-class (suc i) 2 (omega arith) (omega arith) (omega arith)
rest-is (suc i) p (suc zero) h = width-number (suc i) 3 (omega arith) (omega arith) (λ (y : 3 % 2 ≡ 0). omega arith)
rest-is (suc i) p (suc (suc k)) h = rest-is i p k (omega arith) ∙ width-shift i (suc (suc k)) (omega arith)

pub width_is : (i p j : ℕ) → j < 2 + 2 * i + p → get_or (widths i p) j 0 ≡ width_at i j
unfolding widths
width_is i p zero h = width-single i 0 (omega arith)
width_is i p (suc zero) h = width-single i 1 (omega arith)
width_is i p (suc (suc k)) h = rest-is i p k (omega arith)

connector-widths : (i : ℕ) → length (connector_widths i) ≡ 2 * i
unfolding connector_widths
connector-widths zero = refl
connector-widths (suc i) = let e = connector-widths i in omega arith

pub widths-length : (i p : ℕ) → length (widths i p) ≡ 2 + 2 * i + p
unfolding widths
widths-length i p =
    let e = length-append (connector_widths i) (replicate p 4) in
    let a = connector-widths i in
    let b = length-replicate {A = ℕ} p 4 in
    omega arith

-- ---- how many bytes they make

unfoldable pub total : List ℕ → ℕ
total [] = 0
total (w ∷ ws) = w + total ws

total-append : (l m : List ℕ) → total (l ++ m) ≡ total l + total m
unfolding total
total-append [] m = omega arith
total-append (w ∷ l) m = let e = total-append l m in omega arith

total-connectors : (i : ℕ) → total (connector_widths i) ≡ 3 * i
unfolding total connector_widths
total-connectors zero = refl
total-connectors (suc i) = let e = total-connectors i in omega arith

total-parameters : (p : ℕ) → total (replicate p 4) ≡ 4 * p
unfolding total
total-parameters zero = refl
total-parameters (suc p) = let e = total-parameters p in omega arith

pub widths-total : (i p : ℕ) → total (widths i p) ≡ 2 + 3 * i + 4 * p
unfolding widths total
widths-total i p =
    let e = total-append (connector_widths i) (replicate p 4) in
    let a = total-connectors i in
    let b = total-parameters p in
    omega arith

pub packed-length : (w : ℕ) (v : ℤ) → length (packed w v) ≡ w
unfolding packed
packed-length w v = length-bytes w (of_z w32 v)

pub numbers-length : (ws : List ℕ) (cells : List (List ℕ)) → length ws ≤ length cells → length (numbers_bytes ws cells) ≡ total ws
unfolding numbers_bytes total
numbers-length [] cells h = refl
numbers-length (w ∷ ws) [] h = absurd (omega arith)
numbers-length (w ∷ ws) (c ∷ cells) h =
    length-append (packed w (value_of (said_in w c))) (numbers_bytes ws cells)
    ∙ ap₂ (λ (a b : ℕ). a + b) (packed-length w (value_of (said_in w c))) (numbers-length ws cells (omega arith))

pub packed-total : (ws : List ℕ) (vs : List ℤ) → length ws ≤ length vs → length (packed_all ws vs) ≡ total ws
unfolding packed_all total
packed-total [] vs h = refl
packed-total (w ∷ ws) [] h = absurd (omega arith)
packed-total (w ∷ ws) (v ∷ vs) h =
    length-append (packed w v) (packed_all ws vs)
    ∙ ap₂ (λ (a b : ℕ). a + b) (packed-length w v) (packed-total ws vs (omega arith))
