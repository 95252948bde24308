-- What held cells say as numbers, and the numbers of a field place by place. Assumes nothing.
use mathlib.Core.Path.{◌≡◌, refl, ap, sym, ◌∙◌}
use mathlib.Core.Bool.{Bool, true, false, cond}
use mathlib.Core.List.{List, [], ◌∷◌, ◌++◌}
use Prim.Native.Nat.{ℕ, ◌+◌, ◌*◌, ◌≤◌, ◌<◌}
use native.Mathlib.Numerals.{add-one}
use native.Mathlib.Omega.{arith}
use lib.Dec.{eqb, leb}
use lib.ListN.{length, drop, drop_of_length-le}
use lib.Seq.{drop-cons}
use borrow.Author.Tests.{leb-true}
use Rattle.digits.specs.Numbers.{Number}
use Rattle.std.specs.Prelude.{Option, Some, None}
use Rattle.std.specs.Option.{is_some}
use Rattle.digits.specs.declared.Number.{Number as Handed}
use Rattle.digits.specs.Numbers.{number_read, digits, value, size_in, has_minus, number_of, value_of}
use Rattle.rows.specs.Columns.{below_of, above_of, said_in, packed, widths, numbers_fit, numbers_bytes, nth}
use Rattle.rows.specs.Widths.{width_at}
use Rattle.rows.proofs.Widths.{width_is, widths-length, total}
use Rattle.splitting.specs.Found.{text_in, Says}

-- a held cell says what the cell says
pub said_same : (s starts sizes : List ℕ) (cells : List (List ℕ)) (w j : ℕ) (n : Number) → Says s starts sizes cells → j < length cells → j < 16
    → n ≡ said_in w (text_in s starts sizes j) → n ≡ said_in w (nth cells j)
unfolding said_in
said_same s starts sizes cells w j n says h few e = e ∙ says.same j (below_of w) (above_of w) h few

-- ---- how large it is

size_small : (negative : Bool) (limit : ℕ) (l : List ℕ) → (size_in negative limit l).size ≤ limit
unfolding size_in
size_small negative limit l = by (digits l) (leb (value l) limit) refl
  where
    by : (d t : Bool) → leb (value l) limit ≡ t
        → (cond {A = Number} d (cond t (record { ok = true; negative = negative; size = value l }) (record { ok = false; negative = false; size = 0 })) (record { ok = false; negative = false; size = 0 })).size ≤ limit
    by true true e = leb-true (value l) limit e
    by true false e = omega arith
    by false t e = omega arith

number_small : (below above limit : ℕ) (l : List ℕ) → below ≤ limit → above ≤ limit → (number_of below above l).size ≤ limit
unfolding number_of
number_small below above limit l g h = by (has_minus below l)
  where
    by : (t : Bool) → (cond t (size_in true below (drop 1 l)) (size_in false above l)).size ≤ limit
    by true = omega (arith, size_small true below (drop 1 l))
    by false = omega (arith, size_small false above l)

below-small : (w : ℕ) → below_of w ≤ 2147483648
unfolding below_of
below-small w = by (eqb w 4)
  where
    by : (t : Bool) → cond t 2147483648 0 ≤ 2147483648
    by true = omega arith
    by false = omega arith

above-small : (w : ℕ) → above_of w ≤ 2147483648
unfolding above_of
above-small w = by (eqb w 4) (eqb w 2)
  where
    by : (t u : Bool) → cond t 2147483647 (cond u 65535 255) ≤ 2147483648
    by true u = omega arith
    by false true = omega arith
    by false false = omega arith

pub said-small : (w : ℕ) (l : List ℕ) (n : Number) → n ≡ said_in w l → n.size ≤ 2147483648
unfolding said_in
said-small w l n e = rw e (number_small (below_of w) (above_of w) 2147483648 l (below-small w) (above-small w))

-- a number for one byte is one
pub said-byte : (l : List ℕ) (n : Number) → n ≡ said_in 1 l → n.size ≤ 255
unfolding said_in below_of above_of
said-byte l n e = rw e (number_small 0 255 255 l (omega arith) (omega arith))

-- ---- place by place

fit-cons : (w : ℕ) (ws : List ℕ) (c : List ℕ) (cells : List (List ℕ)) (t : Bool) → (said_in w c).ok ≡ t → numbers_fit (w ∷ ws) (c ∷ cells) ≡ cond t (numbers_fit ws cells) false
unfolding numbers_fit
fit-cons w ws c cells true e = rw e
fit-cons w ws c cells false e = rw e

fit-nil : (cells : List (List ℕ)) → numbers_fit [] cells ≡ true
unfolding numbers_fit
fit-nil cells = refl

bytes-cons : (w : ℕ) (ws : List ℕ) (c : List ℕ) (cells : List (List ℕ)) → numbers_bytes (w ∷ ws) (c ∷ cells) ≡ packed w (value_of (said_in w c)) ++ numbers_bytes ws cells
unfolding numbers_bytes
bytes-cons w ws c cells = refl

bytes-nil : (cells : List (List ℕ)) → numbers_bytes [] cells ≡ []
unfolding numbers_bytes
bytes-nil cells = refl

total-cons : (w : ℕ) (ws : List ℕ) → total (w ∷ ws) ≡ w + total ws
unfolding total
total-cons w ws = refl

module _ (i p j : ℕ) (h : j < 2 + 2 * i + p) where
  widths-on : drop j (widths i p) ≡ width_at i j ∷ drop (j + 1) (widths i p)
  widths-on = let l : j < length (widths i p) = omega (arith, widths-length i p) in rw (drop-cons (widths i p) j 0 l, width_is i p j h, add-one j)

  pub total-on : total (drop j (widths i p)) ≡ width_at i j + total (drop (j + 1) (widths i p))
  total-on = ap total widths-on ∙ total-cons (width_at i j) (drop (j + 1) (widths i p))

  module _ (cells : List (List ℕ)) (g : 3 + 2 * i + p ≤ length cells) where
    cells-on : drop (j + 1) cells ≡ nth cells (j + 1) ∷ drop (j + 1 + 1) cells
    cells-on = let l : j + 1 < length cells = omega arith in rw (drop-cons cells (j + 1) [] l, add-one (j + 1))

    pub fit_on : (width : ℕ) (n : Number) (t : Bool) → width ≡ width_at i j → n ≡ said_in width (nth cells (j + 1)) → n.ok ≡ t
        → numbers_fit (drop j (widths i p)) (drop (j + 1) cells) ≡ cond t (numbers_fit (drop (j + 1) (widths i p)) (drop (j + 1 + 1) cells)) false
    fit_on width n t w e q =
        let is : n ≡ said_in (width_at i j) (nth cells (j + 1)) = rw w at e in
        rw (widths-on, cells-on)
        (fit-cons (width_at i j) (drop (j + 1) (widths i p)) (nth cells (j + 1)) (drop (j + 1 + 1) cells) t (sym (ap (λ (m : Number). m.ok) is) ∙ q))

    pub bytes_on : numbers_bytes (drop j (widths i p)) (drop (j + 1) cells)
        ≡ packed (width_at i j) (value_of (said_in (width_at i j) (nth cells (j + 1)))) ++ numbers_bytes (drop (j + 1) (widths i p)) (drop (j + 1 + 1) cells)
    bytes_on =
        rw (widths-on, cells-on) (bytes-cons (width_at i j) (drop (j + 1) (widths i p)) (nth cells (j + 1)) (drop (j + 1 + 1) cells))

-- what was read of a held cell for its place is what the cell says there
pub said-on : (s starts sizes : List ℕ) (cells : List (List ℕ)) (i p j width : ℕ) (n : Number) → 2 * i + p ≤ 11 → Says s starts sizes cells
    → 3 + 2 * i + p ≤ length cells → j < 2 + 2 * i + p → n ≡ said_in width (text_in s starts sizes (j + 1))
    → n ≡ said_in width (nth cells (j + 1))
said-on s starts sizes cells i p j width n few says long h e =
    said_same s starts sizes cells width (j + 1) n says (omega arith) (omega arith) e

module _ (i p j : ℕ) (h : 2 + 2 * i + p ≤ j) (cells : List (List ℕ)) where
  widths-out : drop j (widths i p) ≡ []
  widths-out = drop_of_length-le (widths i p) {i = j} (omega (arith, widths-length i p))

  pub fit-done : numbers_fit (drop j (widths i p)) cells ≡ true
  fit-done = rw widths-out (fit-nil cells)

  pub bytes-done : numbers_bytes (drop j (widths i p)) cells ≡ []
  bytes-done = rw widths-out (bytes-nil cells)

-- whether there is one
pub is_said : (r : Option Handed) (b : Bool) → is_some r ≡ b → (number_read r).ok ≡ b
is_said None b e = e
is_said (Some n) b e = e
