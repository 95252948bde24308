-- A row's refusal number by its tests in their order, and what holds of a row that has none. Assumes nothing.
use mathlib.Core.Path.{◌≡◌, refl, sym, ◌∙◌}
use mathlib.Core.Bool.{Bool, true, false}
use mathlib.Core.List.{List}
use Prim.Native.Nat.{ℕ}
use native.Mathlib.Omega.{arith}
use lib.Dec.{eqb}
use lib.ListN.{length, drop}
use borrow.Author.Tests.{eq-eqb, ne_eqb, eqb-true}
use Rattle.rows.specs.Shape.{Shape}
use Rattle.rows.specs.Text.{TextRow}
use Rattle.rows.specs.Columns.{shape_of, columns_of, numbers_in, widths_of, numbers_fit, label_fits, mark_said, mark_of, label_of, is_shaped, is_fit, row_faults, row_number}

-- ---- the three tests

pub broken : (r : TextRow) → r.whole ≡ false → 30 ≡ row_number r
unfolding row_number row_faults
broken r e = rw e

pub unshaped : (r : TextRow) → r.whole ≡ true → is_shaped (shape_of r.cells) r.cells ≡ false → 31 ≡ row_number r
unfolding row_number row_faults
unshaped r e n = rw (e, n)

pub unfit : (r : TextRow) → r.whole ≡ true → is_shaped (shape_of r.cells) r.cells ≡ true
    → is_fit (shape_of r.cells) r.cells ≡ false → 32 ≡ row_number r
unfolding row_number row_faults
unfit r e n f = rw (e, n, f)

pub faultless : (r : TextRow) → r.whole ≡ true → is_shaped (shape_of r.cells) r.cells ≡ true
    → is_fit (shape_of r.cells) r.cells ≡ true → 0 ≡ row_number r
unfolding row_number row_faults
faultless r e n f = rw (e, n, f)

-- a row without a fault passes the first two
pub record Passes (r : TextRow) : Type 0 where
  pub whole : r.whole ≡ true
  pub shaped : is_shaped (shape_of r.cells) r.cells ≡ true

passes-by : (r : TextRow) (w x : Bool) → r.whole ≡ w → is_shaped (shape_of r.cells) r.cells ≡ x → row_number r ≡ 0 → Passes r
passes-by r false x e n z = absurd (let b = broken r e in omega arith)
passes-by r true false e n z = absurd (let b = unshaped r e n in omega arith)
passes-by r true true e n z = record { whole = e; shaped = n }

pub passes : (r : TextRow) → row_number r ≡ 0 → Passes r
passes r z = passes-by r r.whole (is_shaped (shape_of r.cells) r.cells) refl refl z

-- ---- the second: tag and kind known, and as many columns as they want

module _ (sh : Shape) (cells : List (List ℕ)) where
  pub unknown-shape : sh.known ≡ false → is_shaped sh cells ≡ false
  unfolding is_shaped
  unknown-shape k = rw k

  pub other-columns : sh.known ≡ true → (length cells ≡ columns_of sh → ⊥) → is_shaped sh cells ≡ false
  unfolding is_shaped columns_of numbers_in
  other-columns k n = rw (k, ne_eqb (length cells) (columns_of sh) n)

  pub its-columns : sh.known ≡ true → length cells ≡ columns_of sh → is_shaped sh cells ≡ true
  unfolding is_shaped columns_of numbers_in
  its-columns k n = rw (k, eq-eqb (length cells) (columns_of sh) n)

  known-by : (k : Bool) → sh.known ≡ k → is_shaped sh cells ≡ true → sh.known ≡ true
  known-by true e p = e
  known-by false e p = absurd (let q : false ≡ true = sym (unknown-shape e) ∙ p in let z : ◌≡◌ {A = ℕ} 0 1 = cc in omega arith)

  pub shaped-known : is_shaped sh cells ≡ true → sh.known ≡ true
  shaped-known p = known-by sh.known refl p

  columns-by : (k : Bool) → sh.known ≡ k → is_shaped sh cells ≡ true → length cells ≡ columns_of sh
  unfolding is_shaped columns_of numbers_in
  columns-by false e p = absurd (let q : false ≡ true = sym (unknown-shape e) ∙ p in let z : ◌≡◌ {A = ℕ} 0 1 = cc in omega arith)
  columns-by true e p = let q : eqb (length cells) (columns_of sh) ≡ true = rw e at p in eqb-true (length cells) (columns_of sh) q

  pub shaped-columns : is_shaped sh cells ≡ true → length cells ≡ columns_of sh
  shaped-columns p = columns-by sh.known refl p

-- ---- the third: each number fits, and the label of a block

module _ (sh : Shape) (cells : List (List ℕ)) where
  pub misfit-numbers : numbers_fit (widths_of sh) (drop 1 cells) ≡ false → is_fit sh cells ≡ false
  unfolding is_fit
  misfit-numbers n = rw n

  pub fit-output : numbers_fit (widths_of sh) (drop 1 cells) ≡ true → sh.labelled ≡ false → is_fit sh cells ≡ true
  unfolding is_fit
  fit-output n l = rw (n, l)

  pub fit-block : (b : Bool) → numbers_fit (widths_of sh) (drop 1 cells) ≡ true → sh.labelled ≡ true
      → b ≡ label_fits (mark_said (mark_of sh cells)) (length (label_of sh cells)) → is_fit sh cells ≡ b
  unfolding is_fit numbers_in
  fit-block b n l e = rw (n, l) (sym e)
