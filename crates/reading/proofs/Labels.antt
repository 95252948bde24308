-- A label's two cells: whether they fit, and how many bytes their field takes. A mark that is a number is 0 or 1. Assumes nothing.
use mathlib.Core.Path.{◌≡◌, refl, ap, sym, ◌∙◌, subst}
use mathlib.Core.Bool.{Bool, true, false}
use mathlib.Core.List.{List, [], ◌∷◌}
use Prim.Native.Nat.{ℕ, ◌+◌, ◌≤◌, ◌<◌}
use native.Mathlib.Omega.{arith}
use lib.Dec.{leb}
use lib.ListN.{length}
use borrow.Author.Tests.{eq-eqb, ne_eqb, le-leb, lt-leb, leb-true}
use Rattle.digits.specs.Numbers.{Number}
use Rattle.digits.specs.Numbers.{digits, value, size_in, has_minus, number_of}
use Rattle.rows.specs.Columns.{label_fits}
use Rattle.reading.specs.Counted.{Label}
use Rattle.std.specs.Prelude.{Some, None, take, drop}
use Rattle.splitting.specs.Found.{said_by, content_in}
use Rattle.reading.specs.Counted.{Looks, label_sized}
use Rattle.reading.proofs.Sizes.{field-length, no_label, one_label}

-- ---- a number from 0 on is at most its limit

size-by : (negative : Bool) (limit : ℕ) (l : List ℕ) (d k : Bool) → digits l ≡ d → leb (value l) limit ≡ k → (size_in negative limit l).size ≤ limit
unfolding size_in
size-by negative limit l false k e f = rw e (omega arith)
size-by negative limit l true false e f = rw (e, f) (omega arith)
size-by negative limit l true true e f = rw (e, f) (leb-true (value l) limit f)

count_small : (above : ℕ) (l : List ℕ) → (number_of 0 above l).size ≤ above
unfolding number_of has_minus
count_small above [] = size-by false above [] (digits []) (leb (value []) above) refl refl
count_small above (x ∷ l) = size-by false above (x ∷ l) (digits (x ∷ l)) (leb (value (x ∷ l)) above) refl refl

-- ---- what the cells come to

module _ (mark : Number) (label : List ℕ) where
  never : {A : Type 0} → false ≡ true → A
  never e = absurd (let z : ◌≡◌ {A = ℕ} 0 1 = cc in omega arith)

  pub looks-unmarked : mark.ok ≡ false → Looks mark label (label_sized None)
  unfolding label_fits
  looks-unmarked e = record { fits = rw e; size = λ z. never z; small = omega arith }

  pub looks-none : (n : ℕ) → n ≡ length label → mark.ok ≡ true → mark.size ≡ 0 → n ≡ 0 → Looks mark label (label_sized (Some 0))
  unfolding label_fits
  looks-none n h e z o =
      let k : length label ≡ 0 = omega arith in
      record {
        fits = rw (e, eq-eqb mark.size 0 z, k);
        size = λ q. sym (ap length (no_label mark label (λ o. omega arith)));
        small = omega arith;
      }

  pub looks-beside : (n : ℕ) → n ≡ length label → mark.ok ≡ true → mark.size ≡ 0 → (n ≡ 0 → ⊥) → Looks mark label (label_sized None)
  unfolding label_fits
  looks-beside n h e z o =
      record { fits = rw (e, eq-eqb mark.size 0 z, ← h, ne_eqb n 0 o); size = λ q. never q; small = omega arith }

  pub looks-long : (n : ℕ) → n ≡ length label → mark.ok ≡ true → mark.size ≡ 1 → 16 < n → Looks mark label (label_sized None)
  unfolding label_fits
  looks-long n h e z o =
      record { fits = rw (e, ne_eqb mark.size 0 (λ q. omega arith), ← h, lt-leb n 16 o); size = λ q. never q; small = omega arith }

  pub looks-one : (n : ℕ) → n ≡ length label → mark.ok ≡ true → mark.size ≡ 1 → n ≤ 16 → Looks mark label (label_sized (Some (3 + n)))
  unfolding label_fits
  looks-one n h e z k =
      record {
        fits = rw (e, ne_eqb mark.size 0 (λ q. omega arith), ← h, le-leb n 16 k);
        size = λ q. ap (λ (m : ℕ). 3 + m) h ∙ sym (ap length (one_label mark label z) ∙ field-length 0x20 label);
        small = omega arith;
      }

-- the mark is the number that the cell says
pub mark-small : (mark : Number) (cell : List ℕ) → mark ≡ number_of 0 1 cell → mark.size ≤ 1
mark-small mark cell e = subst (λ (x : Number). x.size ≤ 1) (sym e) (count_small 1 cell)

pub looks-as : (found mark : Number) (label : List ℕ) (r : Label) → found ≡ mark → Looks found label r → Looks mark label r
looks-as found mark label r e h = subst (λ (x : Number). Looks x label r) e h

-- a cell's text, and what it says
pub content-as : (s : List ℕ) (from size : ℕ) (q : Bool) (cell : List ℕ) → cell ≡ take size (drop from s) → said_by cell q ≡ content_in s from size q
unfolding content_in
content-as s from size q cell e = ap (λ x. said_by x q) e
