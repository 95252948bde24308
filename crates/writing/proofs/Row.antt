-- A row and the rows, as the code goes through them. Assumes nothing.
use mathlib.Core.Path.{◌≡◌, refl, ap, sym, ◌∙◌}
use mathlib.Core.Bool.{Bool, true, false, cond, false≢true}
use Rattle.std.specs.Prelude.{Result, Ok, Err}
use Rattle.std.specs.Result.{IsOk}
use Rattle.kinds.specs.declared.kind.Kind.{Kind}
use Rattle.kinds.specs.declared.kind.UnknownKind.{UnknownKind}
use Rattle.kinds.specs.Codes.{Decodes}
use Rattle.kinds.specs.Kinds.{known}
use mathlib.Core.List.{List, [], ◌∷◌, ◌++◌}
use Prim.Native.Nat.{ℕ, zero, suc, ◌+◌, ◌-◌, ◌*◌, ◌≤◌, ◌<◌}
use native.Mathlib.Omega.{arith}
use lib.Dec.{eqb}
use lib.ListN.{length, get_or, length-append}
use lib.Seq.{sets}
use borrow.Author.Tests.{eq-eqb, ne_eqb}
use Rattle.digits.specs.Numbers.{decimal, last_digits, width}
use Rattle.rows.specs.Shape.{Shape}
use Rattle.rows.specs.Columns.{block_shape, output_shape, numbers_in}
use Rattle.rows.proofs.Laid.{sets-append}
use Rattle.writing.specs.Walked.{numbers_text, numbers_end, tail_text, tail_end, shape_at, field_end, row_by, row_at, next_by, next_at, rows_at, Stands, Run}
use Rattle.writing.proofs.Field.{end-least}

-- ---- the shape

module _ (s : List ℕ) (at : ℕ) where
  pub shape-block : get_or s at 0 ≡ 0x10 → shape_at s at ≡ block_shape (get_or s (at + 3) 0)
  unfolding shape_at
  shape-block e = rw (eq-eqb (get_or s at 0) 0x10 e)

  pub shape-output : (get_or s at 0 ≡ 0x10 → ⊥) → shape_at s at ≡ output_shape
  unfolding shape_at
  shape-output n = rw (ne_eqb (get_or s at 0) 0x10 n)

  pub tag-length : length (decimal (shape_at s at).tag) ≡ 2
  unfolding shape_at block_shape output_shape decimal width last_digits
  tag-length = by (eqb (get_or s at 0) 0x10)
    where
      by : (t : Bool) → length (decimal (cond t (block_shape (get_or s (at + 3) 0)) output_shape).tag) ≡ 2
      by true = refl
      by false = refl

-- the byte of a known kind is decoded
pub decodes : (byte : ℕ) (r : Result Kind UnknownKind) → Decodes byte r → known byte ≡ true → IsOk r
decodes byte (Ok kind) d k = refl
decodes byte (Err x) d k = absurd (false≢true (sym d ∙ k))

pub field-least : (sh : Shape) (at : ℕ) → at + 3 ≤ field_end sh at
unfolding field_end
field-least sh at = end-least sh.inputs (numbers_in sh) 0 (at + 3)

-- four runs of stores, each behind the one before it
pub four_runs : (a b c d : List ℕ) (t t₁ t₂ t₃ t₄ : List ℕ) (to p q r : ℕ) → t₁ ≡ sets t to a → p ≡ to + length a → t₂ ≡ sets t₁ p b
    → q ≡ p + length b → t₃ ≡ sets t₂ q c → r ≡ q + length c → t₄ ≡ sets t₃ r d → t₄ ≡ sets t to (a ++ (b ++ (c ++ d)))
four_runs a b c d t t₁ t₂ t₃ t₄ to p q r e₁ f₁ e₂ f₂ e₃ f₃ e₄ =
    sym
    (sets-append a (b ++ (c ++ d)) t to
    ∙ rw (← e₁, ← f₁) (sets-append b (c ++ d) t₁ p ∙ rw (← e₂, ← f₂) (sets-append c d t₂ q ∙ rw (← e₃, ← f₃) (sym e₄))))

-- ---- one row

-- the shape that the code found, and how many numbers it counted
pub record Counted (s : List ℕ) (at : ℕ) (sh : Shape) (count : ℕ) : Type 0 where
  pub shape_is : sh ≡ shape_at s at
  pub count-is : count ≡ 2 + 2 * sh.inputs + sh.parameters

pub counted : {s : List ℕ} {at : ℕ} {sh : Shape} {count : ℕ} → sh ≡ shape_at s at → count ≡ 2 + 2 * sh.inputs + sh.parameters → Counted s at sh count
counted e k = record { shape_is = e; count-is = k }

module _ {s : List ℕ} {at : ℕ} {sh : Shape} {count : ℕ} (counts : Counted s at sh count) where
  end_is : numbers_end sh.inputs count 0 (at + 3) ≡ field_end (shape_at s at) at
  unfolding field_end numbers_in
  end_is = rw (counts.count-is, counts.shape_is)

  row_is : row_at s at
      ≡ decimal sh.tag ++ (numbers_text sh.inputs s count 0 (at + 3) ++ (tail_text sh.labelled s (numbers_end sh.inputs count 0 (at + 3)) ++ (13 ∷ 10 ∷ [])))
  unfolding row_at row_by field_end numbers_in
  row_is = rw (counts.count-is, counts.shape_is)

  next-is : next_at s at ≡ tail_end sh.labelled s (numbers_end sh.inputs count 0 (at + 3))
  unfolding next_at next_by field_end numbers_in
  next-is = rw (counts.count-is, counts.shape_is)

  tag_is : length (decimal sh.tag) ≡ 2
  tag_is = rw counts.shape_is (tag-length s at)

  row-length : length (row_at s at)
      ≡ 4 + length (numbers_text sh.inputs s count 0 (at + 3)) + length (tail_text sh.labelled s (numbers_end sh.inputs count 0 (at + 3)))
  row-length =
      let tag = decimal sh.tag in
      let numbers = numbers_text sh.inputs s count 0 (at + 3) in
      let tail = tail_text sh.labelled s (numbers_end sh.inputs count 0 (at + 3)) in
      let a = ap length row_is in
      let b = length-append tag (numbers ++ (tail ++ (13 ∷ 10 ∷ []))) in
      let c = length-append numbers (tail ++ (13 ∷ 10 ∷ [])) in
      let d = length-append tail (13 ∷ 10 ∷ []) in
      let f = tag_is in
      omega arith

  pub numbers_fit_lem : Stands s at → numbers_end sh.inputs count 0 (at + 3) ≤ length s
  numbers_fit_lem h = let f = end_is in omega (arith, h.field)

  pub tail-fits : Stands s at → {place : ℕ} → place ≡ numbers_end sh.inputs count 0 (at + 3)
      → (place + 3 ≤ length s) × (tail_end sh.labelled s place ≤ length s)
  tail-fits h {place} q =
      let f = end_is in
      let g : tail_end sh.labelled s place ≡ next_at s at = ap (tail_end sh.labelled s) q ∙ sym next-is in
      (omega (arith, h.field), omega (arith, h.next))

  pub row-size-is : {numbers place tail end : ℕ} → numbers ≡ length (numbers_text sh.inputs s count 0 (at + 3))
      → place ≡ numbers_end sh.inputs count 0 (at + 3) → tail ≡ length (tail_text sh.labelled s place)
      → end ≡ tail_end sh.labelled s place → (4 + numbers + tail ≡ length (row_at s at)) × (end ≡ next_at s at)
  row-size-is a b c d =
      let f = ap (λ (p : ℕ). length (tail_text sh.labelled s p)) b in
      let g = row-length in
      (omega arith, d ∙ ap (tail_end sh.labelled s) b ∙ sym next-is)

  -- the room for the row's parts, one behind the other
  module _ (room to : ℕ) (fits : to + length (row_at s at) ≤ room) where
    pub tag-room : to + length (decimal sh.tag) ≤ room
    tag-room = let a = row-length in let b = tag_is in omega arith

    pub numbers-room : {p : ℕ} → p ≡ to + length (decimal sh.tag) → p + length (numbers_text sh.inputs s count 0 (at + 3)) ≤ room
    numbers-room d = let a = row-length in let b = tag_is in omega arith

    module _ {p q place : ℕ} (d : p ≡ to + length (decimal sh.tag)) (f : q ≡ p + length (numbers_text sh.inputs s count 0 (at + 3)))
        (g : place ≡ numbers_end sh.inputs count 0 (at + 3)) where
      pub tail-room : q + length (tail_text sh.labelled s place) ≤ room
      tail-room =
          let a = row-length in
          let b = tag_is in
          let y = ap (λ (x : ℕ). length (tail_text sh.labelled s x)) g in
          omega arith

      pub line-end-room : {r : ℕ} → r ≡ q + length (tail_text sh.labelled s place) → r + 2 ≤ room
      line-end-room k =
          let a = row-length in
          let b = tag_is in
          let y = ap (λ (x : ℕ). length (tail_text sh.labelled s x)) g in
          omega arith

  pub row_put : (t : List ℕ) (to : ℕ) {t₁ t₂ t₃ t₄ : List ℕ} {p q place r end x : ℕ}
      → (p ≡ to + length (decimal sh.tag)) × (t₁ ≡ sets t to (decimal sh.tag))
      → (q ≡ p + length (numbers_text sh.inputs s count 0 (at + 3))) × (place ≡ numbers_end sh.inputs count 0 (at + 3))
      × (t₂ ≡ sets t₁ p (numbers_text sh.inputs s count 0 (at + 3)))
      → (r ≡ q + length (tail_text sh.labelled s place)) × (end ≡ tail_end sh.labelled s place)
      × (t₃ ≡ sets t₂ q (tail_text sh.labelled s place))
      → (x ≡ r + 2) × (t₄ ≡ sets t₃ r (13 ∷ 10 ∷ []))
      → (x ≡ to + length (row_at s at)) × (end ≡ next_at s at) × (t₄ ≡ sets t to (row_at s at))
  row_put t to {t₁} {t₂} {t₃} {t₄} {p} {q} {place} {r} {end} {x} a b c d =
      let numbers = numbers_text sh.inputs s count 0 (at + 3) in
      let tail = tail_text sh.labelled s in
      let g = b.1 in
      let f = ap (λ (y : ℕ). length (tail y)) g in
      let l = row-length in
      let two = tag_is in
      let e₃ = c.2 ∙ ap (λ (y : ℕ). sets t₂ q (tail y)) g in
      let f₃ = c.0 ∙ ap (λ (y : ℕ). q + length (tail y)) g in
      let line : List ℕ = 13 ∷ 10 ∷ [] in
      let runs = four_runs (decimal sh.tag) numbers (tail (numbers_end sh.inputs count 0 (at + 3))) line t t₁ t₂ t₃ t₄ to p q r in (
        omega (arith, a.0, b.0, c.0, d.0),
        c.1 ∙ ap (tail_end sh.labelled s) g ∙ sym next-is,
        rw row_is (runs a.1 a.0 b.2 b.0 e₃ f₃ d.1),
      )

-- ---- the rows

module _ (s : List ℕ) where
  pub rows_done : (left at : ℕ) → left ≤ 0 → rows_at s left at ≡ []
  unfolding rows_at
  rows_done zero at h = refl
  rows_done (suc n) at h = absurd (omega arith)

  -- one entry of those that are left
  module _ (count k at : ℕ) (h : k < count) where
    one_less : count - k ≡ suc (count - (k + 1))
    one_less = omega arith

    pub run_here : Run s (count - k) at → Stands s at
    unfolding Run
    run_here r = (rw one_less at r).0

    pub run_on : (next : ℕ) → next ≡ next_at s at → Run s (count - k) at → Run s (count - (k + 1)) next
    unfolding Run
    run_on next e r = rw e (rw one_less at r).1

    pub rows_on : (next : ℕ) → next ≡ next_at s at → rows_at s (count - k) at ≡ row_at s at ++ rows_at s (count - (k + 1)) next
    unfolding rows_at
    rows_on next e = rw (one_less, e)

    pub rows_length : (next : ℕ) → next ≡ next_at s at → length (rows_at s (count - k) at) ≡ length (row_at s at) + length (rows_at s (count - (k + 1)) next)
    rows_length next e = ap length (rows_on next e) ∙ length-append (row_at s at) (rows_at s (count - (k + 1)) next)

    pub put_on : (next : ℕ) → next ≡ next_at s at → (t t' : List ℕ) (to to' : ℕ) → to' ≡ to + length (row_at s at) → t' ≡ sets t to (row_at s at)
        → sets t' to' (rows_at s (count - (k + 1)) next) ≡ sets t to (rows_at s (count - k) at)
    put_on next e t t' to to' p q =
        rw (q, p) (sym (ap (sets t to) (rows_on next e) ∙ sets-append (row_at s at) (rows_at s (count - (k + 1)) next) t to))
