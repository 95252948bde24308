-- What is held of a row that was split and shaped, and what each outcome says of the row. Assumes nothing.
use mathlib.Core.Path.{◌≡◌, refl, ap, ap₂, sym, ◌∙◌, subst}
use mathlib.Core.Bool.{Bool, true, false, false≢true}
use mathlib.Core.List.{List, ◌++◌}
use Prim.Native.Nat.{ℕ, ◌+◌, ◌-◌, ◌*◌, ◌≤◌, ◌<◌}
use native.Mathlib.Omega.{arith}
use lib.ListN.{length, drop}
use lib.Seq.{sets}
use Rattle.digits.specs.Numbers.{Number}
use Rattle.digits.specs.Numbers.{number_of}
use Rattle.kept.specs.Keeps.{field}
use Rattle.rows.specs.Shape.{Shape}
use Rattle.rows.specs.Text.{text_row}
use Rattle.rows.specs.Columns.{nth, shape_of, columns_of, numbers_in, widths, widths_of, numbers_fit, numbers_bytes, label_fits, label_field, mark_said, mark_of, label_of, is_shaped, is_fit, row_number, fields_by, fields_of, is_block}
use Rattle.rows.proofs.Laid.{sets-append}
use Rattle.splitting.specs.Found.{Found}
use Rattle.std.specs.Prelude.{Option, Some, None}
use Rattle.std.specs.Option.{IsSome}
use Rattle.rows.specs.declared.shape.Shape.{Shape as Known}
use Rattle.rows.specs.Shape.{shape_said}
use Rattle.splitting.specs.declared.held.Span.{Span}
use Rattle.splitting.specs.declared.row.Row.{Row}
use Rattle.splitting.specs.Spans.{starts_of, sizes_of}
use Rattle.splitting.specs.Found.{found_of, Says, SaysOf, said_at, Finds}
use Rattle.reading.specs.Counted.{Judged}
use Rattle.reading.specs.declared.second_pass.Placed.{Placed}
use Rattle.reading.specs.Counted.{row_at, mark_in, label_in, label_field_in, Goes, Judges, Puts}
use Rattle.reading.proofs.Rules.{broken, unshaped, unfit, faultless, passes, unknown-shape, other-columns, its-columns, shaped-columns, misfit-numbers, fit-output, fit-block}
use Rattle.reading.proofs.Sizes.{fields-output, fields-block, field-size, size-output, size-block}

-- a row that is whole, and its shape
pub record Held (s : List ℕ) (at : ℕ) (f : Found) (starts sizes : List ℕ) (sh : Shape) : Type 0 where
  pub finds : Finds s at f starts sizes
  pub whole : f.whole ≡ true
  pub shape : sh ≡ shape_of (said_at s at)
  pub inputs : sh.inputs ≤ 4
  pub numbers : 2 * sh.inputs + sh.parameters ≤ 11

-- as the code has them
pub holds : (s : List ℕ) (at : ℕ) (spans : List Span) (row : Row) (shape : Option Known) → Finds s at (found_of (Some row)) (starts_of spans) (sizes_of spans)
    → ((cells : List (List ℕ)) → SaysOf s spans cells → row.count ≡ length cells → shape_said shape ≡ shape_of cells)
    → Held s at (found_of (Some row)) (starts_of spans) (sizes_of spans) (shape_said shape)
holds s at spans row None F h =
    record { finds = F; whole = refl; shape = h (said_at s at) (F.says refl) (F.count refl); inputs = omega arith; numbers = omega arith }
holds s at spans row (Some shape) F h =
    record { finds = F; whole = refl; shape = h (said_at s at) (F.says refl) (F.count refl); inputs = shape.few.0; numbers = shape.few.1 }

pub some_row : (row : Option Row) → (found_of row).whole ≡ true → IsSome row
some_row None e = absurd (false≢true e)
some_row (Some row) e = refl

pub some_shape : (shape : Option Known) → (shape_said shape).known ≡ true → IsSome shape
some_shape None e = absurd (false≢true e)
some_shape (Some shape) e = refl

-- with as many columns as its shape wants
pub record Fills (s : List ℕ) (at : ℕ) (f : Found) (starts sizes : List ℕ) (sh : Shape) : Type 0 where
  pub held : Held s at f starts sizes sh
  pub shaped : is_shaped sh (said_at s at) ≡ true
  pub columns : f.count ≡ columns_of sh

module _ (s : List ℕ) (at : ℕ) (f : Found) (starts sizes : List ℕ) where
  goes-whole : Finds s at f starts sizes → f.whole ≡ true → Goes s at f.next
  goes-whole F w = record { whole = sym F.whole ∙ w; is = F.next w; on = F.on w; inside = F.inside w }

  row-whole : Finds s at f starts sizes → (b : Bool) → f.whole ≡ b → (row_at s at).whole ≡ b
  unfolding text_row
  row-whole F b w = sym F.whole ∙ w

  pub whole-faultless : Finds s at f starts sizes → row_number (row_at s at) ≡ 0 → f.whole ≡ true
  unfolding text_row
  whole-faultless F z = F.whole ∙ (passes (row_at s at) z).whole

  -- a fault is its number alone
  judged-fault : (r : Judged) (n : ℕ) → r.number ≡ n → (n ≡ 0 → ⊥) → n ≡ row_number (row_at s at) → Judges s at r
  judged-fault r n e z h =
      let no : r.number ≡ 0 → ⊥ = λ q. z (sym e ∙ q) in
      record { number = e ∙ h; size = λ q. absurd (no q); block = λ q. absurd (no q); goes = λ q. absurd (no q) }

  pub judged-broken : (r : Judged) → Finds s at f starts sizes → f.whole ≡ false → r.number ≡ 30 → Judges s at r
  judged-broken r F w e = judged-fault r 30 e (λ z. omega arith) (broken (row_at s at) (row-whole F false w))

  module _ (sh : Shape) where
    module _ (H : Held s at f starts sizes sh) where
      whole : (row_at s at).whole ≡ true
      whole = row-whole H.finds true H.whole

      cells_count : f.count ≡ length (said_at s at)
      cells_count = H.finds.count H.whole

      shaped-as : (b : Bool) → is_shaped sh (said_at s at) ≡ b → is_shaped (shape_of (said_at s at)) (said_at s at) ≡ b
      shaped-as b e = subst (λ (x : Shape). is_shaped x (said_at s at) ≡ b) H.shape e

      fit-as : (b : Bool) → is_fit sh (said_at s at) ≡ b → is_fit (shape_of (said_at s at)) (said_at s at) ≡ b
      fit-as b e = subst (λ (x : Shape). is_fit x (said_at s at) ≡ b) H.shape e

      judged-unshaped : (r : Judged) → is_shaped sh (said_at s at) ≡ false → r.number ≡ 31 → Judges s at r
      unfolding text_row
      judged-unshaped r n e = judged-fault r 31 e (λ z. omega arith) (unshaped (row_at s at) whole (shaped-as false n))

      pub judged-unknown : (r : Judged) → sh.known ≡ false → r.number ≡ 31 → Judges s at r
      judged-unknown r k e = judged-unshaped r (unknown-shape sh (said_at s at) k) e

      pub judged-columns : (r : Judged) → sh.known ≡ true → (f.count ≡ columns_of sh → ⊥) → r.number ≡ 31 → Judges s at r
      judged-columns r k n e = judged-unshaped r (other-columns sh (said_at s at) k (λ q. n (cells_count ∙ q))) e

      pub fills : sh.known ≡ true → f.count ≡ columns_of sh → Fills s at f starts sizes sh
      fills k n = record { held = H; shaped = its-columns sh (said_at s at) k (sym cells_count ∙ n); columns = n }

    -- where the row has no fault
    pub fills-faultless : Held s at f starts sizes sh → row_number (row_at s at) ≡ 0 → Fills s at f starts sizes sh
    unfolding text_row
    fills-faultless H z =
        let p = passes (row_at s at) z in
        let sp : is_shaped sh (said_at s at) ≡ true = subst (λ (x : Shape). is_shaped x (said_at s at) ≡ true) (sym H.shape) p.shaped in
        record { held = H; shaped = sp; columns = cells_count H ∙ shaped-columns sh (said_at s at) sp }

    module _ (K : Fills s at f starts sizes sh) where
      pub says : Says s starts sizes (said_at s at)
      says = K.held.finds.says K.held.whole

      pub numbers-many : 3 + 2 * sh.inputs + sh.parameters ≤ length (said_at s at)
      unfolding columns_of numbers_in
      numbers-many = let a = K.columns in let b = cells_count K.held in omega arith

      -- the fields and the sort of the row
      fields-as : fields_by sh (said_at s at) ≡ fields_of (row_at s at)
      unfolding fields_of text_row
      fields-as = ap (λ (x : Shape). fields_by x (said_at s at)) K.held.shape

      block-as : (b : Bool) → sh.labelled ≡ b → b ≡ is_block (row_at s at)
      unfolding is_block text_row
      block-as b l = sym l ∙ ap (λ (x : Shape). x.labelled) K.held.shape

      judged-unfit : (r : Judged) → is_fit sh (said_at s at) ≡ false → r.number ≡ 32 → Judges s at r
      unfolding text_row
      judged-unfit r n e =
          judged-fault r 32 e (λ z. omega arith)
          (unfit (row_at s at) (whole K.held) (shaped-as K.held true K.shaped) (fit-as K.held false n))

      judged-fine : (r : Judged) → is_fit sh (said_at s at) ≡ true → r.number ≡ 0 → r.size ≡ length (fields_by sh (said_at s at)) → r.block ≡ sh.labelled
          → r.next ≡ f.next → Judges s at r
      unfolding text_row
      judged-fine r n e size b next =
          record {
            number = e ∙ faultless (row_at s at) (whole K.held) (shaped-as K.held true K.shaped) (fit-as K.held true n);
            size = λ z. size ∙ ap length fields-as;
            block = λ z. b ∙ block-as sh.labelled refl;
            goes = λ z. subst (Goes s at) (sym next) (goes-whole K.held.finds K.held.whole);
          }

      -- what the test of the numbers says
      module _ (b : Bool) (h : (cells : List (List ℕ)) → Says s starts sizes cells → 3 + 2 * sh.inputs + sh.parameters ≤ length cells
          → b ≡ numbers_fit (widths sh.inputs sh.parameters) (drop 1 cells)) where
        numbers-said : numbers_fit (widths_of sh) (drop 1 (said_at s at)) ≡ b
        numbers-said = sym (h (said_at s at) says numbers-many)

        pub judged-numbers : (r : Judged) → b ≡ false → r.number ≡ 32 → Judges s at r
        judged-numbers r n e = judged-unfit r (misfit-numbers sh (said_at s at) (numbers-said ∙ n)) e

        pub judged-output : (r : Judged) → b ≡ true → sh.labelled ≡ false → r.number ≡ 0 → r.size ≡ 5 + 3 * sh.inputs + 4 * sh.parameters
            → r.block ≡ false → r.next ≡ f.next → Judges s at r
        judged-output r n l e size block next =
            judged-fine r (fit-output sh (said_at s at) (numbers-said ∙ n) l) e (size ∙ size-output sh (said_at s at) numbers-many l) (block ∙ sym l) next

      -- the label of a block
      module _ (l : sh.labelled ≡ true) where
        pub label-count : f.count ≡ 3 + numbers_in sh
        unfolding columns_of numbers_in
        label-count = let a : f.count ≡ 1 + numbers_in sh + 2 = rw l at K.columns in omega arith

        few-label : 3 + numbers_in sh ≤ 16
        unfolding numbers_in
        few-label = let n = K.held.numbers in omega arith

        pub label-few : f.count - 2 + 1 < 16
        label-few =
            let a = label-count in
            let b = few-label in
            omega arith

        mark-as : mark_in s starts sizes (f.count - 2) ≡ mark_said (mark_of sh (said_at s at))
        mark-as =
            let a = label-count in
            let b = few-label in
            let c = cells_count K.held in
            let e : f.count - 2 ≡ 1 + numbers_in sh = omega arith in
            says.same (f.count - 2) 0 1 (omega arith) (omega arith) ∙ ap (λ (j : ℕ). number_of 0 1 (nth (said_at s at) j)) e

        label-as : label_in s starts sizes (f.count - 2 + 1) f.quoted ≡ label_of sh (said_at s at)
        label-as =
            let a = label-count in
            let b = few-label in
            let d : f.count - 2 + 1 ≡ f.count - 1 = omega arith in
            let e : f.count - 1 ≡ 2 + numbers_in sh = omega arith in
            ap (λ (j : ℕ). label_in s starts sizes j f.quoted) d
            ∙ sym (K.held.finds.last K.held.whole (omega arith))
            ∙ ap (λ (j : ℕ). nth (said_at s at) j) e

        label-field : label_field_in s starts sizes (f.count - 2) f.quoted
            ≡ label_field (mark_said (mark_of sh (said_at s at))) (label_of sh (said_at s at))
        label-field = ap₂ label_field mark-as label-as

        -- what the test of the label says
        module _ (b fits : Bool) (h : (cells : List (List ℕ)) → Says s starts sizes cells → 3 + 2 * sh.inputs + sh.parameters ≤ length cells
            → b ≡ numbers_fit (widths sh.inputs sh.parameters) (drop 1 cells)) (n : b ≡ true)
            (p : fits ≡ label_fits (mark_in s starts sizes (f.count - 2)) (length (label_in s starts sizes (f.count - 2 + 1) f.quoted))) where
          label-fits : is_fit sh (said_at s at) ≡ fits
          label-fits =
              fit-block sh (said_at s at) fits (numbers-said b h ∙ n) l
              (p ∙ ap₂ (λ (x : Number) (y : List ℕ). label_fits x (length y)) mark-as label-as)

          pub judged-label : (r : Judged) → fits ≡ false → r.number ≡ 32 → Judges s at r
          judged-label r q e = judged-unfit r (label-fits ∙ q) e

          pub judged-block : (r : Judged) (room : ℕ) → fits ≡ true
              → room ≡ length (label_field_in s starts sizes (f.count - 2) f.quoted)
              → r.number ≡ 0 → r.size ≡ 5 + 3 * sh.inputs + 4 * sh.parameters + room → r.block ≡ true → r.next ≡ f.next → Judges s at r
          judged-block r room q w e size block next =
              judged-fine r (label-fits ∙ q) e
              (size
              ∙ ap (λ (k : ℕ). 5 + 3 * sh.inputs + 4 * sh.parameters + k) (w ∙ ap length label-field)
              ∙ size-block sh (said_at s at) numbers-many l)
              (block ∙ sym l) next

      -- ---- put at a place

      abbrev numbers_field : List ℕ
      numbers_field = field sh.tag (numbers_bytes (widths_of sh) (drop 1 (said_at s at)))

      pub puts-output : (r : Placed) (to : ℕ) (lent left : List ℕ) → sh.labelled ≡ false → left ≡ sets lent to numbers_field
          → r.end ≡ to + (5 + 3 * sh.inputs + 4 * sh.parameters) → r.next ≡ f.next → Puts s at to r lent left
      puts-output r to lent left l p e next =
          record {
            bytes = p ∙ ap (λ (x : List ℕ). sets lent to x) (sym (fields-output sh (said_at s at) l) ∙ fields-as);
            end = e ∙ ap (λ (n : ℕ). to + n) (size-output sh (said_at s at) numbers-many l ∙ ap length fields-as);
            goes = subst (Goes s at) (sym next) (goes-whole K.held.finds K.held.whole);
          }

      module _ (l : sh.labelled ≡ true) where
        abbrev label_part : List ℕ
        label_part = label_field_in s starts sizes (f.count - 2) f.quoted

        fields-both : numbers_field ++ label_part ≡ fields_of (row_at s at)
        fields-both = ap (λ (x : List ℕ). numbers_field ++ x) (label-field l) ∙ sym (fields-block sh (said_at s at) l) ∙ fields-as

        pub both-size : 5 + 3 * sh.inputs + 4 * sh.parameters + length label_part ≡ length (fields_of (row_at s at))
        both-size =
            ap (λ (x : List ℕ). 5 + 3 * sh.inputs + 4 * sh.parameters + length x) (label-field l)
            ∙ size-block sh (said_at s at) numbers-many l
            ∙ ap length fields-as

        pub puts-block : (r : Placed) (to end : ℕ) (lent mid left : List ℕ) → mid ≡ sets lent to numbers_field
            → end ≡ to + (5 + 3 * sh.inputs + 4 * sh.parameters) → left ≡ sets mid end label_part → r.end ≡ end + length label_part
            → r.next ≡ f.next → Puts s at to r lent left
        puts-block r to end lent mid left p e q last next =
            let n : end ≡ to + length numbers_field = e ∙ ap (λ (k : ℕ). to + k) (sym (field-size sh (said_at s at) numbers-many)) in
            let z = both-size in
            record {
              bytes =
                  q
                  ∙ ap₂ (λ (x : List ℕ) (k : ℕ). sets x k label_part) p n
                  ∙ sym (sets-append numbers_field label_part lent to)
                  ∙ ap (λ (x : List ℕ). sets lent to x) fields-both;
              end = omega arith;
              goes = subst (Goes s at) (sym next) (goes-whole K.held.finds K.held.whole);
            }

      -- the numbers' field is the row's, or its first part
      field-by : (b : Bool) → sh.labelled ≡ b → 5 + 3 * sh.inputs + 4 * sh.parameters ≤ length (fields_of (row_at s at))
      field-by false l = let e = size-output sh (said_at s at) numbers-many l ∙ ap length fields-as in omega arith
      field-by true l = let e = both-size l in omega arith

      pub field_room : 5 + 3 * sh.inputs + 4 * sh.parameters ≤ length (fields_of (row_at s at))
      field_room = field-by sh.labelled refl
