-- What the pass holds, from field to field. Assumes nothing.
use Rattle.std.specs.Prelude.{Result, Err}
use mathlib.Core.Path.{◌≡◌, refl, ap, ap₂, sym, ◌∙◌, subst}
use mathlib.Core.Bool.{Bool, true, false, cond, ◌&&◌, ◌||◌}
use mathlib.Core.List.{List, [], ◌∷◌, ◌++◌, map}
use Prim.Native.Nat.{ℕ, zero, suc, ◌+◌, ◌-◌, ◌*◌, ◌≤◌, ◌<◌}
use native.Mathlib.Omega.{arith}
use native.Mathlib.Numerals.{add-one}
use lib.Dec.{eqb}
use lib.ListN.{length, get_or, take, set, length-append, length-set}
use lib.IntN.{ℤ, pos}
use lib.Seq.{take-suc-set, get_or-set_same, get_or-set_other}
use borrow.Author.Tests.{eqb-true, eqb-false}
use Rattle.std.proofs.lemmas.List.{map-append}
use Rattle.words.specs.Bytes.{number_at}
use Rattle.words.specs.Signed.{over}
use Rattle.words.proofs.Bounds.{amount-between, count-is}
use Rattle.kinds.specs.Kinds.{kinds, kind_of, is_analog, allowed, indexed}
use Rattle.refusals.specs.Faults.{lowest}
use Rattle.refusals.specs.Stages.{among_blocks, after_block, among_rows, ended}
use Rattle.refusals.specs.Refusals.{number_of, number_in as number_told}
use Rattle.refusals.specs.declared.Refusal.{Refusal}
use Rattle.refusals.proofs.Numbers.{number-above}
use Rattle.refusals.specs.Modest.{Modest}
use Rattle.refusals.specs.declared.Limits.{Limits}
use Rattle.blockfield.specs.BlockField.{kind_at, parameters_at, signed_at, signeds_at, index_from, shift_register, block_faults}
use Rattle.blockfield.specs.Marked.{index_mark, Lies}
use Rattle.blockfield.proofs.Laws.{index-first, index-range}
use Rattle.fields.specs.Fields.{header_faults, label_faults, row_faults, end_faults, class_at, number_in}
use Rattle.fields.specs.Marks.{mark}
use Rattle.fields.proofs.Laws.{known-destination}
use Rattle.decoding.specs.Decoded.{header_in, block_in, label_in, row_in, end_in, Block, Row, State, is_analog_block, index_of, same, index_used, destination_used, content_at, block_at, row_at, with_label, labelled, header_taken, block_taken, label_taken, row_taken, end_taken}
use Rattle.decoding.specs.Held.{bare, rows_at, registers_after, Head, Seen, Judged, judged, Judges, Sound, Holds}
use Rattle.decoding.proofs.Agree.{block-agree, row-agree, used-agree}
use Rattle.decoding.proofs.Marked.{Marks, row-marked, register-same, register-marked}
use Rattle.decoding.proofs.Right.{header-iff, label-iff, end-iff, block-right, row-right}

-- ---- lists

-- what holds of each element of a list up to a place holds, after a store there, up to the next
one_more : (P : ℕ → Type 0) (l : List ℕ) (i v : ℕ) → i < length l → ((k : ℕ) → k < i → P (get_or l k 0)) → P v → (k : ℕ) → k < i + 1 → P (get_or (set l i v) k 0)
one_more P l i v room below new k h = go (eqb k i) refl
  where
    go : (b : Bool) → eqb k i ≡ b → P (get_or (set l i v) k 0)
    go true e =
        let q = eqb-true k i e in
        subst (λ (x : ℕ). P (get_or (set l i v) x 0)) (sym q) (subst P (sym (get_or-set_same l i v 0 room)) new)
    go false e =
        let ne = eqb-false k i e in
        let lt : k < i = omega (arith, ne) in
        subst P (sym (get_or-set_other l i k v 0 ne)) (below k lt)

-- one row more, at the end
rows_more : (s : List ℕ) (at k : ℕ) → rows_at s at (suc k) ≡ rows_at s at k ++ (row_at s (at + 8 * k) ∷ [])
unfolding rows_at
rows_more s at zero = let e : at ≡ at + 8 * 0 = omega arith in ap (λ (i : ℕ). row_at s i ∷ []) e
rows_more s at (suc k) =
    let e : at + 8 + 8 * k ≡ at + 8 * suc k = omega arith in
    ap (λ l. row_at s at ∷ l) (rows_more s (at + 8) k ∙ ap (λ (i : ℕ). rows_at s (at + 8) k ++ (row_at s i ∷ [])) e)

-- ---- a label changes nothing else

pub labelled-length : (x : List ℕ) (l : List Block) → length (labelled x l) ≡ length l
unfolding labelled
labelled-length x [] = refl
labelled-length x (b ∷ []) = refl
labelled-length x (b ∷ c ∷ l) = ap suc (labelled-length x (c ∷ l))

labelled-map : {A : Type 0} (f : Block → A) (x : List ℕ) → ((b : Block) → f (with_label x b) ≡ f b) → (l : List Block) → map f (labelled x l) ≡ map f l
unfolding labelled
labelled-map f x h [] = refl
labelled-map f x h (b ∷ []) = ap (λ y. y ∷ []) (h b)
labelled-map f x h (b ∷ c ∷ l) = ap (λ m. f b ∷ m) (labelled-map f x h (c ∷ l))

labelled-index : (v : ℤ) (x : List ℕ) (l : List Block) → index_used v (labelled x l) ≡ index_used v l
unfolding labelled index_used
labelled-index v x [] = refl
labelled-index v x (b ∷ []) = refl
labelled-index v x (b ∷ c ∷ l) =
    ap (λ t. (eqb b.kind shift_register && same (index_of b) v) || t) (labelled-index v x (c ∷ l))

-- ---- the numbers are those of the state

module _ (limits : Limits) (s : List ℕ) (at size : ℕ) (seen : Seen) (st : State) (h : Holds limits s seen st) where
  abbrev pub header_here : ℕ
  header_here = lowest (header_faults limits s at size seen.head.stage)

  abbrev pub block_here : ℕ
  block_here = lowest (block_faults limits s at size seen.head.stage seen.head.n seen.head.blocks seen.sorts (get_or seen.registers (index_mark s at) false))

  abbrev pub label_here : ℕ
  label_here = lowest (label_faults size seen.head.stage)

  abbrev pub row_here : ℕ
  row_here = lowest (row_faults limits s at size seen.head.stage seen.head.n seen.head.blocks seen.sorts (get_or seen.used (mark (class_at s at) (number_in s at)) false))

  abbrev pub end_here : ℕ
  end_here = lowest (end_faults size seen.head.stage seen.head.n seen.head.blocks)

  abbrev pub header_number : ℕ
  header_number = lowest (header_in limits s at size st)

  abbrev pub block_number : ℕ
  block_number = lowest (block_in limits s at size st)

  abbrev pub label_number : ℕ
  label_number = lowest (label_in size st)

  abbrev pub row_number : ℕ
  row_number = lowest (row_in limits s at size st)

  abbrev pub end_number : ℕ
  end_number = lowest (end_in size st)

  pub header-same : header_here ≡ header_number
  header-same = ap (λ (x : ℕ). lowest (header_faults limits s at size x)) h.stage

  pub label_same : label_here ≡ label_number
  label_same = ap (λ (x : ℕ). lowest (label_faults size x)) h.stage

  pub end_same : end_here ≡ end_number
  end_same =
      ap₂ (λ (a b : ℕ). lowest (end_faults size a b seen.head.blocks)) h.stage h.n
      ∙ ap (λ (x : ℕ). lowest (end_faults size st.stage st.n x)) h.blocks

  pub block_same : block_here ≡ block_number
  block_same =
      let used = get_or seen.registers (index_mark s at) false in
      let is = index_used (signed_at s (index_from at)) st.blocks in
      let before = take seen.head.blocks seen.sorts in
      block-agree limits seen.head.blocks seen.head.n seen.sorts s at size seen.head.stage used
      ∙ used-agree limits s at size seen.head.stage seen.head.n seen.head.blocks before used is
      (λ e a.
      let r = index-range s at (kind_at s at) e a in
      let x = amount-between r in
      h.registers (over (signed_at s (index_from at))) x.0 x.1
      ∙ ap (λ (v : ℤ). index_used v st.blocks) (count-is r))
      ∙ ap₂ (λ (a b : ℕ). lowest (block_faults limits s at size a b seen.head.blocks before is)) h.stage h.n
      ∙ ap₂ (λ (a : ℕ) (l : List Bool). lowest (block_faults limits s at size st.stage st.n a l is)) h.blocks h.sorts

  pub row_same : row_here ≡ row_number
  row_same =
      let used = get_or seen.used (mark (class_at s at) (number_in s at)) false in
      let is = destination_used (class_at s at) (number_in s at) st.rows in
      let before = take seen.head.blocks seen.sorts in
      row-agree limits seen.head.blocks seen.head.n seen.sorts s at size seen.head.stage used is
      (λ e. let d = known-destination limits (class_at s at) (number_in s at) e in h.used (class_at s at) (number_in s at) d.low d.high)
      ∙ ap₂ (λ (a b : ℕ). lowest (row_faults limits s at size a b seen.head.blocks before is)) h.stage h.n
      ∙ ap₂ (λ (a : ℕ) (l : List Bool). lowest (row_faults limits s at size st.stage st.n a l is)) h.blocks h.sorts

-- ---- a judgement that refuses

pub refuses : {limits : Limits} {s : List ℕ} {number next : ℕ} {then : State} {r : Judged} → r.number ≡ number → (r.number ≡ 0 → ⊥) → Judges limits s number next then r
refuses e ne =
    record { number_is = e; next-is = λ z. absurd (ne z); holds = λ z. absurd (ne z); sound = λ z. absurd (ne z) }

-- by a result that is passed on
pub passes-on : {A : Type 0} {told : Result A Refusal} {r : Result (Unit {0}) Refusal} {refusal : Refusal} {limits : Limits} {s : List ℕ} {number next after : ℕ} {then : State} {seen : Seen}
    → told ≡ Err refusal → r ≡ Err refusal → number_told told ≡ number → Judges limits s number next then (judged r after seen)
passes-on {r = r} {refusal = refusal} was is number =
    let told : number_told r ≡ number_of refusal = ap number_told is in
    refuses (told ∙ sym (ap number_told was) ∙ number) (λ z. omega (arith, told, number-above refusal))

-- ---- what a field without a fault leaves held

abbrev pub stands : ℕ → ℕ → ℕ → ℕ → ℕ → Head
stands stage n blocks rows start = record { stage = stage; n = n; blocks = blocks; rows = rows; start = start }

-- the rows begin anew, where there are none
no-rows-there : (limits : Limits) (s : List ℕ) (seen : Seen) (st : State) → Holds limits s seen st → seen.head.rows ≡ 0 → (start : ℕ) → rows_at s start seen.head.rows ≡ st.rows
unfolding rows_at
no-rows-there limits s seen st h z start = rw z (rw z at h.rows-there)

module _ (limits : Limits) (s : List ℕ) (at size : ℕ) (fit : (at + 3) + size ≤ length s) (seen : Seen) (sound : Sound seen.head at) (st : State) (h : Holds limits s seen st) where
  pub header-taken : Modest limits → (x start : ℕ) → x ≡ number_at 2 s (at + 4) → start ≡ (at + 3) + size → 0 ≡ header_here limits s at size seen st h → Judges limits s (header_number limits s at size seen st h) ((at + 3) + size) (header_taken s at st) (record { number = 0; next = (at + 3) + size; seen = record { head = stands among_blocks x seen.head.blocks seen.head.rows start; offsets = seen.offsets; sorts = seen.sorts; used = seen.used; registers = seen.registers } })
  header-taken modest x start q behind e =
      let right = (header-iff limits s at size seen.head.stage).0 (sym e) in
      let stage = right.first in
      let none : seen.head.blocks ≡ 0 = sound.fresh stage in
      let no_rows : seen.head.rows ≡ 0 = sound.no_rows (λ y. omega (arith, stage)) (λ y. omega (arith, stage)) in
      record {
        number_is = e ∙ header-same limits s at size seen st h;
        next-is = λ z. refl;
        holds =
            λ z.
            record {
              stage = refl;
              n = q;
              blocks = h.blocks;
              rows = h.rows;
              rows-there = no-rows-there limits s seen st h no_rows start;
              sorts = h.sorts;
              offsets = h.offsets;
              registers = h.registers;
              used = h.used;
              lie = h.lie;
              offsets-long = h.offsets-long;
              sorts-long = h.sorts-long;
              used-long = h.used-long;
              registers-long = h.registers-long;
            };
        sound =
            λ z.
            record {
              fresh = λ y. none;
              few = omega (arith, q, right.few, modest.blocks);
              some_left = omega (arith, none);
              complete = λ y. let x : ⊥ = omega arith in absurd x;
              no_rows = λ y w. no_rows;
              along = λ y. omega (arith, no_rows, behind);
              closed = λ y. let x : ⊥ = omega arith in absurd x;
            };
      }

  registers-length : length (registers_after s at seen.registers) ≡ 4
  registers-length = go (eqb (kind_at s at) shift_register)
    where
      go : (t : Bool) → length (cond t (set seen.registers (index_mark s at) true) seen.registers) ≡ 4
      go true = length-set seen.registers (index_mark s at) true ∙ h.registers-long
      go false = h.registers-long

  registers-held : (ρ : List Bool) → ρ ≡ registers_after s at seen.registers → allowed (kind_at s at) (parameters_at s at (kind_of (kind_at s at))) ≡ true → Marks ρ (st.blocks ++ (block_at s at ∷ []))
  unfolding kind_of kinds indexed signeds_at
  registers-held ρ ρ-is w x l g = ap (λ (k : List Bool). get_or k (x - 1) false) ρ-is ∙ go (eqb (kind_at s at) shift_register) refl
    where
      go : (t : Bool) → eqb (kind_at s at) shift_register ≡ t → get_or (registers_after s at seen.registers) (x - 1) false ≡ index_used (pos x) (st.blocks ++ (block_at s at ∷ []))
      go true e =
          let k : kind_at s at ≡ shift_register = eqb-true _ _ e in
          let r = index-range s at (kind_at s at) k w in
          let a = amount-between r in
          let p : index_of (block_at s at) ≡ pos (over (signed_at s (index_from at))) =
          index-first s at (kind_at s at) k ∙ sym (count-is r) in
          ap (λ (b : Bool). get_or (cond b (set seen.registers (index_mark s at) true) seen.registers) (x - 1) false) e
          ∙ register-marked seen.registers st.blocks (block_at s at) (over (signed_at s (index_from at))) h.registers-long k p a.0 a.1 h.registers x l g
      go false e =
          ap (λ (b : Bool). get_or (cond b (set seen.registers (index_mark s at) true) seen.registers) (x - 1) false) e
          ∙ register-same seen.registers st.blocks (block_at s at) (eqb-false _ _ e) h.registers x l g

  pub block-taken : (seen.head.stage ≡ ended → ⊥) → (start : ℕ) → start ≡ (at + 3) + size → (ρ : List Bool) → ρ ≡ registers_after s at seen.registers → (x : Bool) → x ≡ is_analog (kind_of (kind_at s at)).output → 0 ≡ block_here limits s at size seen st h → Judges limits s (block_number limits s at size seen st h) ((at + 3) + size) (block_taken s at st) (record { number = 0; next = (at + 3) + size; seen = record { head = stands after_block seen.head.n (seen.head.blocks + 1) seen.head.rows start; offsets = set seen.offsets seen.head.blocks at; sorts = set seen.sorts seen.head.blocks x; used = seen.used; registers = ρ } })
  block-taken going start behind ρ ρ-is x q e =
      let right = block-right limits seen.sorts _ e refl in
      let left = right.room in
      let few = sound.few in
      let room : seen.head.blocks < length seen.sorts = omega (arith, h.sorts-long) in
      let room' : seen.head.blocks < length seen.offsets = omega (arith, h.offsets-long) in
      let lies : Lies s at =
      record { is_known = right.is_known; inside = subst (λ (z : ℕ). (at + 3) + z ≤ length s) right.size_is fit; is-allowed = right.is-allowed } in
      let longer = length-append st.blocks (block_at s at ∷ []) in
      let no_rows : seen.head.rows ≡ 0 = sound.no_rows right.not-rows going in
      record {
        number_is = e ∙ block_same limits s at size seen st h;
        next-is = λ z. refl;
        holds =
            λ z.
            record {
              stage = refl;
              n = h.n;
              blocks = omega (arith, longer, h.blocks);
              rows = h.rows;
              rows-there = no-rows-there limits s seen st h no_rows start;
              sorts =
                  rw add-one (take-suc-set seen.sorts seen.head.blocks x room)
                  ∙ ap₂ (λ (l : List Bool) (y : Bool). l ++ (y ∷ [])) h.sorts q
                  ∙ sym (map-append is_analog_block st.blocks (block_at s at ∷ []));
              offsets =
                  rw add-one (ap (map (block_at s)) (take-suc-set seen.offsets seen.head.blocks at room'))
                  ∙ map-append (block_at s) (take seen.head.blocks seen.offsets) (at ∷ [])
                  ∙ ap (λ (l : List Block). l ++ (block_at s at ∷ [])) h.offsets
                  ∙ sym (map-append bare st.blocks (block_at s at ∷ []));
              registers = registers-held ρ ρ-is right.is-allowed;
              used = h.used;
              lie = one_more (Lies s) seen.offsets seen.head.blocks at room' h.lie lies;
              offsets-long = length-set seen.offsets seen.head.blocks at ∙ h.offsets-long;
              sorts-long = length-set seen.sorts seen.head.blocks x ∙ h.sorts-long;
              used-long = h.used-long;
              registers-long = ap length ρ-is ∙ registers-length;
            };
        sound =
            λ z.
            record {
              fresh = λ y. let x : ⊥ = omega arith in absurd x;
              few = few;
              some_left = omega (arith, left);
              complete = λ y. let x : ⊥ = omega arith in absurd x;
              no_rows = λ y w. no_rows;
              along = λ y. omega (arith, no_rows, behind);
              closed = λ y. let x : ⊥ = omega arith in absurd x;
            };
      }

  pub row-taken : Modest limits → (seen.head.stage ≡ ended → ⊥) → (x : ℕ) → x ≡ mark (class_at s at) (number_in s at) → 0 ≡ row_here limits s at size seen st h → Judges limits s (row_number limits s at size seen st h) ((at + 3) + size) (row_taken s at st) (record { number = 0; next = (at + 3) + size; seen = record { head = stands among_rows seen.head.n seen.head.blocks (seen.head.rows + 1) seen.head.start; offsets = seen.offsets; sorts = seen.sorts; used = set seen.used x true; registers = seen.registers } })
  row-taken modest going x q e =
      let right = row-right seen.head.stage seen.sorts _ e refl in
      let d = known-destination limits (class_at s at) (number_in s at) right.is_known in
      let longer = length-append st.rows (row_at s at ∷ []) in
      let along = sound.along going in
      let five = right.size_is in
      record {
        number_is = e ∙ row_same limits s at size seen st h;
        next-is = λ z. refl;
        holds =
            λ z.
            record {
              stage = refl;
              n = h.n;
              blocks = h.blocks;
              rows = omega (arith, longer, h.rows);
              rows-there =
                  rw add-one (rows_more s seen.head.start seen.head.rows)
                  ∙ ap₂ (λ (l : List Row) (i : ℕ). l ++ (row_at s i ∷ [])) h.rows-there (sym along);
              sorts = h.sorts;
              offsets = h.offsets;
              registers = h.registers;
              used =
                  λ class number a b.
                  ap (λ (i : ℕ). get_or (set seen.used i true) (mark class number) false) q
                  ∙ row-marked limits modest seen.used st.rows (row_at s at) h.used-long d h.used class number a b;
              lie = h.lie;
              offsets-long = h.offsets-long;
              sorts-long = h.sorts-long;
              used-long = length-set seen.used x true ∙ h.used-long;
              registers-long = h.registers-long;
            };
        sound =
            λ z.
            record {
              fresh = λ y. let x : ⊥ = omega arith in absurd x;
              few = sound.few;
              some_left = sound.some_left;
              complete = λ y. let x : ⊥ = omega arith in absurd x;
              no_rows = λ y w. absurd (y refl);
              along = λ y. omega (arith, along, five);
              closed = λ y. let x : ⊥ = omega arith in absurd x;
            };
      }

module _ (limits : Limits) (s : List ℕ) (at size : ℕ) (seen : Seen) (sound : Sound seen.head at) (st : State) (h : Holds limits s seen st) where
  pub label-taken : (start : ℕ) → start ≡ (at + 3) + size → 0 ≡ label_here limits s at size seen st h → Judges limits s (label_number limits s at size seen st h) ((at + 3) + size) (label_taken s at st) (record { number = 0; next = (at + 3) + size; seen = record { head = stands among_blocks seen.head.n seen.head.blocks seen.head.rows start; offsets = seen.offsets; sorts = seen.sorts; used = seen.used; registers = seen.registers } })
  label-taken start behind e =
      let stage = ((label-iff size seen.head.stage).0 (sym e)).after in
      let x = content_at s at in
      let no_rows : seen.head.rows ≡ 0 = sound.no_rows (λ y. omega (arith, stage)) (λ y. omega (arith, stage)) in
      record {
        number_is = e ∙ label_same limits s at size seen st h;
        next-is = λ z. refl;
        holds =
            λ z.
            record {
              stage = refl;
              n = h.n;
              blocks = h.blocks ∙ sym (labelled-length x st.blocks);
              rows = h.rows;
              rows-there = no-rows-there limits s seen st h no_rows start;
              sorts = h.sorts ∙ sym (labelled-map is_analog_block x (λ b. refl) st.blocks);
              offsets = h.offsets ∙ sym (labelled-map bare x (λ b. refl) st.blocks);
              registers = λ y l g. h.registers y l g ∙ sym (labelled-index (pos y) x st.blocks);
              used = h.used;
              lie = h.lie;
              offsets-long = h.offsets-long;
              sorts-long = h.sorts-long;
              used-long = h.used-long;
              registers-long = h.registers-long;
            };
        sound =
            λ z.
            record {
              fresh = λ y. let x : ⊥ = omega arith in absurd x;
              few = sound.few;
              some_left = sound.some_left;
              complete = λ y. let x : ⊥ = omega arith in absurd x;
              no_rows = λ y w. no_rows;
              along = λ y. omega (arith, no_rows, behind);
              closed = λ y. let x : ⊥ = omega arith in absurd x;
            };
      }

  pub end-taken : (seen.head.stage ≡ ended → ⊥) → 0 ≡ end_here limits s at size seen st h → Judges limits s (end_number limits s at size seen st h) ((at + 3) + size) (end_taken st) (record { number = 0; next = (at + 3) + size; seen = record { head = stands ended seen.head.n seen.head.blocks seen.head.rows seen.head.start; offsets = seen.offsets; sorts = seen.sorts; used = seen.used; registers = seen.registers } })
  end-taken going e =
      let right = (end-iff size seen.head.stage seen.head.n seen.head.blocks).0 (sym e) in
      let along = sound.along going in
      record {
        number_is = e ∙ end_same limits s at size seen st h;
        next-is = λ z. refl;
        holds =
            λ z.
            record {
              stage = refl;
              n = h.n;
              blocks = h.blocks;
              rows = h.rows;
              rows-there = h.rows-there;
              sorts = h.sorts;
              offsets = h.offsets;
              registers = h.registers;
              used = h.used;
              lie = h.lie;
              offsets-long = h.offsets-long;
              sorts-long = h.sorts-long;
              used-long = h.used-long;
              registers-long = h.registers-long;
            };
        sound =
            λ z.
            record {
              fresh = λ y. let x : ⊥ = omega arith in absurd x;
              few = sound.few;
              some_left = sound.some_left;
              complete = λ y. right.full;
              no_rows = λ y w. absurd (w refl);
              along = λ y. absurd (y refl);
              closed = λ y. omega (arith, along, right.empty);
            };
      }
