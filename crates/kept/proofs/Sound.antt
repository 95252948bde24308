-- What the verdict accepts keeps the rules, and the bytes are its own: what was passed is what the decoded circuit writes.
-- Assumes nothing.
use mathlib.Core.Path.{◌≡◌, refl, ap, ap₂, sym, ◌∙◌, subst}
use mathlib.Core.Bool.{Bool, true, false, cond}
use mathlib.Core.List.{List, [], ◌∷◌, ◌++◌, append-nil, append_assoc}
use Prim.Native.Nat.{ℕ, zero, suc, ◌+◌, ◌*◌, ◌≤◌, ◌<◌}
use native.Mathlib.Nat.{add_assoc}
use native.Mathlib.Omega.{arith}
use lib.Dec.{eqb, ltb}
use lib.ListN.{length, get_or, take, length-append}
use lib.Seq.{take-add, take_all}
use borrow.Author.Tests.{ltb-false, eqb-true, eqb-false}
use Rattle.words.specs.Bytes.{number_at, bytes_of}
use Rattle.kinds.specs.Kinds.{kind_of, content_length}
use Rattle.refusals.specs.Faults.{lowest, ◌when◌}
use Rattle.refusals.specs.Stages.{opening, after_block, among_rows, ended}
use Rattle.refusals.specs.declared.Limits.{Limits}
use Rattle.blockfield.specs.BlockField.{kind_at}
use Rattle.fields.specs.Fields.{header_faults, label_faults, end_faults, class_at, number_in}
use Rattle.decoding.specs.Decoded.{Block, Row, State, Circuit, circuit_of, nothing, size_at, next_at, content_at, block_at, row_at, header_taken, block_taken, label_taken, row_taken, end_taken, labelled}
use Rattle.decoding.proofs.Steps.{labelled-length}
use Rattle.circuit.specs.Circuit.{accepted, refused, walk, closing, verdict_at, field_number, tag_faults, taken}
use Rattle.kept.specs.Keeps.{Bytes, All, Each, Refers, BlockKeeps, Earlier, OwnIndex, RowKeeps, Once, Keeps, joined, field, connector_bytes, block_content, block_bytes, row_content, row_bytes, encode}
use Rattle.refusals.proofs.Tests.{or-false}
use Rattle.kept.proofs.Lists.{each_snoc, all_snoc, joined_snoc, all-part, LastBare, each-labelled, all-labelled, joined-labelled}
use Rattle.kept.proofs.Codec.{part, part-cons, part-add, part_length, number_small, number-part, connector-part, connectors-part, signeds-part, field-part}
use Rattle.decoding.proofs.Right.{header-iff, label-iff, end-iff}
use Rattle.kept.proofs.Fields.{row-faults, row-right, block-faults, block-right, connectors-add}
use Rattle.circuit.proofs.Tags.{whole-iff, each-tag}

-- ---- the contents of fields, written again

module _ (s : List ℕ) (small : Bytes s) (at : ℕ) where
  header-content : at + 3 + 3 ≤ length s → part s (at + 3) 3 ≡ get_or s (at + 3) 0 ∷ bytes_of 2 (number_at 2 s (at + 4))
  header-content h =
      let a : at + 3 < length s = omega arith in
      let b : at + 4 + 2 ≤ length s = omega arith in
      let q : at + 3 + 1 ≡ at + 4 = omega arith in
      part-cons s (at + 3) 2 a ∙ ap (λ l. get_or s (at + 3) 0 ∷ l) (ap (λ (i : ℕ). part s i 2) q ∙ number-part s small 2 (at + 4) b)

  row-content : at + 3 + 5 ≤ length s → part s (at + 3) 5 ≡ row_content (row_at s at)
  unfolding row_content
  row-content h =
      let a : at + 3 < length s = omega arith in
      let b : at + 4 < length s = omega arith in
      let c : at + 5 + 3 ≤ length s = omega arith in
      let q : at + 3 + 1 ≡ at + 4 = omega arith in
      let r : at + 4 + 1 ≡ at + 5 = omega arith in
      part-cons s (at + 3) 4 a
      ∙ ap (λ l. class_at s at ∷ l)
      (ap (λ (i : ℕ). part s i 4) q
      ∙ part-cons s (at + 4) 3 b
      ∙ ap (λ l. number_in s at ∷ l) (ap (λ (i : ℕ). part s i 3) r ∙ connector-part s small (at + 5) c))

  block-content : at + 3 + content_length (kind_of (kind_at s at)) ≤ length s
      → part s (at + 3) (content_length (kind_of (kind_at s at))) ≡ block_content (block_at s at)
  unfolding block_content
  block-content h =
      let k = kind_of (kind_at s at) in
      let m = k.digitals + k.analogs in
      let p = length k.parameters in
      let a : at + 3 < length s = omega arith in
      let b : at + 4 < length s = omega arith in
      let c : at + 5 + 3 * m ≤ length s = omega arith in
      let d : at + 5 + 3 * m + 4 * p ≤ length s = omega arith in
      let q : at + 3 + 1 ≡ at + 4 = omega arith in
      let r : at + 3 + 2 ≡ at + 5 = omega arith in
      let t : at + 3 + (2 + 3 * m) ≡ at + 5 + 3 * m = omega arith in
      part-add s (at + 3) (2 + 3 * m) (4 * p)
      ∙ ap₂ (λ (x y : List ℕ). x ++ y)
      (part-add s (at + 3) 2 (3 * m)
      ∙ ap₂ (λ (x y : List ℕ). x ++ y)
      (part-cons s (at + 3) 1 a ∙ ap (λ l. kind_at s at ∷ l) (ap (λ (i : ℕ). part s i 1) q ∙ part-cons s (at + 4) 0 b))
      (ap (λ (i : ℕ). part s i (3 * m)) r
      ∙ connectors-part s small (at + 5) m c
      ∙ ap (joined connector_bytes) (connectors-add s (at + 5) k.digitals k.analogs)))
      (ap (λ (i : ℕ). part s i (4 * p)) t ∙ signeds-part s small (at + 5 + 3 * m) p d)

-- ---- what is written so far

abbrev body : ℕ → ℕ → List Block → List Row → List ℕ
body v n bs rs = field 0x01 (v ∷ bytes_of 2 n) ++ (joined block_bytes bs ++ joined row_bytes rs)

abbrev body_of : State → List ℕ
body_of st = body st.version st.n st.blocks st.rows

-- by the stage: nothing, the body, the body and the end field
abbrev written : ℕ → List ℕ → List ℕ
written zero l = []
written (suc zero) l = l
written (suc (suc zero)) l = l
written (suc (suc (suc zero))) l = l
written (suc (suc (suc (suc k)))) l = l ++ field 0x7F []

open-written : (stage : ℕ) (l : List ℕ) → (stage ≡ opening → ⊥) → stage < ended → written stage l ≡ l
open-written zero l h k = absurd (h refl)
open-written (suc zero) l h k = refl
open-written (suc (suc zero)) l h k = refl
open-written (suc (suc (suc zero))) l h k = refl
open-written (suc (suc (suc (suc n)))) l h k = let z : ⊥ = omega arith in absurd z

-- the blocks grow by these bytes, before there are rows
body-grows : (v n : ℕ) (bs new : List Block) (x : List ℕ) → joined block_bytes new ≡ joined block_bytes bs ++ x
    → body v n new [] ≡ body v n bs [] ++ x
body-grows v n bs new x e =
    let h = field 0x01 (v ∷ bytes_of 2 n) in
    let l = joined block_bytes bs in
    ap (λ m. h ++ m) (append-nil (joined block_bytes new) ∙ e ∙ ap (λ m. m ++ x) (sym (append-nil l)))
    ∙ sym (append_assoc h (l ++ []) x)

body-row : (v n : ℕ) (bs : List Block) (rs : List Row) (r : Row) → body v n bs (rs ++ (r ∷ [])) ≡ body v n bs rs ++ row_bytes r
body-row v n bs rs r =
    let h = field 0x01 (v ∷ bytes_of 2 n) in
    let l = joined block_bytes bs in
    ap (λ m. h ++ (l ++ m)) (joined_snoc row_bytes rs r)
    ∙ ap (λ m. h ++ m) (sym (append_assoc l (joined row_bytes rs) (row_bytes r)))
    ∙ sym (append_assoc h (l ++ joined row_bytes rs) (row_bytes r))

-- ---- the invariant

record Sofar (limits : Limits) (s : List ℕ) (at : ℕ) (st : State) : Type 0 where
  bytes : take at s ≡ written st.stage (body_of st)
  stages : st.stage ≤ ended
  fresh : st.stage ≡ opening → st.blocks ≡ []
  no_rows : st.stage < among_rows → st.rows ≡ []
  version : (st.stage ≡ opening → ⊥) → st.version ≡ 1
  few : st.n ≤ limits.blocks
  fits : st.n < 65536
  room : length st.blocks ≤ st.n
  full : among_rows ≤ st.stage → st.n ≤ length st.blocks
  last : st.stage ≡ after_block → LastBare st.blocks
  blocks : All (BlockKeeps limits st.n) st.blocks
  references : Each Earlier st.blocks
  registers : Each OwnIndex st.blocks
  rows : All (RowKeeps limits st.n) st.rows
  sources : All (λ r. Refers st.blocks r.from) st.rows
  destinations : Each Once st.rows

module _ (limits : Limits) (s : List ℕ) (small : Bytes s) (at : ℕ) (st : State) (so : Sofar limits s at st) (on : st.stage ≡ ended → ⊥) (inside : next_at s at ≤ length s) where
  abbrev size : ℕ
  size = size_at s at

  -- one field more
  grow : (tag : ℕ) (content : List ℕ) → get_or s at 0 ≡ tag → part s (at + 3) size ≡ content
      → take (next_at s at) s ≡ take at s ++ field tag content
  grow tag content t c =
      ap (λ (k : ℕ). take k s) (add_assoc at 3 size) ∙ take-add at (3 + size) s
      ∙ ap (λ l. take at s ++ l) (field-part s small at inside ∙ ap₂ field t c)

  -- in the midst
  grow-body : (tag : ℕ) (content : List ℕ) → get_or s at 0 ≡ tag → part s (at + 3) size ≡ content → (st.stage ≡ opening → ⊥)
      → take (next_at s at) s ≡ body_of st ++ field tag content
  grow-body tag content t c ne =
      let l : st.stage < ended = omega (arith, on, so.stages) in
      grow tag content t c ∙ ap (λ l. l ++ field tag content) (so.bytes ∙ open-written st.stage (body_of st) ne l)

  no-rows-keep : (P : Row → Type 0) → st.rows ≡ [] → All P st.rows
  no-rows-keep P er = subst (λ rs. All P rs) (sym er) tt

  header-step : get_or s at 0 ≡ 0x01 → lowest (header_faults limits s at size st.stage) ≡ 0
      → Sofar limits s (next_at s at) (header_taken s at st)
  header-step t e =
      let r = (header-iff limits s at size st.stage).0 e in
      let first : st.stage ≡ opening = r.first in
      let early : st.stage < among_rows = omega arith in
      let eb = so.fresh first in
      let er = so.no_rows early in
      let none : length st.blocks ≡ 0 = ap length eb in
      let long : size_at s at ≡ 3 = r.long in
      let h : at + 3 + 3 ≤ length s = omega arith in
      let v = get_or s (at + 3) 0 in
      let n = number_at 2 s (at + 4) in
      let f = field 0x01 (v ∷ bytes_of 2 n) in
      record {
        bytes =
            grow 0x01 (v ∷ bytes_of 2 n) t (ap (part s (at + 3)) long ∙ header-content s small at h)
            ∙ ap (λ l. l ++ f) (so.bytes ∙ ap (λ k. written k (body_of st)) first)
            ∙ sym (ap₂ (body v n) eb er ∙ append-nil f);
        stages = omega arith;
        fresh = λ z. let q : ⊥ = omega arith in absurd q;
        no_rows = λ z. er;
        version = λ z. r.version;
        few = r.few;
        fits = number_small s small 2 (at + 4);
        room = omega arith;
        full = λ z. omega arith;
        last = λ z. let q : ⊥ = omega arith in absurd q;
        blocks = subst (λ bs. All (BlockKeeps limits n) bs) (sym eb) tt;
        references = so.references;
        registers = so.registers;
        rows = no-rows-keep (RowKeeps limits n) er;
        sources = so.sources;
        destinations = so.destinations;
      }

  block-step : get_or s at 0 ≡ 0x10 → lowest (block-faults limits s at size st.stage st.n st.blocks) ≡ 0
      → Sofar limits s (next_at s at) (block_taken s at st)
  block-step t e =
      let r = block-right limits s at size st.stage st.n st.blocks small e in
      let early : st.stage < among_rows = omega (arith, on, r.early, so.stages) in
      let er = so.no_rows early in
      let b = block_at s at in
      let bs = st.blocks in
      let h : at + 3 + content_length (kind_of (kind_at s at)) ≤ length s = subst (λ (k : ℕ). at + 3 + k ≤ length s) r.long inside in
      let c = field 0x10 (block_content b) in
      let room : length bs < st.n = r.room in
      let one_more = length-append bs (b ∷ []) in
      record {
        bytes =
            grow-body 0x10 (block_content b) t (ap (part s (at + 3)) r.long ∙ block-content s small at h) r.late
            ∙ ap (λ rs. body st.version st.n bs rs ++ c) er
            ∙ ap (λ m. body st.version st.n bs [] ++ m) (sym (append-nil c))
            ∙ sym (body-grows st.version st.n bs (bs ++ (b ∷ [])) (block_bytes b) (joined_snoc block_bytes bs b))
            ∙ ap (body st.version st.n (bs ++ (b ∷ []))) (sym er);
        stages = omega arith;
        fresh = λ z. let q : ⊥ = omega arith in absurd q;
        no_rows = λ z. er;
        version = λ z. so.version r.late;
        few = so.few;
        fits = so.fits;
        room = omega arith;
        full = λ z. omega arith;
        last = λ z. record { front = bs; last = b; is = refl; bare = refl };
        blocks = (all_snoc (BlockKeeps limits st.n) bs b).1 (so.blocks, r.keeps);
        references = (each_snoc Earlier [] bs b).1 (so.references, r.earlier);
        registers = (each_snoc OwnIndex [] bs b).1 (so.registers, r.own);
        rows = so.rows;
        sources = no-rows-keep (λ d. Refers (bs ++ (b ∷ [])) d.from) er;
        destinations = so.destinations;
      }

  label-step : get_or s at 0 ≡ 0x20 → lowest (label_faults size st.stage) ≡ 0 → Sofar limits s (next_at s at) (label_taken s at st)
  label-step t e =
      let r = (label-iff size st.stage).0 e in
      let after : st.stage ≡ after_block = r.after in
      let early : st.stage < among_rows = omega arith in
      let late : (st.stage ≡ opening → ⊥) = λ z. omega arith in
      let er = so.no_rows early in
      let lb = so.last after in
      let x = content_at s at in
      let bs = st.blocks in
      let long = labelled-length x bs in
      let held = so.room in
      let len : length x ≡ size = part_length s (at + 3) size inside in
      let short : size ≤ 16 = r.short in
      record {
        bytes =
            grow-body 0x20 x t refl late
            ∙ ap (λ rs. body st.version st.n bs rs ++ field 0x20 x) er
            ∙ sym (body-grows st.version st.n bs (labelled x bs) (field 0x20 x) (joined-labelled bs x lb))
            ∙ ap (body st.version st.n (labelled x bs)) (sym er);
        stages = omega arith;
        fresh = λ z. let q : ⊥ = omega arith in absurd q;
        no_rows = λ z. er;
        version = λ z. so.version late;
        few = so.few;
        fits = so.fits;
        room = omega arith;
        full = λ z. omega arith;
        last = λ z. let q : ⊥ = omega arith in absurd q;
        blocks =
            all-labelled bs x lb limits st.n
            (record { short = omega arith; are-bytes = all-part s (at + 3) size small }) so.blocks;
        references = each-labelled bs x lb Earlier (λ before b h. h) so.references;
        registers = each-labelled bs x lb OwnIndex (λ before b h. h) so.registers;
        rows = so.rows;
        sources = no-rows-keep (λ d. Refers (labelled x bs) d.from) er;
        destinations = so.destinations;
      }

  row_step : get_or s at 0 ≡ 0x30 → lowest (row-faults limits s at size st.stage st.n st.blocks st.rows) ≡ 0
      → Sofar limits s (next_at s at) (row_taken s at st)
  row_step t e =
      let r = row-right limits s at size st.stage st.n st.blocks st.rows small e in
      let long : size_at s at ≡ 5 = r.long in
      let h : at + 3 + 5 ≤ length s = omega arith in
      let d = row_at s at in
      record {
        bytes =
            grow-body 0x30 (row_content d) t (ap (part s (at + 3)) long ∙ row-content s small at h) r.late
            ∙ sym (body-row st.version st.n st.blocks st.rows d);
        stages = omega arith;
        fresh = λ z. let q : ⊥ = omega arith in absurd q;
        no_rows = λ z. let q : ⊥ = omega arith in absurd q;
        version = λ z. so.version r.late;
        few = so.few;
        fits = so.fits;
        room = so.room;
        full = λ z. r.full;
        last = λ z. let q : ⊥ = omega arith in absurd q;
        blocks = so.blocks;
        references = so.references;
        registers = so.registers;
        rows = (all_snoc (RowKeeps limits st.n) st.rows d).1 (so.rows, r.keeps);
        sources = (all_snoc (λ e. Refers st.blocks e.from) st.rows d).1 (so.sources, r.source);
        destinations = (each_snoc Once [] st.rows d).1 (so.destinations, r.once);
      }

  end_step : get_or s at 0 ≡ 0x7F → lowest (end_faults size st.stage st.n (length st.blocks)) ≡ 0
      → Sofar limits s (next_at s at) (end_taken st)
  end_step t e =
      let r = (end-iff size st.stage st.n (length st.blocks)).0 e in
      record {
        bytes = grow-body 0x7F [] t (ap (part s (at + 3)) r.empty) r.late;
        stages = omega arith;
        fresh = λ z. let q : ⊥ = omega arith in absurd q;
        no_rows = λ z. let q : ⊥ = omega arith in absurd q;
        version = λ z. so.version r.late;
        few = so.few;
        fits = so.fits;
        room = so.room;
        full = λ z. r.full;
        last = λ z. let q : ⊥ = omega arith in absurd q;
        blocks = so.blocks;
        references = so.references;
        registers = so.registers;
        rows = so.rows;
        sources = so.sources;
        destinations = so.destinations;
      }

  -- by the tag; one that is unknown has a fault
  one-step : lowest (tag_faults limits s at st) ≡ 0 → Sofar limits s (next_at s at) (taken s at st)
  unfolding tag_faults taken
  one-step =
      each-tag (λ faults then. lowest faults ≡ 0 → Sofar limits s (next_at s at) then) (get_or s at 0)
      (header_faults limits s at size st.stage) (block-faults limits s at size st.stage st.n st.blocks)
      (label_faults size st.stage) (row-faults limits s at size st.stage st.n st.blocks st.rows)
      (end_faults size st.stage st.n (length st.blocks)) (2 when true ∷ [])
      (header_taken s at st) (block_taken s at st) (label_taken s at st) (row_taken s at st) (end_taken st) st
      header-step block-step label-step row_step end_step (λ e. let z : ⊥ = omega arith in absurd z)

-- ---- the walk

pub record Exact (limits : Limits) (s : List ℕ) (c : Circuit) : Type 0 where
  pub keeps : Keeps limits c
  pub is : s ≡ encode c

at-end : (limits : Limits) (s : List ℕ) (at : ℕ) (st : State) → Sofar limits s at st → st.stage ≡ ended → length s ≤ at
    → Exact limits s (circuit_of st)
unfolding encode
at-end limits s at st so last h =
    let late : among_rows ≤ st.stage = omega arith in
    let full = so.full late in
    let room = so.room in
    let f = field 0x01 (st.version ∷ bytes_of 2 st.n) in
    let bs = joined block_bytes st.blocks in
    let rs = joined row_bytes st.rows in
    record {
      keeps =
          record {
            version = so.version (λ z. omega arith);
            count = omega arith;
            few = so.few;
            fits = so.fits;
            blocks = so.blocks;
            references = so.references;
            registers = so.registers;
            rows = so.rows;
            sources = so.sources;
            destinations = so.destinations;
          };
      is =
          sym (take_all at s h) ∙ so.bytes ∙ ap (λ k. written k (body_of st)) last
          ∙ append_assoc f (bs ++ rs) (field 0x7F [])
          ∙ ap (λ m. f ++ m) (append_assoc bs rs (field 0x7F []));
    }

sound-walk : (limits : Limits) (s : List ℕ) → Bytes s → (f at : ℕ) (st : State) (c : Circuit) → Sofar limits s at st
    → walk f limits s at st ≡ accepted c → Exact limits s c
unfolding walk closing
sound-walk limits s small zero at st c so e = let z : ◌≡◌ {A = ℕ} 0 1 = cc in let z' : ⊥ = omega arith in absurd z'
sound-walk limits s small (suc f) at st c so e =
    go (eqb st.stage ended) (field_number limits s at st) (ltb at (length s)) refl refl refl e
    (sound-walk limits s small f (next_at s at) (taken s at st) c)
  where
    go : (a : Bool) (k : ℕ) (b : Bool) → eqb st.stage ended ≡ a → field_number limits s at st ≡ k → ltb at (length s) ≡ b
        → elim a [
          | true ↦ cond b (refused 11 at) (accepted (circuit_of st))
          | false ↦ elim k [ zero ↦ walk f limits s (next_at s at) (taken s at st) | suc j ↦ refused (suc j) at ]
        ] ≡ accepted c
        → (Sofar limits s (next_at s at) (taken s at st) → walk f limits s (next_at s at) (taken s at st) ≡ accepted c → Exact limits s c)
        → Exact limits s c
    go true k true p q r e more = let z : ◌≡◌ {A = ℕ} 0 1 = cc in let z' : ⊥ = omega arith in absurd z'
    go true k false p q r e more =
        let h : circuit_of st ≡ c = cc in
        subst (Exact limits s) h (at-end limits s at st so (eqb-true _ _ p) (ltb-false _ _ r))
    go false zero b p q r e more =
        let whole = (whole-iff limits s at st).0 q in
        let inside = ltb-false _ _ ((or-false (ltb (length s) (at + 3)) _).0 whole.0).1 in
        more (one-step limits s small at st so (eqb-false _ _ p) inside whole.1) e
    go false (suc j) b p q r e more = let z : ◌≡◌ {A = ℕ} 0 1 = cc in let z' : ⊥ = omega arith in absurd z'

at_first : (limits : Limits) (s : List ℕ) → Sofar limits s 0 nothing
at_first limits s =
    record {
      bytes = refl;
      stages = omega arith;
      fresh = λ z. refl;
      no_rows = λ z. refl;
      version = λ z. absurd (z refl);
      few = omega arith;
      fits = omega arith;
      room = omega arith;
      full = λ z. omega arith;
      last = λ z. let q : ⊥ = omega arith in absurd q;
      blocks = tt;
      references = tt;
      registers = tt;
      rows = tt;
      sources = tt;
      destinations = tt;
    }

-- what is accepted keeps the rules, and the bytes are its own
pub sound : (limits : Limits) (s : List ℕ) → Bytes s → (c : Circuit) → verdict_at limits s ≡ accepted c → Exact limits s c
unfolding verdict_at
sound limits s small c e = sound-walk limits s small (suc (length s)) 0 nothing c (at_first limits s) e
