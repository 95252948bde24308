-- The bytes of a kept circuit are accepted as that circuit: the walk is worked back from the end, over the rows, then over the blocks.
-- Assumes nothing.
use mathlib.Core.Path.{◌≡◌, refl, ap, ap₂, sym, ◌∙◌, subst}
use mathlib.Core.Bool.{Bool, cond}
use mathlib.Core.List.{List, [], ◌∷◌, ◌++◌, append-nil, append_assoc}
use mathlib.Core.Option.{Option, none, some}
use Prim.Native.Nat.{ℕ, zero, suc, ◌+◌, ◌-◌, ◌*◌, ◌≤◌, ◌<◌}
use native.Mathlib.Nat.{add_assoc}
use native.Mathlib.Omega.{arith}
use lib.ListN.{length, take, drop, length-append, length-drop}
use lib.Seq.{take-append_seam}
use borrow.Author.Tests.{le-ltb, ne_eqb}
use Rattle.words.specs.Bytes.{number_at, bytes_of}
use Rattle.words.proofs.Written.{length-bytes}
use Rattle.kinds.specs.Kinds.{In, kind_of, content_length}
use Rattle.kinds.proofs.Rows.{small-kind}
use Rattle.refusals.specs.Faults.{lowest}
use Rattle.refusals.specs.Stages.{opening, among_blocks, after_block, among_rows, ended}
use Rattle.refusals.specs.declared.Limits.{Limits}
use Rattle.connectors.specs.Connectors.{connectors_at}
use Rattle.blockfield.specs.BlockField.{kind_at, option_at, digitals_at, analogs_at, parameters_at, signeds_at}
use Rattle.decoding.specs.Decoded.{Block, Row, State, Circuit, nothing, size_at, next_at, content_at, block_at, row_at, labelled, with_label}
use Rattle.circuit.specs.Circuit.{accepted, refused, walk, closing, verdict_at, field_number, tag_faults, taken}
use Rattle.kept.specs.Keeps.{All, EachAfter, Refers, BlockKeeps, Earlier, OwnIndex, RowKeeps, Once, Keeps, Label, Labelled, label_bytes, joined, field, connector_bytes, signed_bytes, block_content, block_bytes, row_content, row_bytes, encode}
use Rattle.refusals.proofs.Tests.{or-false}
use Rattle.kept.proofs.Lists.{all_map, all_split, match-length, labelled-last}
use Rattle.kept.proofs.Codec.{step, number_read, connector-read, connectors-read, signeds-read, field-read, connector-size, block_size}
use Rattle.decoding.proofs.Right.{header-iff, label-iff, end-iff}
use Rattle.kept.proofs.Fields.{row-free, block-free, connectors-add}
use Rattle.circuit.proofs.Tags.{whole-iff, of-header, of-block, of-label, of_row, of_end}

-- ---- blocks and rows, read again

abbrev relabelled : Option (List ℕ) → Block → Block
relabelled label b =
    record { kind = b.kind; option = b.option; inputs = b.inputs; parameters = b.parameters; label = label }

relabelled-same : (label : Option (List ℕ)) (b : Block) → b.label ≡ label → relabelled label b ≡ b
relabelled-same label b q t =
    record { kind = b.kind; option = b.option; inputs = b.inputs; parameters = b.parameters; label = sym q t }

abbrev bare : Block → Block
bare b = relabelled none b

module _ (limits : Limits) (n : ℕ) where
  bare-keeps : (b : Block) → BlockKeeps limits n b → BlockKeeps limits n (bare b)
  bare-keeps b k =
      record {
        kind-low = k.kind-low;
        kind-high = k.kind-high;
        option = k.option;
        inputs = k.inputs;
        digitals = k.digitals;
        analogs = k.analogs;
        parameters = k.parameters;
        label = tt;
      }

  row_read : (s : List ℕ) (at : ℕ) (d : Row) (r : List ℕ) → RowKeeps limits n d → drop (at + 3) s ≡ row_content d ++ r → row_at s at ≡ d
  unfolding row_content
  row_read s at d r k e =
      let a = step s (at + 3) _ _ e in
      let b = step s (at + 4) _ _ (rw add_assoc at a.1) in
      let c = connector-read s (at + 5) d.from r k.from.fits (rw add_assoc at b.1) in
      λ t. record { class = a.0 t; number = b.0 t; from = c.0 t }

  numbers_fit_lem : (b : Block) → BlockKeeps limits n b → All (λ c. c.number < 65536) b.inputs
  numbers_fit_lem b k =
      let d = (kind_of b.kind).digitals in
      all_split _ d b.inputs
      (all_map _ _ (λ c a. a.fits) (take d b.inputs) k.digitals)
      (all_map _ _ (λ c a. a.fits) (drop d b.inputs) k.analogs)

  block_read : (s : List ℕ) (at : ℕ) (b : Block) (r : List ℕ) → BlockKeeps limits n b → drop (at + 3) s ≡ block_content b ++ r
      → block_at s at ≡ bare b
  unfolding block_content
  block_read s at b r k e =
      let cs = joined connector_bytes b.inputs in
      let ps = joined signed_bytes b.parameters in
      let x = step s (at + 3) _ _ e in
      let y = step s (at + 4) _ _ (rw add_assoc at x.1) in
      let from : drop (at + 5) s ≡ cs ++ (ps ++ r) = (rw add_assoc at y.1) ∙ append_assoc cs ps r in
      let u = connectors-read s (at + 5) b.inputs (ps ++ r) (numbers_fit_lem b k) from in
      let v = signeds-read s (at + 5 + 3 * length b.inputs) b.parameters r k.parameters.fit u.1 in
      let m = k.inputs in
      let kind = kind_of b.kind in
      let p = match-length In kind.parameters b.parameters k.parameters.ranges in
      let inputs : digitals_at s at kind ++ analogs_at s at kind ≡ b.inputs =
      sym (connectors-add s (at + 5) kind.digitals kind.analogs) ∙ ap (connectors_at s (at + 5)) (sym m) ∙ u.0 in
      let parameters : parameters_at s at kind ≡ b.parameters =
      ap₂ (λ (i j : ℕ). signeds_at s (at + 5 + 3 * i) j) (sym m) (sym p) ∙ v.0 in
      ap (block_of s at) x.0
      ∙ (λ t. record { kind = b.kind; option = y.0 t; inputs = inputs t; parameters = parameters t; label = none })
    where
      block_of : List ℕ → ℕ → ℕ → Block
      block_of s at k =
          record {
            kind = k;
            option = option_at s at;
            inputs = digitals_at s at (kind_of k) ++ analogs_at s at (kind_of k);
            parameters = parameters_at s at (kind_of k);
            label = none;
          }

-- ---- one field

module _ (limits : Limits) (s : List ℕ) (c : Circuit) where
  -- the walk accepts c
  Ends : ℕ → State → Type 0
  Ends at st = (f : ℕ) → length s - at < f → walk f limits s at st ≡ accepted c

  module _ (at : ℕ) (st then : State) (on : st.stage ≡ ended → ⊥) (inside : next_at s at ≤ length s) where
    pass : lowest (tag_faults limits s at st) ≡ 0 → taken s at st ≡ then → Ends (next_at s at) then → Ends at st
    unfolding Ends walk
    pass e t more zero h = let z : ⊥ = omega arith in absurd z
    pass e t more (suc f) h =
        let a : at + 3 ≤ length s = omega arith in
        let free : field_number limits s at st ≡ 0 = (whole-iff limits s at st).1 ((or-false _ _).1 (le-ltb _ _ a, le-ltb _ _ inside), e) in
        let less : length s - next_at s at < f = omega arith in
        let here : walk (suc f) limits s at st ≡ walk f limits s (next_at s at) (taken s at st) = rw (walk, ne_eqb _ _ on, free) in
        here ∙ ap (walk f limits s (next_at s at)) t ∙ more f less

  abbrev state_at : ℕ → List Block → List Row → State
  state_at stage bs rs = record { stage = stage; version = c.version; n = c.n; blocks = bs; rows = rs }

  -- behind the end field
  closed : (at : ℕ) → drop at s ≡ [] → Ends at (state_at ended c.blocks c.rows)
  unfolding Ends walk closing
  closed at e zero h = let z : ⊥ = omega arith in absurd z
  closed at e (suc f) h =
      let none : length s - at ≡ 0 = sym (length-drop at s) ∙ ap length e in
      let out : length s ≤ at = omega arith in
      ap (λ (b : Bool). cond b (refused 11 at) (accepted c)) (le-ltb at (length s) out)

  end-pass : (at stage : ℕ) → (stage ≡ opening → ⊥) → (stage ≡ ended → ⊥) → c.n ≤ length c.blocks → drop at s ≡ field 0x7F []
      → Ends at (state_at stage c.blocks c.rows)
  unfolding taken tag_faults
  end-pass at stage late on full e =
      let st = state_at stage c.blocks c.rows in
      let d = field-read s at 0x7F [] [] (omega arith) (e ∙ sym (append-nil (field 0x7F []))) in
      let free = (end-iff (size_at s at) stage c.n (length c.blocks)).1 (record { late = late; empty = d.size_is; full = full }) in
      pass at st (state_at ended c.blocks c.rows) on d.inside
      (ap lowest (of_end _ _ _ _ _ _ _ d.tag_is) ∙ free)
      (of_end _ _ _ _ _ _ _ d.tag_is)
      (closed (next_at s at) d.next-is)

  row_on : (r : Row) (done : List Row) (at stage : ℕ) → (stage ≡ opening → ⊥) → (stage ≡ ended → ⊥) → c.n ≤ length c.blocks
      → (rest : List ℕ)
      → drop at s ≡ row_bytes r ++ rest → RowKeeps limits c.n r → Refers c.blocks r.from → Once done r
      → ((next : ℕ) → drop next s ≡ rest → Ends next (state_at among_rows c.blocks (done ++ (r ∷ []))))
      → Ends at (state_at stage c.blocks done)
  unfolding taken tag_faults row_content
  row_on r done at stage late on full rest e k source once more =
      let st = state_at stage c.blocks done in
      let five : length (row_content r) ≡ 5 = ap (λ (m : ℕ). suc (suc m)) (connector-size r.from) in
      let d = field-read s at 0x30 (row_content r) rest (omega arith) e in
      let is = row_read limits c.n s at r rest k d.content-is in
      let free =
      row-free limits s at (size_at s at) stage c.n c.blocks done
      (record {
        late = late;
        long = d.size_is ∙ five;
        full = full;
        keeps = subst (RowKeeps limits c.n) (sym is) k;
        source = subst (λ (d : Row). Refers c.blocks d.from) (sym is) source;
        once = subst (Once done) (sym is) once;
      })
      in
      pass at st (state_at among_rows c.blocks (done ++ (r ∷ []))) on d.inside
      (ap lowest (of_row _ _ _ _ _ _ _ d.tag_is) ∙ free)
      (of_row _ _ _ _ _ _ _ d.tag_is ∙ ap (λ x. state_at among_rows c.blocks (done ++ (x ∷ []))) is)
      (more (next_at s at) d.next-is)

  rows_pass : (rs done : List Row) (at stage : ℕ) → done ++ rs ≡ c.rows → (stage ≡ opening → ⊥) → (stage ≡ ended → ⊥)
      → c.n ≤ length c.blocks
      → drop at s ≡ joined row_bytes rs ++ field 0x7F [] → All (RowKeeps limits c.n) rs → All (λ r. Refers c.blocks r.from) rs
      → EachAfter Once done rs → Ends at (state_at stage c.blocks done)
  rows_pass [] done at stage q late on full e k source once =
      subst (λ l. Ends at (state_at stage c.blocks l)) (sym (sym (append-nil done) ∙ q)) (end-pass at stage late on full e)
  rows_pass (r ∷ rs) done at stage q late on full e k source once =
      let rest = joined row_bytes rs ++ field 0x7F [] in
      row_on r done at stage late on full rest (e ∙ append_assoc (row_bytes r) (joined row_bytes rs) (field 0x7F []))
      k.0 source.0 once.0
      (λ next f.
      rows_pass rs (done ++ (r ∷ [])) next among_rows (append_assoc done (r ∷ []) rs ∙ q) (λ z. omega arith) (λ z. omega arith) full f
      k.1 source.1 once.1)

  label-on : (x : List ℕ) (b : Block) (before : List Block) (at : ℕ) (rest : List ℕ) → Label x → drop at s ≡ field 0x20 x ++ rest
      → ((next : ℕ) → drop next s ≡ rest → Ends next (state_at among_blocks (before ++ (with_label x b ∷ [])) []))
      → Ends at (state_at after_block (before ++ (b ∷ [])) [])
  unfolding taken tag_faults
  label-on x b before at rest l e more =
      let st = state_at after_block (before ++ (b ∷ [])) [] in
      let short = l.short in
      let d = field-read s at 0x20 x rest (omega arith) e in
      let size : size_at s at ≡ length x = d.size_is in
      let free = (label-iff (size_at s at) after_block).1 (record { after = refl; short = omega arith }) in
      let content : content_at s at ≡ x = ap₂ take size d.content-is ∙ take-append_seam x rest in
      pass at st (state_at among_blocks (before ++ (with_label x b ∷ [])) []) (λ z. omega arith) d.inside
      (ap lowest (of-label _ _ _ _ _ _ _ d.tag_is) ∙ free)
      (of-label _ _ _ _ _ _ _ d.tag_is
      ∙ ap (λ y. state_at among_blocks (labelled y (before ++ (b ∷ []))) []) content
      ∙ ap (λ y. state_at among_blocks y []) (labelled-last x before b))
      (more (next_at s at) d.next-is)

  block_on : (b : Block) (before : List Block) (at stage : ℕ) → (stage ≡ opening → ⊥) → stage < among_rows → length before < c.n
      → (rest : List ℕ)
      → drop at s ≡ field 0x10 (block_content b) ++ rest → BlockKeeps limits c.n b → Earlier before b → OwnIndex before b
      → ((next : ℕ) → drop next s ≡ rest → Ends next (state_at after_block (before ++ (bare b ∷ [])) [])) → Ends at (state_at stage before [])
  unfolding taken tag_faults
  block_on b before at stage late early room rest e k names own more =
      let st = state_at stage before [] in
      let long = block_size limits c.n b k in
      let most = (small-kind b.kind).length-is in
      let d = field-read s at 0x10 (block_content b) rest (omega (arith, long, most)) e in
      let is = block_read limits c.n s at b rest k d.content-is in
      let kind : b.kind ≡ kind_at s at = ap (λ (x : Block). x.kind) (sym is) in
      let free =
      block-free limits s at (size_at s at) stage c.n before
      (record {
        late = late;
        early = λ z. omega arith;
        long = d.size_is ∙ long ∙ ap (λ (m : ℕ). content_length (kind_of m)) kind;
        room = room;
        keeps = subst (BlockKeeps limits c.n) (sym is) (bare-keeps limits c.n b k);
        earlier = subst (Earlier before) (sym is) names;
        own = subst (OwnIndex before) (sym is) own;
      })
      in
      pass at st (state_at after_block (before ++ (bare b ∷ [])) []) (λ z. omega arith) d.inside
      (ap lowest (of-block _ _ _ _ _ _ _ d.tag_is) ∙ free)
      (of-block _ _ _ _ _ _ _ d.tag_is ∙ ap (λ x. state_at after_block (before ++ (x ∷ [])) []) is)
      (more (next_at s at) d.next-is)

  -- a block and its label, if it has one
  block-whole : (b : Block) (label : Option (List ℕ)) → b.label ≡ label → (before : List Block) (at stage : ℕ) → (stage ≡ opening → ⊥)
      → stage < among_rows
      → length before < c.n → (rest : List ℕ)
      → drop at s ≡ block_bytes b ++ rest → BlockKeeps limits c.n b → Earlier before b → OwnIndex before b
      → ((next then : ℕ) → (then ≡ opening → ⊥) → then < among_rows → drop next s ≡ rest → Ends next (state_at then (before ++ (b ∷ [])) []))
      → Ends at (state_at stage before [])
  block-whole b none q before at stage late early room rest e k names own more =
      let f = field 0x10 (block_content b) in
      let same : bare b ≡ b = relabelled-same none b q in
      block_on b before at stage late early room rest
      (e ∙ ap (λ l. (f ++ label_bytes l) ++ rest) q ∙ ap (λ l. l ++ rest) (append-nil f)) k names own
      (λ next h.
      subst (λ x. Ends next (state_at after_block (before ++ (x ∷ [])) [])) (sym same)
      (more next after_block (λ z. omega arith) (omega arith) h))
  block-whole b (some x) q before at stage late early room rest e k names own more =
      let f = field 0x10 (block_content b) in
      let same : with_label x (bare b) ≡ b = relabelled-same (some x) b q in
      block_on b before at stage late early room (field 0x20 x ++ rest)
      (e ∙ ap (λ l. (f ++ label_bytes l) ++ rest) q ∙ append_assoc f (field 0x20 x) rest) k names own
      (λ next h. label-on x (bare b) before next rest (subst Labelled q k.label) h
      (λ next' h'.
      subst (λ y. Ends next' (state_at among_blocks (before ++ (y ∷ [])) [])) (sym same)
      (more next' among_blocks (λ z. omega arith) (omega arith) h')))

  blocks-pass : (bs before : List Block) (at stage : ℕ) → before ++ bs ≡ c.blocks → (stage ≡ opening → ⊥) → stage < among_rows
      → drop at s ≡ joined block_bytes bs ++ (joined row_bytes c.rows ++ field 0x7F []) → All (BlockKeeps limits c.n) bs
      → EachAfter Earlier before bs → EachAfter OwnIndex before bs → Keeps limits c → Ends at (state_at stage before [])
  blocks-pass [] before at stage q late early e k names own all =
      let count = all.count in
      subst (λ l. Ends at (state_at stage l [])) (sym (sym (append-nil before) ∙ q))
      (rows_pass c.rows [] at stage refl late (λ z. omega arith) (omega arith) e all.rows all.sources all.destinations)
  blocks-pass (b ∷ bs) before at stage q late early e k names own all =
      let count = all.count in
      let tail = joined row_bytes c.rows ++ field 0x7F [] in
      let long : length before + suc (length bs) ≡ length c.blocks = sym (length-append before (b ∷ bs)) ∙ ap length q in
      block-whole b b.label refl before at stage late early (omega arith) (joined block_bytes bs ++ tail)
      (e ∙ append_assoc (block_bytes b) (joined block_bytes bs) tail) k.0 names.0 own.0
      (λ next then l h f.
      blocks-pass bs (before ++ (b ∷ [])) next then (append_assoc before (b ∷ []) bs ∙ q) l h f k.1 names.1 own.1 all)

  header-on : Keeps limits c → s ≡ encode c → Ends 0 nothing
  unfolding taken tag_faults encode
  header-on k e =
      let tail = joined block_bytes c.blocks ++ (joined row_bytes c.rows ++ field 0x7F []) in
      let three : length (c.version ∷ bytes_of 2 c.n) ≡ 3 = ap suc (length-bytes 2 c.n) in
      let d = field-read s 0 0x01 (c.version ∷ bytes_of 2 c.n) tail (omega arith) e in
      let a = step s 3 _ _ d.content-is in
      let b = number_read s 2 4 c.n tail k.fits a.1 in
      let n : number_at 2 s 4 ≡ c.n = b.0 in
      let few = k.few in
      let free =
      (header-iff limits s 0 (size_at s 0) opening).1
      (record { first = refl; long = d.size_is ∙ three; version = a.0 ∙ k.version; few = omega arith })
      in
      pass 0 nothing (state_at among_blocks [] []) (λ z. omega arith) d.inside
      (ap lowest (of-header _ _ _ _ _ _ _ d.tag_is) ∙ free)
      (of-header _ _ _ _ _ _ _ d.tag_is ∙ (λ t. record { stage = among_blocks; version = a.0 t; n = b.0 t; blocks = []; rows = [] }))
      (blocks-pass c.blocks [] (next_at s 0) among_blocks refl (λ z. omega arith) (omega arith) d.next-is
      k.blocks k.references k.registers k)

-- the bytes of a kept circuit are accepted, as that circuit
pub complete : (limits : Limits) (s : List ℕ) (c : Circuit) → Keeps limits c → s ≡ encode c → verdict_at limits s ≡ accepted c
unfolding verdict_at Ends
complete limits s c k e = header-on limits s c k e (suc (length s)) (omega arith)
