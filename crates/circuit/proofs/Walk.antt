-- The pass goes as the verdict walks: field by field, by tag, to the end field and what is behind it. Assumes nothing.
use Rattle.std.specs.Prelude.{Ok, Err}
use mathlib.Core.Path.{◌≡◌, refl, ap, ap₂, sym, ◌∙◌, subst}
use mathlib.Core.Bool.{Bool, true, false}
use mathlib.Core.List.{List, [], ◌∷◌, map}
use Prim.Native.Nat.{ℕ, zero, suc, ◌+◌, ◌-◌, ◌≤◌, ◌<◌}
use native.Mathlib.Omega.{arith}
use lib.Dec.{ltb}
use lib.ListN.{length, get_or, take, get_or-replicate, length-replicate}
use borrow.Author.Tests.{lt-ltb, le-ltb, eq-eqb, ne_eqb, ltb-false}
use Rattle.refusals.specs.Faults.{Fault, lowest, ◌when◌}
use Rattle.refusals.specs.Stages.{ended}
use Rattle.refusals.specs.Modest.{Modest}
use Rattle.refusals.specs.declared.Limits.{Limits}
use Rattle.fields.specs.Marks.{mark}
use Rattle.fields.proofs.Laws.{mark-below}
use Rattle.decoding.specs.Decoded.{header_in, block_in, label_in, row_in, end_in, State, index_used, destination_used, size_at, next_at, header_taken, block_taken, label_taken, row_taken, end_taken, nothing, circuit_of, block_at}
use Rattle.circuit.specs.Circuit.{is_cut, tag_faults, field_faults, field_number, taken, closing, walk, refused, accepted, verdict_at}
use Rattle.decoding.proofs.Steps.{refuses}
use Rattle.decoding.specs.Held.{rows_at, Seen, seen, head_of, Nothing, Adds, Judged, Judges, Sound, Holds}
use Rattle.refusals.specs.declared.Field.{Field}
use Rattle.decoding.specs.declared.known.Known.{Known}
use Rattle.circuit.specs.Read.{Reads}
use Rattle.circuit.specs.Judged.{Accepts, Answers, Says}
use Rattle.refusals.specs.declared.Refused.{Refused}
use Rattle.refusals.specs.declared.Refusal.TheVariants.{SurplusBytes}
use Rattle.refusals.specs.Refusals.{number_of}
use Rattle.refusals.proofs.Numbers.{number-above}
use Rattle.refusals.proofs.Tests.{or-false}
use Rattle.circuit.proofs.Tags.{whole-iff, of-header, of-block, of-label, of_row, of_end, of_other}

-- ---- the field at a place

judges-as : {limits : Limits} {s : List ℕ} {number number' next next' : ℕ} {then then' : State} {r : Judged} → number ≡ number' → next ≡ next' → then ≡ then' → Judges limits s number next then r → Judges limits s number' next' then' r
judges-as {limits} {s} {r} p q t j =
    record {
      number_is = j.number_is ∙ p;
      next-is = λ z. j.next-is z ∙ q;
      holds = λ z. subst (λ (x : State). Holds limits s r.seen x) t (j.holds z);
      sound = j.sound;
    }

module _ (limits : Limits) (s : List ℕ) (at : ℕ) (st : State) where
  pub cut-short : is_cut s at ≡ true → 1 ≡ field_number limits s at st
  unfolding field_number field_faults
  cut-short e = simp e

  -- one without a fault lies within the bytes
  pub field_fits : field_number limits s at st ≡ 0 → next_at s at ≤ length s
  unfolding field_number field_faults
  field_fits e =
      let cut = ((whole-iff limits s at st).0 e).0 in
      ltb-false (length s) (next_at s at) ((or-false (ltb (length s) (at + 3)) (ltb (length s) (next_at s at))).0 cut).1

  pub field-tag : next_at s at ≤ length s → lowest (tag_faults limits s at st) ≡ field_number limits s at st
  unfolding field_number field_faults
  field-tag h =
      let l : at + 3 ≤ length s = omega arith in
      simp (le-ltb _ _ l, le-ltb _ _ h) refl

-- a field that was read at a place: what is said of its bytes and its place is said of those where it was read
module _ (limits : Limits) (s : List ℕ) (at next : ℕ) (f : Field) (reads : Reads s at (Ok f) next) (before after : Seen) (number : ℕ) where
  abbrev said : ℕ → Judged
  said i = record { number = number; next = i; seen = after }

  there : Answers limits f.bytes.now f.at before (said ((f.at + 3) + f.size)) → Answers limits s at before (said next)
  there a =
      let n : (f.at + 3) + f.size ≡ next = omega (arith, reads.1, reads.2, reads.3) in
      subst (λ (l : List ℕ). Answers limits l at before (said next)) reads.0
      (subst (λ (i : ℕ). Answers limits f.bytes.now i before (said next)) reads.1
      (subst (λ (i : ℕ). Answers limits f.bytes.now f.at before (said i)) n a))

  sized : f.size ≡ size_at f.bytes.now f.at
  sized = reads.2 ∙ ap₂ size_at (sym reads.0) (sym reads.1)

  whole : next_at f.bytes.now f.at ≤ length f.bytes.now
  whole = subst (λ (z : ℕ). (f.at + 3) + z ≤ length f.bytes.now) sized f.inside

  -- what holds for the field's own tag holds for the field
  by-tag : (faults : ℕ → State → List Fault) (then : State → State) → ((st : State) → tag_faults limits f.bytes.now f.at st ≡ faults (size_at f.bytes.now f.at) st) → ((st : State) → taken f.bytes.now f.at st ≡ then st)
      → Adds limits f.bytes.now before (faults f.size) ((f.at + 3) + f.size) then (said ((f.at + 3) + f.size)) → Answers limits s at before (said next)
  by-tag faults then is-faults is-then adds =
      there (λ st h.
      judges-as
      (ap (λ (z : ℕ). lowest (faults z st)) sized ∙ ap lowest (sym (is-faults st)) ∙ field-tag limits f.bytes.now f.at st whole)
      (ap (λ (z : ℕ). (f.at + 3) + z) sized)
      (sym (is-then st))
      (adds st h))

  pub field-header : get_or f.bytes.now f.at 0 ≡ 0x01 → Adds limits f.bytes.now before (header_in limits f.bytes.now f.at f.size) ((f.at + 3) + f.size) (header_taken f.bytes.now f.at) (said ((f.at + 3) + f.size)) → Answers limits s at before (said next)
  unfolding tag_faults taken
  field-header t = by-tag (header_in limits f.bytes.now f.at) (header_taken f.bytes.now f.at) (λ st. of-header _ _ _ _ _ _ _ t) (λ st. of-header _ _ _ _ _ _ _ t)

  pub field-block : get_or f.bytes.now f.at 0 ≡ 0x10 → Adds limits f.bytes.now before (block_in limits f.bytes.now f.at f.size) ((f.at + 3) + f.size) (block_taken f.bytes.now f.at) (said ((f.at + 3) + f.size)) → Answers limits s at before (said next)
  unfolding tag_faults taken
  field-block t = by-tag (block_in limits f.bytes.now f.at) (block_taken f.bytes.now f.at) (λ st. of-block _ _ _ _ _ _ _ t) (λ st. of-block _ _ _ _ _ _ _ t)

  pub field-label : get_or f.bytes.now f.at 0 ≡ 0x20 → Adds limits f.bytes.now before (label_in f.size) ((f.at + 3) + f.size) (label_taken f.bytes.now f.at) (said ((f.at + 3) + f.size)) → Answers limits s at before (said next)
  unfolding tag_faults taken
  field-label t = by-tag label_in (label_taken f.bytes.now f.at) (λ st. of-label _ _ _ _ _ _ _ t) (λ st. of-label _ _ _ _ _ _ _ t)

  pub field_row : get_or f.bytes.now f.at 0 ≡ 0x30 → Adds limits f.bytes.now before (row_in limits f.bytes.now f.at f.size) ((f.at + 3) + f.size) (row_taken f.bytes.now f.at) (said ((f.at + 3) + f.size)) → Answers limits s at before (said next)
  unfolding tag_faults taken
  field_row t = by-tag (row_in limits f.bytes.now f.at) (row_taken f.bytes.now f.at) (λ st. of_row _ _ _ _ _ _ _ t) (λ st. of_row _ _ _ _ _ _ _ t)

  pub field_end : get_or f.bytes.now f.at 0 ≡ 0x7F → Adds limits f.bytes.now before (end_in f.size) ((f.at + 3) + f.size) end_taken (said ((f.at + 3) + f.size)) → Answers limits s at before (said next)
  unfolding tag_faults taken
  field_end t = by-tag end_in end_taken (λ st. of_end _ _ _ _ _ _ _ t) (λ st. of_end _ _ _ _ _ _ _ t)

  pub field-other : (get_or f.bytes.now f.at 0 ≡ 0x01 → ⊥) → (get_or f.bytes.now f.at 0 ≡ 0x10 → ⊥) → (get_or f.bytes.now f.at 0 ≡ 0x20 → ⊥) → (get_or f.bytes.now f.at 0 ≡ 0x30 → ⊥) → (get_or f.bytes.now f.at 0 ≡ 0x7F → ⊥) → number ≡ 2 → Answers limits s at before (said next)
  unfolding tag_faults
  field-other a b c d e two =
      there (λ st h.
      refuses
      (two ∙ sym (ap lowest (of_other (get_or f.bytes.now f.at 0) _ _ _ _ _ (2 when true ∷ []) a b c d e)) ∙ field-tag limits f.bytes.now f.at st whole)
      (λ z. omega (arith, two)))

-- ---- the walk

module _ (f : ℕ) (limits : Limits) (s : List ℕ) (at : ℕ) (st : State) where
  pub walk-ended : st.stage ≡ ended → walk (suc f) limits s at st ≡ closing s at st
  unfolding walk
  walk-ended e = rw (walk, eq-eqb _ _ e)

  pub walk_refused : (st.stage ≡ ended → ⊥) → (k : ℕ) → k ≡ field_number limits s at st → (k ≡ 0 → ⊥) → walk (suc f) limits s at st ≡ refused k at
  unfolding walk
  walk_refused ne zero e h = absurd (h refl)
  walk_refused ne (suc k) e h = rw (walk, ne_eqb _ _ ne, sym e)

  pub walk-on : (st.stage ≡ ended → ⊥) → field_number limits s at st ≡ 0 → walk (suc f) limits s at st ≡ walk f limits s (next_at s at) (taken s at st)
  unfolding walk
  walk-on ne e = rw (walk, ne_eqb _ _ ne, e)

-- ---- what is said of a result

pub says-err : (limits : Limits) (s : List ℕ) (e : Refused) (known : Known) → verdict_at limits s ≡ refused (number_of e.refusal) e.place → Says limits s (Err e) known
says-err limits s e known v = record { refuses = λ x q. let p : e ≡ x = cc in v ∙ ap (λ (y : Refused). refused (number_of y.refusal) y.place) p; accepts = λ q. cc }

pub says-ok : (limits : Limits) (s : List ℕ) (known : Known) → Accepts limits s (head_of known) known.offsets → Says limits s (Ok tt) known
says-ok limits s known a = record { refuses = λ x q. cc; accepts = λ q. a }

-- ---- the pass

-- what is held before the field at a place, and what is left to walk
pub record Reached (limits : Limits) (s : List ℕ) (at : ℕ) (seen : Seen) : Type 0 where
  pub within : at ≤ length s
  pub sound : Sound seen.head at
  pub st : State
  pub fuel : ℕ
  pub holds : Holds limits s seen st
  pub enough : length s - at < fuel
  pub same : verdict_at limits s ≡ walk fuel limits s at st

-- at the first field nothing is known
pub nothing-held : (limits : Limits) (s : List ℕ) (known : Known) → Modest limits → Nothing known → Holds limits s (seen known) nothing
unfolding destination_used index_used rows_at
nothing-held limits s known modest none =
    record {
      stage = none.stage;
      n = none.n;
      blocks = none.blocks;
      rows = none.rows;
      rows-there = ap (rows_at s known.start) none.rows;
      sorts = ap (λ (k : ℕ). take k known.sorts) none.blocks;
      offsets = ap (λ (k : ℕ). map (block_at s) (take k known.offsets)) none.blocks;
      registers =
          λ x l g.
          let i : x - 1 < 4 = omega arith in
          ap (λ (q : List Bool). get_or q (x - 1) false) none.registers ∙ get_or-replicate 4 (x - 1) false false i;
      used =
          λ class number l g.
          ap (λ (q : List Bool). get_or q (mark class number) false) none.used
          ∙ get_or-replicate 156 (mark class number) false false (mark-below limits class number modest (record { low = l; high = g }));
      lie = λ k l. let x : ⊥ = omega (arith, none.blocks) in absurd x;
      offsets-long = none.offsets;
      sorts-long = none.sorts;
      used-long = ap length none.used ∙ length-replicate {A = Bool} 156 false;
      registers-long = ap length none.registers ∙ length-replicate {A = Bool} 4 false;
    }

pub nothing-sound : (known : Known) → Nothing known → Sound (head_of known) 0
nothing-sound known none =
    record {
      fresh = λ z. none.blocks;
      few = omega (arith, none.n);
      some_left = omega (arith, none.blocks);
      complete = λ z. omega (arith, none.n);
      no_rows = λ y z. none.rows;
      along = λ z. omega (arith, none.start, none.rows);
      closed = λ z. let x : ⊥ = omega (arith, none.stage) in absurd x;
    }

pub begins : (limits : Limits) (s : List ℕ) (at : ℕ) (known : Known) → Modest limits → at ≡ 0 → Nothing known → Reached limits s at (seen known)
unfolding verdict_at
begins limits s at known modest z none =
    rw z record {
      within = omega arith;
      sound = nothing-sound known none;
      st = nothing;
      fuel = suc (length s);
      holds = nothing-held limits s known modest none;
      enough = omega arith;
      same = refl;
    }

module _ (limits : Limits) (s : List ℕ) (at : ℕ) (seen : Seen) (w : Reached limits s at seen) where
  going : (seen.head.stage ≡ ended → ⊥) → w.st.stage ≡ ended → ⊥
  going ne e = ne (w.holds.stage ∙ e)

  module _ (r : Judged) (ne : seen.head.stage ≡ ended → ⊥) (l : List ℕ) (same : l ≡ s) (j : Answers limits l at seen r) where
    step : Judges limits s (field_number limits s at w.st) (next_at s at) (taken s at w.st) r
    step = subst (λ (x : List ℕ). Answers limits x at seen r) same j w.st w.holds

    module _ (z : r.number ≡ 0) where
      fits : next_at s at ≤ length s
      fits = field_fits limits s at w.st (sym step.number_is ∙ z)

      pub falls : length s - r.next < length s - at
      falls = omega (arith, fits, step.next-is z)

      pub goes_on : Reached limits s r.next r.seen
      goes_on = go w.fuel w.enough w.same
        where
          go : (f : ℕ) → length s - at < f → verdict_at limits s ≡ walk f limits s at w.st → Reached limits s r.next r.seen
          go zero l e = let x : ⊥ = omega arith in absurd x
          go (suc f) l e =
              record {
                within = omega (arith, fits, step.next-is z);
                sound = step.sound z;
                st = taken s at w.st;
                fuel = f;
                holds = step.holds z;
                enough = omega (arith, falls);
                same =
                    e ∙ walk-on f limits s at w.st (going ne) (sym step.number_is ∙ z)
                    ∙ ap (λ (i : ℕ). walk f limits s i (taken s at w.st)) (sym (step.next-is z));
              }

    pub says-refused : (known : Known) (e : Refused) → e.place ≡ at → r.number ≡ number_of e.refusal → Says limits s (Err e) known
    says-refused known e p q = says-err limits s e known (go w.fuel w.enough w.same)
      where
        some : r.number ≡ 0 → ⊥
        some z = let h = number-above e.refusal in omega arith

        go : (f : ℕ) → length s - at < f → verdict_at limits s ≡ walk f limits s at w.st → verdict_at limits s ≡ refused (number_of e.refusal) e.place
        go zero l v = let x : ⊥ = omega arith in absurd x
        go (suc f) l v = v ∙ walk_refused f limits s at w.st (going ne) r.number step.number_is some ∙ ap₂ refused q (sym p)

  at-end : seen.head.stage ≡ ended → verdict_at limits s ≡ closing s at w.st
  at-end four = go w.fuel w.enough w.same
    where
      go : (f : ℕ) → length s - at < f → verdict_at limits s ≡ walk f limits s at w.st → verdict_at limits s ≡ closing s at w.st
      go zero l e = let x : ⊥ = omega arith in absurd x
      go (suc f) l e = e ∙ walk-ended f limits s at w.st (sym w.holds.stage ∙ four)

  pub says-surplus : seen.head.stage ≡ ended → at < length s → (known : Known) (e : Refused) → e ≡ record { refusal = SurplusBytes; place = at } → Says limits s (Err e) known
  unfolding closing
  says-surplus four h known e is =
      let behind : closing s at w.st ≡ refused 11 at = simp (lt-ltb _ _ h) in
      says-err limits s e known (at-end four ∙ behind ∙ ap (λ (x : Refused). refused (number_of x.refusal) x.place) (sym is))

  pub accepts-all : seen.head.stage ≡ ended → length s ≤ at → Accepts limits s seen.head seen.offsets
  unfolding closing
  accepts-all four h =
      let e : closing s at w.st ≡ accepted (circuit_of w.st) = simp (le-ltb _ _ h) in
      let all = w.sound.complete four in
      let q : seen.head.n ≡ seen.head.blocks = omega (arith, w.sound.some_left) in
      record {
        circuit = circuit_of w.st;
        is = at-end four ∙ e;
        n = w.holds.n;
        blocks = q ∙ w.holds.blocks;
        rows = w.holds.rows;
        few = w.sound.few;
        long = w.holds.offsets-long;
        there = ap (λ (k : ℕ). map (block_at s) (take k seen.offsets)) q ∙ w.holds.offsets;
        lie = λ k l. w.holds.lie k (omega (arith, q));
        rows-there = w.holds.rows-there;
        rows_end = omega (arith, w.sound.closed four, w.within);
      }
