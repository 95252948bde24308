-- For each field: no fault of its list holds exactly when the field keeps the rules. Assumes nothing.
use mathlib.Core.Path.{◌≡◌, refl, ap, sym, ◌∙◌}
use mathlib.Core.Logic.{◌↔◌}
use mathlib.Core.Bool.{true, false, not}
use mathlib.Core.List.{List, ◌∷◌, ◌++◌}
use Prim.Native.Nat.{ℕ, zero, suc, ◌+◌, ◌*◌, ◌≤◌, ◌<◌}
use native.Mathlib.Nat.{add-zero, zero-add, suc-add}
use native.Mathlib.Omega.{arith}
use lib.Dec.{eqb, leb, ltb}
use lib.ListN.{length, length-append}
use mir.Syntax.{w32}
use mir.Val.{SFits}
use borrow.Author.Tests.{le-ltb, lt-leb, le-leb, lt-ltb, eq-eqb, ne_eqb, ltb-true, ltb-false, leb-true, leb-false, eqb-true, eqb-false}
use Rattle.kinds.specs.Kinds.{kinds, kind_of, known, content_length}
use Rattle.refusals.specs.Faults.{Fault, lowest}
use Rattle.refusals.specs.Stages.{opening, among_rows}
use Rattle.refusals.specs.declared.Limits.{Limits}
use Rattle.connectors.specs.Connectors.{Connector, connector_at, connectors_at, class_of, unknown_row, digital_input, analog_input, wrong, later, any_of}
use Rattle.connectors.proofs.Laws.{names-greatest}
use Rattle.blockfield.specs.BlockField.{index_from, kind_at, digitals_at, analogs_at, parameters_from, signed_at, signeds_at, wrong_length, wrong_kind, wrong_inputs, later_inputs, shift_register, block_faults}
use Rattle.fields.specs.Fields.{row_faults, limit_of, spot_of, unknown, class_at, number_in}
use Rattle.decoding.specs.Decoded.{Block, Row, sorts_of, index_of, index_used, destination_used, block_at, row_at}
use Rattle.kept.specs.Keeps.{Bytes, All, Refers, Allowed, BlockKeeps, Earlier, OwnIndex, RowKeeps, Once}
use Rattle.refusals.proofs.Tests.{or-false, and-iff, and-false, not_is, none-holds}
use Rattle.kept.proofs.Lists.{all_append, all_first, all-other, all_map, all_both}
use Rattle.kept.proofs.Codec.{number_small, signed-fits}
use Rattle.blockfield.proofs.Laws.{index-first}
use Rattle.kept.proofs.Rules.{is-allowed, refers, not-wrong, not-later, none_of, right-parameters, are-allowed, known-spot, apart, once}

-- ---- a row

pub record RowRight (limits : Limits) (s : List ℕ) (at size stage n : ℕ) (blocks : List Block) (rows : List Row) : Type 0 where
  pub late : stage ≡ opening → ⊥
  pub long : size ≡ 5
  pub full : n ≤ length blocks
  pub keeps : RowKeeps limits n (row_at s at)
  pub source : Refers blocks (connector_at s (at + 5))
  pub once : Once rows (row_at s at)

module _ (limits : Limits) (s : List ℕ) (at size stage n : ℕ) (blocks : List Block) (rows : List Row) where
  abbrev pub row-faults : List Fault
  row-faults = row_faults limits s at size stage n (length blocks) (sorts_of blocks) (destination_used (class_at s at) (number_in s at) rows)

  abbrev source-at : Connector
  source-at = connector_at s (at + 5)

  pub row-right : Bytes s → lowest row-faults ≡ 0 → RowRight limits s at size stage n blocks rows
  unfolding row_faults
  row-right small e =
      let none = (none-holds row-faults refl).0 e in
      let a = (or-false (eqb stage opening) (not (eqb size 5))).0 none.0 in
      let full : n ≤ length blocks = ltb-false _ _ none.1.0 in
      let d = (or-false (unknown limits (class_at s at) (number_in s at)) _).0 none.1.1.1.0 in
      let u = (or-false (eqb (number_in s at) 0) _).0 d.0 in
      let ne = eqb-false (number_in s at) 0 u.0 in
      let l : 1 ≤ number_in s at = omega (arith, ne) in
      let h : number_in s at ≤ limit_of limits (class_at s at) = ltb-false _ _ u.1 in
      let spot = spot_of (class_at s at) in
      let from = is-allowed limits spot n blocks source-at (small (at + 5)) (number_small s small 2 (at + 5 + 1)) none.1.1.0 in
      record {
        late = eqb-false _ _ a.0;
        long = eqb-true _ _ ((not_is _).0 a.1);
        full = full;
        keeps = record { low = l; high = h; fits = small (at + 4); from = from };
        source =
            refers limits spot n blocks source-at (known-spot limits (class_at s at) (number_in s at) (record { low = l; high = h })) none.1.1.0
            (λ q. let top = names-greatest limits n (class_of source-at) q in let high = from.high in omega arith);
        once = (once (row_at s at) rows).0 d.1;
      }

  pub row-free : RowRight limits s at size stage n blocks rows → lowest row-faults ≡ 0
  unfolding row_faults
  row-free r =
      let k = r.keeps in
      let l : 1 ≤ number_in s at = k.low in
      let ne : (number_in s at ≡ 0 → ⊥) = λ z. omega arith in
      (none-holds row-faults refl).1 (
        (or-false _ _).1 (ne_eqb _ _ r.late, (not_is _).1 (eq-eqb _ _ r.long)),
        (
          le-ltb _ _ r.full,
          (
            not-wrong limits (spot_of (class_at s at)) n blocks source-at k.from r.source,
            ((or-false _ _).1 ((or-false _ _).1 (ne_eqb _ _ ne, le-ltb _ _ k.high), (once (row_at s at) rows).1 r.once), tt),
          ),
        ),
      )

-- ---- a block

module _ (s : List ℕ) where
  pub connectors-length : (i k : ℕ) → length (connectors_at s i k) ≡ k
  unfolding connectors_at
  connectors-length i zero = refl
  connectors-length i (suc k) = ap suc (connectors-length (i + 3) k)

  pub connectors-add : (i d a : ℕ) → connectors_at s i (d + a) ≡ connectors_at s i d ++ connectors_at s (i + 3 * d) a
  unfolding connectors_at
  connectors-add i zero a = rw (zero-add, add-zero) refl
  connectors-add i (suc d) a =
      let e : i + 3 + 3 * d ≡ i + 3 * suc d = omega arith in
      rw suc-add
      (ap (λ l. connector_at s i ∷ l)
      (connectors-add (i + 3) d a ∙ ap (λ (j : ℕ). connectors_at s (i + 3) d ++ connectors_at s j a) e))

  pub signeds-length : (i k : ℕ) → length (signeds_at s i k) ≡ k
  unfolding signeds_at
  signeds-length i zero = refl
  signeds-length i (suc k) = ap suc (signeds-length (i + 4) k)

  module _ (small : Bytes s) where
    class-small : (i k : ℕ) → All (λ c. (c.class < 256) × (c.number < 65536)) (connectors_at s i k)
    unfolding connectors_at
    class-small i zero = tt
    class-small i (suc k) = ((small i, number_small s small 2 (i + 1)), class-small (i + 3) k)

    signeds-fit : (i k : ℕ) → All (SFits w32) (signeds_at s i k)
    unfolding signeds_at
    signeds-fit i zero = tt
    signeds-fit i (suc k) = (signed-fits s small i, signeds-fit (i + 4) k)

pub known-iff : (kind : ℕ) → (known kind ≡ true) ↔ ((1 ≤ kind) × (kind < length kinds))
unfolding known
known-iff kind = (
  λ e. let p = (and-iff (leb 1 kind) (ltb kind (length kinds))).0 e in (leb-true _ _ p.0, ltb-true _ _ p.1),
  λ p. (and-iff _ _).1 (le-leb _ _ p.0, lt-ltb _ _ p.1),
)

-- the index of a shift register
index_is : (s : List ℕ) (at : ℕ) → kind_at s at ≡ shift_register → index_of (block_at s at) ≡ signed_at s (index_from at)
index_is s at e = index-first s at (kind_at s at) e

-- the inputs of one sort
module _ (limits : Limits) (spot n : ℕ) (before : List Block) (known-spot : eqb spot unknown_row ≡ false) (l : List Connector) where
  abbrev Free : Type 0
  Free = (any_of (wrong limits spot (length before + 1) n (sorts_of before)) l ≡ false) × (any_of (later (length before + 1)) l ≡ false)

  inputs-right : All (λ c. (c.class < 256) × (c.number < 65536)) l → Free → All (Allowed limits spot n) l × All (Refers before) l
  inputs-right small e =
      let w = (none_of _ l).0 e.0 in (
        all_both _ _ _ (λ c h f. is-allowed limits spot n before c h.0 h.1 f) l small w,
        all_both _ _ _ (λ c f g. refers limits spot n before c known-spot f ((not-later (length before) c).0 g)) l w
            ((none_of _ l).0 e.1),
      )

  inputs-free : All (Allowed limits spot n) l → All (Refers before) l → Free
  inputs-free a r = (
    (none_of _ l).1 (all_both _ _ _ (not-wrong limits spot n before) l a r),
    (none_of _ l).1 (all_map _ _ (λ c f. (not-later (length before) c).1 f.there) l r),
  )

pub record BlockRight (limits : Limits) (s : List ℕ) (at size stage n : ℕ) (before : List Block) : Type 0 where
  pub late : stage ≡ opening → ⊥
  pub early : stage ≡ among_rows → ⊥
  pub long : size ≡ content_length (kind_of (kind_at s at))
  pub room : length before < n
  pub keeps : BlockKeeps limits n (block_at s at)
  pub earlier : Earlier before (block_at s at)
  pub own : OwnIndex before (block_at s at)

module _ (limits : Limits) (s : List ℕ) (at size stage n : ℕ) (before : List Block) where
  abbrev kind : ℕ
  kind = kind_at s at

  abbrev digitals : List Connector
  digitals = digitals_at s at (kind_of kind)

  abbrev analogs : List Connector
  analogs = analogs_at s at (kind_of kind)

  abbrev pub block-faults : List Fault
  block-faults = block_faults limits s at size stage n (length before) (sorts_of before) (index_used (signed_at s (index_from at)) before)

  pub block-right : Bytes s → lowest block-faults ≡ 0 → BlockRight limits s at size stage n before
  unfolding block_faults wrong_length wrong_kind wrong_inputs later_inputs
  block-right small e =
      let none = (none-holds block-faults refl).0 e in
      let a = (or-false _ _).0 none.0 in
      let w = (or-false (eqb size 0) _).0 none.1.0 in
      let k = (or-false (not (known kind)) _).0 none.1.1.1.0 in
      let known-kind = (not_is (known kind)).0 k.0 in
      let six = (or-false _ _).0 none.1.1.1.1.0 in
      let seven = (or-false _ _).0 none.1.1.1.1.1.0 in
      let d = (kind_of kind).digitals in
      let m = (kind_of kind).analogs in
      let from = parameters_from at (kind_of kind) in
      let p = length (kind_of kind).parameters in
      let di = inputs-right limits digital_input n before refl digitals (class-small s small (at + 5) d) (six.0, seven.0) in
      let an = inputs-right limits analog_input n before refl analogs (class-small s small (at + 5 + 3 * d) m) (six.1, seven.1) in
      let dl = connectors-length s (at + 5) d in
      let al = connectors-length s (at + 5 + 3 * d) m in
      record {
        late = eqb-false _ _ a.0;
        early = eqb-false _ _ a.1;
        long = eqb-true _ _ ((not_is _).0 ((and-false (known kind) _).0 w.1 known-kind));
        room = leb-false _ _ none.1.1.0;
        keeps =
            record {
              kind-low = ((known-iff kind).0 known-kind).0;
              kind-high = ((known-iff kind).0 known-kind).1;
              option = ltb-false _ _ k.1;
              inputs = length-append digitals analogs ∙ omega arith;
              digitals = (all_first _ digitals analogs d dl).1 di.0;
              analogs = (all-other _ digitals analogs d dl).1 an.0;
              parameters =
                  right-parameters kind (signeds_at s from p) (signeds-length s from p) (signeds-fit s small from p)
                  ((not_is _).0 none.1.1.1.1.1.1.0);
              label = tt;
            };
        earlier = (all_append (Refers before) digitals analogs).1 (di.1, an.1);
        own =
            λ q.
            (apart _ before).0
            (ap (λ x. index_used x before) (index_is s at q)
            ∙ (and-false (eqb kind shift_register) _).0 none.1.1.1.1.1.1.1.0 (eq-eqb _ _ q));
      }

  pub block-free : BlockRight limits s at size stage n before → lowest block-faults ≡ 0
  unfolding block_faults wrong_length wrong_kind wrong_inputs later_inputs
  block-free r =
      let k = r.keeps in
      let d = (kind_of kind).digitals in
      let dl = connectors-length s (at + 5) d in
      let m = (all_append (Refers before) digitals analogs).0 r.earlier in
      let di = inputs-free limits digital_input n before refl digitals ((all_first _ digitals analogs d dl).0 k.digitals) m.0 in
      let an = inputs-free limits analog_input n before refl analogs ((all-other _ digitals analogs d dl).0 k.analogs) m.1 in
      let h : size ≡ content_length (kind_of kind) = r.long in
      let ne : (size ≡ 0 → ⊥) = λ z. omega arith in
      (none-holds block-faults refl).1 (
        (or-false _ _).1 (ne_eqb _ _ r.late, ne_eqb _ _ r.early),
        (
          (or-false (eqb size 0) _).1 (ne_eqb _ _ ne, (and-false (known kind) _).1 (λ q. (not_is _).1 (eq-eqb _ _ h))),
          (
            lt-leb _ _ r.room,
            (
              (or-false (not (known kind)) _).1 ((not_is _).1 ((known-iff kind).1 (k.kind-low, k.kind-high)), le-ltb _ _ k.option),
              (
                (or-false _ _).1 (di.0, an.0),
                (
                  (or-false _ _).1 (di.1, an.1),
                  (
                    (not_is _).1 (are-allowed kind _ k.parameters),
                    (
                      (and-false (eqb kind shift_register) _).1
                          (λ q.
                          let e = eqb-true _ _ q in
                          ap (λ x. index_used x before) (sym (index_is s at e)) ∙ (apart _ before).1 (r.own e)),
                      tt,
                    ),
                  ),
                ),
              ),
            ),
          ),
        ),
      )
