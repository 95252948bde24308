-- What a destination gets: 0 without a row; what its row carries, wherever among the rows it stands. The rows of an accepted
-- circuit are fine. Assumes nothing.
use Prim.Native.Nat.{ℕ, zero, suc, ◌≤◌}
use native.Mathlib.Omega.{arith}
use mathlib.Core.Path.{◌≡◌, refl, sym, ap, ◌∙◌, subst}
use mathlib.Core.Bool.{false, ◌&&◌}
use mathlib.Core.List.{List, [], ◌∷◌, ◌++◌, append-nil, append_assoc}
use lib.Dec.{eqb}
use lib.IntN.{ℤ, pos}
use borrow.Author.Tests.{eq-eqb}
use Rattle.refusals.specs.declared.Limits.{Limits}
use Rattle.refusals.specs.Modest.{Modest}
use Rattle.refusals.proofs.Tests.{or-false}
use Rattle.fields.specs.Fields.{limit_of}
use Rattle.decoding.specs.Decoded.{Row, destination_used}
use Rattle.decoding.specs.Held.{Head}
use Rattle.circuit.specs.Judged.{Accepts}
use Rattle.kept.specs.Keeps.{Bytes, All, Each, EachAfter, Once, RowKeeps}
use Rattle.kept.proofs.Lists.{all_map}
use Rattle.kept.proofs.Rules.{once}
use Rattle.kept.proofs.Exactly.{accepted-exactly}
use Rattle.destinations.specs.Destinations.{carried, destined}
use Rattle.destinations.specs.Slots.{Aimed, at-q, at-m, at-aq, at-am, AimedRow, Rows}

-- ---- rows of other destinations

-- do not count
passed : (l : List ℤ) (class n : ℕ) (before rows : List Row) → destination_used class n before ≡ false → destined (before ++ rows) l class n ≡ destined rows l class n
unfolding destined destination_used
passed l class n [] rows e = refl
passed l class n (row ∷ before) rows e =
    let p = (or-false (eqb row.class class && eqb row.number n) (destination_used class n before)).0 e in
    rw p.0 (passed l class n before rows p.1)

-- "without a row, 0"
pub destined-none : (rows : List Row) (l : List ℤ) (class n : ℕ) → destination_used class n rows ≡ false → destined rows l class n ≡ pos 0
unfolding destined
destined-none rows l class n e = ap (λ (x : List Row). destined x l class n) (sym (append-nil rows)) ∙ passed l class n rows [] e

-- ---- a row, wherever it stands

each_at : (before : List Row) (row : Row) (done behind : List Row) → EachAfter Once done (before ++ (row ∷ behind)) → Once (done ++ before) row
each_at [] row done behind h = subst (λ b. Once b row) (sym (append-nil done)) h.0
each_at (a ∷ before) row done behind h =
    subst (λ b. Once b row) (append_assoc done (a ∷ []) before) (each_at before row (done ++ (a ∷ [])) behind h.1)

-- "Each destination stands at most once": its row decides, whatever stands before and behind it
pub destined-row : (before : List Row) (row : Row) (behind : List Row) (l : List ℤ) → Each Once (before ++ (row ∷ behind))
    → destined (before ++ (row ∷ behind)) l row.class row.number ≡ carried l row
unfolding destined
destined-row before row behind l h =
    passed l row.class row.number before (row ∷ behind) ((once row before).1 (each_at before row [] behind h))
    ∙ rw (eq-eqb row.class row.class refl, eq-eqb row.number row.number refl)

-- ---- the rows of a circuit

aimed-by : (limits : Limits) (class number : ℕ) → Modest limits → 1 ≤ number → number ≤ limit_of limits class → Aimed class number
unfolding limit_of
aimed-by limits zero number m a b = let z : ⊥ = omega arith in absurd z
aimed-by limits (suc zero) number m a b = let x = m.q in at-q refl a (omega arith)
aimed-by limits (suc (suc zero)) number m a b = let x = m.m in at-m refl a (omega arith)
aimed-by limits (suc (suc (suc zero))) number m a b = let x = m.aq in at-aq refl a (omega arith)
aimed-by limits (suc (suc (suc (suc zero)))) number m a b = let x = m.am in at-am refl a (omega arith)
aimed-by limits (suc (suc (suc (suc (suc k))))) number m a b = let z : ⊥ = omega arith in absurd z

-- of a circuit that keeps the rules, at limits that the code has room for
pub rows-fine : (limits : Limits) (n : ℕ) (rows : List Row) → Modest limits → All (RowKeeps limits n) rows → All AimedRow rows
rows-fine limits n rows m h =
    all_map (RowKeeps limits n) AimedRow (λ row k. aimed-by limits row.class row.number m k.low k.high) rows h

pub accepted-rows : (limits : Limits) (s : List ℕ) (head : Head) (offsets : List ℕ) → Modest limits → Bytes s → Accepts limits s head offsets
    → Rows s head.start head.rows
accepted-rows limits s head offsets m small a =
    let keeps = ((accepted-exactly limits s small a.circuit).0 a.is).0 in
    let end = a.rows_end in
    record {
      there = omega arith;
      fine = subst (All AimedRow) (sym a.rows-there) (rows-fine limits a.circuit.n a.circuit.rows m keeps.rows);
    }
