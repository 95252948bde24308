-- No field has a fault at larger limits that it has not at smaller ones: limits only bound a number from above. Assumes nothing.
use mathlib.Core.Path.{◌≡◌}
use mathlib.Core.Bool.{Bool, false, not, ◌&&◌, ◌||◌}
use mathlib.Core.List.{List, [], ◌∷◌}
use Prim.Native.Nat.{ℕ, zero, suc, ◌+◌, ◌≤◌}
use native.Mathlib.Omega.{arith}
use lib.Dec.{eqb, ltb}
use lib.ListN.{get_or}
use borrow.Author.Tests.{le-ltb, ltb-false}
use Rattle.words.specs.Bytes.{number_at}
use Rattle.refusals.specs.Limited.{NoLarger}
use Rattle.refusals.specs.declared.Limits.{Limits}
use Rattle.refusals.proofs.Tests.{or-false, None}
use Rattle.connectors.specs.Connectors.{Connector, class_of, is_inverted, member, takes, inverts, least, greatest, misfits, wrong_sort, wrong, any_of, connector_at, digital_input, analog_input}
use Rattle.blockfield.specs.BlockField.{wrong_inputs, block_faults}
use Rattle.fields.specs.Fields.{header_faults, row_faults, limit_of, spot_of, unknown, class_at, number_in}
use Rattle.decoding.specs.Decoded.{State}
use Rattle.circuit.specs.Circuit.{tag_faults}
use Rattle.circuit.proofs.Tags.{each-tag}
use Rattle.kept.specs.Keeps.{Match}

-- of two lists, number by number
list-grows : (l m : List ℕ) → Match ◌≤◌ l m → (k : ℕ) → get_or l k 0 ≤ get_or m k 0
list-grows [] [] h k = omega arith
list-grows [] (y ∷ m) h k = absurd h
list-grows (x ∷ l) [] h k = absurd h
list-grows (x ∷ l) (y ∷ m) h zero = h.0
list-grows (x ∷ l) (y ∷ m) h (suc k) = list-grows l m h.1 k

any-eased : (f g : Connector → Bool) → ((c : Connector) → f c ≡ false → g c ≡ false) → (l : List Connector) → any_of f l ≡ false → any_of g l ≡ false
unfolding any_of
any-eased f g h [] e = e
any-eased f g h (c ∷ l) e =
    let p = (or-false (f c) (any_of f l)).0 e in
    (or-false (g c) (any_of g l)).1 (h c p.0, any-eased f g h l p.1)

module _ (small large : Limits) (less : NoLarger small large) where
  greatest-grows : (n k : ℕ) → greatest small n k ≤ greatest large n k
  unfolding greatest
  greatest-grows n k =
      let same : (x : ℕ) → x ≤ x = λ x. omega arith in
      list-grows (0 ∷ 24 ∷ 0 ∷ 0 ∷ small.m ∷ 0 ∷ n ∷ 8 ∷ small.am ∷ n ∷ []) (0 ∷ 24 ∷ 0 ∷ 0 ∷ large.m ∷ 0 ∷ n ∷ 8 ∷ large.am ∷ n ∷ [])
      (same 0, (same 24, (same 0, (same 0, (less.m, (same 0, (same n, (same 8, (less.am, (same n, tt)))))))))) k

  limit-grows : (class : ℕ) → limit_of small class ≤ limit_of large class
  unfolding limit_of
  limit-grows class =
      list-grows (0 ∷ small.q ∷ small.m ∷ small.aq ∷ small.am ∷ []) (0 ∷ large.q ∷ large.m ∷ large.aq ∷ large.am ∷ [])
      (omega arith, (less.q, (less.m, (less.aq, (less.am, tt))))) class

  wrong-eased : (spot own n : ℕ) (sorts : List Bool) (c : Connector) → wrong small spot own n sorts c ≡ false → wrong large spot own n sorts c ≡ false
  unfolding wrong misfits
  wrong-eased spot own n sorts c e =
      let k = class_of c in
      let w = (or-false (misfits small spot n c) (wrong_sort spot own sorts c)).0 e in
      let a = (or-false (not (member k (takes spot))) _).0 w.0 in
      let b = (or-false (is_inverted c && not (inverts k)) _).0 a.1 in
      let r = (or-false (ltb c.number (least k)) _).0 b.1 in
      let high : c.number ≤ greatest small n k = ltb-false _ _ r.1 in
      let up = greatest-grows n k in
      let there : c.number ≤ greatest large n k = omega arith in
      (or-false (misfits large spot n c) _).1 (
        (or-false (not (member k (takes spot))) _).1
            (a.0, (or-false (is_inverted c && not (inverts k)) _).1 (b.0, (or-false (ltb c.number (least k)) _).1 (r.0, le-ltb _ _ there))),
        w.1,
      )

  inputs-eased : (own n : ℕ) (sorts : List Bool) (digitals analogs : List Connector)
      → wrong_inputs small own n sorts digitals analogs ≡ false → wrong_inputs large own n sorts digitals analogs ≡ false
  unfolding wrong_inputs
  inputs-eased own n sorts digitals analogs e =
      let p = (or-false (any_of (wrong small digital_input own n sorts) digitals) (any_of (wrong small analog_input own n sorts) analogs)).0 e in
      (or-false (any_of (wrong large digital_input own n sorts) digitals) _).1
      (any-eased _ _ (wrong-eased digital_input own n sorts) digitals p.0, any-eased _ _ (wrong-eased analog_input own n sorts) analogs p.1)

  header-eased : (s : List ℕ) (at size stage : ℕ) → None (header_faults small s at size stage) → None (header_faults large s at size stage)
  unfolding header_faults
  header-eased s at size stage none =
      let few : number_at 2 s (at + 4) ≤ small.blocks = ltb-false _ _ none.1.1.0 in
      let up = less.blocks in
      let there : number_at 2 s (at + 4) ≤ large.blocks = omega arith in
      (none.0, (none.1.0, (le-ltb _ _ there, tt)))

  block-eased : (s : List ℕ) (at size stage n count : ℕ) (sorts : List Bool) (used : Bool)
      → None (block_faults small s at size stage n count sorts used) → None (block_faults large s at size stage n count sorts used)
  unfolding block_faults
  block-eased s at size stage n count sorts used none =
      let rest = none.1.1.1.1 in
      (none.0, (none.1.0, (none.1.1.0, (none.1.1.1.0, (inputs-eased (count + 1) n sorts _ _ rest.0, rest.1)))))

  destination-eased : (class number : ℕ) (used : Bool) → (unknown small class number || used) ≡ false → (unknown large class number || used) ≡ false
  destination-eased class number used e =
      let d = (or-false (unknown small class number) used).0 e in
      let u = (or-false (eqb number 0) (ltb (limit_of small class) number)).0 d.0 in
      let high : number ≤ limit_of small class = ltb-false _ _ u.1 in
      let up = limit-grows class in
      let there : number ≤ limit_of large class = omega arith in
      (or-false (unknown large class number) used).1 ((or-false (eqb number 0) _).1 (u.0, le-ltb _ _ there), d.1)

  row-eased : (s : List ℕ) (at size stage n count : ℕ) (sorts : List Bool) (used : Bool)
      → None (row_faults small s at size stage n count sorts used) → None (row_faults large s at size stage n count sorts used)
  unfolding row_faults
  row-eased s at size stage n count sorts used none =
      let rest = none.1.1 in
      (none.0, (none.1.0, (wrong-eased (spot_of (class_at s at)) (count + 1) n sorts (connector_at s (at + 5)) rest.0, (destination-eased (class_at s at) (number_in s at) used rest.1.0, tt))))

  -- the faults of a field's own tag
  pub tag-eased : (s : List ℕ) (at : ℕ) (st : State) → None (tag_faults small s at st) → None (tag_faults large s at st)
  unfolding tag_faults
  tag-eased s at st =
      each-tag (λ l m. None l → None m) (get_or s at 0) _ _ _ _ _ _ _ _ _ _ _ _
      (λ q. header-eased s at _ _)
      (λ q. block-eased s at _ _ _ _ _ _)
      (λ q none. none)
      (λ q. row-eased s at _ _ _ _ _ _)
      (λ q none. none)
      (λ none. none)
