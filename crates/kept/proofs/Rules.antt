-- The tests of a connector, of parameters, of an index and of a destination against the rules that they stand for. Assumes nothing.
use mathlib.Core.Path.{◌≡◌, refl, ap}
use mathlib.Core.Logic.{◌↔◌}
use mathlib.Core.Bool.{Bool, true, false, not, ◌&&◌}
use mathlib.Core.List.{List, [], ◌∷◌}
use Prim.Native.Nat.{ℕ, zero, suc, ◌+◌, ◌≤◌, ◌<◌}
use native.Mathlib.Omega.{arith}
use lib.Dec.{eqb, ltb}
use lib.ListN.{length, get_or}
use lib.IntN.{ℤ, pos}
use lib.Signed.{le_z}
use mir.Syntax.{w32}
use mir.Val.{SFits}
use borrow.Author.Tests.{lt-ltb, le-ltb, lt-leb, le-leb, eq-eqb, ne_eqb, ltb-false, leb-true, leb-false, eqb-true, eqb-false}
use Rattle.words.specs.Signed.{over}
use Rattle.kinds.specs.Time.{longest}
use Rattle.kinds.specs.Kinds.{Range, In, ◌to◌, kind_of, parameter, settings_fit, setting_fits, in_order, ranges_fit, allowed}
use Rattle.kinds.proofs.Rows.{small-kind}
use Rattle.kinds.proofs.Allowed.{param_in, each-setting, each-ordered}
use Rattle.refusals.specs.declared.Limits.{Limits}
use Rattle.connectors.specs.Connectors.{Connector, class_of, is_inverted, member, takes, inverts, least, names_block, unknown_row, misfits, wrong_sort, wrong, later, any_of}
use Rattle.blockfield.specs.BlockField.{shift_register}
use Rattle.fields.specs.Fields.{limit_of, spot_of}
use Rattle.fields.proofs.Laws.{Known}
use Rattle.decoding.specs.Decoded.{Block, Row, sorts_of, index_of, same, index_used, destination_used}
use Rattle.decoding.proofs.Marked.{same-iff}
use Rattle.kept.specs.Keeps.{All, Match, Allowed, Refers, Parameters, Apart, Other}
use Rattle.refusals.proofs.Tests.{or-false, and-iff, and-false, not_is, fails, same_bit}

-- ---- a connector

module _ (limits : Limits) (spot n : ℕ) (before : List Block) (c : Connector) where
  abbrev pub is-wrong : Bool
  is-wrong = wrong limits spot (length before + 1) n (sorts_of before) c

  pub is-allowed : c.class < 256 → c.number < 65536 → is-wrong ≡ false → Allowed limits spot n c
  unfolding wrong misfits
  is-allowed small fits e =
      let m = ((or-false (misfits limits spot n c) _).0 e).0 in
      let a = (or-false (not (member (class_of c) (takes spot))) _).0 m in
      let b = (or-false (is_inverted c && not (inverts (class_of c))) _).0 a.1 in
      let range = (or-false (ltb c.number (least (class_of c))) _).0 b.1 in
      record {
        byte = small;
        class = (not_is _).0 a.0;
        inversion = λ h. (not_is _).0 ((and-false _ _).0 b.0 (le-leb 128 c.class h));
        low = ltb-false _ _ range.0;
        high = ltb-false _ _ range.1;
        fits = fits;
      }

  module _ (known-spot : eqb spot unknown_row ≡ false) where
    pub refers : is-wrong ≡ false → (names_block (class_of c) ≡ true → c.number ≤ length before) → Refers before c
    unfolding wrong wrong_sort
    refers e there =
        record {
          there = there;
          right-sort =
              λ h.
              let l = there h in
              let less : c.number < length before + 1 = omega arith in
              let named : (names_block (class_of c) && ltb c.number (length before + 1)) ≡ true = (and-iff _ _).1 (h, lt-ltb _ _ less) in
              let known : not (eqb spot unknown_row) ≡ true = ap not known-spot in
              let sort = ((or-false (misfits limits spot n c) _).0 e).1 in
              (same_bit _ _).0 ((not_is _).0 ((and-false _ _).0 ((and-false _ _).0 sort named) known));
        }

  pub not-wrong : Allowed limits spot n c → Refers before c → is-wrong ≡ false
  unfolding wrong misfits wrong_sort
  not-wrong a r =
      let k = class_of c in
      (or-false (misfits limits spot n c) _).1 (
        (or-false (not (member k (takes spot))) _).1 (
          (not_is _).1 a.class,
          (or-false (is_inverted c && not (inverts k)) _).1 (
            (and-false _ _).1 (λ h. (not_is _).1 (a.inversion (leb-true _ _ h))),
            (or-false (ltb c.number (least k)) _).1 (le-ltb _ _ a.low, le-ltb _ _ a.high),
          ),
        ),
        (and-false (names_block k && ltb c.number (length before + 1)) _).1
            (λ h. (and-false (not (eqb spot unknown_row)) _).1 (λ p. (not_is _).1 ((same_bit _ _).1 (r.right-sort ((and-iff _ _).0 h).0)))),
      )

-- no own or later block is named
pub not-later : (count : ℕ) (c : Connector) → (later (count + 1) c ≡ false) ↔ (names_block (class_of c) ≡ true → c.number ≤ count)
unfolding later
not-later count c = (
  λ e h. let l : c.number < count + 1 = leb-false _ _ ((and-false (names_block (class_of c)) _).0 e h) in omega arith,
  λ f. (and-false (names_block (class_of c)) _).1 (λ h. let l = f h in let m : c.number < count + 1 = omega arith in lt-leb _ _ m),
)

pub none_of : (f : Connector → Bool) (l : List Connector) → (any_of f l ≡ false) ↔ All (λ c. f c ≡ false) l
unfolding any_of
none_of f [] = (λ e. tt, λ a. refl)
none_of f (c ∷ l) = (
  λ e. let p = (or-false (f c) (any_of f l)).0 e in (p.0, (none_of f l).0 p.1),
  λ a. (or-false (f c) (any_of f l)).1 (a.0, (none_of f l).1 a.1),
)

-- ---- parameters

-- each in its range, at every place: past the end both are 0
each_in : (rs : List Range) (vs : List ℤ) → Match In rs vs → (j : ℕ) → In (get_or rs j (pos 0 to pos 0)) (parameter vs j)
each_in [] [] m j = record { between = refl }
each_in [] (v ∷ vs) m j = absurd m
each_in (r ∷ rs) [] m j = absurd m
each_in (r ∷ rs) (v ∷ vs) m zero = m.0
each_in (r ∷ rs) (v ∷ vs) m (suc j) = each_in rs vs m.1 j

in-each : (rs : List Range) (vs : List ℤ) → length vs ≡ length rs
    → ((j : ℕ) → j < length rs → In (get_or rs j (pos 0 to pos 0)) (parameter vs j)) → Match In rs vs
in-each [] [] q h = tt
in-each [] (v ∷ vs) q h = let z : ⊥ = omega arith in absurd z
in-each (r ∷ rs) [] q h = let z : ⊥ = omega arith in absurd z
in-each (r ∷ rs) (v ∷ vs) q h =
    let l : length vs ≡ length rs = omega arith in
    (h 0 (omega arith), in-each rs vs l (λ j less. h (suc j) (omega arith)))

abbrev Setting : List ℤ → ℕ → Type 0
Setting vs j = In (pos 0 to pos (longest (over (parameter vs 0)))) (parameter vs j)

settings-iff : (vs : List ℤ) (n : ℕ) → (settings_fit n vs ≡ true) ↔ ((j : ℕ) → 1 ≤ j → j ≤ n → Setting vs j)
settings-iff vs zero = (λ e j l h. let z : ⊥ = omega arith in absurd z, λ f. refl)
settings-iff vs (suc n) = (
  λ e j l h. record { between = each-setting (suc n) vs e j l h },
  λ f.
      (and-iff (setting_fits (parameter vs 0) (parameter vs (suc n))) (settings_fit n vs)).1
      ((f (suc n) (omega arith) (omega arith)).between, (settings-iff vs n).1 (λ j l h. f j l (omega arith))),
)

order-iff : (vs : List ℤ) (n : ℕ) → (in_order n vs ≡ true) ↔ ((j : ℕ) → 1 ≤ j → j < n → le_z (parameter vs (suc j)) (parameter vs j) ≡ true)
order-iff vs zero = (λ e. each-ordered 0 vs e, λ f. refl)
order-iff vs (suc zero) = (λ e. each-ordered 1 vs e, λ f. refl)
order-iff vs (suc (suc n)) = (
  λ e. each-ordered (suc (suc n)) vs e,
  λ f.
      (and-iff (le_z (parameter vs (suc (suc n))) (parameter vs (suc n))) (in_order (suc n) vs)).1
      (f (suc n) (omega arith) (omega arith), (order-iff vs (suc n)).1 (λ j l h. f j l (omega arith))),
)

module _ (kind : ℕ) (vs : List ℤ) where
  pub right-parameters : length vs ≡ length (kind_of kind).parameters → All (SFits w32) vs → allowed kind vs ≡ true
      → Parameters (kind_of kind) vs
  unfolding allowed
  right-parameters q fit e =
      let few = (small-kind kind).parameters in
      let n = (kind_of kind).times in
      let rest = (and-iff (settings_fit n vs) (in_order n vs)).0 ((and-iff (ranges_fit (kind_of kind) vs) _).0 e).1 in
      record {
        fit = fit;
        ranges = in-each (kind_of kind).parameters vs q (λ j less. param_in kind vs e j (omega arith));
        settings = (settings-iff vs n).0 rest.0;
        order = λ j l h. (order-iff vs n).0 rest.1 j l (omega arith);
      }

  pub are-allowed : Parameters (kind_of kind) vs → allowed kind vs ≡ true
  unfolding allowed
  are-allowed k =
      let at = each_in (kind_of kind).parameters vs k.ranges in
      let n = (kind_of kind).times in
      (and-iff (ranges_fit (kind_of kind) vs) (settings_fit n vs && in_order n vs)).1 (
        (and-iff _ _).1 ((at 0).between, (and-iff _ _).1 ((at 1).between, (and-iff _ _).1 ((at 2).between, (at 3).between))),
        (and-iff (settings_fit n vs) (in_order n vs)).1 ((settings-iff vs n).1 k.settings, (order-iff vs n).1 k.order),
      )

-- ---- destinations and shift registers

-- a known destination has a known class
pub known-spot : (limits : Limits) (class number : ℕ) → Known limits class number → eqb (spot_of class) unknown_row ≡ false
unfolding limit_of spot_of
known-spot limits zero number d = let l = d.low in let h = d.high in let z : ⊥ = omega arith in absurd z
known-spot limits (suc zero) number d = refl
known-spot limits (suc (suc zero)) number d = refl
known-spot limits (suc (suc (suc zero))) number d = refl
known-spot limits (suc (suc (suc (suc zero)))) number d = refl
known-spot limits (suc (suc (suc (suc (suc k))))) number d = let l = d.low in let h = d.high in let z : ⊥ = omega arith in absurd z

pub apart : (x : ℤ) (l : List Block) → (index_used x l ≡ false) ↔ All (Apart x) l
unfolding index_used
apart x [] = (λ e. tt, λ a. refl)
apart x (b ∷ l) = (
  λ e.
      let p = (or-false (eqb b.kind shift_register && same (index_of b) x) (index_used x l)).0 e in
      (record { apart = λ k i. (fails _).0 ((and-false _ _).0 p.0 (eq-eqb _ _ k)) ((same-iff _ _).1 i) }, (apart x l).0 p.1),
  λ h.
      (or-false _ _).1
      ((and-false _ _).1 (λ k. (fails _).1 (λ i. h.0.apart (eqb-true _ _ k) ((same-iff _ _).0 i))), (apart x l).1 h.1),
)

pub once : (r : Row) (l : List Row) → (destination_used r.class r.number l ≡ false) ↔ All (Other r) l
unfolding destination_used
once r [] = (λ e. tt, λ a. refl)
once r (a ∷ l) = (
  λ e.
      let p = (or-false (eqb a.class r.class && eqb a.number r.number) (destination_used r.class r.number l)).0 e in
      (record { other = λ k i. eqb-false _ _ ((and-false _ _).0 p.0 (eq-eqb _ _ k)) i }, (once r l).0 p.1),
  λ h.
      (or-false _ _).1
      ((and-false _ _).1 (λ k. ne_eqb _ _ (h.0.other (eqb-true _ _ k))), (once r l).1 h.1),
)
