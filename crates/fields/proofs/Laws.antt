-- Laws of destinations, and of the connector of a row. Assumes nothing.
use mathlib.Core.Path.{◌≡◌, refl, sym, ap, ◌∙◌, subst}
use mathlib.Core.Bool.{Bool, true, false, not, ◌&&◌}
use Prim.Native.Nat.{ℕ, zero, suc, ◌≤◌, ◌<◌}
use native.Mathlib.Omega.{arith}
use lib.Dec.{eqb, leb, ltb}
use mathlib.Core.List.{List}
use borrow.Author.Tests.{ltb-false, eqb-false, ne_eqb, lt-leb, lt-ltb}
use Rattle.refusals.proofs.Tests.{or-false}
use Rattle.refusals.specs.Modest.{Modest}
use Rattle.refusals.specs.declared.Limits.{Limits}
use Rattle.connectors.specs.Connectors.{Connector, class_of, is_inverted, member, takes, inverts, least, greatest, names_block, misfits, wrong_sort, wrong, later}
use Rattle.connectors.specs.Named.{six_or_seven}
use Rattle.connectors.proofs.Laws.{names-greatest, none-wrong, is-wrong}
use Rattle.fields.specs.declared.destination.Destination.{Destination}
use Rattle.fields.specs.declared.destination.Destination.TheVariants.{Output, Flag, AnalogOutput, AnalogFlag}
use Rattle.fields.specs.Codes.{class_code}
use Rattle.fields.specs.Fields.{limit_of, spot_of, unknown}
use Rattle.fields.specs.Marks.{base, mark}

-- ---- destinations

-- a number that a destination of a class may have
pub record Known (limits : Limits) (class number : ℕ) : Type 0 where
  pub low : 1 ≤ number
  pub high : number ≤ limit_of limits class

pub known-destination : (limits : Limits) (class number : ℕ) → unknown limits class number ≡ false → Known limits class number
known-destination limits class number e =
    let ne : (number ≡ 0 → ⊥) = eqb-false number 0 ((or-false (eqb number 0) (ltb (limit_of limits class) number)).0 e).0 in
    record {
      low = omega (arith, ne);
      high = ltb-false (limit_of limits class) number ((or-false (eqb number 0) (ltb (limit_of limits class) number)).0 e).1;
    }

-- no class but 1 to 4 has one
pub class-below : (limits : Limits) (class number : ℕ) → Known limits class number → class < 5
unfolding limit_of
class-below limits zero m d = omega arith
class-below limits (suc zero) m d = omega arith
class-below limits (suc (suc zero)) m d = omega arith
class-below limits (suc (suc (suc zero))) m d = omega arith
class-below limits (suc (suc (suc (suc zero)))) m d = omega arith
class-below limits (suc (suc (suc (suc (suc k))))) m d = let l = d.low in let h = d.high in let z : ⊥ = omega arith in absurd z

pub mark-below : (limits : Limits) (class number : ℕ) → Modest limits → Known limits class number → mark class number < 156
unfolding limit_of base
mark-below limits zero m l d = let a = d.low in let b = d.high in let z : ⊥ = omega arith in absurd z
mark-below limits (suc zero) m l d = let b = d.high in let x = l.q in let a = d.low in omega arith
mark-below limits (suc (suc zero)) m l d = let b = d.high in let x = l.m in let a = d.low in omega arith
mark-below limits (suc (suc (suc zero))) m l d = let b = d.high in let x = l.aq in let a = d.low in omega arith
mark-below limits (suc (suc (suc (suc zero)))) m l d = let b = d.high in let x = l.am in let a = d.low in omega arith
mark-below limits (suc (suc (suc (suc (suc k))))) m l d = let a = d.low in let b = d.high in let z : ⊥ = omega arith in absurd z

pub spot-below : (class : ℕ) → spot_of class < 5
unfolding spot_of
spot-below zero = omega arith
spot-below (suc zero) = omega arith
spot-below (suc (suc zero)) = omega arith
spot-below (suc (suc (suc zero))) = omega arith
spot-below (suc (suc (suc (suc zero)))) = omega arith
spot-below (suc (suc (suc (suc (suc k))))) = omega arith

-- a code that no class has
pub spot-of-none : (code : ℕ) → ((class : Destination) → class_code class ≡ code → ⊥) → 4 ≡ spot_of code
unfolding spot_of
spot-of-none zero none = refl
spot-of-none (suc zero) none = absurd (none Output refl)
spot-of-none (suc (suc zero)) none = absurd (none Flag refl)
spot-of-none (suc (suc (suc zero))) none = absurd (none AnalogOutput refl)
spot-of-none (suc (suc (suc (suc zero)))) none = absurd (none AnalogFlag refl)
spot-of-none (suc (suc (suc (suc (suc k))))) none = refl

pub limit-of-none : (limits : Limits) (code : ℕ) → ((class : Destination) → class_code class ≡ code → ⊥) → limit_of limits code ≡ 0
unfolding limit_of
limit-of-none limits zero none = refl
limit-of-none limits (suc zero) none = absurd (none Output refl)
limit-of-none limits (suc (suc zero)) none = absurd (none Flag refl)
limit-of-none limits (suc (suc (suc zero))) none = absurd (none AnalogOutput refl)
limit-of-none limits (suc (suc (suc (suc zero)))) none = absurd (none AnalogFlag refl)
limit-of-none limits (suc (suc (suc (suc (suc k))))) none = refl

pub limit-above : (limits : Limits) (k : ℕ) → 4 < k → limit_of limits k ≡ 0
limit-above limits k h = limit-of-none limits k none
  where
    none : (class : Destination) → class_code class ≡ k → ⊥
    none Output e = omega (arith, e)
    none Flag e = omega (arith, e)
    none AnalogOutput e = omega (arith, e)
    none AnalogFlag e = omega (arith, e)

pub unknown-of-none : (limits : Limits) (code number : ℕ) → ((class : Destination) → class_code class ≡ code → ⊥) → unknown limits code number ≡ true
unknown-of-none limits code zero none = refl
unknown-of-none limits code (suc n) none =
    let ne : (suc n ≡ 0 → ⊥) = λ e. omega (arith, e) in simp (limit-of-none limits code none, ne_eqb (suc n) 0 ne, lt-ltb 0 (suc n) (omega arith))

-- ---- a row stands behind all blocks

-- what is not above n is not later than n + 1
pub none-later : (limits : Limits) (spot own n : ℕ) (sorts : List Bool) (c : Connector) → n < own → wrong limits spot own n sorts c ≡ false → later own c ≡ false
unfolding wrong misfits later
none-later limits spot own n sorts c h e = go (names_block (class_of c)) refl
  where
    go : (b : Bool) → names_block (class_of c) ≡ b → (b && leb own c.number) ≡ false
    go false q = refl
    go true q =
        let k = class_of c in
        let f = ((or-false (misfits limits spot n c) (wrong_sort spot own sorts c)).0 e).0 in
        let f' = ((or-false (not (member k (takes spot))) _).0 f).1 in
        let f'' = ((or-false (is_inverted c && not (inverts k)) _).0 f').1 in
        let r : c.number ≤ greatest limits n k = ltb-false (greatest limits n k) c.number ((or-false (ltb c.number (least k)) _).0 f'').1 in
        let r' : c.number ≤ n = subst (λ (x : ℕ). c.number ≤ x) (names-greatest limits n k q) r in
        lt-leb own c.number (omega arith)

-- a row's connector, judged at a spot: it is wrong there, or not refused
module _ (limits : Limits) (spot judged own n number : ℕ) (sorts : List Bool) (c : Connector)
    (is-spot : judged ≡ spot)
    (is-number : number ≡ six_or_seven (wrong limits judged own n sorts c) (later own c))
  where
    there : wrong limits judged own n sorts c ≡ wrong limits spot own n sorts c
    there = ap (λ (p : ℕ). wrong limits p own n sorts c) is-spot

    pub row-right : number ≡ 0 → wrong limits spot own n sorts c ≡ false
    row-right z = sym there ∙ none-wrong _ _ (sym is-number ∙ z)

    pub row-wrong : n < own → 1 ≤ number → wrong limits spot own n sorts c ≡ true
    row-wrong h above = sym there ∙ is-wrong _ _ (none-later limits judged own n sorts c h) (λ z. let y : number ≡ 0 = is-number ∙ z in omega (arith, y))

    pub row-six : n < own → 1 ≤ number → number ≡ 6
    unfolding six_or_seven
    row-six h above =
        let w : wrong limits judged own n sorts c ≡ true = there ∙ row-wrong h above in
        is-number ∙ rw w refl
