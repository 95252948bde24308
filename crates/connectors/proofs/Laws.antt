-- Laws of tests, of classes and of the numbers of several connectors. Assumes nothing.
use mathlib.Core.Path.{◌≡◌, refl, ap, ap₂, sym, subst, ◌∙◌}
use mathlib.Core.Bool.{Bool, beq, true, false, not, ◌&&◌, ◌||◌, cond}
use mathlib.Core.List.{List, ◌∷◌}
use Prim.Native.Nat.{ℕ, zero, suc, ◌+◌, ◌-◌, ◌*◌, ◌%◌, ◌≤◌, ◌<◌}
use native.Mathlib.Nat.{not-suc-le-zero, le_of_suc-le-suc}
use native.Mathlib.Omega.{arith}
use lib.Dec.{eqb, ltb}
use lib.ListN.{get_or}
use borrow.Author.Tests.{ne_eqb, eqb-true, ltb-false, lt-ltb, lt-leb}
use Rattle.words.proofs.Bounds.{and-true}
use Rattle.refusals.proofs.Tests.{or-false}
use Rattle.refusals.specs.declared.Limits.{Limits}
use Rattle.refusals.specs.declared.Refusal.{Refusal}
use Rattle.refusals.specs.declared.Refusal.TheVariants.{OwnOrLaterBlock}
use Rattle.refusals.specs.Refusals.{number_of}
use Rattle.refusals.proofs.Numbers.{number-above, numbers-differ}
use Rattle.connectors.specs.declared.class.Class.{Class}
use Rattle.connectors.specs.declared.class.Class.TheVariants.{Unused, Input, Low, High, Flag, Block, AnalogInput, AnalogFlag, AnalogBlock}
use Rattle.connectors.specs.declared.class.Spot.{Spot}
use Rattle.connectors.specs.declared.class.Spot.TheVariants.{DigitalInput, AnalogInput as InAnalogInput, DigitalRow, AnalogRow, UnknownRow}
use Rattle.connectors.specs.Codes.{class_code, spot_code}
use Rattle.connectors.specs.Connectors.{Connector, class_of, is_inverted, misfits, wrong_sort, names_analog, unknown_row, member, takes, inverts, names_block, least, greatest, connector_at, connectors_at, wrong, later, any_of}
use Rattle.connectors.specs.Named.{six_or_seven}

-- ---- tests

-- two functions that are the same on the first n numbers
abbrev pub alike : ℕ → (ℕ → ℕ) → (ℕ → ℕ) → Bool
alike zero f g = true
alike (suc n) f g = eqb (f zero) (g zero) && alike n (λ k. f (suc k)) (λ k. g (suc k))

pub same_at : (n : ℕ) (f g : ℕ → ℕ) → alike n f g ≡ true → (k : ℕ) → k < n → f k ≡ g k
same_at zero f g e k h = absurd (not-suc-le-zero h)
same_at (suc n) f g e zero h = eqb-true (f zero) (g zero) (and-true (eqb (f zero) (g zero)) _ e).0
same_at (suc n) f g e (suc k) h =
    same_at n (λ j. f (suc j)) (λ j. g (suc j)) (and-true (eqb (f zero) (g zero)) _ e).1 k (le_of_suc-le-suc h)

-- ---- classes

-- a class that names a block: from 1 to n
pub names-least : (k : ℕ) → names_block k ≡ true → least k ≡ 1
unfolding names_block least
names-least k e = go (eqb k 6) refl
  where
    go : (b : Bool) → eqb k 6 ≡ b → least k ≡ 1
    go true q = ap least (eqb-true k 6 q)
    go false q = ap least (eqb-true k 9 (simp q at e))

pub names-greatest : (limits : Limits) (n k : ℕ) → names_block k ≡ true → greatest limits n k ≡ n
unfolding names_block greatest
names-greatest limits n k e = go (eqb k 6) refl
  where
    go : (b : Bool) → eqb k 6 ≡ b → greatest limits n k ≡ n
    go true q = ap (greatest limits n) (eqb-true k 6 q)
    go false q = ap (greatest limits n) (eqb-true k 9 (simp q at e))

-- what no class has is none of the codes
module _ (k : ℕ) (none : (class : Class) → class_code class ≡ k → ⊥) where
  other : (class : Class) → eqb k (class_code class) ≡ false
  other class = ne_eqb k (class_code class) (λ e. none class (sym e))

-- a code that no class has is taken nowhere
pub taken-nowhere : (spot : Spot) (code : ℕ) → ((class : Class) → class_code class ≡ code → ⊥) → member code (takes (spot_code spot)) ≡ false
unfolding takes member
taken-nowhere DigitalInput k none = simp (other k none Unused, other k none Input, other k none Low, other k none High, other k none Flag, other k none Block)
taken-nowhere InAnalogInput k none = simp (other k none AnalogInput, other k none AnalogFlag, other k none AnalogBlock)
taken-nowhere DigitalRow k none = simp (other k none Input, other k none Low, other k none High, other k none Flag, other k none Block)
taken-nowhere AnalogRow k none = simp (other k none AnalogInput, other k none AnalogFlag, other k none AnalogBlock)
taken-nowhere UnknownRow k none = simp (other k none Input, other k none Low, other k none High, other k none Flag, other k none Block, other k none AnalogInput, other k none AnalogFlag, other k none AnalogBlock)

-- counted from 1
pub get_d-pred : {A : Type 0} (d x : A) (l : List A) (i : ℕ) → 1 ≤ i → get_or (x ∷ l) i d ≡ get_or l (i - 1) d
get_d-pred d x l zero h = let z : ⊥ = omega arith in absurd z
get_d-pred d x l (suc i) h = let e : i ≡ suc i - 1 = omega arith in ap (λ (k : ℕ). get_or l k d) e

-- a block that is named where its class is allowed has a number from 1 on
pub from-1 : (limits : Limits) (spot n : ℕ) (c : Connector) → misfits limits spot n c ≡ false → names_block (class_of c) ≡ true → 1 ≤ c.number
unfolding misfits
from-1 limits spot n c e b =
    let k = class_of c in
    let f = ((or-false (not (member k (takes spot))) _).0 e).1 in
    let f' = ((or-false (is_inverted c && not (inverts k)) _).0 f).1 in
    let l : least k ≤ c.number = ltb-false c.number (least k) ((or-false (ltb c.number (least k)) _).0 f').0 in
    subst (λ (x : ℕ). x ≤ c.number) (names-least k b) l

is-not : (b : Bool) → true ≡ not b → b ≡ false
is-not true e = e
is-not false e = refl

-- an earlier block, named where its class is allowed
module _ (limits : Limits) (spot own n : ℕ) (sorts : List Bool) (byte number code : ℕ)
    (is-code : code ≡ byte % 128)
    (is-allowed : true ≡ not (misfits limits spot n (record { class = byte; number = number })))
    (is-named : true ≡ names_block code)
  where
    abbrev c : Connector
    c = record { class = byte; number = number }

    pub is-counted : 1 ≤ number
    is-counted = from-1 limits spot n c (is-not _ is-allowed) (ap names_block (sym is-code) ∙ sym is-named)

    pub sort-told : (earlier : number < own) (analog differs : Bool) → true ≡ not (eqb spot unknown_row) → analog ≡ names_analog code → not (beq (get_or sorts (number - 1) false) analog) ≡ differs → cond differs 6 0 ≡ six_or_seven (wrong limits spot own n sorts c) (later own c)
    unfolding six_or_seven wrong wrong_sort later
    sort-told earlier analog differs judged is-analog d =
        let same = ap₂ (λ (x y : Bool). not (beq x y)) (get_d-pred false false sorts number is-counted) (sym (is-analog ∙ ap names_analog is-code)) ∙ d in
        simp (is-not _ is-allowed, sym (is-named ∙ ap names_block is-code), lt-ltb number own earlier, lt-leb own number earlier, is-not _ judged, same)

-- ---- several connectors

-- what is told of one
pub seven-told : (w l : Bool) → 7 ≡ six_or_seven w l → (w ≡ false) × (l ≡ true)
unfolding six_or_seven
seven-told true l e = let z : ⊥ = omega (arith, e) in absurd z
seven-told false true e = (refl, refl)
seven-told false false e = let z : ⊥ = omega (arith, e) in absurd z

pub none-told : (w l : Bool) → 0 ≡ six_or_seven w l → (w ≡ false) × (l ≡ false)
unfolding six_or_seven
none-told true l e = let z : ⊥ = omega (arith, e) in absurd z
none-told false true e = let z : ⊥ = omega (arith, e) in absurd z
none-told false false e = (refl, refl)

pub six-told : (w l : Bool) (refusal : Refusal) → number_of refusal ≡ six_or_seven w l → (refusal ≡ OwnOrLaterBlock → ⊥) → (w ≡ true) × (number_of refusal ≡ 6)
unfolding six_or_seven
six-told true l refusal e ne = (refl, e)
six-told false true refusal e ne = absurd (ne (numbers-differ refusal OwnOrLaterBlock e))
six-told false false refusal e ne = let z : ⊥ = omega (arith, number-above refusal, e) in absurd z

pub none-wrong : (w l : Bool) → six_or_seven w l ≡ 0 → w ≡ false
unfolding six_or_seven
none-wrong true l e = let z : ⊥ = omega arith in absurd z
none-wrong false l e = refl

pub none-later : (w l : Bool) → six_or_seven w l ≡ 0 → l ≡ false
unfolding six_or_seven
none-later true l e = let z : ⊥ = omega arith in absurd z
none-later false true e = let z : ⊥ = omega arith in absurd z
none-later false false e = refl

pub is-wrong : (w l : Bool) → (w ≡ false → l ≡ false) → (six_or_seven w l ≡ 0 → ⊥) → w ≡ true
unfolding six_or_seven
is-wrong true l h nz = refl
is-wrong false true h nz = sym (h refl)
is-wrong false false h nz = absurd (nz refl)

or-more : (before l rest : Bool) → ((before || l) || rest) ≡ (before || (l || rest))
or-more true l rest = refl
or-more false l rest = refl

or_true : (b : Bool) → (b || true) ≡ true
or_true true = refl
or_true false = refl

pub or_false : (b : Bool) → (b || false) ≡ b
or_false true = refl
or_false false = refl

-- what is carried on: whether it holds for one before, and what is left
module _ (before after l rest left all : Bool) (is-left : left ≡ (l || rest)) (is-all : (before || left) ≡ all) where
  pub carried : after ≡ (before || l) → (after || rest) ≡ all
  carried e = ap (λ (x : Bool). x || rest) e ∙ or-more before l rest ∙ ap (λ (x : Bool). before || x) (sym is-left) ∙ is-all

  pub carried-true : l ≡ true → after ≡ true → (after || rest) ≡ all
  carried-true t e = carried (e ∙ sym (ap (λ (x : Bool). before || x) t ∙ or_true before))

  pub carried-false : l ≡ false → after ≡ before → (after || rest) ≡ all
  carried-false f e = carried (e ∙ sym (ap (λ (x : Bool). before || x) f ∙ or_false before))

-- of a block's inputs those from number j on, from 0
module _ (f : Connector → Bool) (s : List ℕ) (at count : ℕ) where
  abbrev pub any_from : ℕ → Bool
  any_from j = any_of f (connectors_at s (at + 3 * j) (count - j))

  -- they are one and those behind it
  pub one-more : (j : ℕ) → j < count → any_from j ≡ (f (connector_at s (at + 3 * j)) || any_from (j + 1))
  unfolding any_of connectors_at
  one-more j h =
      let p : at + 3 * j + 3 ≡ at + 3 * (j + 1) = omega arith in
      let q : count - j ≡ suc (count - (j + 1)) = omega arith in
      rw q (rw p refl)

  pub from-all : any_from 0 ≡ any_of f (connectors_at s at count)
  from-all =
      let p : at + 3 * 0 ≡ at = omega arith in
      let q : count - 0 ≡ count = omega arith in
      rw q (rw p refl)

  pub from-none : (j : ℕ) → j ≡ count → any_from j ≡ false
  unfolding any_of connectors_at
  from-none j e = let q : count - j ≡ 0 = omega arith in rw q refl

  -- one of them is refused, and not by 7: so all of them are refused by 6
  pub six_ends : (g : Connector → Bool) (j : ℕ) (refusal : Refusal) → j < count → any_from j ≡ any_of f (connectors_at s at count) → number_of refusal ≡ six_or_seven (f (connector_at s (at + 3 * j))) (g (connector_at s (at + 3 * j))) → (refusal ≡ OwnOrLaterBlock → ⊥) → number_of refusal ≡ cond (any_of f (connectors_at s at count)) 6 0
  six_ends g j refusal h e told ne =
      let t = six-told _ _ refusal told ne in
      t.1 ∙ ap (λ (x : Bool). cond x 6 0) (sym (one-more j h ∙ ap (λ (x : Bool). x || any_from (j + 1)) t.0) ∙ e)
