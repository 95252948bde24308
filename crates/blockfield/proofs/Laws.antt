-- Laws of a block's kind, inputs, parameters and index. Assumes nothing.
use mathlib.Core.Path.{◌≡◌, refl, sym, ap, ap₂, ◌∙◌, subst}
use mathlib.Core.Bool.{Bool, true, false, not, ◌&&◌, ◌||◌, cond, false≢true}
use mathlib.Core.List.{List, []}
use Prim.Native.Nat.{ℕ, zero, suc, ◌+◌, ◌*◌, ◌≤◌, ◌<◌}
use native.Mathlib.Nat.{le_of_suc-le-suc}
use native.Mathlib.Omega.{arith}
use lib.Dec.{eqb, leb, ltb}
use lib.ListN.{length}
use lib.IntN.{ℤ, pos}
use borrow.Author.Tests.{eq-eqb, ne_eqb, lt-leb, eqb-true, ltb-true, not-false}
use Rattle.words.proofs.Bounds.{and-true}
use Rattle.words.specs.Signed.{Between}
use Rattle.kinds.specs.Kinds.{Kind, kinds, kind_of, known, content_length, parameter, ranges_fit, settings_fit, in_order, allowed, scaled, timed, indexed, chosen}
use Rattle.kinds.specs.Table.{rows}
use Rattle.kinds.specs.declared.kind.Kind.{Kind as Code}
use Rattle.kinds.specs.declared.kind.Kind.TheVariants.{And, AndEdge, Nand, NandEdge, Or, Nor, Xor, Not, OnDelay, OffDelay, LatchingRelay, ShiftRegister, ThresholdTrigger, Comparator, Multiplexer, DifferentialTrigger, UpDownCounter, StairwaySwitch, Amplifier}
use Rattle.kinds.specs.contracts.kind.Kind.{the_type as codes}
use Rattle.kinds.specs.Codes.{byte_of}
use Rattle.kinds.proofs.Codes.{known-byte}
use denote.Enum.Bare.{sameb}
use Rattle.kinds.proofs.Allowed.{param_in}
use Rattle.kinds.proofs.Rows.{each-kind, small-kind}
use Rattle.refusals.specs.declared.Refusal.{Refusal}
use Rattle.refusals.specs.Refusals.{number_of}
use Rattle.refusals.proofs.Numbers.{number-above}
use Rattle.refusals.specs.declared.Stage.{Stage}
use Rattle.refusals.specs.declared.Stage.TheVariants.{Opening, AmongBlocks, AfterBlock, AmongRows, Ended}
use Rattle.refusals.specs.contracts.Stage.{the_type as stages}
use Rattle.refusals.specs.Stages.{opening, among_rows, stage_of}
use Rattle.refusals.specs.Faults.{lowest}
use Rattle.refusals.specs.declared.Limits.{Limits}
use Rattle.connectors.specs.Connectors.{digital_input, analog_input, connectors_at, wrong, later, any_of}
use Rattle.connectors.specs.Named.{six_or_seven}
use Rattle.connectors.proofs.Laws.{none-wrong, none-later}
use Rattle.blockfield.specs.BlockField.{kind_at, option_at, digitals_at, analogs_at, parameters_from, parameters_at, four_of, signed_at, signeds_at, wrong_length, most_option, wrong_kind, wrong_inputs, later_inputs, index_from, shift_register, block_faults}
use Rattle.blockfield.specs.Marked.{known_faults}

-- ---- kinds

pub known-below : (kind : ℕ) → known kind ≡ true → kind < rows
unfolding known kinds
known-below kind e = ltb-true kind rows (and-true (leb 1 kind) (ltb kind rows) e).1

-- a block of a known kind whose length is not wrong
pub right-length : (kind size : ℕ) → known kind ≡ true → (known kind && not (eqb size (content_length (kind_of kind)))) ≡ false → size ≡ content_length (kind_of kind)
right-length kind size k e = eqb-true size (content_length (kind_of kind)) (not-false _ (simp k at e))

-- ---- inputs

-- whether a digital or an analog input is wrong, is later
pub by-digitals : (wrong_d wrong_a later_d later_a : Bool) (refusal : Refusal) → number_of refusal ≡ cond wrong_d 6 0 → number_of refusal ≡ six_or_seven (wrong_d || wrong_a) (later_d || later_a)
unfolding six_or_seven
by-digitals true w l m refusal e = e
by-digitals false w l m refusal e = let z : ⊥ = omega (arith, number-above refusal, e) in absurd z

pub by-analogs : (wrong_d wrong_a later_d later_a : Bool) (refusal : Refusal) → ◌≡◌ {A = ℕ} 0 (cond wrong_d 6 0) → number_of refusal ≡ cond wrong_a 6 0 → number_of refusal ≡ six_or_seven (wrong_d || wrong_a) (later_d || later_a)
unfolding six_or_seven
by-analogs true w l m refusal d e = let z : ⊥ = omega (arith, d) in absurd z
by-analogs false true l m refusal d e = e
by-analogs false false l m refusal d e = let z : ⊥ = omega (arith, number-above refusal, e) in absurd z

pub by-neither : (wrong_d wrong_a later_d later_a : Bool) → ◌≡◌ {A = ℕ} 0 (cond wrong_d 6 0) → ◌≡◌ {A = ℕ} 0 (cond wrong_a 6 0) → ◌≡◌ {A = ℕ} (cond (later_d || later_a) 7 0) (six_or_seven (wrong_d || wrong_a) (later_d || later_a))
unfolding six_or_seven
by-neither true w l m d e = let z : ⊥ = omega (arith, d) in absurd z
by-neither false true l m d e = let z : ⊥ = omega (arith, e) in absurd z
by-neither false false l m d e = refl

-- the same of the inputs that stand in a block
module _ (limits : Limits) (own n : ℕ) (sorts : List Bool) (s : List ℕ) (at : ℕ) (k : Kind) (d a : ℕ) (is-d : d ≡ k.digitals) (is-a : a ≡ k.analogs) where
  abbrev wrong_d : Bool
  wrong_d = any_of (wrong limits digital_input own n sorts) (connectors_at s (at + 5) d)

  abbrev wrong_a : Bool
  wrong_a = any_of (wrong limits analog_input own n sorts) (connectors_at s (at + 5 + 3 * d) a)

  abbrev later_d : Bool
  later_d = any_of (later own) (connectors_at s (at + 5) d)

  abbrev later_a : Bool
  later_a = any_of (later own) (connectors_at s (at + 5 + 3 * d) a)

  abbrev number : ℕ
  number = six_or_seven (wrong_inputs limits own n sorts (digitals_at s at k) (analogs_at s at k)) (later_inputs own (digitals_at s at k) (analogs_at s at k))

  both : six_or_seven (wrong_d || wrong_a) (later_d || later_a) ≡ number
  unfolding wrong_inputs later_inputs
  both = rw (sym is-d, sym is-a) refl

  pub refused-digital : (refusal : Refusal) → number_of refusal ≡ cond wrong_d 6 0 → number_of refusal ≡ number
  refused-digital refusal e = by-digitals wrong_d wrong_a later_d later_a refusal e ∙ both

  pub refused-analog : (refusal : Refusal) → ◌≡◌ {A = ℕ} 0 (cond wrong_d 6 0) → number_of refusal ≡ cond wrong_a 6 0 → number_of refusal ≡ number
  refused-analog refusal d e = by-analogs wrong_d wrong_a later_d later_a refusal d e ∙ both

  pub seven-or-none : (of_digitals of_analogs is_later : Bool) → of_digitals ≡ later_d → of_analogs ≡ later_a → (of_digitals || of_analogs) ≡ is_later → ◌≡◌ {A = ℕ} 0 (cond wrong_d 6 0) → ◌≡◌ {A = ℕ} 0 (cond wrong_a 6 0) → cond is_later 7 0 ≡ number
  seven-or-none of_digitals of_analogs is_later p q l d e =
      ap (λ (x : Bool). cond {A = ℕ} x 7 0) (sym l ∙ ap₂ (λ (x y : Bool). x || y) p q) ∙ by-neither wrong_d wrong_a later_d later_a d e ∙ both

-- ---- parameters

module _ (s : List ℕ) where
  pub signed-in : (count from j : ℕ) → j < count → parameter (signeds_at s from count) j ≡ signed_at s (from + 4 * j)
  unfolding signeds_at
  signed-in zero from j h = let z : ⊥ = omega arith in absurd z
  signed-in (suc count) from zero h = let e : from ≡ from + 4 * 0 = omega arith in ap (signed_at s) e
  signed-in (suc count) from (suc j) h =
      let e : from + 4 + 4 * j ≡ from + 4 * suc j = omega arith in
      signed-in count (from + 4) j (le_of_suc-le-suc h) ∙ ap (signed_at s) e

  pub signed-out : (count from j : ℕ) → count ≤ j → parameter (signeds_at s from count) j ≡ pos 0
  unfolding signeds_at
  signed-out zero from j h = refl
  signed-out (suc count) from zero h = let z : ⊥ = omega arith in absurd z
  signed-out (suc count) from (suc j) h = signed-out count (from + 4) j (le_of_suc-le-suc h)

settings-four : (n : ℕ) (p : List ℤ) → n ≤ 3 → (settings_fit n (four_of p) && in_order n (four_of p)) ≡ (settings_fit n p && in_order n p)
settings-four zero p h = refl
settings-four (suc zero) p h = refl
settings-four (suc (suc zero)) p h = refl
settings-four (suc (suc (suc zero))) p h = refl
settings-four (suc (suc (suc (suc n)))) p h = let z : ⊥ = omega arith in absurd z

-- a parameter that a block has not is 0
pub allowed-four : (kind : ℕ) (p : List ℤ) → allowed kind (four_of p) ≡ allowed kind p
unfolding allowed
allowed-four kind p =
    ap (λ (b : Bool). ranges_fit (kind_of kind) p && b) (settings-four (kind_of kind).times p (small-kind kind).times)

-- a kind without parameters allows none
plain : Kind → Bool
plain k = cond (eqb (length k.parameters) 0) (ranges_fit k [] && (settings_fit k.times [] && in_order k.times [])) true

plain-kind : (kind : ℕ) → plain (kind_of kind) ≡ true
unfolding plain kinds scaled timed indexed chosen
plain-kind kind = each-kind plain refl refl kind

pub none_allowed : (s : List ℕ) (at kind : ℕ) → length (kind_of kind).parameters ≡ 0 → allowed kind (parameters_at s at (kind_of kind)) ≡ true
unfolding plain allowed signeds_at
none_allowed s at kind e =
    ap (λ (n : ℕ). allowed kind (signeds_at s (parameters_from at (kind_of kind)) n)) e
    ∙ (rw (eq-eqb (length (kind_of kind).parameters) 0 e) at (plain-kind kind))

-- ---- a shift register's index

pub index-from : (at : ℕ) → index_from at ≡ at + 14
unfolding kind_of kinds
index-from at = omega arith

-- it is the first parameter
pub index-first : (s : List ℕ) (at kind : ℕ) → kind ≡ shift_register → parameter (parameters_at s at (kind_of kind)) 0 ≡ signed_at s (index_from at)
unfolding kind_of kinds indexed signeds_at
index-first s at kind e = ap (λ (k : ℕ). parameter (parameters_at s at (kind_of k)) 0) e

pub index-range : (s : List ℕ) (at kind : ℕ) → kind ≡ shift_register → allowed kind (parameters_at s at (kind_of kind)) ≡ true → Between (pos 1) (pos 4) (signed_at s (index_from at))
unfolding kind_of kinds indexed signeds_at
index-range s at kind e a =
    let a' : allowed 12 (parameters_at s at (kind_of 12)) ≡ true = subst (λ (k : ℕ). allowed k (parameters_at s at (kind_of k)) ≡ true) e a in
    param_in 12 (parameters_at s at (kind_of 12)) a' 0 (omega arith)

-- a shift register without a fault lies within the bytes
pub register-there : (s : List ℕ) (at kind : ℕ) → kind ≡ shift_register → (at + 3) + content_length (kind_of kind) ≤ length s → index_from at + 4 ≤ length s
unfolding kind_of kinds indexed
register-there s at kind e h =
    let h' : (at + 3) + content_length (kind_of 12) ≤ length s = subst (λ (k : ℕ). (at + 3) + content_length (kind_of k) ≤ length s) e h in
    omega arith

-- ---- a block of a known kind

-- whether 6, 7 and not 8 hold for it
module _ (limits : Limits) (s : List ℕ) (at kind own n : ℕ) (sorts : List Bool) where
  abbrev pub wrong_at : Bool
  wrong_at = wrong_inputs limits own n sorts (digitals_at s at (kind_of kind)) (analogs_at s at (kind_of kind))

  abbrev pub later_at : Bool
  later_at = later_inputs own (digitals_at s at (kind_of kind)) (analogs_at s at (kind_of kind))

  abbrev pub allowed_at : Bool
  allowed_at = allowed kind (parameters_at s at (kind_of kind))

-- what is left to judge where length, count, kind and option are right
abbrev pub rest_of : Bool → Bool → Bool → Bool → ℕ
rest_of w l d u = cond w 6 (cond l 7 (cond (not d) 8 (cond u 10 0)))

pub first-six : (w l d : Bool) → (six_or_seven w l ≡ 0 → ⊥) → six_or_seven w l ≡ rest_of w l d false
unfolding six_or_seven
first-six true l d nz = refl
first-six false true d nz = refl
first-six false false d nz = absurd (nz refl)

pub none_at_all : (w l d : Bool) → six_or_seven w l ≡ 0 → d ≡ true → 0 ≡ rest_of w l d false
none_at_all w l d z e = simp (none-wrong w l z, none-later w l z, e)

pub eight : (w l d : Bool) → six_or_seven w l ≡ 0 → d ≡ false → 8 ≡ rest_of w l d false
eight w l d z e = simp (none-wrong w l z, none-later w l z, e)

first_three : (w l d u : Bool) (k : ℕ) → k ≡ rest_of w l d false → (k ≡ 0 → ⊥) → k ≡ rest_of w l d u
first_three true l d u k q nz = q
first_three false true d u k q nz = q
first_three false false true u k q nz = absurd (nz q)
first_three false false false u k q nz = q

-- none of the first three holds
none-wrongly : (w l d : Bool) (k : ℕ) → k ≡ rest_of w l d false → k ≡ 0 → (w ≡ false) × (l ≡ false) × (d ≡ true)
none-wrongly true l d k q z = let x : ⊥ = omega arith in absurd x
none-wrongly false true d k q z = let x : ⊥ = omega arith in absurd x
none-wrongly false false true k q z = (refl, refl, refl)
none-wrongly false false false k q z = let x : ⊥ = omega arith in absurd x

-- a block of a right length, of a known kind with an allowed option, and not one too many
pub record Proper (s : List ℕ) (at size stage n count kind : ℕ) : Type 0 where
  pub is-kind : kind ≡ kind_at s at
  pub not-opening : stage ≡ opening → ⊥
  pub not-rows : stage ≡ among_rows → ⊥
  pub not-empty : size ≡ 0 → ⊥
  pub size_is : size ≡ content_length (kind_of kind)
  pub room : count < n
  pub is_known : known kind ≡ true
  pub option : ltb (most_option (kind_of kind)) (option_at s at) ≡ false

not-opening : (stage : Stage) → false ≡ sameb stages stage Opening → stage_of stage ≡ opening → ⊥
not-opening Opening e z = absurd (false≢true e)
not-opening AmongBlocks e z = omega (arith, z)
not-opening AfterBlock e z = omega (arith, z)
not-opening AmongRows e z = omega (arith, z)
not-opening Ended e z = omega (arith, z)

not-rows : (stage : Stage) → false ≡ sameb stages stage AmongRows → stage_of stage ≡ among_rows → ⊥
not-rows Opening e z = omega (arith, z)
not-rows AmongBlocks e z = omega (arith, z)
not-rows AfterBlock e z = omega (arith, z)
not-rows AmongRows e z = absurd (false≢true e)
not-rows Ended e z = omega (arith, z)

pub is-register : (kind : Code) → sameb codes kind ShiftRegister ≡ eqb (byte_of kind) shift_register
is-register And = refl
is-register AndEdge = refl
is-register Nand = refl
is-register NandEdge = refl
is-register Or = refl
is-register Nor = refl
is-register Xor = refl
is-register Not = refl
is-register OnDelay = refl
is-register OffDelay = refl
is-register LatchingRelay = refl
is-register ShiftRegister = refl
is-register ThresholdTrigger = refl
is-register Comparator = refl
is-register Multiplexer = refl
is-register DifferentialTrigger = refl
is-register UpDownCounter = refl
is-register StairwaySwitch = refl
is-register Amplifier = refl

pub proper-of : (s : List ℕ) (at size : ℕ) (stage : Stage) (n count : ℕ) (kind : Code)
    → byte_of kind ≡ kind_at s at
    → false ≡ sameb stages stage Opening
    → false ≡ sameb stages stage AmongRows
    → (size ≡ 0 → ⊥)
    → (known (kind_at s at) && not (eqb size (content_length (kind_of (kind_at s at))))) ≡ false
    → count < n
    → ltb (most_option (kind_of (byte_of kind))) (option_at s at) ≡ false
    → Proper s at size (stage_of stage) n count (byte_of kind)
proper-of s at size stage n count kind is-kind opened rowed full long room option =
    let l : (known (byte_of kind) && not (eqb size (content_length (kind_of (byte_of kind))))) ≡ false = rw is-kind long in
    record {
      is-kind = is-kind;
      not-opening = not-opening stage opened;
      not-rows = not-rows stage rowed;
      not-empty = full;
      size_is = right-length (byte_of kind) size (known-byte kind) l;
      room = room;
      is_known = known-byte kind;
      option = option;
    }

-- judged by an own number that is one above the blocks before
pub by-own : (limits : Limits) (s : List ℕ) (at kind n count : ℕ) (sorts : List Bool) (fault own : ℕ) → fault ≡ lowest (known_faults limits s at kind own n sorts) → own ≡ count + 1 → fault ≡ lowest (known_faults limits s at kind (count + 1) n sorts)
by-own limits s at kind n count sorts fault own e is-own = e ∙ ap (λ (k : ℕ). lowest (known_faults limits s at kind k n sorts)) is-own

-- what is left to judge of it
module _ (limits : Limits) (s : List ℕ) (at size stage n count kind : ℕ) (sorts : List Bool) (used : Bool) (proper : Proper s at size stage n count kind) where
  abbrev is_wrong : Bool
  is_wrong = wrong_at limits s at kind (count + 1) n sorts

  abbrev is_later : Bool
  is_later = later_at limits s at kind (count + 1) n sorts

  abbrev is_allowed : Bool
  is_allowed = allowed_at limits s at kind (count + 1) n sorts

  rest : rest_of is_wrong is_later is_allowed (eqb kind shift_register && used) ≡ lowest (block_faults limits s at size stage n count sorts used)
  unfolding block_faults wrong_length wrong_kind
  rest =
      let p = proper in
      simp (sym p.is-kind, ne_eqb _ _ p.not-opening, ne_eqb _ _ p.not-rows, ne_eqb _ _ p.not-empty, eq-eqb _ _ p.size_is, lt-leb _ _ p.room, p.is_known, p.option)

  module _ (fault : ℕ) (is-fault : fault ≡ lowest (known_faults limits s at kind (count + 1) n sorts)) where
    pub proper-fault : (fault ≡ 0 → ⊥) → fault ≡ lowest (block_faults limits s at size stage n count sorts used)
    unfolding known_faults
    proper-fault nz = first_three is_wrong is_later is_allowed (eqb kind shift_register && used) fault is-fault nz ∙ rest

    none : fault ≡ 0 → (is_wrong ≡ false) × (is_later ≡ false) × (is_allowed ≡ true)
    unfolding known_faults
    none z = none-wrongly is_wrong is_later is_allowed fault is-fault z

    pub proper-allowed : fault ≡ 0 → allowed kind (parameters_at s at (kind_of kind)) ≡ true
    proper-allowed z = (none z).2

    -- 10 or none
    pub proper-last : fault ≡ 0 → (t : ℕ) → t ≡ cond (eqb kind shift_register && used) 10 0 → t ≡ lowest (block_faults limits s at size stage n count sorts used)
    proper-last z t e =
        let f = none z in
        let q : rest_of is_wrong is_later is_allowed (eqb kind shift_register && used) ≡ cond (eqb kind shift_register && used) 10 0 =
        simp (f.0, f.1, f.2) refl in
        e ∙ sym q ∙ rest
