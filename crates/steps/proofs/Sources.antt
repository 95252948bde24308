-- What a connector reads, class by class. Assumes nothing.
use Prim.Native.Nat.{ℕ, zero, suc}
use mathlib.Core.Path.{◌≡◌, refl, sym, ◌∙◌}
use mathlib.Core.List.{List, [], ◌∷◌}
use mathlib.Core.Option.{Option, none, some}
use lib.ListN.{get_or}
use Rattle.connectors.specs.Connectors.{Connector, class_of}
use Rattle.record.specs.Places.{Place, input, analog, flag, analog_flag, output}
use Rattle.steps.specs.Steps.{source_of, plain_bit}
use Rattle.steps.specs.Wired.{named, plain_named}
use Rattle.connectors.specs.Codes.{class_code, Decodes}
use Rattle.connectors.specs.declared.class.Class.{Class}
use Rattle.connectors.specs.declared.class.Class.TheVariants.{Unused, Input, Low, High, Flag, Block, AnalogInput, AnalogFlag, AnalogBlock}
use Rattle.refusals.specs.declared.Refusal.{Refusal}
use Rattle.std.specs.Prelude.{Result, Ok, Err, ℤ, Bool, false, bit_and}
use borrow.Author.Tests.{ne_eqb}
use Rattle.words.proofs.Masks.{low-seven-bits}

-- none of a list, as the last arm of a match knows it
abbrev pub NoneOf : ℕ → List ℕ → Type 0
NoneOf k [] = Unit {0}
NoneOf k (x ∷ l) = NoneOf k l × (k ≡ x → ⊥)

module _ (c : Connector) where
  pub reads-input : class_of c ≡ 1 → source_of c ≡ some (input c.number)
  unfolding source_of
  reads-input e = rw e

  pub reads-flag : class_of c ≡ 4 → source_of c ≡ some (flag c.number)
  unfolding source_of
  reads-flag e = rw e

  pub reads-block : class_of c ≡ 6 → source_of c ≡ some (output c.number)
  unfolding source_of
  reads-block e = rw e

  pub reads-analog : class_of c ≡ 7 → source_of c ≡ some (analog c.number)
  unfolding source_of
  reads-analog e = rw e

  pub reads-analog_flag : class_of c ≡ 8 → source_of c ≡ some (analog_flag c.number)
  unfolding source_of
  reads-analog_flag e = rw e

  pub reads-analog-block : class_of c ≡ 9 → source_of c ≡ some (output c.number)
  unfolding source_of
  reads-analog-block e = rw e

  -- unused, lo, hi, and what is no class
  pub reads_none : NoneOf (class_of c) (9 ∷ 8 ∷ 7 ∷ 6 ∷ 4 ∷ 1 ∷ []) → source_of c ≡ none
  unfolding source_of
  reads_none no-class = by (class_of c) no-class
    where
      by : (k : ℕ) → NoneOf k (9 ∷ 8 ∷ 7 ∷ 6 ∷ 4 ∷ 1 ∷ []) → get_or (none ∷ some (input c.number) ∷ none ∷ none ∷ some (flag c.number) ∷ none ∷ some (output c.number) ∷ some (analog c.number) ∷ some (analog_flag c.number) ∷ some (output c.number) ∷ []) k none ≡ none
      by zero ne = refl
      by (suc zero) ne = absurd (ne.0.0.0.0.0.1 refl)
      by (suc (suc zero)) ne = refl
      by (suc (suc (suc zero))) ne = refl
      by (suc (suc (suc (suc zero)))) ne = absurd (ne.0.0.0.0.1 refl)
      by (suc (suc (suc (suc (suc zero))))) ne = refl
      by (suc (suc (suc (suc (suc (suc zero)))))) ne = absurd (ne.0.0.0.1 refl)
      by (suc (suc (suc (suc (suc (suc (suc zero))))))) ne = absurd (ne.0.0.1 refl)
      by (suc (suc (suc (suc (suc (suc (suc (suc zero)))))))) ne = absurd (ne.0.1 refl)
      by (suc (suc (suc (suc (suc (suc (suc (suc (suc zero))))))))) ne = absurd (ne.1 refl)
      by (suc (suc (suc (suc (suc (suc (suc (suc (suc (suc k)))))))))) ne = refl

-- ---- a class that was decoded from a class byte

-- what is read
abbrev pub source_in : Result Class Refusal → ℕ → Option Place
source_in (Ok class) n = named class n
source_in (Err refusal) n = none

-- a bit before it is inverted
abbrev pub plain_in : List ℤ → Bool → Result Class Refusal → ℕ → Bool
plain_in l unused (Ok class) n = plain_named l unused class n
plain_in l unused (Err refusal) n = false

module _ (c : Connector) where
  class-is : {k : ℕ} → k ≡ bit_and c.class 127 → class_of c ≡ k
  class-is e = sym (low-seven-bits c.class) ∙ sym e

  of-class : (class : Class) → class_code class ≡ bit_and c.class 127 → source_of c ≡ named class c.number
  unfolding source_of
  of-class Unused e = rw (class-is e)
  of-class Input e = rw (class-is e)
  of-class Low e = rw (class-is e)
  of-class High e = rw (class-is e)
  of-class Flag e = rw (class-is e)
  of-class Block e = rw (class-is e)
  of-class AnalogInput e = rw (class-is e)
  of-class AnalogFlag e = rw (class-is e)
  of-class AnalogBlock e = rw (class-is e)

  other : ((class : Class) → class_code class ≡ bit_and c.class 127 → ⊥) → (class : Class) → class_of c ≡ class_code class → ⊥
  other h class f = h class (sym f ∙ sym (low-seven-bits c.class))

  pub source_by : (r : Result Class Refusal) → Decodes (bit_and c.class 127) r → source_of c ≡ source_in r c.number
  source_by (Ok class) d = of-class class d
  source_by (Err refusal) d =
      let is = other d.1 in
      reads_none c ((((((tt, is Input), is Flag), is Block), is AnalogInput), is AnalogFlag), is AnalogBlock)

  plain-class : (l : List ℤ) (unused : Bool) (class : Class) → class_code class ≡ bit_and c.class 127 → plain_bit l unused c ≡ plain_named l unused class c.number
  unfolding plain_bit
  plain-class l unused Unused e = rw (class-is e)
  plain-class l unused Input e = rw (class-is e, of-class Input e)
  plain-class l unused Low e = rw (class-is e, of-class Low e)
  plain-class l unused High e = rw (class-is e)
  plain-class l unused Flag e = rw (class-is e, of-class Flag e)
  plain-class l unused Block e = rw (class-is e, of-class Block e)
  plain-class l unused AnalogInput e = rw (class-is e, of-class AnalogInput e)
  plain-class l unused AnalogFlag e = rw (class-is e, of-class AnalogFlag e)
  plain-class l unused AnalogBlock e = rw (class-is e, of-class AnalogBlock e)

  pub plain_by : (l : List ℤ) (unused : Bool) (r : Result Class Refusal) → Decodes (bit_and c.class 127) r → plain_bit l unused c ≡ plain_in l unused r c.number
  unfolding plain_bit
  plain_by l unused (Ok class) d = plain-class l unused class d
  plain_by l unused (Err refusal) d =
      let is = other d.1 in
      rw (ne_eqb (class_of c) 0 (is Unused), ne_eqb (class_of c) 3 (is High), source_by (Err refusal) d)
