-- T of a block in ticks: none where its kind has no setting, else those of its first two parameters. Assumes nothing.
use mathlib.Core.Path.{◌≡◌, refl, sym, ap, ap₂, ◌∙◌, subst}
use mathlib.Core.Bool.{Bool, true, cond}
use mathlib.Core.List.{List}
use Prim.Native.Nat.{ℕ, ◌+◌, ◌*◌, ◌≤◌}
use native.Mathlib.Omega.{arith}
use lib.Dec.{leb}
use lib.ListN.{length}
use lib.IntN.{ℤ, pos}
use borrow.Author.Tests.{leb-true, le-leb}
use Rattle.words.specs.Signed.{Between}
use Rattle.kinds.specs.Kinds.{Kind, kinds, kind_of, scaled, timed, indexed, chosen, content_length, parameter, allowed}
use Rattle.kinds.specs.Time.{setting_of, ticks_of, ticks}
use Rattle.kinds.proofs.Rows.{each-kind}
use Rattle.kinds.proofs.Allowed.{base-in, time-in}
use Rattle.blockfield.specs.BlockField.{kind_at, parameters_from, parameters_at, four_of, signed_at}
use Rattle.blockfield.specs.Marked.{Lies}
use Rattle.blockfield.proofs.Laws.{signed-in}
use Rattle.decoding.specs.Decoded.{block_at}
use Rattle.blocks.specs.Blocks.{time_of, prepared}
use Rattle.lines.specs.Lines.{line_of}

-- a kind with a setting has two parameters
paired : Kind → Bool
paired k = cond (leb 1 k.times) (leb 2 (length k.parameters)) true

paired-kind : (kind : ℕ) → paired (kind_of kind) ≡ true
unfolding paired kinds scaled timed indexed chosen
paired-kind kind = each-kind paired refl refl kind

two-parameters : (kind : ℕ) → 1 ≤ (kind_of kind).times → 2 ≤ length (kind_of kind).parameters
unfolding paired
two-parameters kind h = leb-true 2 (length (kind_of kind).parameters) (rw (le-leb 1 (kind_of kind).times h) at (paired-kind kind))

-- base and T of a block that sets ticks stand from a place on
pub record Pair (s : List ℕ) (at from : ℕ) : Type 0 where
  pub inside : from + 4 + 4 ≤ length s
  pub base-is : Between (pos 0) (pos 2) (signed_at s from)
  pub time-is : Between (pos 0) (pos 9999) (signed_at s (from + 4))
  pub ticks-are : ticks_of (setting_of (signed_at s from) (signed_at s (from + 4))) ≡ (line_of (block_at s at)).prepared.time

-- of a block whose kind was read
module _ (s : List ℕ) (at kind : ℕ) (is : kind ≡ kind_at s at) where
  pub not-timed : (kind_of kind).times ≡ 0 → ticks 0 ≡ (line_of (block_at s at)).prepared.time
  unfolding line_of prepared
  not-timed e =
      let p = four_of (parameters_at s at (kind_of (kind_at s at))) in
      ap (λ (n : ℕ). time_of n 1 p) (sym e ∙ ap (λ (k : ℕ). (kind_of k).times) is)

  module _ (lies : Lies s at) (from : ℕ) (begins : from ≡ parameters_from at (kind_of kind)) (h : 1 ≤ (kind_of kind).times) where
    abbrev count : ℕ
    count = length (kind_of kind).parameters

    abbrev params : List ℤ
    params = parameters_at s at (kind_of kind)

    base : parameter params 0 ≡ signed_at s from
    base =
        let e : parameters_from at (kind_of kind) + 4 * 0 ≡ from = omega arith in
        signed-in s count (parameters_from at (kind_of kind)) 0 (omega (arith, two-parameters kind h)) ∙ ap (signed_at s) e

    time : parameter params 1 ≡ signed_at s (from + 4)
    time =
        let e : parameters_from at (kind_of kind) + 4 * 1 ≡ from + 4 = omega arith in
        signed-in s count (parameters_from at (kind_of kind)) 1 (two-parameters kind h) ∙ ap (signed_at s) e

    is_set : (n : ℕ) → 1 ≤ n → ticks_of (setting_of (signed_at s from) (signed_at s (from + 4))) ≡ time_of n 1 (four_of params)
    is_set n l = rw (le-leb 1 n l, base, time)

    pub pair : Pair s at from
    unfolding line_of prepared
    pair =
        let ok : allowed kind params ≡ true = subst (λ (k : ℕ). allowed k (parameters_at s at (kind_of k)) ≡ true) (sym is) lies.is-allowed in
        let there : (at + 3) + content_length (kind_of kind) ≤ length s = subst (λ (k : ℕ). (at + 3) + content_length (kind_of k) ≤ length s) (sym is) lies.inside in
        record {
          inside = omega (arith, two-parameters kind h);
          base-is = rw (← base) (base-in kind params ok 1 (omega arith) h);
          time-is = rw (← time) (time-in kind params ok 1 (omega arith) h);
          ticks-are = is_set (kind_of kind).times h ∙ ap (λ (k : ℕ). time_of (kind_of k).times 1 (four_of (parameters_at s at (kind_of k)))) is;
        }

-- as the code reads them: the kind, its digital and analog inputs and its settings
pub pair-read : (s : List ℕ) (at kind d a t : ℕ) → kind ≡ kind_at s at → Lies s at → d ≡ (kind_of kind).digitals → a ≡ (kind_of kind).analogs → t ≡ (kind_of kind).times → (t ≡ 0 → ⊥) → Pair s at (at + 5 + 3 * (d + a))
pair-read s at kind d a t is lies p q r some = pair s at kind is lies _ (ap₂ (λ (x y : ℕ). at + 5 + 3 * (x + y)) p q) (omega arith)
