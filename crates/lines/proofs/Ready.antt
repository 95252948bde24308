-- Each line of an accepted circuit is ready to be worked out: accepted-exactly gives it. Assumes nothing.
use mathlib.Core.Path.{◌≡◌, refl, sym, ap, ◌∙◌, subst}
use mathlib.Core.List.{List, [], ◌∷◌, ◌++◌}
use Prim.Native.Nat.{ℕ, zero, suc, ◌+◌, ◌-◌, ◌<◌}
use native.Mathlib.Nat.{le_of_suc-le-suc}
use native.Mathlib.Omega.{arith}
use lib.ListN.{length, get_or, take, drop, length-take, length-drop, get_or-map, get_or-eq_default}
use lib.Seq.{get_or-take, get_or-drop}
use Rattle.kinds.specs.Kinds.{kind_of}
use Rattle.refusals.specs.declared.Limits.{Limits}
use Rattle.connectors.specs.Connectors.{digital_input, analog_input}
use Rattle.blockfield.specs.BlockField.{four_of}
use Rattle.blockfield.proofs.Laws.{allowed-four}
use Rattle.decoding.specs.Decoded.{Block, Circuit, block_at}
use Rattle.decoding.specs.Held.{Head, bare}
use Rattle.circuit.specs.Circuit.{verdict_at, accepted}
use Rattle.circuit.specs.Judged.{Accepts}
use Rattle.blocks.proofs.Prepares.{prepared-fit, prepared-most}
use Rattle.kept.specs.Keeps.{All, EachAfter, Bytes, BlockKeeps, Earlier, Allowed, Refers}
use Rattle.kept.proofs.Fields.{known-iff}
use Rattle.kept.proofs.Rules.{are-allowed}
use Rattle.kept.proofs.Exactly.{accepted-exactly}
use Rattle.lines.specs.Lines.{unused, line_of}
use Rattle.lines.specs.Ready.{Ready}

-- ---- the lines of an accepted circuit

-- element k of a list of which each holds
all-at : {A : Type 0} (P : A → Type 0) (d : A) (l : List A) → All P l → (k : ℕ) → k < length l → P (get_or l k d)
all-at P d [] all k h = let z : ⊥ = omega arith in absurd z
all-at P d (x ∷ l) all zero h = all.0
all-at P d (x ∷ l) all (suc k) h = all-at P d l all.1 k (le_of_suc-le-suc h)

append-take : {A : Type 0} (before : List A) (x : A) (l : List A) (k : ℕ) → (before ++ (x ∷ [])) ++ take k l ≡ before ++ take (suc k) (x ∷ l)
append-take [] x l k = refl
append-take (y ∷ before) x l k = ap (λ m. y ∷ m) (append-take before x l k)

each_at : {A : Type 0} (P : List A → A → Type 0) (d : A) (before l : List A) → EachAfter P before l → (k : ℕ) → k < length l → P (before ++ take k l) (get_or l k d)
each_at P d before [] each k h = let z : ⊥ = omega arith in absurd z
each_at P d before (x ∷ l) each zero h = subst (λ m. P m x) (sym (append-nil before)) each.0
  where
    append-nil : {A : Type 0} (m : List A) → m ++ [] ≡ m
    append-nil [] = refl
    append-nil (y ∷ m) = ap (λ n. y ∷ n) (append-nil m)
each_at P d before (x ∷ l) each (suc k) h =
    subst (λ m. P m (get_or l k d)) (append-take before x l k) (each_at P d (before ++ (x ∷ [])) l each.1 k (le_of_suc-le-suc h))

-- ---- what is remembered of an accepted circuit

-- block k, from 0, lies at its offset
pub line-is : (limits : Limits) (s : List ℕ) (head : Head) (offsets : List ℕ) (a : Accepts limits s head offsets) (k : ℕ) → k < head.n → line_of (block_at s (get_or offsets k 0)) ≡ line_of (get_or a.circuit.blocks k (block_at s 0))
unfolding line_of
line-is limits s head offsets a k h =
    let there : block_at s (get_or offsets k 0) ≡ bare (get_or a.circuit.blocks k (block_at s 0)) =
    sym (ap (block_at s) (get_or-take head.n offsets k 0 h))
    ∙ sym (get_or-map (block_at s) (take head.n offsets) k 0)
    ∙ ap (λ (l : List Block). get_or l k (block_at s 0)) a.there
    ∙ get_or-map bare a.circuit.blocks k (block_at s 0) in
    ap line_of there

-- ---- each block of a kept circuit is ready

block-ready : (limits : Limits) (n : ℕ) (before : List Block) (b : Block) → BlockKeeps limits n b → Earlier before b → Ready limits n before b
unfolding line_of
block-ready limits n before b k e =
    let d = (kind_of b.kind).digitals in
    let ok = allowed-four b.kind b.parameters ∙ are-allowed b.kind b.parameters k.parameters in
    record {
      is_known = (known-iff b.kind).1 (k.kind-low, k.kind-high);
      fit = prepared-fit b.kind (four_of b.parameters) ok;
      most = prepared-most b.kind (four_of b.parameters) ok;
      digital =
          λ j h.
          let l : j < length b.inputs = omega (arith, k.inputs) in
          let t : j < length (take d b.inputs) = simp length-take (omega arith) in
          record {
            allowed = subst (Allowed limits digital_input n) (get_or-take d b.inputs j unused h) (all-at (Allowed limits digital_input n) unused (take d b.inputs) k.digitals j t);
            refers = all-at (Refers before) unused b.inputs e j l;
          };
      analog =
          λ j g h.
          let l : j < length b.inputs = omega (arith, k.inputs) in
          let t : j - d < length (drop d b.inputs) = simp length-drop (omega arith) in
          let i : d + (j - d) ≡ j = omega arith in
          record {
            allowed = subst (Allowed limits analog_input n) (get_or-drop d b.inputs (j - d) unused ∙ ap (λ (x : ℕ). get_or b.inputs x unused) i) (all-at (Allowed limits analog_input n) unused (drop d b.inputs) k.analogs (j - d) t);
            refers = all-at (Refers before) unused b.inputs e j l;
          };
      none = λ j h. get_or-eq_default b.inputs unused (omega (arith, k.inputs));
    }

-- a circuit that is accepted: its block k, from 0, and those before it
pub accepted-ready : (limits : Limits) (s : List ℕ) → Bytes s → (c : Circuit) → verdict_at limits s ≡ accepted c → (d : Block) (k : ℕ) → k < c.n → Ready limits c.n (take k c.blocks) (get_or c.blocks k d)
accepted-ready limits s small c e d k h =
    let keeps = ((accepted-exactly limits s small c).0 e).0 in
    let l : k < length c.blocks = subst (λ (x : ℕ). k < x) keeps.count h in
    block-ready limits c.n (take k c.blocks) (get_or c.blocks k d)
    (all-at (BlockKeeps limits c.n) d c.blocks keeps.blocks k l)
    (each_at Earlier d [] c.blocks keeps.references k l)
