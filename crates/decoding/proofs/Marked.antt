-- The marks of destinations and of shift registers say which of them are used: each has a mark of its own. Assumes nothing.
use mathlib.Core.Logic.{◌↔◌}
use mathlib.Core.Path.{◌≡◌, refl, ap, ap₂, sym, ◌∙◌, subst}
use mathlib.Core.Bool.{Bool, true, false, ◌&&◌, ◌||◌, cond, false≢true}
use mathlib.Core.List.{List, [], ◌∷◌, ◌++◌}
use Rattle.std.proofs.Math.Bool.{or-false, or-true, or_assoc}
use Prim.Native.Nat.{ℕ, zero, suc, ◌+◌, ◌-◌, ◌≤◌, ◌<◌}
use native.Mathlib.Omega.{arith}
use lib.Dec.{eqb, ltb}
use lib.ListN.{length, get_or, set}
use lib.Seq.{get_or-set_same, get_or-set_other}
use lib.IntN.{ℤ, pos}
use lib.Signed.{le_z}
use borrow.Author.Tests.{lt-ltb, le-ltb, eq-eqb, ne_eqb, eqb-true, eqb-false}
use Rattle.words.specs.Signed.{over}
use Rattle.words.proofs.Bounds.{and-true}
use Rattle.words.proofs.Sides as sides
use Rattle.words.proofs.Sides.{under, le_z-true, le-le_z}
use Rattle.refusals.proofs.Tests.{and-iff, fails}
use Rattle.refusals.specs.Modest.{Modest}
use Rattle.refusals.specs.declared.Limits.{Limits}
use Rattle.blockfield.specs.BlockField.{shift_register}
use Rattle.fields.specs.Fields.{limit_of}
use Rattle.fields.specs.Marks.{base, mark}
use Rattle.fields.proofs.Laws.{Known, mark-below}
use Rattle.decoding.specs.Decoded.{Block, Row, index_of, same, index_used, destination_used}

-- ---- destinations

-- the class that a mark belongs to
class_in : ℕ → ℕ
class_in k = cond (ltb k 20) 1 (cond (ltb k 84) 2 (cond (ltb k 92) 3 4))

module _ (limits : Limits) (modest : Modest limits) where
  class_back : (c m : ℕ) → Known limits c m → class_in (mark c m) ≡ c
  unfolding limit_of base class_in
  class_back zero m d = let l = d.low in let h = d.high in let z : ⊥ = omega arith in absurd z
  class_back (suc zero) m d =
      let l = d.low in
      let h = d.high in
      let x = modest.q in
      let a : 0 + (m - 1) < 20 = omega arith in
      simp (lt-ltb _ _ a)
  class_back (suc (suc zero)) m d =
      let l = d.low in
      let h = d.high in
      let x = modest.m in
      let a : 20 ≤ 20 + (m - 1) = omega arith in
      let b : 20 + (m - 1) < 84 = omega arith in
      simp (le-ltb _ _ a, lt-ltb _ _ b)
  class_back (suc (suc (suc zero))) m d =
      let l = d.low in
      let h = d.high in
      let x = modest.aq in
      let a : 20 ≤ 84 + (m - 1) = omega arith in
      let b : 84 ≤ 84 + (m - 1) = omega arith in
      let e : 84 + (m - 1) < 92 = omega arith in
      simp (le-ltb _ _ a, le-ltb _ _ b, lt-ltb _ _ e)
  class_back (suc (suc (suc (suc zero)))) m d =
      let a : 20 ≤ 92 + (m - 1) = omega arith in
      let b : 84 ≤ 92 + (m - 1) = omega arith in
      let e : 92 ≤ 92 + (m - 1) = omega arith in
      simp (le-ltb _ _ a, le-ltb _ _ b, le-ltb _ _ e)
  class_back (suc (suc (suc (suc (suc c))))) m d = let l = d.low in let h = d.high in let z : ⊥ = omega arith in absurd z

  mark-own : (c m c' m' : ℕ) → Known limits c m → Known limits c' m' → mark c m ≡ mark c' m' → (c ≡ c') × (m ≡ m')
  mark-own c m c' m' d d' e =
      let p : c ≡ c' = sym (class_back c m d) ∙ ap class_in e ∙ class_back c' m' d' in
      let q : base c ≡ base c' = ap base p in
      (p, omega (arith, d.low, d'.low))

  used-snoc : (c m : ℕ) (l : List Row) (r : Row) → destination_used c m (l ++ (r ∷ [])) ≡ (destination_used c m l || (eqb r.class c && eqb r.number m))
  unfolding destination_used
  used-snoc c m [] r = or-false (eqb r.class c && eqb r.number m)
  used-snoc c m (x ∷ l) r =
      ap (λ (b : Bool). (eqb x.class c && eqb x.number m) || b) (used-snoc c m l r)
      ∙ sym (or_assoc (eqb x.class c && eqb x.number m) _ _)

  -- a row's mark is set, and the marks say again which destinations are used
  pub row-marked : (used : List Bool) (rows : List Row) (r : Row)
      → length used ≡ 156
      → Known limits r.class r.number
      → ((c m : ℕ) → 1 ≤ m → m ≤ limit_of limits c → get_or used (mark c m) false ≡ destination_used c m rows)
      → (c m : ℕ) → 1 ≤ m → m ≤ limit_of limits c
      → get_or (set used (mark r.class r.number) true) (mark c m) false ≡ destination_used c m (rows ++ (r ∷ []))
  row-marked used rows r long d held c m low high = go (eqb r.class c && eqb r.number m) refl ∙ sym (used-snoc c m rows r)
    where
      i : ℕ
      i = mark r.class r.number

      d' : Known limits c m
      d' = record { low = low; high = high }

      go : (b : Bool) → (eqb r.class c && eqb r.number m) ≡ b → get_or (set used i true) (mark c m) false ≡ (destination_used c m rows || (eqb r.class c && eqb r.number m))
      go true e =
          let p : r.class ≡ c = eqb-true _ _ (and-true (eqb r.class c) (eqb r.number m) e).0 in
          let q : r.number ≡ m = eqb-true _ _ (and-true (eqb r.class c) (eqb r.number m) e).1 in
          let j : mark c m ≡ i = ap₂ mark (sym p) (sym q) in
          let b : i < length used = subst (λ (k : ℕ). i < k) (sym long) (mark-below limits r.class r.number modest d) in
          ap (λ (k : ℕ). get_or (set used i true) k false) j
          ∙ get_or-set_same used i true false b
          ∙ sym (or-true (destination_used c m rows))
          ∙ ap (λ (x : Bool). destination_used c m rows || x) (sym e)
      go false e =
          let ne : (mark c m ≡ i → ⊥) = λ q. let both = mark-own c m r.class r.number d' d q in false≢true (sym e ∙ ap₂ (λ (x y : Bool). x && y) (eq-eqb _ _ (sym both.0)) (eq-eqb _ _ (sym both.1))) in
          get_or-set_other used i (mark c m) true false ne
          ∙ held c m low high
          ∙ sym (or-false (destination_used c m rows))
          ∙ ap (λ (x : Bool). destination_used c m rows || x) (sym e)

-- ---- shift registers

index-snoc : (x : ℤ) (l : List Block) (b : Block) → index_used x (l ++ (b ∷ [])) ≡ (index_used x l || (eqb b.kind shift_register && same (index_of b) x))
unfolding index_used
index-snoc x [] b = or-false (eqb b.kind shift_register && same (index_of b) x)
index-snoc x (c ∷ l) b =
    ap (λ (t : Bool). (eqb c.kind shift_register && same (index_of c) x) || t) (index-snoc x l b)
    ∙ sym (or_assoc (eqb c.kind shift_register && same (index_of c) x) _ _)

-- what the four marks say of the blocks
abbrev pub Marks : List Bool → List Block → Type 0
Marks registers blocks = (x : ℕ) → 1 ≤ x → x ≤ 4 → get_or registers (x - 1) false ≡ index_used (pos x) blocks

-- a block that is no shift register
pub register-same : (registers : List Bool) (blocks : List Block) (b : Block) → (b.kind ≡ shift_register → ⊥) → Marks registers blocks → Marks registers (blocks ++ (b ∷ []))
register-same registers blocks b ne held x l g =
    held x l g ∙ sym (or-false (index_used (pos x) blocks))
    ∙ ap (λ (t : Bool). index_used (pos x) blocks || (t && same (index_of b) (pos x))) (sym (ne_eqb b.kind shift_register ne))
    ∙ sym (index-snoc (pos x) blocks b)

-- two numbers, each at most the other
pub same-iff : (x y : ℤ) → (same x y ≡ true) ↔ (x ≡ y)
same-iff x y = (
  λ e. let p = (and-iff (le_z x y) (le_z y x)).0 e in sides.same x y (omega (arith, le_z-true x y p.0, le_z-true y x p.1)),
  λ e.
      let o = ap over e in
      let u = ap under e in
      (and-iff (le_z x y) (le_z y x)).1 (le-le_z x y (omega arith), le-le_z y x (omega arith)),
)

-- a shift register of index y
pub register-marked : (registers : List Bool) (blocks : List Block) (b : Block) (y : ℕ) → length registers ≡ 4 → b.kind ≡ shift_register → index_of b ≡ pos y → 1 ≤ y → y ≤ 4 → Marks registers blocks → Marks (set registers (y - 1) true) (blocks ++ (b ∷ []))
register-marked registers blocks b y long k p ly gy held x l g =
    go (eqb y x) refl
    ∙ sym (ap (λ (t : Bool). index_used (pos x) blocks || (t && same (index_of b) (pos x))) (eq-eqb b.kind shift_register k)
    ∙ ap (λ (v : ℤ). index_used (pos x) blocks || same v (pos x)) p)
    ∙ sym (index-snoc (pos x) blocks b)
  where
    go : (t : Bool) → eqb y x ≡ t → get_or (set registers (y - 1) true) (x - 1) false ≡ (index_used (pos x) blocks || same (pos y) (pos x))
    go true e =
        let q : y ≡ x = eqb-true y x e in
        let i : x - 1 ≡ y - 1 = omega arith in
        let r : y - 1 < length registers = omega arith in
        ap (λ (k : ℕ). get_or (set registers (y - 1) true) k false) i
        ∙ get_or-set_same registers (y - 1) true false r
        ∙ sym (or-true (index_used (pos x) blocks))
        ∙ ap (λ (v : Bool). index_used (pos x) blocks || v) (sym ((same-iff (pos y) (pos x)).1 (ap pos q)))
    go false e =
        let ne = eqb-false y x e in
        let i : (x - 1 ≡ y - 1 → ⊥) = λ q. let z : y ≡ x = omega arith in ne z in
        get_or-set_other registers (y - 1) (x - 1) true false i
        ∙ held x l g
        ∙ sym (or-false (index_used (pos x) blocks))
        ∙ ap (λ (v : Bool). index_used (pos x) blocks || v) (sym ((fails (same (pos y) (pos x))).1 (λ t. ne (ap over ((same-iff (pos y) (pos x)).0 t)))))
