-- Lists that grow at their end; what holds of each element. Assumes nothing.
use mathlib.Core.Path.{◌≡◌, refl, ap, sym, ◌∙◌, subst}
use mathlib.Core.Logic.{◌↔◌}
use mathlib.Core.List.{List, [], ◌∷◌, ◌++◌, append-nil, append_assoc}
use mathlib.Core.Option.{none}
use Prim.Native.Nat.{ℕ, zero, suc, ◌+◌, ◌<◌}
use lib.ListN.{length, take, drop, take-append-drop}
use lib.Seq.{get_or-drop, take_at, drop_at}
use Rattle.refusals.specs.declared.Limits.{Limits}
use Rattle.decoding.specs.Decoded.{Block, labelled, with_label}
use Rattle.kept.specs.Keeps.{Bytes, All, Match, EachAfter, joined, Label, BlockKeeps, block_bytes, block_content, field}

pub each_snoc : {A : Type 0} (P : List A → A → Type 0) (before l : List A) (x : A)
    → EachAfter P before (l ++ (x ∷ [])) ↔ (EachAfter P before l × P (before ++ l) x)
each_snoc P before [] x =
    (λ e. (tt, subst (λ b. P b x) (sym (append-nil before)) e.0), λ e. (subst (λ b. P b x) (append-nil before) e.1, tt))
each_snoc P before (y ∷ l) x =
    let q = append_assoc before (y ∷ []) l in
    let r = each_snoc P (before ++ (y ∷ [])) l x in (
      λ e. let m = r.0 e.1 in ((e.0, m.0), subst (λ b. P b x) q m.1),
      λ e. (e.0.0, r.1 (e.0.1, subst (λ b. P b x) (sym q) e.1)),
    )

pub all_append : {A : Type 0} (P : A → Type 0) (l m : List A) → All P (l ++ m) ↔ (All P l × All P m)
all_append P [] m = (λ a. (tt, a), λ a. a.1)
all_append P (x ∷ l) m =
    let r = all_append P l m in
    (λ a. let q = r.0 a.1 in ((a.0, q.0), q.1), λ a. (a.0.0, r.1 (a.0.1, a.1)))

pub all_snoc : {A : Type 0} (P : A → Type 0) (l : List A) (x : A) → All P (l ++ (x ∷ [])) ↔ (All P l × P x)
all_snoc P l x =
    let r = all_append P l (x ∷ []) in
    (λ a. let q = r.0 a in (q.0, q.1.0), λ a. r.1 (a.0, (a.1, tt)))

-- the first d of them, and the others
pub all_first : {A : Type 0} (P : A → Type 0) (l m : List A) (d : ℕ) → length l ≡ d → All P (take d (l ++ m)) ↔ All P l
all_first P l m d h = let e = take_at l m d h in (subst (All P) e, subst (All P) (sym e))

pub all-other : {A : Type 0} (P : A → Type 0) (l m : List A) (d : ℕ) → length l ≡ d → All P (drop d (l ++ m)) ↔ All P m
all-other P l m d h = let e = drop_at l m d h in (subst (All P) e, subst (All P) (sym e))

pub all_split : {A : Type 0} (P : A → Type 0) (d : ℕ) (l : List A) → All P (take d l) → All P (drop d l) → All P l
all_split P d l h k = subst (All P) (take-append-drop d l) ((all_append P (take d l) (drop d l)).1 (h, k))

pub all_map : {A : Type 0} (P Q : A → Type 0) → ((x : A) → P x → Q x) → (l : List A) → All P l → All Q l
all_map P Q h [] p = tt
all_map P Q h (x ∷ l) p = (h x p.0, all_map P Q h l p.1)

-- of two facts a third
pub all_both : {A : Type 0} (P Q R : A → Type 0) → ((x : A) → P x → Q x → R x) → (l : List A) → All P l → All Q l → All R l
all_both P Q R h [] p q = tt
all_both P Q R h (x ∷ l) p q = (h x p.0 q.0, all_both P Q R h l p.1 q.1)

pub match-length : {A B : Type 0} (R : A → B → Type 0) (l : List A) (m : List B) → Match R l m → length m ≡ length l
match-length R [] [] h = refl
match-length R [] (y ∷ m) h = absurd h
match-length R (x ∷ l) [] h = absurd h
match-length R (x ∷ l) (y ∷ m) h = ap suc (match-length R l m h.1)

pub joined-append : {A : Type 0} (f : A → List ℕ) (l m : List A) → joined f (l ++ m) ≡ joined f l ++ joined f m
joined-append f [] m = refl
joined-append f (x ∷ l) m = ap (λ r. f x ++ r) (joined-append f l m) ∙ sym (append_assoc (f x) (joined f l) (joined f m))

pub joined_snoc : {A : Type 0} (f : A → List ℕ) (l : List A) (x : A) → joined f (l ++ (x ∷ [])) ≡ joined f l ++ f x
joined_snoc f l x = joined-append f l (x ∷ []) ∙ ap (λ r. joined f l ++ r) (append-nil (f x))

-- ---- bytes of a part

bytes_drop : (s : List ℕ) (i : ℕ) → Bytes s → Bytes (drop i s)
bytes_drop s i small j = rw get_or-drop (small (i + j))

all_take : (n : ℕ) (s : List ℕ) → Bytes s → All (λ b. b < 256) (take n s)
all_take zero s small = tt
all_take (suc n) [] small = tt
all_take (suc n) (x ∷ s) small = (small 0, all_take n s (λ i. small (suc i)))

pub all-part : (s : List ℕ) (i n : ℕ) → Bytes s → All (λ b. b < 256) (take n (drop i s))
all-part s i n small = all_take n (drop i s) (bytes_drop s i small)

-- ---- the last block gets its label

-- a list whose last block has no label
pub record LastBare (l : List Block) : Type 0 where
  pub front : List Block
  pub last : Block
  pub is : l ≡ front ++ (last ∷ [])
  pub bare : last.label ≡ none

pub labelled-last : (x : List ℕ) (l : List Block) (b : Block) → labelled x (l ++ (b ∷ [])) ≡ l ++ (with_label x b ∷ [])
unfolding labelled
labelled-last x [] b = refl
labelled-last x (a ∷ []) b = refl
labelled-last x (a ∷ c ∷ l) b = ap (λ m. a ∷ m) (labelled-last x (c ∷ l) b)

with-label : (limits : Limits) (n : ℕ) (b : Block) (x : List ℕ) → Label x → BlockKeeps limits n b → BlockKeeps limits n (with_label x b)
with-label limits n b x l k =
    record {
      kind-low = k.kind-low;
      kind-high = k.kind-high;
      option = k.option;
      inputs = k.inputs;
      digitals = k.digitals;
      analogs = k.analogs;
      parameters = k.parameters;
      label = l;
    }

module _ (l : List Block) (x : List ℕ) (q : LastBare l) where
  labelled-is : labelled x l ≡ q.front ++ (with_label x q.last ∷ [])
  labelled-is = ap (labelled x) q.is ∙ labelled-last x q.front q.last

  -- a rule that does not look at the label of its block
  pub each-labelled : (P : List Block → Block → Type 0) → ((before : List Block) (b : Block) → P before b → P before (with_label x b))
      → EachAfter P [] l → EachAfter P [] (labelled x l)
  each-labelled P h e =
      let old = (each_snoc P [] q.front q.last).0 (subst (EachAfter P []) q.is e) in
      subst (EachAfter P []) (sym labelled-is)
      ((each_snoc P [] q.front (with_label x q.last)).1 (old.0, h q.front q.last old.1))

  pub all-labelled : (limits : Limits) (n : ℕ) → Label x → All (BlockKeeps limits n) l → All (BlockKeeps limits n) (labelled x l)
  all-labelled limits n h e =
      let P = BlockKeeps limits n in
      let old = (all_snoc P q.front q.last).0 (subst (All P) q.is e) in
      subst (All P) (sym labelled-is)
      ((all_snoc P q.front (with_label x q.last)).1 (old.0, with-label limits n q.last x h old.1))

  pub joined-labelled : joined block_bytes (labelled x l) ≡ joined block_bytes l ++ field 0x20 x
  unfolding block_content
  joined-labelled =
      let f = joined block_bytes q.front in
      let c = field 0x10 (block_content q.last) in
      let b : block_bytes q.last ≡ c = rw q.bare (append-nil c) in
      ap (joined block_bytes) labelled-is
      ∙ joined_snoc block_bytes q.front (with_label x q.last)
      ∙ sym (append_assoc f c (field 0x20 x))
      ∙ ap (λ m. m ++ field 0x20 x)
      (sym (ap (joined block_bytes) q.is ∙ joined_snoc block_bytes q.front q.last ∙ ap (λ m. f ++ m) b))
