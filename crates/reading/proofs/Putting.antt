-- A field is put as its head and its content. Assumes nothing.
use mathlib.Core.Path.{◌≡◌, refl, ap, ap₂, sym, ◌∙◌}
use mathlib.Core.List.{List, [], ◌∷◌}
use Prim.Native.Nat.{ℕ, ◌+◌, ◌≤◌}
use native.Mathlib.Omega.{arith}
use lib.ListN.{length, set}
use lib.Seq.{sets}
use Rattle.words.specs.Bytes.{bytes_of}
use Rattle.words.proofs.Written.{length-bytes}
use Rattle.digits.specs.Numbers.{Number}
use Rattle.kept.specs.Keeps.{field}
use Rattle.rows.specs.Columns.{label_field}
use Rattle.rows.proofs.Laid.{sets-append, sets-comm}
use Rattle.reading.proofs.Sizes.{no_label, one_label, field-length}

pub field_put : (lent mid left : List ℕ) (to tag size : ℕ) (content : List ℕ) → mid ≡ sets lent to (tag ∷ bytes_of 2 size)
    → left ≡ sets mid (to + 3) content → size ≡ length content → left ≡ sets lent to (field tag content)
unfolding field
field_put lent mid left to tag size content p q n =
    let m : List ℕ = tag ∷ bytes_of 2 (length content) in
    let k : to + 3 ≡ to + length m = let b = length-bytes 2 (length content) in omega arith in
    q
    ∙ ap₂ (λ (x : List ℕ) (j : ℕ). sets x j content) (p ∙ ap (λ (j : ℕ). sets lent to (tag ∷ bytes_of 2 j)) n) k
    ∙ sym (sets-append m content lent to)

pub header-put : (lent mid left : List ℕ) (blocks : ℕ) → mid ≡ sets lent 0 (1 ∷ bytes_of 2 3) → left ≡ sets (set mid 3 1) 4 (bytes_of 2 blocks)
    → left ≡ sets lent 0 (field 0x01 (1 ∷ bytes_of 2 blocks))
header-put lent mid left blocks p q =
    let b = length-bytes 2 blocks in
    field_put lent mid left 0 1 3 (1 ∷ bytes_of 2 blocks) p q (omega arith)

pub end-put : (lent left : List ℕ) (to : ℕ) → left ≡ sets lent to (0x7F ∷ bytes_of 2 0) → left ≡ sets lent to (field 0x7F [])
end-put lent left to p = field_put lent left left to 0x7F 0 [] p refl refl

-- ---- the field of a label

module _ (found mark : Number) (label : List ℕ) (e : found ≡ mark) (to : ℕ) where
  pub label-absent : (lent : List ℕ) → (found.size ≡ 1 → ⊥) → (lent ≡ sets lent to (label_field mark label)) × (to ≡ to + length (label_field mark label))
  label-absent lent n =
      let z : label_field mark label ≡ [] = no_label mark label (λ o. n (ap (λ (x : Number). x.size) e ∙ o)) in
      (ap (λ (x : List ℕ). sets lent to x) (sym z), let k = ap length z in omega arith)

  module _ (o : found.size ≡ 1) where
    its-field : label_field mark label ≡ field 0x20 label
    its-field = one_label mark label (sym (ap (λ (x : Number). x.size) e) ∙ o)

    pub label-room : length (label_field mark label) ≡ 3 + length label
    label-room = ap length its-field ∙ field-length 0x20 label

    -- the label's bytes first, then the head before them
    pub label-put : (lent mid left : List ℕ) (size : ℕ) → mid ≡ sets lent (to + 3) label → left ≡ sets mid to (0x20 ∷ bytes_of 2 size)
        → size ≡ length label → (left ≡ sets lent to (label_field mark label)) × (to + 3 + size ≡ to + length (label_field mark label))
    label-put lent mid left size p q n =
        let head : List ℕ = 0x20 ∷ bytes_of 2 size in
        let room : to + length head ≤ to + 3 = let b = length-bytes 2 size in omega arith in
        let turned : left ≡ sets (sets lent to head) (to + 3) label = q ∙ ap (λ (x : List ℕ). sets x to head) p ∙ sets-comm head label lent to (to + 3) room in
        (field_put lent (sets lent to head) left to 0x20 size label refl turned n ∙ ap (λ (x : List ℕ). sets lent to x) (sym its-field), let k = label-room in omega arith)
