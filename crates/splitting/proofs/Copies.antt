-- The copy of a cell's bytes: what is put and what is left are what the cell says. Assumes nothing.
use Rattle.std.proofs.Common.{◌≡◌, ℕ, suc, ◌+◌, ◌-◌, ◌≤◌, ◌<◌, List, [], ◌∷◌, Bool, true, false, cond, length, get_or, take, drop, set, min, refl, arith, eqb, ne_eqb, eq-eqb, ap, sym, ◌∙◌, ◌++◌, append_assoc, add-one}
use borrow.Rule.Slice.PartMut.{put_mid}
use Rattle.std.proofs.lemmas.List.{take_rest, length-take, length-drop, drop-drop}
use Rattle.std.proofs.lemmas.List.Edits.{sets, sets-eq}
use Rattle.cells.specs.Cells.{undouble}
use Rattle.cells.proofs.Again.{undouble-text}

pub put_one : (l : List ℕ) (j x : ℕ) (rest left : List ℕ) → rest ≡ x ∷ left → sets (set l j x) (j + 1) left ≡ sets l j rest
put_one l j x rest left e = rw (e, add-one j)

pub undouble_shorter : (l : List ℕ) → length (undouble l) ≤ length l
unfolding undouble
undouble_shorter [] = omega arith
undouble_shorter (x ∷ []) = omega arith
undouble_shorter (x ∷ y ∷ l) = by (eqb x 34) (undouble_shorter l) (undouble_shorter (y ∷ l))
  where
    by : (t : Bool) → length (undouble l) ≤ length l → length (undouble (y ∷ l)) ≤ suc (length l)
        → length (cond t (x ∷ undouble l) (x ∷ undouble (y ∷ l))) ≤ suc (suc (length l))
    by true a b = omega arith
    by false a b = omega arith

-- ---- one byte of what is said

pub undouble_none : (l : List ℕ) → length l < 1 → undouble l ≡ []
unfolding undouble
undouble_none [] h = refl
undouble_none (x ∷ l) h = absurd (omega arith)

pub undouble_other : (l : List ℕ) → 1 ≤ length l → (get_or l 0 0 ≡ 34 → ⊥) → undouble l ≡ get_or l 0 0 ∷ undouble (take (length l - 1) (drop 1 l))
undouble_other [] h n = absurd (omega arith)
undouble_other (x ∷ l) h n = rw (take_rest (x ∷ l) 1) (undouble-text x l (ne_eqb x 34 n))

pub undouble_quote : (l : List ℕ) → 1 ≤ length l → get_or l 0 0 ≡ 34
    → undouble l ≡ 34 ∷ undouble (drop (min (length (take (length l - 1) (drop 1 l))) 1) (take (length l - 1) (drop 1 l)))
unfolding undouble
undouble_quote [] h e = absurd (omega arith)
undouble_quote (x ∷ []) h e = rw e
undouble_quote (x ∷ y ∷ l) h e =
    let one : min (suc (length l)) 1 ≡ 1 = omega arith in
    rw (take_rest (x ∷ y ∷ l) 1, one, eq-eqb x 34 e, e)

pub ruleset undoubled = (undouble_none, undouble_other, undouble_quote, length-take, length-drop)

-- ---- bytes as they stand

pub copied : (at k : ℕ) (s vs part : List ℕ) → vs ≡ part → length vs ≡ length (take k (drop at s)) → at + k ≤ length s → put_mid at k s vs ≡ sets s at part
copied at k s vs part e h f =
    let n : k ≡ length part = omega (arith, h, ap length e, length-take k (drop at s), length-drop at s) in
    rw (e, n) (sym (append_assoc (take at s) part _) ∙ ap (λ r. take at s ++ part ++ r) (drop-drop (length part) at s) ∙ sym (sets-eq part s at (omega arith)))
