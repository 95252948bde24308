-- Words written one after the other, and tests of words one after the other. Assumes nothing.
use Prim.Native.Nat.{ℕ, min, zero, suc, ◌+◌, ◌-◌, ◌*◌, ◌≤◌, ◌<◌}
use native.Mathlib.Omega.{arith}
use native.Mathlib.Nat.{eq-or-lt_of_le, add-zero, add-suc}
use mathlib.Core.Path.{◌≡◌, refl, sym, ap, ◌∙◌}
use mathlib.Core.Logic.{⊎_elim}
use mathlib.Core.Bool.{Bool, true, false, ◌&&◌, and_assoc}
use mathlib.Core.List.{List, [], ◌∷◌, ◌++◌}
use lib.ListN.{length, set, take, drop, replicate, length-set}
use lib.Seq.{get_or-set_same, get_or-set_other}
use lib.IntN.{ℤ, pos}
use Rattle.words.proofs.Bounds.{and-true}
use Rattle.refusals.proofs.Tests.{and-false}
use Rattle.std.specs.List.{between}
use Rattle.std.proofs.lemmas.Bool.{cases_lt}
use Rattle.std.proofs.lemmas.List.{ext_get_or, take_more, length-append, length-take, length-take-le, length-drop, get_or-append_right, get_or_append_left, set_past, get_or-take, length-replicate, get_or-drop, get_or-replicate}
use borrow.Rule.Slice.PartMut.{put_mid}
use native.Mathlib.Numerals.{add-one}
use Rattle.kinds.specs.Kinds.{Range, in_range}
use Rattle.record.specs.Places.{at}
use Rattle.record.specs.Sound.{every}
use Rattle.record.specs.Written.{put_all, nothing, run_fits, all_fit}

-- ---- writing

pub put-all-length : (l : List ℤ) (a m : ℕ) (g : ℕ → ℤ) → length (put_all l a m g) ≡ length l
unfolding put_all
put-all-length l a zero g = refl
put-all-length l a (suc m) g = length-set (put_all l a m g) (a + m) (g m) ∙ put-all-length l a m g

pub put-all-away : (l : List ℤ) (a m : ℕ) (g : ℕ → ℤ) (i : ℕ) → ((k : ℕ) → k < m → i ≡ a + k → ⊥) → at (put_all l a m g) i ≡ at l i
unfolding put_all
put-all-away l a zero g i h = refl
put-all-away l a (suc m) g i h =
    get_or-set_other (put_all l a m g) (a + m) i (g m) (pos 0) (h m (omega arith)) ∙ put-all-away l a m g i (λ k b. h k (omega arith))

pub put-all-in : (l : List ℤ) (a m : ℕ) (g : ℕ → ℤ) (i : ℕ) → a ≤ i → i < a + m → i < length l → at (put_all l a m g) i ≡ g (i - a)
unfolding put_all
put-all-in l a zero g i h k s = let z : ⊥ = omega arith in absurd z
put-all-in l a (suc m) g i h k s =
    ⊎_elim (λ (q : i ≡ a + m). last q)
    (λ (q : i < a + m). get_or-set_other (put_all l a m g) (a + m) i (g m) (pos 0) (λ e. omega arith) ∙ put-all-in l a m g i h q s)
    (eq-or-lt_of_le {n = i} {m = a + m} (omega arith))
  where
    last : i ≡ a + m → at (set (put_all l a m g) (a + m) (g m)) i ≡ g (i - a)
    last q =
        let e : a + m - a ≡ m = omega arith in
        let b : a + m < length l = omega arith in
        rw (q, e) (get_or-set_same (put_all l a m g) (a + m) (g m) (pos 0) (rw (put-all-length l a m g) b))

-- past the end nothing is stored
put-all-past : (l : List ℤ) (a m : ℕ) (g : ℕ → ℤ) → length l ≤ a → put_all l a m g ≡ l
unfolding put_all
put-all-past l a zero g h = refl
put-all-past l a (suc m) g h = rw (put-all-past l a m g h) (set_past l (a + m) (g m) (omega arith))

-- from a place cut at the end
pub from_cut : (l : List ℤ) (s a m : ℕ) (g : ℕ → ℤ) → s ≡ min a (length l) → put_all l s m g ≡ put_all l a m g
from_cut l s a m g e =
    ⊎_elim
    (λ (h : a < length l). let q : s ≡ a = omega arith in ap (λ (k : ℕ). put_all l k m g) q)
    (λ (h : length l ≤ a). put-all-past l s m g (omega arith) ∙ sym (put-all-past l a m g h))
    (cases_lt a (length l))

-- all of them stored
pub whole_stored : (l xs : List ℤ) → length l ≡ length xs → put_all l 0 (length xs) (at xs) ≡ xs
whole_stored l xs e =
    ext_get_or (pos 0) _ _ (put-all-length l 0 (length xs) (at xs) ∙ e)
    (λ i h.
    let long = put-all-length l 0 (length xs) (at xs) in
    let whole : i - 0 ≡ i = omega arith in
    put-all-in l 0 (length xs) (at xs) i (omega arith) (omega (arith, long)) (omega (arith, long)) ∙ ap (at xs) whole)

module _ (l : List ℤ) where
  -- a store of a part, cut at the end
  pub part_stored : (xs ys : List ℤ) (a s e : ℕ) → s ≡ min a (length l) → e ≡ min (s + length xs) (length l) → ys ≡ take (e - s) xs → put_mid s (e - s) l ys ≡ put_all l a (length xs) (at xs)
  part_stored xs ys a s e p q r =
      let m = length xs in
      let fits : e - s ≤ m = omega arith in
      let long : length ys ≡ e - s = rw r (length-take-le (e - s) xs fits) in
      let whole : length (put_mid s (e - s) l ys) ≡ length l = simp (length-append, length-take, length-drop) (omega arith) in
      ext_get_or (pos 0) _ _ (whole ∙ sym (put-all-length l a m (at xs)))
      (λ i h. by_part i (rw whole at h))
    where
      before : (i : ℕ) → i < length l → i < s → at (put_mid s (e - s) l ys) i ≡ at l i
      before i h b =
          let long : length (take s l) ≡ s = simp length-take (omega arith) in
          get_or_append_left (take s l) _ (pos 0) i (omega arith) ∙ get_or-take s l i (pos 0) b

      within : (i : ℕ) → i < length l → s ≤ i → i < e → at (put_mid s (e - s) l ys) i ≡ at xs (i - s)
      within i h b g =
          let long : length (take s l) ≡ s = simp length-take (omega arith) in
          let part : length ys ≡ e - s = rw r (length-take-le (e - s) xs (omega arith)) in
          get_or-append_right (take s l) _ s i (pos 0) long b
          ∙ get_or_append_left ys _ (pos 0) (i - s) (omega arith)
          ∙ rw r (get_or-take (e - s) xs (i - s) (pos 0) (omega arith))

      behind : (i : ℕ) → i < length l → s ≤ i → e ≤ i → at (put_mid s (e - s) l ys) i ≡ at l i
      behind i h b g =
          let long : length (take s l) ≡ s = simp length-take (omega arith) in
          let part : length ys ≡ e - s = rw r (length-take-le (e - s) xs (omega arith)) in
          let there : s + (e - s + (i - s - (e - s))) ≡ i = omega arith in
          get_or-append_right (take s l) _ s i (pos 0) long b
          ∙ get_or-append_right ys _ (e - s) (i - s) (pos 0) part (omega arith)
          ∙ get_or-drop (e - s) (drop s l) (i - s - (e - s)) (pos 0)
          ∙ get_or-drop s l (e - s + (i - s - (e - s))) (pos 0)
          ∙ ap (at l) there

      by_part : (i : ℕ) → i < length l → at (put_mid s (e - s) l ys) i ≡ at (put_all l a (length xs) (at xs)) i
      by_part i h =
          ⊎_elim (λ (b : i < s). before i h b ∙ sym (put-all-away l a (length xs) (at xs) i (λ k f z. omega arith)))
          (λ (b : s ≤ i).
          ⊎_elim
          (λ (g : i < e).
          let here : s ≡ a = omega arith in
          within i h b g ∙ ap (λ j. at xs (i - j)) here ∙ sym (put-all-in l a (length xs) (at xs) i (omega arith) (omega arith) h))
          (λ (g : e ≤ i). behind i h b g ∙ sym (put-all-away l a (length xs) (at xs) i (λ k f z. omega arith)))
          (cases_lt i e))
          (cases_lt i s)

  -- the front zeroed, cut at the end
  pub front_cleared : (ys : List ℤ) (m e : ℕ) → e ≡ min m (length l) → ys ≡ replicate e (pos 0) → ys ++ drop e l ≡ put_all l 0 m nothing
  front_cleared ys m e p q =
      let long : length ys ≡ e = rw q (length-replicate e (pos 0)) in
      let whole : length (ys ++ drop e l) ≡ length l = simp (length-append, length-drop) (omega arith) in
      ext_get_or (pos 0) _ _ (whole ∙ sym (put-all-length l 0 m nothing)) (λ i h. by_part i (rw whole at h))
    where
      by_part : (i : ℕ) → i < length l → at (ys ++ drop e l) i ≡ at (put_all l 0 m nothing) i
      by_part i h =
          ⊎_elim
          (λ (g : i < e).
          get_or_append_left ys _ (pos 0) i (rw q (omega (arith, length-replicate e (pos 0))))
          ∙ rw q (get_or-replicate e i (pos 0) (pos 0) g)
          ∙ sym (put-all-in l 0 m nothing i (omega arith) (omega arith) h))
          (λ (g : e ≤ i).
          let there : e + (i - e) ≡ i = omega arith in
          get_or-append_right ys _ e i (pos 0) (rw q (length-replicate e (pos 0))) g
          ∙ get_or-drop e l (i - e) (pos 0)
          ∙ ap (at l) there
          ∙ sym (put-all-away l 0 m nothing i (λ k f z. omega arith)))
          (cases_lt i e)

-- ---- testing

-- a test of each number below n, and the fact of each
pub every-each : (n : ℕ) (f : ℕ → Bool) → every n f ≡ true → (i : ℕ) → i < n → f i ≡ true
unfolding every
every-each zero f e i h = let z : ⊥ = omega arith in absurd z
every-each (suc n) f e i h =
    ⊎_elim (λ (g : i ≡ n). rw g (and-true (every n f) (f n) e).1)
    (λ (g : i < n). every-each n f (and-true (every n f) (f n) e).0 i g)
    (eq-or-lt_of_le {n = i} {m = n} (omega arith))

pub each-every : (n : ℕ) (f : ℕ → Bool) → ((i : ℕ) → i < n → f i ≡ true) → every n f ≡ true
unfolding every
each-every zero f h = refl
each-every (suc n) f h = rw (each-every n f (λ i g. h i (omega arith)), h n (omega arith))

-- one that fails
pub one-fails : (n : ℕ) (f : ℕ → Bool) (i : ℕ) → i < n → f i ≡ false → every n f ≡ false
unfolding every
one-fails zero f i h e = let z : ⊥ = omega arith in absurd z
one-fails (suc n) f i h e =
    ⊎_elim (λ (g : i ≡ n). (and-false (every n f) (f n)).1 (λ t. ap f (sym g) ∙ e))
    (λ (g : i < n). rw (one-fails n f i g e))
    (eq-or-lt_of_le {n = i} {m = n} (omega arith))

-- a part of some words
pub run-all : (r : Range) (l : List ℤ) (a m : ℕ) → a + m ≤ length l → run_fits r l a m ≡ all_fit r (take m (drop a l))
unfolding every
run-all r l a zero h = refl
run-all r l a (suc m) h =
    let e : take (m + 1) (drop a l) ≡ take m (drop a l) ++ at l (a + m) ∷ [] = take_more (drop a l) m (pos 0) (omega (arith, length-drop a l)) ∙ ap (λ z. take m (drop a l) ++ z ∷ []) (get_or-drop a l m (pos 0)) in
    rw (run-all r l a m (omega arith), ← add-one m, e) (sym (all_last r (take m (drop a l)) (at l (a + m))))
  where
    all_last : (r : Range) (l : List ℤ) (z : ℤ) → all_fit r (l ++ z ∷ []) ≡ all_fit r l && in_range r z
    all_last r [] z = and_true (in_range r z)
      where
        and_true : (b : Bool) → b && true ≡ true && b
        and_true true = refl
        and_true false = refl
    all_last r (y ∷ l) z = rw (all_last r l z) (sym (and_assoc (in_range r y) (all_fit r l) (in_range r z)))

pub part_fits : (r : Range) (l : List ℤ) (a e : ℕ) → a ≤ e → e ≤ length l → all_fit r (between a e l) ≡ run_fits r l a (e - a)
part_fits r l a e h g = sym (run-all r l a (e - a) (omega arith))

-- two tests that are each another
pub and_same : {a b c d : Bool} → a ≡ b → c ≡ d → a && c ≡ b && d
and_same e f = rw (e, f)

pub every-add : (a b : ℕ) (f : ℕ → Bool) → every (a + b) f ≡ every a f && every b (λ k. f (a + k))
unfolding every
every-add a zero f = rw (add-zero a) (and-nothing (every a f))
  where
    and-nothing : (t : Bool) → t ≡ t && true
    and-nothing true = refl
    and-nothing false = refl
every-add a (suc b) f = rw (add-suc a b, every-add a b f) (and_assoc (every a f) (every b (λ k. f (a + k))) (f (a + b)))

pub every-same : (n : ℕ) (f g : ℕ → Bool) → ((k : ℕ) → k < n → f k ≡ g k) → every n f ≡ every n g
unfolding every
every-same zero f g h = refl
every-same (suc n) f g h = rw (every-same n f g (λ k b. h k (omega arith)), h n (omega arith))

-- three at a time
pub every-three : (n : ℕ) (f : ℕ → Bool) → every (3 * n) f ≡ every n (λ d. f (3 * d) && (f (3 * d + 1) && f (3 * d + 2)))
unfolding every
every-three zero f = refl
every-three (suc n) f =
    let e : 3 * suc n ≡ suc (suc (suc (3 * n))) = omega arith in
    let e1 : suc (3 * n) ≡ 3 * n + 1 = omega arith in
    let e2 : suc (suc (3 * n)) ≡ 3 * n + 2 = omega arith in
    rw (e, every-three n f, e2, e1) (four (every n (λ d. f (3 * d) && (f (3 * d + 1) && f (3 * d + 2)))) (f (3 * n)) (f (3 * n + 1)) (f (3 * n + 2)))
  where
    four : (a b c d : Bool) → ((a && b) && c) && d ≡ a && (b && (c && d))
    four true b c d = and_assoc b c d
    four false b c d = refl
