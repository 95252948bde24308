-- Why the scans answer what the definitions say: one law for each step of a scan, on the bytes from a place on. Assumes nothing.
use mathlib.Core.Path.{ap, ◌≡◌, refl, sym, ◌∙◌}
use mathlib.Core.Bool.{Bool, true, false, cond, not, true≢false}
use mathlib.Core.List.{List, [], ◌∷◌}
use Prim.Native.Nat.{ℕ, zero, suc, ◌+◌, ◌-◌, ◌≤◌, ◌<◌}
use native.Mathlib.Numerals.{add-one}
use native.Mathlib.Omega.{arith}
use lib.ListN.{take, length, get_or, drop, length-drop, drop_of_length-le}
use Rattle.std.proofs.lemmas.List.{take_rest}
use lib.Seq.{drop-cons, drop-drop}
use lib.Dec.{eqb}
use borrow.Author.Tests.{eqb-true, eq-eqb, ne_eqb}
use Rattle.cells.specs.Cells.{Cell, starts, none, ending, ending_size, stops, plain_size, quoted_size, finish, closed, cell_at}

-- where a byte stands, the list goes on
pub starts-in : (s : List ℕ) (i b : ℕ) → starts b (drop i s) ≡ true → i < length s
unfolding starts
starts-in [] zero b e = absurd (true≢false (sym e))
starts-in [] (suc i) b e = absurd (true≢false (sym e))
starts-in (x ∷ l) zero b e = omega arith
starts-in (x ∷ l) (suc i) b e = let h = starts-in l i b e in omega arith

-- ## The two scans

pub plain-stop : (l : List ℕ) → stops l ≡ true → plain_size l ≡ 0
unfolding plain_size
plain-stop [] e = refl
plain-stop (x ∷ l) e = rw e

pub plain_step : (x : ℕ) (l : List ℕ) → stops (x ∷ l) ≡ false → plain_size (x ∷ l) ≡ suc (plain_size l)
unfolding plain_size
plain_step x l e = rw e

pub quoted-text : (x : ℕ) (l : List ℕ) → eqb x 34 ≡ false → quoted_size (x ∷ l) ≡ suc (quoted_size l)
unfolding quoted_size
quoted-text x [] e = rw e
quoted-text x (y ∷ l) e = rw e

pub quoted-twice : (l : List ℕ) → quoted_size (34 ∷ 34 ∷ l) ≡ suc (suc (quoted_size l))
unfolding quoted_size
quoted-twice l = refl

pub quoted-close : (l : List ℕ) → starts 34 l ≡ false → quoted_size (34 ∷ l) ≡ 0
unfolding quoted_size starts
quoted-close [] e = refl
quoted-close (y ∷ l) e = rw e

-- a byte is the quote, or is not
pub quote-or : {P : ℕ → Type 0} → P 34 → ((x : ℕ) → eqb x 34 ≡ false → P x) → (x : ℕ) → P x
quote-or {P} is not x = at x (eqb x 34) refl
  where
    at : (x : ℕ) (t : Bool) → eqb x 34 ≡ t → P x
    at x true e = rw (eqb-true x 34 e) is
    at x false e = not x e

ending_size-2 : (m : ℕ) → ending_size m ≤ 2
unfolding ending_size
ending_size-2 m = by (eqb m 1) (eqb m 2) (eqb m 3)
  where
    by : (a b c : Bool) → cond a 1 (cond b 1 (cond c 2 0)) ≤ 2
    by true b c = omega arith
    by false true c = omega arith
    by false false true = omega arith
    by false false false = omega arith

ending_size-1 : (a b c : Bool) → ending_size (cond a 1 (cond b 2 (cond c 30 30))) ≤ 1
unfolding ending_size
ending_size-1 true b c = omega arith
ending_size-1 false true c = omega arith
ending_size-1 false false true = omega arith
ending_size-1 false false false = omega arith

pub ending_size-fits : (l : List ℕ) → ending_size (ending l) ≤ length l
unfolding ending starts none ending_size
ending_size-fits [] = omega arith
ending_size-fits (x ∷ []) = ending_size-1 (eqb x 44) (eqb x 10) (eqb x 13)
ending_size-fits (x ∷ y ∷ l) = let h = ending_size-2 (ending (x ∷ y ∷ l)) in omega arith

above-goes : (x : ℕ) (l : List ℕ) → 44 < x → stops (x ∷ l) ≡ false
unfolding stops ending starts none
above-goes x l g = rw (ne_eqb x 34 (λ q. omega arith), ne_eqb x 44 (λ q. omega arith), ne_eqb x 10 (λ q. omega arith), ne_eqb x 13 (λ q. omega arith))

other-goes : (x : ℕ) (l : List ℕ) → (x ≡ 44 → ⊥) → (x ≡ 34 → ⊥) → (x ≡ 13 → ⊥) → (x ≡ 10 → ⊥) → stops (x ∷ l) ≡ false
unfolding stops ending starts none
other-goes x l comma quote return feed = rw (ne_eqb x 34 quote, ne_eqb x 44 comma, ne_eqb x 10 feed, ne_eqb x 13 return)

comma-stops : (l : List ℕ) → stops (44 ∷ l) ≡ true
unfolding stops ending starts
comma-stops l = refl

quote-stops : (l : List ℕ) → stops (34 ∷ l) ≡ true
unfolding stops starts
quote-stops l = refl

feed-stops : (l : List ℕ) → stops (10 ∷ l) ≡ true
unfolding stops ending starts
feed-stops l = refl

-- ## One step of a scan

module _ (s : List ℕ) (i : ℕ) where
  pub plain-next : i < length s → stops (drop i s) ≡ false → plain_size (drop i s) ≡ 1 + plain_size (drop (i + 1) s)
  plain-next h e = rw (add-one i, drop-cons s i 0) (plain_step _ _ (rw (drop-cons s i 0) at e) ∙ omega arith)

  pub plain-past : length s ≤ i → plain_size (drop i s) ≡ 0
  unfolding plain_size
  plain-past h = rw (drop_of_length-le s h)

-- a byte above the comma stops no plain cell
pub plain_above : (s : List ℕ) (i : ℕ) → i < length s → 44 < get_or s i 0 → plain_size (drop i s) ≡ 1 + plain_size (drop (i + 1) s)
plain_above s i h g = plain-next s i h (rw (drop-cons s i 0) (above-goes (get_or s i 0) (drop (suc i) s) g))

-- nor does another one that is neither comma, quote, CR nor LF
pub plain_other : (s : List ℕ) (i : ℕ) → i < length s → (get_or s i 0 ≡ 44 → ⊥) → (get_or s i 0 ≡ 34 → ⊥) → (get_or s i 0 ≡ 13 → ⊥) → (get_or s i 0 ≡ 10 → ⊥)
    → plain_size (drop i s) ≡ 1 + plain_size (drop (i + 1) s)
plain_other s i h a b c d = plain-next s i h (rw (drop-cons s i 0) (other-goes (get_or s i 0) (drop (suc i) s) a b c d))

pub plain_comma : (s : List ℕ) (i : ℕ) → i < length s → get_or s i 0 ≡ 44 → plain_size (drop i s) ≡ 0
plain_comma s i h e = plain-stop (drop i s) (rw (drop-cons s i 0, e) (comma-stops (drop (suc i) s)))

pub plain_quote : (s : List ℕ) (i : ℕ) → i < length s → get_or s i 0 ≡ 34 → plain_size (drop i s) ≡ 0
plain_quote s i h e = plain-stop (drop i s) (rw (drop-cons s i 0, e) (quote-stops (drop (suc i) s)))

pub plain_feed : (s : List ℕ) (i : ℕ) → i < length s → get_or s i 0 ≡ 10 → plain_size (drop i s) ≡ 0
plain_feed s i h e = plain-stop (drop i s) (rw (drop-cons s i 0, e) (feed-stops (drop (suc i) s)))

pub ruleset plain_steps = (plain-stop, plain-next, plain-past, plain_comma, plain_quote, plain_feed, plain_other)

text-first : (l : List ℕ) → 1 ≤ length l → (get_or l 0 0 ≡ 34 → ⊥) → quoted_size l ≡ 1 + quoted_size (drop 1 l)
text-first [] h n = absurd (omega arith)
text-first (x ∷ l) h n = quoted-text x l (ne_eqb x 34 n) ∙ omega arith

twice-first : (l : List ℕ) → 2 ≤ length l → get_or l 0 0 ≡ 34 → get_or l 1 0 ≡ 34 → quoted_size l ≡ 2 + quoted_size (drop 2 l)
twice-first [] h p q = absurd (omega arith)
twice-first (x ∷ []) h p q = absurd (omega arith)
twice-first (x ∷ y ∷ l) h p q = rw (p, q) (quoted-twice l ∙ omega arith)

module _ (s : List ℕ) (i : ℕ) where
  pub text-next : 1 ≤ length (drop i s) → (get_or (drop i s) 0 0 ≡ 34 → ⊥) → quoted_size (drop i s) ≡ 1 + quoted_size (drop (i + 1) s)
  text-next h n = rw (← drop-drop 1 i s) (text-first (drop i s) h n)

  pub twice-next : 2 ≤ length (drop i s) → get_or (drop i s) 0 0 ≡ 34 → get_or (drop i s) 1 0 ≡ 34 → quoted_size (drop i s) ≡ 2 + quoted_size (drop (i + 2) s)
  twice-next h p q = rw (← drop-drop 2 i s) (twice-first (drop i s) h p q)

pub quoted_none : (l : List ℕ) → length l < 1 → quoted_size l ≡ 0
unfolding quoted_size
quoted_none [] h = refl
quoted_none (x ∷ l) h = absurd (omega arith)

pub close-last : (l : List ℕ) → length l < 2 → get_or l 0 0 ≡ 34 → quoted_size l ≡ 0
unfolding quoted_size
close-last [] h p = refl
close-last (x ∷ []) h p = rw p
close-last (x ∷ y ∷ l) h p = absurd (omega arith)

pub close-here : (l : List ℕ) → get_or l 0 0 ≡ 34 → (get_or l 1 0 ≡ 34 → ⊥) → quoted_size l ≡ 0
unfolding quoted_size
close-here [] p n = refl
close-here (x ∷ []) p n = rw p
close-here (x ∷ y ∷ l) p n = rw (p, ne_eqb y 34 n)

pub ruleset quoted_steps = (text-next, twice-next, quoted_none, close-last, close-here, length-drop)

either : (t : Bool) (a b c : ℕ) → a ≤ c → b ≤ c → cond t a b ≤ c
either true a b c h g = h
either false a b c h g = g

pub plain_fits : (l : List ℕ) → plain_size l ≤ length l
unfolding plain_size
plain_fits [] = omega arith
plain_fits (x ∷ l) = either (stops (x ∷ l)) 0 (suc (plain_size l)) (suc (length l)) (omega arith) (omega (arith, plain_fits l))

pub quoted-fits : (l : List ℕ) → quoted_size l ≤ length l
unfolding quoted_size
quoted-fits [] = omega arith
quoted-fits (x ∷ []) = either (eqb x 34) 0 1 1 (omega arith) (omega arith)
quoted-fits (x ∷ y ∷ l) =
    either (eqb x 34) (cond (eqb y 34) (suc (suc (quoted_size l))) 0) (suc (quoted_size (y ∷ l))) (suc (suc (length l)))
    (either (eqb y 34) (suc (suc (quoted_size l))) 0 (suc (suc (length l))) (omega (arith, quoted-fits l)) (omega arith))
    (omega (arith, quoted-fits (y ∷ l)))

pub ruleset sizes_fit = (plain_fits, quoted-fits, length-drop)

pub ruleset ending_fits = (ending_size-fits, length-drop)

-- ## A whole cell

starts_quote : (l : List ℕ) → 1 ≤ length l → get_or l 0 0 ≡ 34 → starts 34 l ≡ true
unfolding starts
starts_quote [] h e = absurd (omega arith)
starts_quote (x ∷ l) h e = eq-eqb x 34 e

starts_other : (l : List ℕ) → (get_or l 0 0 ≡ 34 → ⊥) → starts 34 l ≡ false
unfolding starts
starts_other [] n = refl
starts_other (x ∷ l) n = ne_eqb x 34 n

starts_none : (l : List ℕ) → length l < 1 → starts 34 l ≡ false
unfolding starts
starts_none [] h = refl
starts_none (x ∷ l) h = absurd (omega arith)

-- what is left of a part from a place on
pub rest_from : (text rest : List ℕ) (start size : ℕ) → rest ≡ drop start text → take (length rest - size) (drop size rest) ≡ drop (start + size) text
rest_from text rest start size e = take_rest rest size ∙ ap (drop size) e ∙ drop-drop size start text

-- a quoted cell by the byte behind its text
module _ (text rest : List ℕ) (start size : ℕ) (is : rest ≡ drop start text) (sized : size ≡ quoted_size rest) where
  abbrev behind : List ℕ
  behind = take (length rest - size) (drop size rest)

  found_by : (b : Bool) → starts 34 behind ≡ b → starts 34 (drop (start + quoted_size (drop start text)) text) ≡ b
  found_by b e = rw (← is, ← sized, ← rest_from text rest start size is) e

  pub closed_yes : 1 ≤ length behind → get_or behind 0 0 ≡ 34 → finish text true start size (start + size + 1) ≡ closed text start (quoted_size (drop start text))
  unfolding closed
  closed_yes h e = let t = found_by true (starts_quote behind h e) in rw t (rw (← is, ← sized) refl)

  closed_by : starts 34 behind ≡ false
      → ◌≡◌ {A = Cell} (record { start = start; size = size; quoted = true; how = 30; next = start + size }) (closed text start (quoted_size (drop start text)))
  unfolding closed
  closed_by e = let t = found_by false e in rw t (rw (← is, ← sized) refl)

  pub closed_other : (get_or behind 0 0 ≡ 34 → ⊥)
      → ◌≡◌ {A = Cell} (record { start = start; size = size; quoted = true; how = 30; next = start + size }) (closed text start (quoted_size (drop start text)))
  closed_other n = closed_by (starts_other behind n)

  pub closed_none : length behind < 1
      → ◌≡◌ {A = Cell} (record { start = start; size = size; quoted = true; how = 30; next = start + size }) (closed text start (quoted_size (drop start text)))
  closed_none h = closed_by (starts_none behind h)

pub cell-quoted : (s : List ℕ) (at : ℕ) → starts 34 (drop at s) ≡ true → closed s (at + 1) (quoted_size (drop (at + 1) s)) ≡ cell_at s at
unfolding cell_at
cell-quoted s at t = rw t

pub cell-plain : (s : List ℕ) (at e : ℕ) → starts 34 (drop at s) ≡ false → e ≡ at + plain_size (drop at s) → finish s false at (e - at) e ≡ cell_at s at
unfolding cell_at
cell-plain s at e t is = let k : e - at ≡ plain_size (drop at s) = omega arith in rw (t, k, is)

-- a cell by its first byte
module _ (text rest : List ℕ) (at : ℕ) (is : rest ≡ drop at text) where
  pub quoted_found : 1 ≤ length rest → get_or rest 0 0 ≡ 34 → closed text (at + 1) (quoted_size (drop (at + 1) text)) ≡ cell_at text at
  quoted_found h e = cell-quoted text at (rw (← is) (starts_quote rest h e))

  plain_by : (size : ℕ) → size ≡ plain_size rest → starts 34 rest ≡ false → finish text false at size (at + size) ≡ cell_at text at
  unfolding cell_at
  plain_by size sized e = let t : starts 34 (drop at text) ≡ false = rw (← is) e in rw t (rw (← is, ← sized) refl)

  pub plain_found : (size : ℕ) → size ≡ plain_size rest → (get_or rest 0 0 ≡ 34 → ⊥) → finish text false at size (at + size) ≡ cell_at text at
  plain_found size sized n = plain_by size sized (starts_other rest n)

  pub none_found : (size : ℕ) → size ≡ plain_size rest → length rest < 1 → finish text false at size (at + size) ≡ cell_at text at
  none_found size sized h = plain_by size sized (starts_none rest h)
