-- The walk over the cells of a row: what is held agrees with the cells that were passed, and the row is those cells and what the
-- definition finds from there on. Assumes nothing.
use mathlib.Core.Path.{◌≡◌, refl, ap, sym, ◌∙◌}
use mathlib.Core.Bool.{Bool, true, false, cond, false≢true}
use mathlib.Core.List.{List, [], ◌∷◌, ◌++◌, map, append_assoc, map-append}
use Prim.Native.Nat.{ℕ, zero, suc, ◌+◌, ◌-◌, ◌≤◌, ◌<◌}
use native.Mathlib.Omega.{arith}
use lib.Dec.{eqb, ltb}
use lib.ListN.{length, get_or, set, take, drop, length-drop, length-append, length-set, length-map, get_or-append}
use lib.Seq.{get_or-set_same, get_or-set_other, get_or_at}
use borrow.Author.Tests.{ltb-true, ltb-false, lt-ltb, eqb-true, eqb-false, eq-eqb, ne_eqb}
use Rattle.cells.specs.Cells.{Cell}
use Rattle.cells.specs.declared.Ending.{Ending}
use Rattle.cells.specs.declared.Ending.TheVariants.{Text, Comma, Lf, Crlf, Broken}
use Rattle.cells.specs.Cells.{ending_of, starts, none, ending, ending_size, plain_size, quoted_size, finish, closed, cell_at, undouble, content}
use Rattle.cells.proofs.Laws.{cell-quoted, cell-plain}
use Rattle.cells.proofs.Within.{Within, cell-within}
use Rattle.digits.specs.Numbers.{number_of}
use Rattle.rows.specs.Text.{Split, split_after, split_from, split_at}
use Rattle.rows.specs.Columns.{nth}
use Rattle.rows.proofs.Text.{split_step}
use Rattle.rows.proofs.Said.{undouble-number}
use Rattle.std.specs.Prelude.{None}
use Rattle.splitting.specs.Found.{found_of, content_in, text_in, Lies, Says, said_at, Finds}

-- ---- one cell more is held, if it is one of the first sixteen

abbrev pub held : List ℕ → ℕ → ℕ → List ℕ
held l k v = cond (ltb k 16) (set l k v) l

module _ (l : List ℕ) (k v : ℕ) where
  pub held-long : length (held l k v) ≡ length l
  held-long = by (ltb k 16)
    where
      by : (t : Bool) → length (cond t (set l k v) l) ≡ length l
      by true = length-set l k v
      by false = refl

  pub held_at : length l ≡ 16 → k < 16 → get_or (held l k v) k 0 ≡ v
  held_at n h = rw (lt-ltb k 16 h) (get_or-set_same l k v 0 (omega arith))

  pub held-other : (j : ℕ) → j < k → get_or (held l k v) j 0 ≡ get_or l j 0
  held-other j h = by (ltb k 16)
    where
      by : (t : Bool) → get_or (cond t (set l k v) l) j 0 ≡ get_or l j 0
      by true = get_or-set_other l k j v 0 (λ e. omega arith)
      by false = refl

-- ---- what is held agrees with the cells that were passed

pub record Passed (s starts sizes : List ℕ) (cells : List Cell) : Type 0 where
  pub starts-long : length starts ≡ 16
  pub sizes-long : length sizes ≡ 16
  pub lie : (j : ℕ) → j < length cells → j < 16 → Lies s starts sizes j
  pub says : Says s starts sizes (map (content s) cells)

-- quotes do not change what a cell says as a number
content-number : (s : List ℕ) (c : Cell) (below above : ℕ) → number_of below above (take c.size (drop c.start s)) ≡ number_of below above (content s c)
unfolding content
content-number s c below above = by c.quoted
  where
    by : (t : Bool) → number_of below above (take c.size (drop c.start s)) ≡ number_of below above (cond t (undouble (take c.size (drop c.start s))) (take c.size (drop c.start s)))
    by true = sym (undouble-number below above (take c.size (drop c.start s)))
    by false = refl

pub content-in : (s : List ℕ) (c : Cell) → content s c ≡ content_in s c.start c.size c.quoted
unfolding content content_in
content-in s c = refl

module _ (s : List ℕ) (cells : List Cell) (c : Cell) where
  longer : length (cells ++ (c ∷ [])) ≡ length cells + 1
  longer = length-append cells (c ∷ [])

  nth-before : (j : ℕ) → j < length cells → nth (map (content s) (cells ++ (c ∷ []))) j ≡ nth (map (content s) cells) j
  nth-before j h =
      rw (map-append) (get_or-append (map (content s) cells) (content s c ∷ []) [] j (rw length-map h))

  pub nth_last : (k : ℕ) → length cells ≡ k → nth (map (content s) (cells ++ (c ∷ []))) k ≡ content s c
  nth_last k e = rw (map-append) (get_or_at (map (content s) cells) (content s c) [] [] k (length-map cells (content s) ∙ e))

module _ (s starts sizes : List ℕ) (cells : List Cell) (k : ℕ) (many : length cells ≡ k) (p : Passed s starts sizes cells) (c : Cell) (inside : c.start + c.size ≤ length s) where
  text-before : (j : ℕ) → j < k → text_in s (held starts k c.start) (held sizes k c.size) j ≡ text_in s starts sizes j
  text-before j h = rw (held-other starts k c.start j h, held-other sizes k c.size j h)

  text-last : k < 16 → text_in s (held starts k c.start) (held sizes k c.size) k ≡ take c.size (drop c.start s)
  text-last h = rw (held_at starts k c.start p.starts-long h, held_at sizes k c.size p.sizes-long h)

  lies_more : (j : ℕ) → j < length (cells ++ (c ∷ [])) → j < 16 → (t : Bool) → ltb j k ≡ t → Lies s (held starts k c.start) (held sizes k c.size) j
  lies_more j h few true e =
      let b : j < k = ltb-true j k e in
      let l = p.lie j (omega arith) few in
      record {
        few = few;
        starts-long = held-long starts k c.start ∙ p.starts-long;
        sizes-long = held-long sizes k c.size ∙ p.sizes-long;
        inside = rw (held-other starts k c.start j b, held-other sizes k c.size j b) l.inside;
      }
  lies_more j h few false e =
      let b : j ≡ k = omega (arith, ltb-false j k e, longer s cells c) in
      let f : k < 16 = omega arith in
      record {
        few = few;
        starts-long = held-long starts k c.start ∙ p.starts-long;
        sizes-long = held-long sizes k c.size ∙ p.sizes-long;
        inside = rw (b, held_at starts k c.start p.starts-long f, held_at sizes k c.size p.sizes-long f) inside;
      }

  says-more : (j below above : ℕ) → j < length (map (content s) (cells ++ (c ∷ []))) → j < 16 → (t : Bool) → ltb j k ≡ t
      → number_of below above (text_in s (held starts k c.start) (held sizes k c.size) j) ≡ number_of below above (nth (map (content s) (cells ++ (c ∷ []))) j)
  says-more j below above h few true e =
      let b : j < k = ltb-true j k e in
      ap (number_of below above) (text-before j b)
      ∙ p.says.same j below above (omega (arith, length-map cells (content s))) few
      ∙ sym (ap (number_of below above) (nth-before s cells c j (omega arith)))
  says-more j below above h few false e =
      let b : j ≡ k = omega (arith, ltb-false j k e, longer s cells c, length-map (cells ++ (c ∷ [])) (content s)) in
      let f : k < 16 = omega arith in
      rw b
      (ap (number_of below above) (text-last f) ∙ content-number s c below above
      ∙ sym (ap (number_of below above) (nth_last s cells c k many)))

  pub passed-more : Passed s (held starts k c.start) (held sizes k c.size) (cells ++ (c ∷ []))
  passed-more =
      record {
        starts-long = held-long starts k c.start ∙ p.starts-long;
        sizes-long = held-long sizes k c.size ∙ p.sizes-long;
        lie = λ j h few. lies_more j h few (ltb j k) refl;
        says = record { same = λ j below above h few. says-more j below above h few (ltb j k) refl };
      }

-- ---- a row is the cells that were passed, and what follows

abbrev pub behind : List Cell → Split → Split
behind cells rest = record { cells = cells ++ rest.cells; whole = rest.whole; next = rest.next }

after-comma : (c : Cell) (rest : Split) → c.how ≡ 1 → split_after c rest ≡ behind (c ∷ []) rest
unfolding split_after
after-comma c rest e = rw (eq-eqb c.how 1 e, split_after)

after-broken : (c : Cell) (rest : Split) → c.how ≡ 30 → split_after c rest ≡ record { cells = c ∷ []; whole = false; next = c.next }
unfolding split_after
after-broken c rest e =
    let n : c.how ≡ 1 → ⊥ = λ q. omega arith in
    rw (ne_eqb c.how 1 n, split_after, eq-eqb c.how 30 e)

after-end : (c : Cell) (rest : Split) → (c.how ≡ 1 → ⊥) → (c.how ≡ 30 → ⊥) → split_after c rest ≡ record { cells = c ∷ []; whole = true; next = c.next }
unfolding split_after
after-end c rest n m = rw (ne_eqb c.how 1 n, split_after, ne_eqb c.how 30 m)

behind_more : (cells : List Cell) (c : Cell) (rest : Split) → behind cells (behind (c ∷ []) rest) ≡ behind (cells ++ (c ∷ [])) rest
behind_more cells c rest = rw append_assoc

-- ---- a cell that ends with the text

text-goes-on : (a b c d : Bool) → ◌≡◌ {A = ℕ} (cond a 1 (cond b 2 (cond c (cond d 3 30) 30))) 0 → ⊥
text-goes-on true b c d e = omega arith
text-goes-on false true c d e = omega arith
text-goes-on false false true true e = omega arith
text-goes-on false false true false e = omega arith
text-goes-on false false false d e = omega arith

none-left : (l : List ℕ) → ending l ≡ 0 → length l ≡ 0
unfolding ending starts none
none-left [] z = refl
none-left (x ∷ l) z = absurd (text-goes-on (eqb x 44) (eqb x 10) (eqb x 13) (starts 10 l) z)

text-ends : (s : List ℕ) (e : ℕ) → ending (drop e s) ≡ 0 → length s ≤ e
text-ends s e z = omega (arith, none-left (drop e s) z, length-drop e s)

abbrev Ends : List ℕ → Cell → Type 0
Ends s c = c.how ≡ 0 → length s ≤ c.next

finish-ends : (s : List ℕ) (q : Bool) (from size e : ℕ) → Ends s (finish s q from size e)
unfolding finish
finish-ends s q from size e z = omega (arith, text-ends s e z)

closed-ends : (s : List ℕ) (from size : ℕ) → Ends s (closed s from size)
unfolding closed
closed-ends s from size = by (starts 34 (drop (from + size) s)) refl
  where
    by : (t : Bool) → starts 34 (drop (from + size) s) ≡ t → Ends s (closed s from size)
    by true e = rw e (finish-ends s true from size (from + size + 1))
    by false e = rw e (λ z. absurd (omega arith))

cell-ends : (s : List ℕ) (at : ℕ) (c : Cell) → c ≡ cell_at s at → Ends s c
cell-ends s at c is = by (starts 34 (drop at s)) refl
  where
    by : (t : Bool) → starts 34 (drop at s) ≡ t → Ends s c
    by true e = rw (is, ← cell-quoted s at e) (closed-ends s (at + 1) (quoted_size (drop (at + 1) s)))
    by false e =
        let n = plain_size (drop at s) in
        rw (is, ← cell-plain s at (at + n) e refl) (finish-ends s false at ((at + n) - at) (at + n))

-- how the code tells an ending

pub comma_is : (e : Ending) → e ≡ Comma → ending_of e ≡ 1
comma_is e q = rw q

pub broken_is : (e : Ending) → e ≡ Broken → ending_of e ≡ 30
broken_is e q = rw q

pub others_end : (e : Ending) → (e ≡ Comma → ⊥) → (e ≡ Broken → ⊥) → (ending_of e ≡ 1 → ⊥) × (ending_of e ≡ 30 → ⊥)
others_end Text n m = (λ q. omega arith, λ q. omega arith)
others_end Comma n m = absurd (n refl)
others_end Lf n m = (λ q. omega arith, λ q. omega arith)
others_end Crlf n m = (λ q. omega arith, λ q. omega arith)
others_end Broken n m = absurd (m refl)

-- ---- the walk

-- a walk has come to a position, with k cells passed
pub record Walked (s : List ℕ) (at : ℕ) (starts sizes : List ℕ) (k cursor : ℕ) : Type 0 where
  pub cells : List Cell
  pub fuel : ℕ
  pub many : length cells ≡ k
  pub passed : Passed s starts sizes cells
  pub from : at + k ≤ cursor
  pub inside : cursor ≤ length s
  pub enough : length s ≤ cursor + fuel
  pub row : split_at s at ≡ behind cells (split_from (suc fuel) s cursor)

pub walk-starts : (s : List ℕ) (at : ℕ) (starts sizes : List ℕ) → at ≤ length s → length starts ≡ 16 → length sizes ≡ 16 → Walked s at starts sizes 0 at
walk-starts s at starts sizes h a b =
    record {
      cells = [];
      fuel = length s;
      many = refl;
      passed =
          record {
            starts-long = a;
            sizes-long = b;
            lie = λ j h few. absurd (omega arith);
            says = record { same = λ j below above h few. absurd (omega arith) };
          };
      from = omega arith;
      inside = h;
      enough = omega arith;
      row = refl;
    }

module _ (s : List ℕ) (at : ℕ) (starts sizes : List ℕ) (k cursor : ℕ) (w : Walked s at starts sizes k cursor) (c : Cell) (is : c ≡ cell_at s cursor) where
  pub cell-inside : Within s cursor c
  cell-inside = rw is (cell-within s cursor w.inside)

  row_on : split_at s at ≡ behind w.cells (split_after c (split_from w.fuel s c.next))
  row_on = w.row ∙ ap (behind w.cells) (split_step w.fuel s cursor ∙ ap (λ (d : Cell). split_after d (split_from w.fuel s d.next)) (sym is))

  pub more : Passed s (held starts k c.start) (held sizes k c.size) (w.cells ++ (c ∷ []))
  more = passed-more s starts sizes w.cells k w.many w.passed c cell-inside.text

  -- a comma takes the walk on
  comma-size : c.how ≡ 1 → 0 < ending_size c.how
  comma-size e = cell-inside.ends (λ q. omega arith) (λ q. omega arith)

  pub comma-moves : c.how ≡ 1 → cursor < c.next
  comma-moves e = omega (arith, comma-size e, cell-inside.moves)

  pub walks-on : c.how ≡ 1 → Walked s at (held starts k c.start) (held sizes k c.size) (k + 1) c.next
  walks-on e = by w.fuel refl
    where
      by : (f : ℕ) → w.fuel ≡ f → Walked s at (held starts k c.start) (held sizes k c.size) (k + 1) c.next
      by zero q = absurd (omega (arith, comma-moves e, cell-inside.inside, w.enough))
      by (suc f) q =
          record {
            cells = w.cells ++ (c ∷ []);
            fuel = f;
            many = omega (arith, length-append w.cells (c ∷ []), w.many);
            passed = more;
            from = omega (arith, comma-moves e, w.from);
            inside = cell-inside.inside;
            enough = omega (arith, comma-moves e, w.enough);
            row =
                row_on ∙ ap (behind w.cells) (after-comma c (split_from w.fuel s c.next) e)
                ∙ behind_more w.cells c (split_from w.fuel s c.next)
                ∙ ap (λ (n : ℕ). behind (w.cells ++ (c ∷ [])) (split_from n s c.next)) q;
          }

  -- a cell that is none ends it
  pub walk-breaks : c.how ≡ 30 → Finds s at (found_of None) (held starts k c.start) (held sizes k c.size)
  walk-breaks e =
      record {
        whole = sym (ap (λ (x : Split). x.whole) (row_on ∙ ap (behind w.cells) (after-broken c (split_from w.fuel s c.next) e)));
        starts-long = more.starts-long;
        sizes-long = more.sizes-long;
        some = omega arith;
        count = λ z. absurd (false≢true z);
        lie = λ z. absurd (false≢true z);
        says = λ z. absurd (false≢true z);
        last = λ z. absurd (false≢true z);
        next = λ z. absurd (false≢true z);
        on = λ z. absurd (false≢true z);
        inside = λ z. absurd (false≢true z);
      }

  -- any other ends the row
  ends-row : (c.how ≡ 1 → ⊥) → (c.how ≡ 30 → ⊥) → split_at s at ≡ record { cells = w.cells ++ (c ∷ []); whole = true; next = c.next }
  ends-row n m = row_on ∙ ap (behind w.cells) (after-end c (split_from w.fuel s c.next) n m)

  passes : at < length s → (c.how ≡ 30 → ⊥) → at < c.next
  passes h m = by (eqb c.how 0) refl
    where
      by : (t : Bool) → eqb c.how 0 ≡ t → at < c.next
      by true e = omega (arith, cell-ends s cursor c is (eqb-true c.how 0 e))
      by false e = omega (arith, cell-inside.ends (eqb-false c.how 0 e) m, cell-inside.moves, w.from)

  pub walk_ends : at < length s → (c.how ≡ 1 → ⊥) → (c.how ≡ 30 → ⊥)
      → Finds s at (record { count = k + 1; whole = true; quoted = c.quoted; next = c.next }) (held starts k c.start) (held sizes k c.size)
  walk_ends h n m =
      let e = ends-row n m in
      let many : length (w.cells ++ (c ∷ [])) ≡ k + 1 = omega (arith, length-append w.cells (c ∷ []), w.many) in
      let same : said_at s at ≡ map (content s) (w.cells ++ (c ∷ [])) = ap (λ (x : Split). map (content s) x.cells) e in
      let less : k + 1 - 1 ≡ k = omega arith in
      record {
        whole = sym (ap (λ (x : Split). x.whole) e);
        starts-long = more.starts-long;
        sizes-long = more.sizes-long;
        some = omega arith;
        count = λ z. sym (ap length same ∙ length-map (w.cells ++ (c ∷ [])) (content s) ∙ many);
        lie = λ z j b few. more.lie j (omega arith) few;
        says = λ z. rw same more.says;
        last = λ z few. last-is many same (omega arith);
        next = λ z. sym (ap (λ (x : Split). x.next) e);
        on = λ z. passes h m;
        inside = λ z. cell-inside.inside;
      }
    where
      last-is : length (w.cells ++ (c ∷ [])) ≡ k + 1 → said_at s at ≡ map (content s) (w.cells ++ (c ∷ [])) → k < 16
          → nth (said_at s at) (k + 1 - 1)
          ≡ content_in s (get_or (held starts k c.start) (k + 1 - 1) 0) (get_or (held sizes k c.size) (k + 1 - 1) 0) c.quoted
      last-is many same few =
          let less : k + 1 - 1 ≡ k = omega arith in
          rw (same, less, held_at starts k c.start w.passed.starts-long few, held_at sizes k c.size w.passed.sizes-long few)
          (nth_last s w.cells c k w.many ∙ content-in s c)
