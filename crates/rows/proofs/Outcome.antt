-- How reading a text can end, and what holds then: a row has the first fault, or none has and there are too many blocks, or no room, or
-- both are in order. Every promise on refusals goes by these four. Assumes nothing.
use mathlib.Core.Path.{◌≡◌, refl, ap, sym, ◌∙◌}
use mathlib.Core.Bool.{Bool, true, false, not}
use mathlib.Core.List.{List, [], ◌∷◌}
use Prim.Native.Nat.{ℕ, zero, suc, ◌+◌, ◌≤◌, ◌<◌}
use native.Mathlib.Omega.{arith}
use lib.Dec.{ltb}
use lib.ListN.{length, take, drop}
use lib.Seq.{take-append_seam, drop-append_seam}
use borrow.Author.Tests.{ltb-true, ltb-false, lt-ltb, le-ltb, ne_eqb}
use Rattle.refusals.specs.Faults.{lowest, ◌when◌}
use Rattle.refusals.specs.Answers.{refused_at, accepted_with}
use Rattle.refusals.specs.declared.Answer.{Answer}
use Rattle.refusals.proofs.Laws.{least-of-rising}
use Rattle.kept.specs.Keeps.{All}
use Rattle.rows.specs.Text.{TextRow, rows_of}
use Rattle.rows.specs.Columns.{row_faults, row_number, is_shaped, is_fit, shape_of}
use Rattle.rows.specs.Reading.{faulty, sound, reading_from, blocks_in, circuit_of, room_answer, answer_by, read_answer, laid_over, circuit_after}
use Rattle.rows.specs.Again.{Sound, FieldsRead, AcceptedAreFields, LowestOfRow, FirstFaulty, Outcome, of_row, many, short, enough, EveryTextAnswers, ManyExactly, NoRoomExactly}

-- ---- a row

pub row-lowest : LowestOfRow
unfolding row_number row_faults
row-lowest r = least-of-rising (row_faults r) refl

three-numbers : (a b c : Bool) (m : ℕ) → lowest (30 when a ∷ 31 when b ∷ 32 when c ∷ []) ≡ suc m → (30 ≤ suc m) × (suc m ≤ 32)
three-numbers true b c m e = (omega arith, omega arith)
three-numbers false true c m e = (omega arith, omega arith)
three-numbers false false true m e = (omega arith, omega arith)
three-numbers false false false m e = (omega arith, omega arith)

row_listed : (r : TextRow) (m : ℕ) → row_number r ≡ suc m → (30 ≤ suc m) × (suc m ≤ 32)
unfolding row_number row_faults
row_listed r m e =
    three-numbers (not r.whole) (not (is_shaped (shape_of r.cells) r.cells)) (not (is_fit (shape_of r.cells) r.cells)) m e

-- ---- the first row with a fault

reading-on : (k : ℕ) (r : TextRow) (l : List TextRow) → row_number r ≡ 0 → reading_from k (r ∷ l) ≡ reading_from (suc k) l
unfolding reading_from
reading-on k r l e = rw (e, reading_from)

reading-stop : (k : ℕ) (r : TextRow) (l : List TextRow) (m : ℕ) → row_number r ≡ suc m → reading_from k (r ∷ l) ≡ faulty (suc m) k
unfolding reading_from
reading-stop k r l m e = rw (e, reading_from)

reading-end : (k : ℕ) → reading_from k [] ≡ sound
unfolding reading_from
reading-end k = refl

pub reading-sound : (k : ℕ) (l : List TextRow) → All Sound l → reading_from k l ≡ sound
reading-sound k [] a = reading-end k
reading-sound k (r ∷ l) a = reading-on k r l a.0 ∙ reading-sound (suc k) l a.1

-- either no row of a list has a fault, or one is the first
data Judged (k : ℕ) (l : List TextRow) : Type 0 where
  none : All Sound l → Judged k l
  first : (number place : ℕ) → FirstFaulty l number place → reading_from (suc k) l ≡ faulty number (k + place) → Judged k l

judged-more : (k : ℕ) (r : TextRow) (l : List TextRow) → row_number r ≡ 0 → Judged (suc k) l → Judged k (r ∷ l)
judged-more k r l z (none a) = none (z, a)
judged-more k r l z (first number place f q) =
    let p : suc k + place ≡ k + suc place = omega arith in
    first number (suc place)
    (record {
      earlier = r ∷ f.earlier;
      row = f.row;
      later = f.later;
      all = ap (λ (m : List TextRow). r ∷ m) f.all;
      sound = (z, f.sound);
      number_is = f.number_is;
      faulty = f.faulty;
      listed = f.listed;
      place_is = ap suc f.place_is;
    })
    (reading-on (suc k) r l z ∙ q ∙ ap (faulty number) p)

judged : (k : ℕ) (l : List TextRow) → Judged k l
judged k [] = none tt
judged k (r ∷ l) = by (judged (suc k) l) (row_number r) refl
  where
    by : Judged (suc k) l → (n : ℕ) → row_number r ≡ n → Judged k (r ∷ l)
    by rest zero e = judged-more k r l e rest
    by rest (suc m) e =
        let range = row_listed r m e in
        let p : suc k ≡ k + 1 = omega arith in
        first (suc m) 1
        (record {
          earlier = [];
          row = r;
          later = l;
          all = refl;
          sound = tt;
          number_is = sym e;
          faulty = range.0;
          listed = range.1;
          place_is = refl;
        })
        (reading-stop (suc k) r l m e ∙ ap (faulty (suc m)) p)

-- ---- blocks and room

pub room-many : (rows : List TextRow) (room : ℕ) → 400 < blocks_in rows → room_answer rows room ≡ refused_at 34 0
unfolding room_answer
room-many rows room h = rw (lt-ltb 400 (blocks_in rows) h)

pub room-short : (rows : List TextRow) (room : ℕ) → blocks_in rows ≤ 400 → room < length (circuit_of rows)
    → room_answer rows room ≡ refused_at 33 0
unfolding room_answer
room-short rows room h k = rw (le-ltb 400 (blocks_in rows) h, lt-ltb room (length (circuit_of rows)) k)

pub room-enough : (rows : List TextRow) (room : ℕ) → blocks_in rows ≤ 400 → length (circuit_of rows) ≤ room
    → room_answer rows room ≡ accepted_with (length (circuit_of rows)) (length rows)
unfolding room_answer
room-enough rows room h k = rw (le-ltb 400 (blocks_in rows) h, le-ltb room (length (circuit_of rows)) k)

pub answer-sound : (text : List ℕ) (room : ℕ) → All Sound (rows_of text) → read_answer text room ≡ room_answer (rows_of text) room
unfolding read_answer answer_by
answer-sound text room a = rw (reading-sound 1 (rows_of text) a)

answer-faulty : (text : List ℕ) (room number place : ℕ) → reading_from 1 (rows_of text) ≡ faulty number (0 + place)
    → read_answer text room ≡ refused_at number place
unfolding read_answer answer_by
answer-faulty text room number place e = let z : 0 + place ≡ place = omega arith in rw (e, z)

-- ---- the four ways

pub outcome : EveryTextAnswers
outcome text room = by (judged 0 (rows_of text))
  where
    fits : All Sound (rows_of text) → blocks_in (rows_of text) ≤ 400 → (t : Bool) → ltb room (length (circuit_of (rows_of text))) ≡ t → Outcome text room
    fits a h true e =
        let k = ltb-true room (length (circuit_of (rows_of text))) e in
        short a h k (answer-sound text room a ∙ room-short (rows_of text) room h k)
    fits a h false e =
        let k = ltb-false room (length (circuit_of (rows_of text))) e in
        enough a h k (answer-sound text room a ∙ room-enough (rows_of text) room h k)

    counted : All Sound (rows_of text) → (t : Bool) → ltb 400 (blocks_in (rows_of text)) ≡ t → Outcome text room
    counted a true e =
        let h = ltb-true 400 (blocks_in (rows_of text)) e in
        many a h (answer-sound text room a ∙ room-many (rows_of text) room h)
    counted a false e = fits a (ltb-false 400 (blocks_in (rows_of text)) e) (ltb room (length (circuit_of (rows_of text)))) refl

    by : Judged 0 (rows_of text) → Outcome text room
    by (none a) = counted a (ltb 400 (blocks_in (rows_of text))) refl
    by (first number place f q) = of_row number place f (answer-faulty text room number place q)

-- ---- the promises

pub number_of : (a b : Answer) → a ≡ b → a.number ≡ b.number
number_of a b e = ap (λ (x : Answer). x.number) e

pub many-exactly : ManyExactly
many-exactly text room = (λ e. by e (outcome text room), λ x. number_of _ _ (answer-sound text room x.0 ∙ room-many (rows_of text) room x.1))
  where
    by : (read_answer text room).number ≡ 34 → Outcome text room → All Sound (rows_of text) × (400 < blocks_in (rows_of text))
    by e (of_row number place f q) = let n = number_of _ _ q in let top = f.listed in absurd (omega arith)
    by e (many a h q) = (a, h)
    by e (short a h k q) = let n = number_of _ _ q in absurd (omega arith)
    by e (enough a h k q) = let n = number_of _ _ q in absurd (omega arith)

pub no-room-exactly : NoRoomExactly
no-room-exactly text room =
    (λ e. by e (outcome text room), λ x. number_of _ _ (answer-sound text room x.0 ∙ room-short (rows_of text) room x.1 x.2))
  where
    by : (read_answer text room).number ≡ 33 → Outcome text room
        → All Sound (rows_of text) × (blocks_in (rows_of text) ≤ 400) × (room < length (circuit_of (rows_of text)))
    by e (of_row number place f q) = let n = number_of _ _ q in let top = f.listed in absurd (omega arith)
    by e (many a h q) = let n = number_of _ _ q in absurd (omega arith)
    by e (short a h k q) = (a, h, k)
    by e (enough a h k q) = let n = number_of _ _ q in absurd (omega arith)

-- what is left where it is accepted, and where not
pub after-accepted : (text lent : List ℕ) → (read_answer text (length lent)).number ≡ 0 → circuit_after text lent ≡ laid_over (circuit_of (rows_of text)) lent
unfolding circuit_after
after-accepted text lent e = rw e

pub after-refused : (text lent : List ℕ) → ((read_answer text (length lent)).number ≡ 0 → ⊥) → circuit_after text lent ≡ lent
unfolding circuit_after
after-refused text lent n = rw (ne_eqb (read_answer text (length lent)).number 0 n)

-- bytes behind stay, and before them stand those that were laid over
laid-behind : (bytes lent : List ℕ) → drop (length bytes) (laid_over bytes lent) ≡ drop (length bytes) lent
unfolding laid_over
laid-behind bytes lent = drop-append_seam bytes (drop (length bytes) lent)

pub laid-first : (bytes lent : List ℕ) → take (length bytes) (laid_over bytes lent) ≡ bytes
unfolding laid_over
laid-first bytes lent = take-append_seam bytes (drop (length bytes) lent)

pub fields_read : AcceptedAreFields
unfolding circuit_of
fields_read text lent e = by (outcome text (length lent))
  where
    fields : List ℕ
    fields = circuit_of (rows_of text)

    by : Outcome text (length lent) → FieldsRead text lent
    by (of_row number place f q) = let n = number_of _ _ q in let low = f.faulty in absurd (omega arith)
    by (many a h q) = let n = number_of _ _ q in absurd (omega arith)
    by (short a h k q) = let n = number_of _ _ q in absurd (omega arith)
    by (enough a h k q) =
        let after = after-accepted text lent e in
        let first : (read_answer text (length lent)).first ≡ length fields = ap (λ (x : Answer). x.first) q in
        record {
          behind = rw (after, first) (laid-behind fields lent);
          fields = rw (after, first) (laid-first fields lent);
          within = rw first k;
          second = ap (λ (x : Answer). x.second) q;
          sound = a;
          few = h;
        }
