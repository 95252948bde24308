-- Document 01, "Run record and outputs": where each word of the run record stands. Nothing else writes a word's place as a number.
use Rattle.std.specs.Prelude.{ℕ, zero, suc, ◌+◌, ◌-◌, ◌*◌, ◌/◌, ◌%◌, cond, List, [], ◌∷◌, ltb, get_or, set, ℤ, pos}
use Rattle.rules.specs.Rules.{three}
use Rattle.rules.specs.declared.BlockWords.{BlockWords}

-- "phase .., blocks done, first-scan mark, e; inputs I1..I24, then the eight analog inputs; M1..M64; AM1..AM64; three for each block".
-- All count from 1, but the three words of a block from 0
pub data Place : Type 0 where
  phase : Place
  done : Place
  mark : Place
  elapsed : Place
  input : ℕ → Place
  analog : ℕ → Place
  flag : ℕ → Place
  analog_flag : ℕ → Place
  block : ℕ → ℕ → Place

-- "three for each block: output, remembered bit .., number"
abbrev pub output : ℕ → Place
output k = block k 0

abbrev pub remembered : ℕ → Place
remembered k = block k 1

abbrev pub number : ℕ → Place
number k = block k 2

-- the block whose word stands at a place, 0 for none
abbrev pub owner : Place → ℕ
owner phase = 0
owner done = 0
owner mark = 0
owner elapsed = 0
owner (input k) = 0
owner (analog k) = 0
owner (flag k) = 0
owner (analog_flag k) = 0
owner (block k j) = k

-- "exactly 164 + 3n"
abbrev pub size_of : ℕ → ℕ
size_of n = 164 + 3 * n

-- where the word of a place stands
unfoldable pub index_of : Place → ℕ
index_of phase = 0
index_of done = 1
index_of mark = 2
index_of elapsed = 3
index_of (input k) = 3 + k
index_of (analog k) = 27 + k
index_of (flag k) = 35 + k
index_of (analog_flag k) = 99 + k
index_of (block k j) = 161 + 3 * k + j

-- and back: the place of the word that stands there
abbrev pub head_place : ℕ → Place
head_place zero = phase
head_place (suc zero) = done
head_place (suc (suc zero)) = mark
head_place (suc (suc (suc i))) = elapsed

unfoldable pub place_of : ℕ → Place
place_of i =
    cond (ltb i 4) (head_place i)
    (cond (ltb i 28) (input (i - 3))
    (cond (ltb i 36) (analog (i - 27))
    (cond (ltb i 100) (flag (i - 35))
    (cond (ltb i 164) (analog_flag (i - 99))
    (block ((i - 164) / 3 + 1) ((i - 164) % 3))))))

-- ---- reading and writing

-- the word that stands at an index, 0 past the end
abbrev pub at : List ℤ → ℕ → ℤ
at l i = get_or l i (pos 0)

abbrev pub word : List ℤ → Place → ℤ
word l p = at l (index_of p)

abbrev pub put : List ℤ → Place → ℤ → List ℤ
put l p z = set l (index_of p) z

-- the three words of block k
abbrev pub words_of : List ℤ → ℕ → BlockWords
words_of l k = three (word l (output k)) (word l (remembered k)) (word l (number k))

abbrev pub put_words : List ℤ → ℕ → BlockWords → List ℤ
put_words l k w = put (put (put l (output k) w.output) (remembered k) w.remembered) (number k) w.number

-- each word becomes what f makes of it, by its place
unfoldable pub change_from : ℕ → (Place → ℤ → ℤ) → List ℤ → List ℤ
change_from i f [] = []
change_from i f (z ∷ l) = f (place_of i) z ∷ change_from (i + 1) f l

abbrev pub change : (Place → ℤ → ℤ) → List ℤ → List ℤ
change f l = change_from 0 f l
