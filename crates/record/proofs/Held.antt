-- A sound record: the test and its facts. Assumes nothing.
use Prim.Native.Nat.{ℕ, ◌<◌}
use mathlib.Core.Path.{◌≡◌, refl}
use mathlib.Core.Bool.{Bool, true, false, ◌||◌}
use mathlib.Core.List.{List}
use lib.ListN.{length}
use lib.IntN.{ℤ}
use Rattle.words.proofs.Bounds.{and-true}
use Rattle.kinds.specs.Kinds.{In}
use Rattle.lines.specs.Lines.{Line}
use Rattle.record.specs.Places.{Place, size_of, index_of, word}
use Rattle.record.specs.Sound.{range_of, every, in_scan, at_rest, fits_at, sound}
use Rattle.record.proofs.Located.{Real, index_below, place-index}
use Rattle.record.proofs.Runs.{every-each, each-every}

-- a record of the right length whose words are in their ranges, at rest while waiting
pub record Sound (lines : List Line) (l : List ℤ) : Type 0 where
  pub long : length l ≡ size_of (length lines)
  pub words : (i : ℕ) → i < size_of (length lines) → fits_at lines l i ≡ true
  pub rest : in_scan l ≡ false → at_rest l ≡ true

or_right : (a b : Bool) → a || b ≡ true → a ≡ false → b ≡ true
or_right true b e f = cc
or_right false b e f = e

right_or : (a b : Bool) → (a ≡ false → b ≡ true) → a || b ≡ true
right_or true b h = refl
right_or false b h = h refl

module _ (lines : List Line) (l : List ℤ) where
  pub told : length l ≡ size_of (length lines) → sound lines l ≡ true → Sound lines l
  unfolding sound
  told h s =
      let both = and-true (every (size_of (length lines)) (fits_at lines l)) (in_scan l || at_rest l) s in
      record {
        long = h;
        words = every-each (size_of (length lines)) (fits_at lines l) both.0;
        rest = or_right (in_scan l) (at_rest l) both.1;
      }

  pub tested : Sound lines l → sound lines l ≡ true
  unfolding sound
  tested s = rw (each-every (size_of (length lines)) (fits_at lines l) s.words) (right_or (in_scan l) (at_rest l) s.rest)

  -- the word of a place is in its range
  pub word_in : Sound lines l → (p : Place) → Real (length lines) p → In (range_of lines p) (word l p)
  word_in s p r =
      let e = s.words (index_of p) (index_below (length lines) p r) in
      record { between = rw (place-index (length lines) p r) at e }
