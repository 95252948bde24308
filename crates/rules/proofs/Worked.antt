-- Kinds 17 and 18: cases worked by hand, computed from the definitions, and what holds for every count, Ta and e. Assumes nothing.
use mathlib.Core.Path.{◌≡◌, refl, ap}
use mathlib.Core.Bool.{Bool, true, false, not, cond, ◌&&◌, ◌||◌}
use mathlib.Core.List.{List, [], ◌∷◌}
use Prim.Native.Nat.{ℕ, zero, suc, ◌+◌, ◌-◌, ◌≤◌}
use native.Mathlib.Omega.{arith}
use borrow.Author.Tests.{leb-true, lt-leb, lt-ltb, le-ltb}
use lib.Dec.{leb, ltb, eqb}
use lib.IntN.{ℤ, pos}
use Rattle.words.specs.Signed.{over, bit_of, word_of}
use Rattle.kinds.specs.Kinds.{most_count}
use Rattle.kinds.specs.Time.{ticks}
use Rattle.kinds.specs.declared.Ticks.{Ticks}
use Rattle.rules.specs.declared.BlockWords.{BlockWords}
use Rattle.rules.specs.Rules.{three, tally, counts_on, up_down_counter, stands, is_dark, stairway_switch}

-- ---- the counter

-- "stops at 0 and 999,999"
pub tally-most : (r rises down : Bool) (n : ℕ) → n ≤ most_count → tally r rises down n ≤ most_count
tally-most true rises down n h = omega arith
tally-most false false down n h = h
tally-most false true false n h = omega arith
tally-most false true true n h = omega arith

pub record CounterCases : Type 0 where
  -- On = Off = 5
  pub from_on : (q : Bool) → counts_on (pos 5) (pos 5) (pos 5) q ≡ true
  pub below-off : (q : Bool) → counts_on (pos 4) (pos 5) (pos 5) q ≡ false
  -- On 5, Off 3: held between them
  pub between : (q : Bool) → counts_on (pos 4) (pos 5) (pos 3) q ≡ q
  -- On 3, Off 5: 1 from On up to Off, which is out
  pub before-window : (q : Bool) → counts_on (pos 2) (pos 3) (pos 5) q ≡ false
  pub from-window : (q : Bool) → counts_on (pos 3) (pos 3) (pos 5) q ≡ true
  pub after-window : (q : Bool) → counts_on (pos 5) (pos 3) (pos 5) q ≡ false
  -- the two stops
  pub stop-at-0 : tally false true true 0 ≡ 0
  pub up-to-most : tally false true false 999998 ≡ 999999
  pub stop-at-most : tally false true false 999999 ≡ 999999
  -- a rise under R is lost: Cnt, still 1 in the scan after it, does not rise
  pub lost : (down d was q : Bool) (n : ℕ) (p : List ℤ) → let w = up_down_counter true true down was q n p in (up_down_counter false true d (bit_of w.remembered) (bit_of w.output) (over w.number) p).number ≡ pos 0
  -- R does not decide Q: with On 0 it is 1, with Off 0 < On it is held
  pub on-0 : (cnt down was q : Bool) (n off : ℕ) → (up_down_counter true cnt down was q n (pos 0 ∷ pos off ∷ [])).output ≡ pos 1
  pub off-0 : (cnt down was q : Bool) (n : ℕ) → (up_down_counter true cnt down was q n (pos 5 ∷ pos 0 ∷ [])).output ≡ word_of q

from-0 : (q : Bool) (off : ℕ) → counts_on (pos 0) (pos 0) (pos off) q ≡ true
unfolding counts_on
from-0 q zero = refl
from-0 q (suc off) = simp (lt-leb (suc off) 0 (omega arith), lt-ltb 0 (suc off) (omega arith))

pub counter-cases : CounterCases
unfolding counts_on up_down_counter
counter-cases =
    record {
      from_on = λ q. refl;
      below-off = λ q. refl;
      between = λ q. refl;
      before-window = λ q. refl;
      from-window = λ q. refl;
      after-window = λ q. refl;
      stop-at-0 = refl;
      up-to-most = refl;
      stop-at-most = refl;
      lost = λ down d was q n p. refl;
      on-0 = λ cnt down was q n off. ap word_of (from-0 q off);
      off-0 = λ cnt down was q n. refl;
    }

-- ---- the stairway switch

-- Q of each scan, a scan for each Trg, e 1 in each; on T, T!, T!L and the words before
unfoldable pub lights : ℕ → ℕ → ℕ → BlockWords → List ℕ → List ℕ
lights t warning dark was [] = []
lights t warning dark was (trg ∷ rest) =
    let remembered = over was.remembered in
    let w = stairway_switch (eqb trg 1) (eqb remembered 1 || eqb remembered 3) (leb 2 remembered) (ticks (over was.number)) (ticks t) (ticks warning) (ticks dark) (ticks 1) in
    over w.output ∷ lights t warning dark w rest

-- from cold start
abbrev pub lit : ℕ → ℕ → ℕ → List ℕ → List ℕ
lit t warning dark trgs = lights t warning dark (three (pos 0) (pos 0) (pos 0)) trgs

pub record StairwayCases : Type 0 where
  -- T 6, T! 3, T!L 2, pressed again in the dark time
  pub pressed-again : lit 6 3 2 (1 ∷ 0 ∷ 0 ∷ 0 ∷ 0 ∷ 1 ∷ 0 ∷ 0 ∷ []) ≡ 1 ∷ 1 ∷ 1 ∷ 1 ∷ 0 ∷ 1 ∷ 1 ∷ 1 ∷ []
  -- T 3, T! 3, T!L 1: dark on the fall; once it has ended it stays so
  pub dark-on-the-fall : lit 3 3 1 (1 ∷ 0 ∷ 0 ∷ 0 ∷ 0 ∷ 0 ∷ []) ≡ 1 ∷ 0 ∷ 1 ∷ 1 ∷ 0 ∷ 0 ∷ []
  -- T 0: it ends on the fall
  pub at_once : lit 0 0 0 (1 ∷ 1 ∷ 0 ∷ 0 ∷ []) ≡ 1 ∷ 1 ∷ 0 ∷ 0 ∷ []

pub stairway-cases : StairwayCases
unfolding lights stairway_switch
stairway-cases = record { pressed-again = refl; dark-on-the-fall = refl; at_once = refl }

module _ (ta t warning dark e : Ticks) where
  -- running with Trg 1: Q 1, Ta 0
  pub lit-while-pressed : (was : Bool) → stairway_switch true was true ta t warning dark e ≡ stands true true true 0
  unfolding stairway_switch
  lit-while-pressed true = refl
  lit-while-pressed false = refl

  -- not running with Trg 0: Q and Ta 0
  pub out-when-idle : (was : Bool) → stairway_switch false was false ta t warning dark e ≡ stands false false false 0
  unfolding stairway_switch
  out-when-idle true = refl
  out-when-idle false = refl

  -- on the fall Ta is 0, whatever e is
  pub none-on-the-fall : (stairway_switch false true true ta t warning dark e).number ≡ pos 0
  unfolding stairway_switch
  none-on-the-fall = by (eqb 0 t.0)
    where
      by : (b : Bool) → (cond b (stands false false false 0) (stands (not (is_dark (ticks 0) t warning dark)) false true 0)).number ≡ pos 0
      by true = refl
      by false = refl

-- with T!L 0 it is never dark
pub never-dark : (ta t warning : Ticks) → is_dark ta t warning (ticks 0) ≡ false
never-dark ta t warning = by (leb (t.0 - warning.0) ta.0) refl
  where
    by : (b : Bool) → leb (t.0 - warning.0) ta.0 ≡ b → b && ltb ta.0 (t.0 - warning.0 + 0) ≡ false
    by true e = le-ltb ta.0 (t.0 - warning.0 + 0) (omega (arith, leb-true (t.0 - warning.0) ta.0 e))
    by false e = refl
