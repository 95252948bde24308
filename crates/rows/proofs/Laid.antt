-- A run of stores from the start of a lent slice lays the bytes over it; runs that follow one another are one. Assumes nothing.
use mathlib.Core.Path.{◌≡◌, refl, ap, ◌∙◌}
use mathlib.Core.List.{List, [], ◌∷◌, ◌++◌}
use Prim.Native.Nat.{ℕ, suc, ◌+◌, ◌≤◌, ◌<◌}
use native.Mathlib.Nat.{add-zero}
use native.Mathlib.Omega.{arith}
use lib.ListN.{length, set}
use lib.Seq.{sets, sets-eq, set_comm}
use Rattle.rows.specs.Reading.{laid_over}

pub sets-append : (a b l : List ℕ) (at : ℕ) → sets l at (a ++ b) ≡ sets (sets l at a) (at + length a) b
sets-append [] b l at = rw add-zero
sets-append (x ∷ a) b l at =
    let n : at + suc (length a) ≡ suc at + length a = omega arith in
    rw n (sets-append a b (set l at x) (suc at))

-- a store before a run of stores may come behind it
set_before : (vs l : List ℕ) (at i x : ℕ) → i < at → set (sets l at vs) i x ≡ sets (set l i x) at vs
set_before [] l at i x h = refl
set_before (v ∷ vs) l at i x h =
    let o : at ≡ i → ⊥ = λ q. omega arith in
    set_before vs (set l at v) (suc at) i x (omega arith) ∙ ap (λ (m : List ℕ). sets m (suc at) vs) (set_comm l at i v x o)

-- of two runs of stores that do not meet either may come first
pub sets-comm : (hs vs l : List ℕ) (to at : ℕ) → to + length hs ≤ at → sets (sets l at vs) to hs ≡ sets (sets l to hs) at vs
sets-comm [] vs l to at h = refl
sets-comm (x ∷ hs) vs l to at h =
    ap (λ (m : List ℕ). sets m (suc to) hs) (set_before vs l at to x (omega arith)) ∙ sets-comm hs vs (set l to x) (suc to) at (omega arith)

pub laid-sets : (bytes lent : List ℕ) → length bytes ≤ length lent → sets lent 0 bytes ≡ laid_over bytes lent
unfolding laid_over
laid-sets bytes lent h =
    let n : 0 + length bytes ≡ length bytes = omega arith in
    rw n at (sets-eq bytes lent 0 (omega arith))
