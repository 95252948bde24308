-- A number that was written is read again, at every width, and nothing else changes. Assumes nothing.
use mathlib.Core.Path.{◌≡◌, refl, sym, ap, ◌∙◌}
use mathlib.Core.List.{List, [], ◌∷◌}
use Prim.Native.Nat.{ℕ, zero, suc, ◌+◌, ◌*◌, ◌/◌, ◌%◌, ◌^◌, ◌≤◌, ◌<◌}
use native.Mathlib.Nat.{mod-one, mod-eq_of_lt, pow-succ', one-le-pow}
use native.Mathlib.Numerals.{add-one}
use native.Mathlib.Omega.{arith}
use lib.Arith.{mod-mul}
use lib.Dec.{lit<}
use lib.ListN.{length, get_or, set, length-set}
use lib.Seq.{sets, get_or-set_same, get_or-set_other}
use lib.IntN.{ℤ}
use mir.Syntax.{Width, w16, w32}
use mir.Val.{SFits, bits, to_z, of_z}
use mir.Facts.{to_z-of_z}
use mir.ValLaws.{of_z_fits}
use Rattle.words.specs.Bytes.{number_at, bytes_of}

pub length-bytes : (k n : ℕ) → length (bytes_of k n) ≡ k
unfolding bytes_of
length-bytes zero n = refl
length-bytes (suc k) n = ap suc (length-bytes k n)

-- ---- what is written stands in its place alone

pub sets-before : (vs s : List ℕ) (at i : ℕ) → i < at → get_or (sets s at vs) i 0 ≡ get_or s i 0
sets-before [] s at i h = refl
sets-before (v ∷ vs) s at i h =
    sets-before vs (set s at v) (suc at) i (omega arith) ∙ get_or-set_other s at i v 0 (λ e. omega arith)

pub sets_behind : (vs s : List ℕ) (at i : ℕ) → at + length vs ≤ i → get_or (sets s at vs) i 0 ≡ get_or s i 0
sets_behind [] s at i h = refl
sets_behind (v ∷ vs) s at i h =
    sets_behind vs (set s at v) (suc at) i (omega arith) ∙ get_or-set_other s at i v 0 (λ e. omega arith)

-- ---- and is read again

digit : (k n : ℕ) → n / 256 ^ k % 256 * 256 ^ k + n % 256 ^ k ≡ n % 256 ^ suc k
digit k n = sym (ap (λ (m : ℕ). n % m) (pow-succ' 256 k) ∙ mod-mul n (lit< tt) (one-le-pow k 256 (lit< tt)))

-- of k bytes what they have room for
pub number-written : (k n : ℕ) (s : List ℕ) (at : ℕ) → at + k ≤ length s → number_at k (sets s at (bytes_of k n)) at ≡ n % 256 ^ k
unfolding number_at bytes_of
number-written zero n s at h = sym (mod-one n)
number-written (suc k) n s at h =
    let v : ℕ = n / 256 ^ k % 256 in
    let s' : List ℕ = set s at v in
    let first : get_or (sets s' (suc at) (bytes_of k n)) at 0 ≡ v =
    sets-before (bytes_of k n) s' (suc at) at (omega arith) ∙ get_or-set_same s at v 0 (omega arith) in
    let rest : number_at k (sets s' (suc at) (bytes_of k n)) (suc at) ≡ n % 256 ^ k =
    number-written k n s' (suc at) (simp length-set (omega arith)) in
    rw (add-one, first, rest) (digit k n)

-- the whole number, where it has room
pub number-again : (k n : ℕ) (s : List ℕ) (at : ℕ) → at + k ≤ length s → n < 256 ^ k → number_at k (sets s at (bytes_of k n)) at ≡ n
number-again k n s at h small = number-written k n s at h ∙ mod-eq_of_lt small

-- signed: as many bytes as the width has
pub signed-again : (w : Width) (k : ℕ) (x : ℤ) (s : List ℕ) (at : ℕ) → 2 ^ bits w ≡ 256 ^ k → at + k ≤ length s → SFits w x → to_z w (number_at k (sets s at (bytes_of k (of_z w x))) at) ≡ x
signed-again w k x s at e h f =
    ap (to_z w) (number-again k (of_z w x) s at h (rw e at (of_z_fits w x f).fits)) ∙ to_z-of_z f

-- ---- the two widths that the circuit has

pub signed-two-again : (x : ℤ) (s : List ℕ) (at : ℕ) → at + 2 ≤ length s → SFits w16 x → to_z w16 (number_at 2 (sets s at (bytes_of 2 (of_z w16 x))) at) ≡ x
signed-two-again x s at h f = signed-again w16 2 x s at refl h f

pub signed-four-again : (x : ℤ) (s : List ℕ) (at : ℕ) → at + 4 ≤ length s → SFits w32 x → to_z w32 (number_at 4 (sets s at (bytes_of 4 (of_z w32 x))) at) ≡ x
signed-four-again x s at h f = signed-again w32 4 x s at refl h f
