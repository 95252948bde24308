-- The two descriptions of a circuit agree: the bytes that the verdict accepts are those of the circuits that keep the rules.
-- Assumes nothing.
use mathlib.Core.Path.{◌≡◌, refl, ap}
use mathlib.Core.Logic.{◌↔◌}
use mathlib.Core.List.{List}
use Prim.Native.Nat.{ℕ}
use native.Mathlib.Omega.{arith}
use Rattle.refusals.specs.declared.Limits.{Limits}
use Rattle.decoding.specs.Decoded.{Circuit}
use Rattle.circuit.specs.Circuit.{Verdict, accepted, refused, verdict_at, answer_at, answer_to}
use Rattle.circuit.proofs.Listed.{refusal-listed}
use Rattle.kept.specs.Keeps.{Bytes, Keeps, encode}
use Rattle.kept.proofs.Sound.{sound}
use Rattle.kept.proofs.Complete.{complete}
use Rattle.kept.proofs.Written.{in_bytes}

-- Bytes are accepted as a circuit exactly when it keeps the rules and they are its bytes.
pub accepted-exactly : (limits : Limits) (s : List ℕ) → Bytes s → (c : Circuit)
    → (verdict_at limits s ≡ accepted c) ↔ (Keeps limits c × (s ≡ encode c))
accepted-exactly limits s small c =
    (λ e. let x = sound limits s small c e in (x.keeps, x.is), λ k. complete limits s c k.0 k.1)

-- A kept circuit is written in bytes.
pub encode-bytes : (limits : Limits) (c : Circuit) → Keeps limits c → Bytes (encode c)
encode-bytes limits c k = in_bytes limits c k

-- And its bytes are accepted as that circuit.
pub kept-accepted : (limits : Limits) (c : Circuit) → Keeps limits c → verdict_at limits (encode c) ≡ accepted c
kept-accepted limits c k = complete limits (encode c) c k refl

-- No two kept circuits have the same bytes.
pub one-circuit : (limits : Limits) (c d : Circuit) → Keeps limits c → Keeps limits d → encode c ≡ encode d → c ≡ d
one-circuit limits c d k l e =
    let p = kept-accepted limits c k in
    let q = complete limits (encode c) d l e in
    cc

-- ---- what check answers

-- a refusal has a number
refused-some : (limits : Limits) (s : List ℕ) (k at : ℕ) → verdict_at limits s ≡ refused k at → k ≡ 0 → ⊥
refused-some limits s k at q z = let r = refusal-listed limits s k at q in omega (arith, r.some)

-- Check gives 0 exactly to the bytes of some kept circuit.
pub check-accepts : (limits : Limits) (s : List ℕ) → Bytes s
    → ((answer_at limits s).number ≡ 0) ↔ ((c : Circuit) × Keeps limits c × (s ≡ encode c))
unfolding answer_at answer_to
check-accepts limits s small =
    (λ e. go (verdict_at limits s) refl e, λ x. ap (λ v. (answer_to v).number) ((accepted-exactly limits s small x.0).1 (x.1, x.2)))
  where
    go : (v : Verdict) → verdict_at limits s ≡ v → (answer_to v).number ≡ 0 → ((c : Circuit) × Keeps limits c × (s ≡ encode c))
    go (refused k at) q e = absurd (refused-some limits s k at q e)
    go (accepted c) q e = let x = (accepted-exactly limits s small c).0 q in (c, x.0, x.1)
