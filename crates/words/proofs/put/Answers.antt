-- `words::put` meets its contract: what is copied over a part of a slice stands there. Assumes nothing.
use mathlib.Core.Path.{◌≡◌, sym, ap, ◌∙◌}
use mathlib.Core.List.{List, ◌++◌}
use Prim.Native.Nat.{ℕ, ◌+◌, ◌≤◌}
use native.Mathlib.Omega.{arith}
use borrow.Rule.Slice.PartMut.{put_mid}
use lib.ListN.{length, take, drop}
use Rattle.std.proofs.Common.{append_assoc}
use Rattle.std.proofs.lemmas.List.{length-take, length-drop, drop-drop}
use Rattle.std.proofs.lemmas.List.Edits.{sets, sets-eq}
use Rattle.words.proofs.put.Goals as goal

copied : (at k : ℕ) (s vs part : List ℕ) → vs ≡ part → length vs ≡ length (take k (drop at s)) → at + k ≤ length s → put_mid at k s vs ≡ sets s at part
copied at k s vs part e h f =
    let n : k ≡ length part = omega (arith, h, ap length e, length-take k (drop at s), length-drop at s) in
    rw (e, n) (sym (append_assoc (take at s) part _) ∙ ap (λ r. take at s ++ part ++ r) (drop-drop (length part) at s) ∙ sym (sets-eq part s at (omega arith)))

pub returns : goal.returns
returns g c = copied _ _ _ _ _ c.copy_from_slice.ensures.after c.copy_from_slice.ensures.len (omega arith)
