-- `blocks::time_of` meets its contract: a setting of allowed parameters is one. Assumes nothing.
use Prim.Native.Nat.{ℕ, ◌≤◌, ◌<◌, ◌^◌}
use native.Mathlib.Omega.{arith}
use lib.IntN.{ℤ, pos}
use mir.Facts.{to_z-of_z}
use mir.Syntax.{w32}
use mir.Val.{to_z, of_z}
use Rattle.words.specs.Signed.{Between}
use Rattle.words.proofs.Bounds.{between-fits}
use Rattle.kinds.specs.Codes.{byte_of}
use Rattle.kinds.specs.Kinds.{kind_of}
use Rattle.kinds.proofs.Allowed.{base-in, time-in}
use Rattle.blocks.proofs.time_of.Goals as goal

-- read back from its bits
again : {m : ℕ} {x : ℤ} → m < 2 ^ 31 → Between (pos 0) (pos m) x → Between (pos 0) (pos m) (to_z w32 (of_z w32 x))
again h b = rw (to_z-of_z {w = w32} (between-fits b (record { sfits = omega arith }) (record { sfits = h }))) b

pub new-requires : goal.new-requires
new-requires c =
    let a = c.args in
    let k = byte_of a.kind in
    let few : a.j ≤ (kind_of k).times = omega (arith, c.times.ensures.0, c.if-j-times.true) in
    (again (omega arith) (base-in k a.params c.requires.0 a.j c.requires.1 few), again (omega arith) (time-in k a.params c.requires.0 a.j c.requires.1 few))
