-- The difference of two values of 16 bits fits 32, read back from locals too. Assumes nothing.
use Rattle.std.specs.Prelude.{ℤ, ◌-ℤ◌}
use Rattle.std.specs.Int.{w32}
use Rattle.std.proofs.Common.{to_z, of_z, SFits, rules}
use Rattle.words.proofs.Locals.{back}
use Rattle.words.proofs.Ranges.{whole}
use Rattle.kinds.specs.Kinds.{In, sixteen}

pub held_apart : (x y : ℤ) → In sixteen x → In sixteen y → SFits w32 (to_z w32 (of_z w32 x) -ℤ to_z w32 (of_z w32 y))
held_apart x y h k =
    let f : SFits w32 x = search (rules, whole) in
    let g : SFits w32 y = search (rules, whole) in
    rw (back f, back g) (search (rules, whole))
