-- By width: the bytes are those of the number's bits. Assumes nothing.
use mathlib.Core.Path.{◌∙◌}
use native.Mathlib.Omega.{arith}
use Rattle.words.proofs.Masks.{low_byte}
use Rattle.digits.specs.Numbers.{number_read, value_of}
use Rattle.splitting.proofs.Packs.{pack-is, pack_one, width_some}
use Rattle.std.proofs.Common.{rules}
use Rattle.splitting.proofs.packed.put_packed.Goals as goal

pub overflow_cast-circuit : goal.overflow_cast-circuit
overflow_cast-circuit c = simp low_byte (search rules)

pub returns-in-4 : goal.returns-in-4
returns-in-4 c =
    λ inputs j w. c.put_four.ensures ∙ pack-is _ _ _ c.bits_of-bits.result (value_of (number_read c.args.number)) c.bits_of-bits.ensures 4 c.in-4.is

pub returns-in-2 : goal.returns-in-2
returns-in-2 c =
    λ inputs j w. c.put_two.ensures ∙ pack-is _ _ _ c.bits_of-bits.result (value_of (number_read c.args.number)) c.bits_of-bits.ensures 2 c.in-2.is

pub returns-in-1 : goal.returns-in-1
returns-in-1 c =
    λ inputs j w. pack_one _ _ _ c.bits_of-bits.result (value_of (number_read c.args.number)) c.bits_of-bits.ensures c.in-1.is

pub returns-in_default : goal.returns-in_default
returns-in_default c =
    λ inputs j w. absurd (width_some inputs j c.args.width w (λ q. omega arith) (λ q. omega arith) (λ q. omega arith))
