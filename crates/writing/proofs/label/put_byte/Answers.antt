-- A quote is put twice. Assumes nothing.
use native.Mathlib.Omega.{arith}
use lib.ListN.{length-set}
use Rattle.writing.proofs.Cell.{size_quote}
use Rattle.writing.proofs.label.put_byte.Goals as goal

pub bounds-text-to-then-x-eq34 : goal.bounds-text-to-then-x-eq34
bounds-text-to-then-x-eq34 c = simp length-set (omega (arith, size_quote _ c.if-x-eq34.true))
