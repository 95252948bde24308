-- A cell that is not quoted says its text. Assumes nothing.
use Rattle.std.proofs.Common.{◌≡◌, ◌+◌, ◌-◌, length, refl, arith}
use Rattle.splitting.proofs.content.put_content.Goals as goal

pub returns : goal.returns
returns c = rw c.if-quoted.false (c.put_plain.ensures, refl)
