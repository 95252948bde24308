-- Limits for which the code has room. Not part of what a reader has to believe.
use Rattle.refusals.specs.declared.Limits.{Limits}
use Rattle.refusals.specs.Limited.{ours, NoLarger}

abbrev pub Modest : Limits → Type 0
Modest limits = NoLarger limits ours
