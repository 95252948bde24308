-- `kinds::settings_fit` meets its contract: one that does not fit refuses them all. Assumes nothing.
use Rattle.std.proofs.Common.{rules}
use Rattle.kinds.proofs.Allowed.{setting_fails}
use Rattle.kinds.proofs.kind.settings_fit.Goals as goal

pub returns-then-not-setting_fits : goal.returns-then-not-setting_fits
returns-then-not-setting_fits c = setting_fails c.args.n c.args.params c.loop-j.j c.loop-j-test.true (search rules)
