-- `record::sound::are_within` meets its contract: the test of each word. Assumes nothing.
use Rattle.std.proofs.Common.{refl, rules}
use lib.IntN.{pos}
use Rattle.std.proofs.lemmas.List.Recursion.{and_is}
use Rattle.kinds.specs.Kinds.{◌to◌, in_range}
use Rattle.record.specs.Written.{all_fit}
use Rattle.record.proofs.sound.are_within.Goals as goal

pub returns : goal.returns
returns c =
    let r = c.args.least to c.args.greatest in
    and_is (all_fit r) (in_range r) refl (λ _ _. refl) c.args.words.now (pos 0) _ (search rules) (search rules)
