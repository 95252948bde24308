-- `player::AskedFromU32::from` meets its contract: the numbers are those of the definition. Assumes nothing.
use native.Mathlib.Omega.{arith}
use borrow.Author.Tests.{ne_eqb}
use Rattle.player.specs.Orders.{call_of}
use Rattle.player.proofs.AskedFromU32.from.Goals as goal

pub returns-in-0 : goal.returns-in-0
unfolding call_of
returns-in-0 c = λ k e r. rw c.in-0.is

pub returns-in-1 : goal.returns-in-1
unfolding call_of
returns-in-1 c = λ k e r. rw c.in-1.is

pub returns-in-2 : goal.returns-in-2
unfolding call_of
returns-in-2 c = λ k e r. rw c.in-2.is

pub returns-in-3 : goal.returns-in-3
unfolding call_of
returns-in-3 c = λ k e r. rw c.in-3.is

pub returns-in-4 : goal.returns-in-4
unfolding call_of
returns-in-4 c = λ k e r. rw c.in-4.is

pub returns-in_default : goal.returns-in_default
unfolding call_of
returns-in_default c = λ k e r.
    rw (ne_eqb c.args.which 0 (λ z. omega arith), ne_eqb c.args.which 1 (λ z. omega arith), ne_eqb c.args.which 2 (λ z. omega arith), ne_eqb c.args.which 3 (λ z. omega arith), ne_eqb c.args.which 4 (λ z. omega arith))
