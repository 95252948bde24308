-- Document 01, "Circuit bytes": limits, which are the most blocks, and the greatest number of Q, AQ, M and AM.
use Rattle.std.specs.Prelude.{◌≤◌}
use Rattle.refusals.specs.declared.Limits.{Limits}

-- "0 to 400 (ours)", "Q 1..20", "AQ 1..8", "M 1..64", "AM 1..64"
abbrev pub ours : Limits
ours = record { blocks = 400; q = 20; aq = 8; m = 64; am = 64 }

-- Document 02, No. 4, the series 0BA6: "at most 200 blocks, Q1..Q16, AQ1 and AQ2, M1..M27, AM1..AM6"
abbrev pub older : Limits
older = record { blocks = 200; q = 16; aq = 2; m = 27; am = 6 }

-- "limits no larger than ours", or than any others
pub record NoLarger (small large : Limits) : Type 0 where
  pub blocks : small.blocks ≤ large.blocks
  pub q : small.q ≤ large.q
  pub aq : small.aq ≤ large.aq
  pub m : small.m ≤ large.m
  pub am : small.am ≤ large.am
