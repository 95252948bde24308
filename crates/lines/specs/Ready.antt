-- What a step may count on, of a block of an accepted circuit. Not part of what a reader has to believe.
use Rattle.std.specs.Prelude.{ℕ, ◌+◌, ◌≤◌, ◌<◌, ◌≡◌, true, List}
use Rattle.kinds.specs.Kinds.{kind_of, known}
use Rattle.blocks.specs.Fit.{Fit}
use Rattle.refusals.specs.declared.Limits.{Limits}
use Rattle.connectors.specs.Connectors.{Connector, digital_input, analog_input}
use Rattle.decoding.specs.Decoded.{Block}
use Rattle.kept.specs.Keeps.{Allowed, Refers}
use Rattle.lines.specs.Lines.{unused, nth, line_of}

-- a connector that is allowed where it stands, and that names no block but one of those before, of the right sort
pub record Source (limits : Limits) (spot n : ℕ) (before : List Block) (c : Connector) : Type 0 where
  pub allowed : Allowed limits spot n c
  pub refers : Refers before c

-- of a block of an accepted circuit of n blocks, and of the blocks before it
pub record Ready (limits : Limits) (n : ℕ) (before : List Block) (b : Block) : Type 0 where
  pub is_known : known b.kind ≡ true
  pub fit : Fit b.kind (line_of b).prepared
  -- 5999 hours are the most
  pub most : (line_of b).prepared.time.0 ≤ 35994000
  pub digital : (j : ℕ) → j < (kind_of b.kind).digitals → Source limits digital_input n before (nth b.inputs j)
  pub analog : (j : ℕ) → (kind_of b.kind).digitals ≤ j → j < (kind_of b.kind).digitals + (kind_of b.kind).analogs → Source limits analog_input n before (nth b.inputs j)
  -- beyond its inputs nothing is connected
  pub none : (j : ℕ) → (kind_of b.kind).digitals + (kind_of b.kind).analogs ≤ j → nth b.inputs j ≡ unused
