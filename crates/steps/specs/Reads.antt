-- Which places the step of a block reads. Not part of what a reader has to believe.
use Rattle.std.specs.Prelude.{ℕ, List, [], ◌∷◌}
use Rattle.std.proofs.Math.Option.{Option, none, some}
use Rattle.lines.specs.Lines.{Line}
use Rattle.record.specs.Places.{Place, elapsed, output, remembered, number}
use Rattle.steps.specs.Steps.{source_of, input_of}

abbrev pub or_none : Option Place → List Place → List Place
or_none none l = l
or_none (some p) l = p ∷ l

-- what a line's inputs read
abbrev pub sources : Line → List Place
sources line =
    or_none (source_of (input_of line 0))
    (or_none (source_of (input_of line 1)) (or_none (source_of (input_of line 2)) (or_none (source_of (input_of line 3)) [])))

-- what the step of block k reads: its inputs, its own words, e
abbrev pub read_by : ℕ → Line → List Place
read_by k line = output k ∷ remembered k ∷ number k ∷ elapsed ∷ sources line
