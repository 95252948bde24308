-- Where the cells that are held of a row stand. Not part of what a reader has to believe.
use Rattle.std.specs.Prelude.{ℕ, List, map, get_or, ◌+◌, ◌≤◌}
use Rattle.splitting.specs.declared.held.Span.{Span}

-- their starts and their sizes
abbrev pub starts_of : List Span → List ℕ
starts_of spans = map (λ c. c.start) spans

abbrev pub sizes_of : List Span → List ℕ
sizes_of spans = map (λ c. c.size) spans

-- cell j, from 0, lies within so many bytes
abbrev pub LiesIn : List Span → ℕ → ℕ → Type 0
LiesIn spans long j = get_or (starts_of spans) j 0 + get_or (sizes_of spans) j 0 ≤ long
