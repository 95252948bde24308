-- The code's table: a row for each kind. Not part of what a reader has to believe: it is proved equal to the table of kinds.
use Rattle.std.specs.Prelude.{ℕ, pos, [], ◌∷◌, length}
use Rattle.kinds.specs.declared.table.Row.{Row}
use Rattle.kinds.specs.declared.table.Most.{Most}
use Rattle.kinds.specs.declared.table.Most.TheVariants.{Ticks, Count}
use Rattle.kinds.specs.Kinds.{Kind, Number, none, elapsed, up_to, content_length, range_at, is_analog}

abbrev pub most_word : Number → Most
most_word none = Count 0
most_word elapsed = Ticks
most_word (up_to n) = Count n

-- the row of an entry
abbrev pub row_of : Kind → Row
row_of k =
    record {
      digitals = k.digitals;
      analogs = k.analogs;
      unused = k.unused;
      parameters = length k.parameters;
      times = k.times;
      least = (range_at k 0).least ∷ (range_at k 1).least ∷ (range_at k 2).least ∷ (range_at k 3).least ∷ [];
      greatest = (range_at k 0).greatest ∷ (range_at k 1).greatest ∷ (range_at k 2).greatest ∷ (range_at k 3).greatest ∷ [];
      retentive = k.retentive;
      analog = is_analog k.output;
      remembered = pos k.remembered;
      most = most_word k.number;
      length = content_length k;
    }

-- how many numbers of kinds there are, 0 among them
abbrev pub rows : ℕ
rows = 20
