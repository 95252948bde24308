-- The plan of an accepted circuit is one that the calls can count on: accepted-exactly and accepted-ready give it. Assumes nothing.
use Prim.Native.Nat.{ℕ, zero, suc, ◌+◌, ◌≤◌, ◌<◌}
use native.Mathlib.Nat.{le_of_suc-le-suc}
use native.Mathlib.Omega.{arith}
use mathlib.Core.Path.{◌≡◌, refl, sym, ◌∙◌}
use mathlib.Core.Bool.{Bool, true, false}
use mathlib.Core.List.{List, [], ◌∷◌, map}
use mathlib.Core.Option.{none}
use lib.Dec.{ltb}
use lib.ListN.{length, get_or, take, length-map, length-take}
use borrow.Author.Tests.{ltb-true, ltb-false}
use Rattle.kinds.specs.Kinds.{kind_of}
use Rattle.refusals.specs.Limited.{ours}
use Rattle.refusals.proofs.Laws.{ours-modest}
use Rattle.connectors.specs.Connectors.{Connector, least, greatest}
use Rattle.decoding.specs.Decoded.{Block, Row, Circuit}
use Rattle.circuit.specs.Circuit.{verdict, accepted}
use Rattle.kept.specs.Keeps.{All, Bytes, Keeps, Allowed, RowKeeps}
use Rattle.kept.proofs.Lists.{all_both}
use Rattle.kept.proofs.Exactly.{accepted-exactly}
use Rattle.lines.specs.Lines.{Line, unused, nth, line_of, lines_of, no_line, line_at}
use Rattle.lines.specs.Ready.{Source, Ready}
use Rattle.lines.proofs.Ready.{accepted-ready}
use Rattle.steps.specs.Steps.{input_of}
use Rattle.steps.specs.Wired.{Wired, Fine}
use Rattle.steps.specs.Reads.{sources}
use Rattle.steps.proofs.Ordered.{Before, ReadsEarlier, Names, sources-before}
use Rattle.destinations.specs.Slots.{Aimed}
use Rattle.destinations.proofs.Decided.{rows-fine}
use Rattle.calls.specs.Calls.{plan_of}
use Rattle.calls.specs.Fine.{RowFine, FinePlan}

-- ---- connectors

-- a connector that is allowed, wherever it stands
pub allowed-wired : (spot n : ℕ) (c : Connector) → Allowed ours spot n c → Wired c
unfolding least greatest
allowed-wired spot n c a =
    record {
      small = a.fits;
      input = λ e. rw e at a.high;
      first-input = λ e. rw e at a.low;
      flag = λ e. rw e at a.high;
      analog = λ e. rw e at a.high;
      analog_flag = λ e. rw e at a.high;
    }

unused-wired : Wired unused
unused-wired =
    record {
      small = omega arith;
      input = λ e. omega arith;
      first-input = λ e. let z : ⊥ = omega arith in absurd z;
      flag = λ e. omega arith;
      analog = λ e. omega arith;
      analog_flag = λ e. omega arith;
    }

-- ---- lines

input-is : (b : Block) (j : ℕ) → j < 4 → input_of (line_of b) j ≡ nth b.inputs j
unfolding line_of
input-is b zero h = refl
input-is b (suc zero) h = refl
input-is b (suc (suc zero)) h = refl
input-is b (suc (suc (suc zero))) h = refl
input-is b (suc (suc (suc (suc j)))) h = let z : ⊥ = omega arith in absurd z

module _ (n : ℕ) (before : List Block) (b : Block) (r : Ready ours n before b) where
  -- of each connector what holds of every source, and of an unused one
  each-connector : (P : Connector → Type 0) → ((spot : ℕ) (c : Connector) → Source ours spot n before c → P c) → P unused
      → (j : ℕ) → P (nth b.inputs j)
  each-connector P source without j = go (ltb j d) (ltb j (d + a)) refl refl
    where
      d : ℕ
      d = (kind_of b.kind).digitals

      a : ℕ
      a = (kind_of b.kind).analogs

      go : (x y : Bool) → ltb j d ≡ x → ltb j (d + a) ≡ y → P (nth b.inputs j)
      go true y e f = source _ _ (r.digital j (ltb-true j d e))
      go false true e f = source _ _ (r.analog j (ltb-false j d e) (ltb-true j (d + a) f))
      go false false e f = rw (r.none j (ltb-false j (d + a) f)) without

  connector-wired : (j : ℕ) → Wired (nth b.inputs j)
  connector-wired = each-connector Wired (λ spot c x. allowed-wired spot n c x.allowed) unused-wired

  ready-fine : Fine (line_of b)
  unfolding line_of
  ready-fine =
      record {
        is_known = r.is_known;
        fit = r.fit;
        wired = λ j h. rw (input-is b j h) (connector-wired j);
      }

  module _ (k : ℕ) (later : length before < k) where
    connector-names : (j : ℕ) → Names k (nth b.inputs j)
    connector-names =
        each-connector (Names k)
        (λ spot c x. record { earlier = λ e. omega (arith, x.refers.there e, later) })
        (record { earlier = λ e. omega (arith, later) })

    ready-reads : All (Before k) (sources (line_of b))
    ready-reads = sources-before k (omega arith) (line_of b) ready-fine.wired (λ j h. rw (input-is b j h) (connector-names j))

line-at : (blocks : List Block) (d : Block) (j : ℕ) → j < length blocks → get_or (map line_of blocks) j no_line ≡ line_of (get_or blocks j d)
line-at [] d j h = let z : ⊥ = omega arith in absurd z
line-at (b ∷ blocks) d zero h = refl
line-at (b ∷ blocks) d (suc j) h = line-at blocks d j (le_of_suc-le-suc h)

-- ---- rows

row_fine : (n : ℕ) (r : Row) → Aimed r.class r.number → RowKeeps ours n r → RowFine r
row_fine n r aimed k = record { aimed = aimed; wired = allowed-wired _ n r.from k.from }

-- ---- the plan

-- any block
abbrev some_block : Block
some_block = record { kind = 0; option = 0; inputs = []; parameters = []; label = none }

module _ (s : List ℕ) (small : Bytes s) (c : Circuit) (e : verdict s ≡ accepted c) where
  keeps : Keeps ours c
  keeps = ((accepted-exactly ours s small c).0 e).0

  pub lines-length : length (lines_of c) ≡ c.n
  unfolding lines_of
  lines-length = length-map c.blocks line_of ∙ sym keeps.count

  -- of each line what holds of that of a ready block
  each_line : (P : ℕ → Line → Type 0)
      → ((j : ℕ) (before : List Block) (b : Block) → length before ≤ j → Ready ours c.n before b → P (suc j) (line_of b))
      → (k : ℕ) → 1 ≤ k → k ≤ length (lines_of c) → P k (line_at (lines_of c) k)
  unfolding lines_of
  each_line P ready zero low high = let z : ⊥ = omega arith in absurd z
  each_line P ready (suc j) low high =
      let inside : j < c.n = omega (arith, lines-length) in
      let there : j < length c.blocks = omega (arith, keeps.count) in
      let few : length (take j c.blocks) ≤ j = simp length-take (omega arith) in
      rw (line-at c.blocks some_block j there) (ready j _ _ few (accepted-ready ours s small c e some_block j inside))

  line-fine : (k : ℕ) → 1 ≤ k → k ≤ length (lines_of c) → Fine (line_at (lines_of c) k)
  line-fine = each_line (λ k line. Fine line) (λ j before b few r. ready-fine c.n before b r)

  -- "A block may name only an earlier block"
  pub reads-earlier : ReadsEarlier (lines_of c)
  reads-earlier =
      each_line (λ k line. All (Before k) (sources line)) (λ j before b few r. ready-reads c.n before b r (suc j) (omega arith))

  pub accepted-fine : FinePlan (plan_of c)
  accepted-fine =
      record {
        lines = record { few = omega (arith, lines-length, keeps.few); fine = line-fine };
        rows =
            all_both (λ (r : Row). Aimed r.class r.number) (RowKeeps ours c.n) RowFine (row_fine c.n) c.rows
            (rows-fine ours c.n c.rows ours-modest keeps.rows)
            keeps.rows;
      }
