-- A kept circuit keeps the rules at other limits exactly when it fits them: the limits stand in four of the rules alone. Assumes nothing.
use mathlib.Core.Path.{◌≡◌, refl, sym, subst}
use mathlib.Core.List.{List}
use Prim.Native.Nat.{ℕ, zero, suc, ◌≤◌}
use lib.ListN.{take, drop, take-append-drop}
use Rattle.refusals.specs.declared.Limits.{Limits}
use Rattle.kinds.specs.Kinds.{kind_of}
use Rattle.connectors.specs.Connectors.{Connector, class_of, greatest, digital_input, analog_input}
use Rattle.fields.specs.Fields.{limit_of, spot_of}
use Rattle.decoding.specs.Decoded.{Block, Row, Circuit}
use Rattle.kept.specs.Keeps.{All, Allowed, BlockKeeps, RowKeeps, Keeps}
use Rattle.kept.proofs.Lists.{all_append, all_split, all_map, all_both}
use Rattle.smaller.specs.Smaller.{Reaches, Fits}

-- ---- a connector

module _ (limits : Limits) (n : ℕ) where
  flag-most : greatest limits n 4 ≡ limits.m
  unfolding greatest
  flag-most = refl

  analog-flag-most : greatest limits n 8 ≡ limits.am
  unfolding greatest
  analog-flag-most = refl

reaches : (limits : Limits) (spot n : ℕ) (c : Connector) → Allowed limits spot n c → Reaches limits c
reaches limits spot n c a =
    record {
      m = λ q. subst (λ (k : ℕ). c.number ≤ k) (flag-most limits n) (subst (λ (k : ℕ). c.number ≤ greatest limits n k) q a.high);
      am = λ q. subst (λ (k : ℕ). c.number ≤ k) (analog-flag-most limits n) (subst (λ (k : ℕ). c.number ≤ greatest limits n k) q a.high);
    }

module _ (these others : Limits) (n : ℕ) where
  -- of a class that is none of the flags the greatest number asks for no limits
  high-here : (k number : ℕ) → number ≤ greatest others n k → (k ≡ 4 → number ≤ these.m) → (k ≡ 8 → number ≤ these.am)
      → number ≤ greatest these n k
  unfolding greatest
  high-here zero number h m am = h
  high-here (suc zero) number h m am = h
  high-here (suc (suc zero)) number h m am = h
  high-here (suc (suc (suc zero))) number h m am = h
  high-here (suc (suc (suc (suc zero)))) number h m am = m refl
  high-here (suc (suc (suc (suc (suc zero))))) number h m am = h
  high-here (suc (suc (suc (suc (suc (suc zero)))))) number h m am = h
  high-here (suc (suc (suc (suc (suc (suc (suc zero))))))) number h m am = h
  high-here (suc (suc (suc (suc (suc (suc (suc (suc zero)))))))) number h m am = am refl
  high-here (suc (suc (suc (suc (suc (suc (suc (suc (suc k))))))))) number h m am = h

  allowed-here : (spot : ℕ) (c : Connector) → Allowed others spot n c → Reaches these c → Allowed these spot n c
  allowed-here spot c a r =
      record {
        byte = a.byte;
        fits = a.fits;
        class = a.class;
        inversion = a.inversion;
        low = a.low;
        high = high-here (class_of c) c.number a.high r.m r.am;
      }

  -- ---- a block

  all-halves : (P : Connector → Type 0) (d : ℕ) (l : List Connector) → All P l → All P (take d l) × All P (drop d l)
  all-halves P d l a = (all_append P (take d l) (drop d l)).0 (subst (All P) (sym (take-append-drop d l)) a)

  inputs-reach : (b : Block) → BlockKeeps these n b → All (Reaches these) b.inputs
  inputs-reach b k =
      let d = (kind_of b.kind).digitals in
      all_split (Reaches these) d b.inputs
      (all_map _ _ (reaches these digital_input n) (take d b.inputs) k.digitals)
      (all_map _ _ (reaches these analog_input n) (drop d b.inputs) k.analogs)

  block_here : (b : Block) → BlockKeeps others n b → All (Reaches these) b.inputs → BlockKeeps these n b
  block_here b k r =
      let d = (kind_of b.kind).digitals in
      let parts = all-halves (Reaches these) d b.inputs r in
      record {
        kind-low = k.kind-low;
        kind-high = k.kind-high;
        option = k.option;
        inputs = k.inputs;
        digitals = all_both _ _ _ (allowed-here digital_input) (take d b.inputs) k.digitals parts.0;
        analogs = all_both _ _ _ (allowed-here analog_input) (drop d b.inputs) k.analogs parts.1;
        parameters = k.parameters;
        label = k.label;
      }

  -- ---- a row

  row_here : (r : Row) → RowKeeps others n r → Reaches these r.from × (r.number ≤ limit_of these r.class) → RowKeeps these n r
  row_here r k x =
      record { low = k.low; high = x.1; fits = k.fits; from = allowed-here (spot_of r.class) r.from k.from x.0 }

-- ---- a circuit

pub kept-fits : (limits : Limits) (c : Circuit) → Keeps limits c → Fits limits c
kept-fits limits c k =
    record {
      blocks = k.few;
      inputs = all_map _ _ (inputs-reach limits limits c.n) c.blocks k.blocks;
      sources = all_map _ _ (λ (r : Row) (x : RowKeeps limits c.n r). reaches limits (spot_of r.class) c.n r.from x.from) c.rows k.rows;
      destinations = all_map _ _ (λ (r : Row) (x : RowKeeps limits c.n r). x.high) c.rows k.rows;
    }

pub fits_kept : (these others : Limits) (c : Circuit) → Keeps others c → Fits these c → Keeps these c
fits_kept these others c k f =
    let reached : Row → Type 0 = λ r. Reaches these r.from in
    let aimed : Row → Type 0 = λ r. r.number ≤ limit_of these r.class in
    let both = all_both reached aimed (λ (r : Row). reached r × aimed r) (λ r x y. (x, y)) c.rows f.sources f.destinations in
    record {
      version = k.version;
      count = k.count;
      few = f.blocks;
      fits = k.fits;
      blocks = all_both _ _ _ (block_here these others c.n) c.blocks k.blocks f.inputs;
      references = k.references;
      registers = k.registers;
      rows = all_both _ _ _ (row_here these others c.n) c.rows k.rows both;
      sources = k.sources;
      destinations = k.destinations;
    }
