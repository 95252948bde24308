-- A kept circuit is written in bytes: each number has the bytes that hold it. Assumes nothing.
use mathlib.Core.Bool.{Bool, true, false, cond}
use mathlib.Core.List.{List, [], ◌∷◌, ◌++◌}
use mathlib.Core.Option.{Option, none, some}
use Prim.Native.Nat.{ℕ, zero, suc, ◌<◌}
use native.Mathlib.Omega.{arith}
use lib.ListN.{length, take, drop}
use lib.IntN.{ℤ}
use mir.Syntax.{w32}
use mir.Val.{of_z}
use Rattle.words.specs.Bytes.{bytes_of}
use Rattle.kinds.specs.Kinds.{kinds, kind_of}
use Rattle.refusals.specs.declared.Limits.{Limits}
use Rattle.connectors.specs.Connectors.{Connector, digital_input, analog_input}
use Rattle.decoding.specs.Decoded.{Block, Row, Circuit}
use Rattle.kept.specs.Keeps.{Bytes, All, Allowed, Labelled, BlockKeeps, RowKeeps, Keeps, label_bytes, joined, field, connector_bytes, signed_bytes, block_content, block_bytes, row_content, row_bytes, encode}
use Rattle.kept.proofs.Lists.{all_append, all_map, all_split}
use Rattle.kept.proofs.Codec.{bytes_small}
use Rattle.fields.proofs.Laws.{class-below}

abbrev Small : List ℕ → Type 0
Small l = All (λ b. b < 256) l

both : (l m : List ℕ) → Small l → Small m → Small (l ++ m)
both l m h k = (all_append _ l m).1 (h, k)

all-joined : {A : Type 0} (f : A → List ℕ) (l : List A) → All (λ x. Small (f x)) l → Small (joined f l)
all-joined f [] h = tt
all-joined f (x ∷ l) h = both (f x) (joined f l) h.0 (all-joined f l h.1)

are-bytes : (l : List ℕ) → Small l → Bytes l
are-bytes [] h i = omega arith
are-bytes (x ∷ l) h zero = h.0
are-bytes (x ∷ l) h (suc i) = are-bytes l h.1 i

-- ---- the fields

field-small : (tag : ℕ) (content : List ℕ) → tag < 256 → Small content → Small (field tag content)
unfolding field
field-small tag content t h = (t, both (bytes_of 2 (length content)) content (bytes_small 2 (length content)) h)

label_small : (label : Option (List ℕ)) → Labelled label → Small (label_bytes label)
label_small none l = tt
label_small (some x) l = field-small 0x20 x (omega arith) l.are-bytes

most-option : (b : Bool) → cond b 1 0 < 256
most-option true = omega arith
most-option false = omega arith

kind-small : (kind : ℕ) → kind < length kinds → kind < 256
unfolding kinds
kind-small kind h = omega arith

module _ (limits : Limits) (n : ℕ) where
  connector-small : (spot : ℕ) (c : Connector) → Allowed limits spot n c → Small (connector_bytes c)
  unfolding connector_bytes
  connector-small spot c a = (a.byte, bytes_small 2 c.number)

  signeds-small : (l : List ℤ) → Small (joined signed_bytes l)
  unfolding signed_bytes
  signeds-small [] = tt
  signeds-small (v ∷ l) = both (signed_bytes v) (joined signed_bytes l) (bytes_small 4 (of_z w32 v)) (signeds-small l)

  block-small : (b : Block) → BlockKeeps limits n b → Small (block_bytes b)
  unfolding block_content
  block-small b k =
      let d = (kind_of b.kind).digitals in
      let small-inputs =
      all_split (λ c. Small (connector_bytes c)) d b.inputs
      (all_map _ _ (connector-small digital_input) (take d b.inputs) k.digitals)
      (all_map _ _ (connector-small analog_input) (drop d b.inputs) k.analogs) in
      let o = k.option in
      let top = most-option (kind_of b.kind).retentive in
      both (field 0x10 (block_content b)) (label_bytes b.label)
      (field-small 0x10 (block_content b) (omega arith) (
        kind-small b.kind k.kind-high,
        (
          omega arith,
          both (joined connector_bytes b.inputs) (joined signed_bytes b.parameters)
              (all-joined connector_bytes b.inputs small-inputs)
              (signeds-small b.parameters),
        ),
      ))
      (label_small b.label k.label)

  row_small : (r : Row) → RowKeeps limits n r → Small (row_bytes r)
  unfolding row_content
  row_small r k =
      let known = class-below limits r.class r.number (record { low = k.low; high = k.high }) in
      field-small 0x30 (row_content r) (omega arith) (omega arith, (k.fits, connector-small _ r.from k.from))

pub in_bytes : (limits : Limits) (c : Circuit) → Keeps limits c → Bytes (encode c)
unfolding encode
in_bytes limits c k =
    let v = k.version in
    are-bytes (encode c)
    (both (field 0x01 (c.version ∷ bytes_of 2 c.n)) _
    (field-small 0x01 (c.version ∷ bytes_of 2 c.n) (omega arith) (omega arith, bytes_small 2 c.n))
    (both (joined block_bytes c.blocks) _
    (all-joined block_bytes c.blocks (all_map _ _ (block-small limits c.n) c.blocks k.blocks))
    (both (joined row_bytes c.rows) _ (all-joined row_bytes c.rows (all_map _ _ (row_small limits c.n) c.rows k.rows))
    (field-small 0x7F [] (omega arith) tt))))
