-- The blocks and rows of a kept circuit as entries: the same cells, the same bytes, and each number fits its place. Assumes nothing.
use mathlib.Core.Path.{◌≡◌, refl, ap, ap₂, sym, ◌∙◌}
use mathlib.Core.Bool.{Bool, true, false, cond}
use mathlib.Core.List.{List, [], ◌∷◌, ◌++◌, map, append-nil, append_assoc, map-append}
use Prim.Native.Nat.{ℕ, suc, ◌+◌, ◌/◌, ◌%◌, ◌^◌, ◌<◌}
use native.Mathlib.Omega.{arith}
use lib.ListN.{length, take, drop, replicate, length-append}
use lib.IntN.{ℤ, pos}
use mir.Syntax.{w32}
use mir.Val.{SFits}
use borrow.Author.Tests.{lt-ltb, le-leb}
use Rattle.words.specs.Bytes.{bytes_of}
use Rattle.words.proofs.Sides.{fits-sides}
use Rattle.words.proofs.Bounds.{sides-between}
use Rattle.kinds.specs.Kinds.{kinds, kind_of, known, In}
use Rattle.refusals.specs.Limited.{ours}
use Rattle.refusals.specs.declared.Limits.{Limits}
use Rattle.connectors.specs.Connectors.{Connector, digital_input, analog_input}
use Rattle.fields.proofs.Laws.{class-below}
use Rattle.decoding.specs.Decoded.{Block, Row, Circuit}
use Rattle.kept.specs.Keeps.{All, Match, Allowed, BlockKeeps, RowKeeps, Keeps, joined, field, connector_bytes, signed_bytes, label_bytes, block_content, block_bytes, row_content, row_bytes, encode}
use Rattle.kept.proofs.Lists.{all_append, all_map, all_split, match-length, joined-append}
use Rattle.digits.specs.Numbers.{decimal, signed_decimal}
use Rattle.rows.specs.Columns.{below_of, above_of, packed, connector_widths, widths, widths_of, block_shape, output_shape}
use Rattle.rows.specs.Writing.{connector_cells, label_cells, block_cells, row_cells, written, block_text, row_text, text_of}
use Rattle.rows.specs.Entries.{packed_all, entry_bytes, entry_cells, entry_text, FitsIn, block, output, Fine, connector_numbers, block_entry, row_entry, entries_of}

-- ---- lists

match-append : {A B : Type 0} (R : A → B → Type 0) (l l' : List A) (m m' : List B) → Match R l m → Match R l' m' → Match R (l ++ l') (m ++ m')
match-append R [] l' [] m' h k = k
match-append R [] l' (y ∷ m) m' h k = absurd h
match-append R (x ∷ l) l' [] m' h k = absurd h
match-append R (x ∷ l) l' (y ∷ m) m' h k = (h.0, match-append R l l' m m' h.1 k)

pub all-mapped : {A B : Type 0} (P : B → Type 0) (f : A → B) (l : List A) → All (λ x. P (f x)) l → All P (map f l)
all-mapped P f [] h = tt
all-mapped P f (x ∷ l) h = (h.0, all-mapped P f l h.1)

pub mapped-length : {A B : Type 0} (f : A → B) (l : List A) → length (map f l) ≡ length l
mapped-length f [] = refl
mapped-length f (x ∷ l) = ap suc (mapped-length f l)

-- parts that are the same, joined
pub joined_same : {A B : Type 0} (f : A → List ℕ) (g : B → List ℕ) (h : A → B) (l : List A) → All (λ x. f x ≡ g (h x)) l
    → joined f l ≡ joined g (map h l)
joined_same f g h [] e = refl
joined_same f g h (x ∷ l) e = ap₂ (λ (u v : List ℕ). u ++ v) e.0 (joined_same f g h l e.1)

pub all_of : {A : Type 0} (P : A → Type 0) → ((x : A) → P x) → (l : List A) → All P l
all_of P h [] = tt
all_of P h (x ∷ l) = (h x, all_of P h l)

-- ---- the cells

connector-cells : (l : List Connector) → connector_cells l ≡ map signed_decimal (connector_numbers l)
unfolding connector_cells connector_numbers signed_decimal
connector-cells [] = refl
connector-cells (c ∷ l) = ap (λ r. decimal c.class ∷ decimal c.number ∷ r) (connector-cells l)

pub block-cells : (b : Block) → block_cells b ≡ entry_cells (block_entry b)
unfolding block_cells entry_cells block_entry block_shape signed_decimal
block-cells b =
    let numbers = connector_numbers b.inputs in
    ap (λ (r : List (List ℕ)). decimal 0x10 ∷ decimal b.kind ∷ decimal b.option ∷ r)
    (rw (connector-cells b.inputs, map-append signed_decimal numbers b.parameters)
    (sym (append_assoc (map signed_decimal numbers) (map signed_decimal b.parameters) (label_cells b.label))))

pub row-cells : (r : Row) → row_cells r ≡ entry_cells (row_entry r)
unfolding row_cells entry_cells row_entry output_shape connector_cells connector_numbers signed_decimal
row-cells r = refl

-- ---- the bytes

pub packed_byte : (n : ℕ) → n < 256 → packed 1 (pos n) ≡ n ∷ []
unfolding packed bytes_of
packed_byte n h = let e : n / 256 ^ 0 % 256 ≡ n = omega arith in ap (λ (m : ℕ). m ∷ []) e

pub packed-two : (n : ℕ) → packed 2 (pos n) ≡ bytes_of 2 n
unfolding packed
packed-two n = refl

packed-signed : (v : ℤ) → packed 4 v ≡ signed_bytes v
unfolding packed signed_bytes
packed-signed v = refl

-- a class fits a byte, a number two
pub record Small (c : Connector) : Type 0 where
  pub class : c.class < 256
  pub number : c.number < 65536

packed-connectors : (l : List Connector) (ws : List ℕ) (vs : List ℤ) → All Small l
    → packed_all (connector_widths (length l) ++ ws) (connector_numbers l ++ vs) ≡ joined connector_bytes l ++ packed_all ws vs
unfolding packed_all connector_widths connector_numbers connector_bytes
packed-connectors [] ws vs a = refl
packed-connectors (c ∷ l) ws vs a =
    rw (packed_byte c.class a.0.class, packed-two c.number, packed-connectors l ws vs a.1)
    (ap (λ (r : List ℕ). c.class ∷ r) (sym (append_assoc (bytes_of 2 c.number) (joined connector_bytes l) (packed_all ws vs))))

packed-parameters : (vs : List ℤ) → packed_all (replicate (length vs) 4) vs ≡ joined signed_bytes vs
unfolding packed_all
packed-parameters [] = refl
packed-parameters (v ∷ vs) = ap₂ (λ (u w : List ℕ). u ++ w) (packed-signed v) (packed-parameters vs)

-- the connectors of a kept block
connectors-small : (limits : Limits) (n spot : ℕ) (l : List Connector) → All (Allowed limits spot n) l → All Small l
connectors-small limits n spot l a = all_map _ _ (λ c h. record { class = h.byte; number = h.fits }) l a

inputs-small : (limits : Limits) (n : ℕ) (b : Block) → BlockKeeps limits n b → All Small b.inputs
inputs-small limits n b k =
    let d = (kind_of b.kind).digitals in
    all_split Small d b.inputs (connectors-small limits n digital_input (take d b.inputs) k.digitals)
    (connectors-small limits n analog_input (drop d b.inputs) k.analogs)

-- a byte each
record Bytewise (b : Block) : Type 0 where
  kind : b.kind < 256
  option : b.option < 256

most-option : (t : Bool) → cond t 1 0 < 256
most-option true = omega arith
most-option false = omega arith

bytewise : (limits : Limits) (n : ℕ) (b : Block) → BlockKeeps limits n b → Bytewise b
unfolding kinds
bytewise limits n b k =
    let h = k.kind-high in
    let o = k.option in
    let top = most-option (kind_of b.kind).retentive in
    record { kind = omega arith; option = omega arith }

module _ (limits : Limits) (n : ℕ) where
  block-content : (b : Block) → BlockKeeps limits n b → block_content b ≡ packed_all (widths_of (block_shape b.kind)) (block_entry b).numbers
  unfolding block_content block_shape block_entry widths packed_all
  block-content b k =
      let small = bytewise limits n b k in
      let i = k.inputs in
      let p = match-length In (kind_of b.kind).parameters b.parameters k.parameters.ranges in
      let connectors = packed-connectors b.inputs (replicate (length b.parameters) 4) b.parameters (inputs-small limits n b k) in
      let kind = packed_byte b.kind small.kind in
      let option = packed_byte b.option small.option in
      rw (kind, option, ← i, ← p, connectors, packed-parameters b.parameters)

  pub block-bytes : (b : Block) → BlockKeeps limits n b → block_bytes b ≡ entry_bytes (block_entry b)
  unfolding entry_bytes block_shape block_entry
  block-bytes b k = ap (λ (l : List ℕ). field 0x10 l ++ label_bytes b.label) (block-content b k)

  row-class : (r : Row) → RowKeeps limits n r → r.class < 256
  row-class r k = let h = class-below limits r.class r.number (record { low = k.low; high = k.high }) in omega arith

  row_small : (r : Row) → RowKeeps limits n r → All Small (r.from ∷ [])
  row_small r k = (record { class = k.from.byte; number = k.from.fits }, tt)

  row-content : (r : Row) → RowKeeps limits n r → row_content r ≡ packed_all (widths_of output_shape) (row_entry r).numbers
  unfolding row_content output_shape row_entry widths packed_all connector_widths connector_numbers
  row-content r k =
      let bytes = connector_bytes r.from in
      let e = packed-connectors (r.from ∷ []) [] [] (row_small r k) ∙ append-nil (bytes ++ []) ∙ append-nil bytes in
      rw (packed_byte r.class (row-class r k), packed_byte r.number k.fits)
      (ap (λ (l : List ℕ). r.class ∷ r.number ∷ l) (sym e))

  pub row-bytes : (r : Row) → RowKeeps limits n r → row_bytes r ≡ entry_bytes (row_entry r)
  unfolding entry_bytes output_shape row_entry
  row-bytes r k = ap (field 0x30) (row-content r k) ∙ sym (append-nil (field 0x30 (packed_all (widths_of output_shape) (row_entry r).numbers)))

-- ---- the circuit

pub text-entries : (c : Circuit) → text_of c ≡ joined entry_text (entries_of c)
unfolding text_of entries_of
text-entries c =
    ap₂ (λ (u v : List ℕ). u ++ v)
    (joined_same block_text entry_text block_entry c.blocks (all_of _ (λ b. ap written (block-cells b)) c.blocks))
    (joined_same row_text entry_text row_entry c.rows (all_of _ (λ r. ap written (row-cells r)) c.rows))
    ∙ sym (joined-append entry_text (map block_entry c.blocks) (map row_entry c.rows))

pub bytes-entries : (limits : Limits) (c : Circuit) → Keeps limits c → joined block_bytes c.blocks ++ joined row_bytes c.rows ≡ joined entry_bytes (entries_of c)
unfolding entries_of
bytes-entries limits c k =
    ap₂ (λ (u v : List ℕ). u ++ v)
    (joined_same block_bytes entry_bytes block_entry c.blocks (all_map _ _ (block-bytes limits c.n) c.blocks k.blocks))
    (joined_same row_bytes entry_bytes row_entry c.rows (all_map _ _ (row-bytes limits c.n) c.rows k.rows))
    ∙ sym (joined-append entry_bytes (map block_entry c.blocks) (map row_entry c.rows))

pub encode-entries : (c : Circuit) → Keeps ours c
    → encode c ≡ field 0x01 (1 ∷ bytes_of 2 (length c.blocks)) ++ (joined entry_bytes (entries_of c) ++ field 0x7F [])
unfolding encode entries_of
encode-entries c k =
    let head = field 0x01 (1 ∷ bytes_of 2 (length c.blocks)) in
    let blocks = joined block_bytes c.blocks in
    let rows = joined row_bytes c.rows in
    rw (k.version, k.count)
    (ap (λ (l : List ℕ). head ++ l) (sym (append_assoc blocks rows (field 0x7F [])) ∙ ap (λ (l : List ℕ). l ++ field 0x7F []) (bytes-entries ours c k)))

pub entries-length : (c : Circuit) → length (entries_of c) ≡ length c.blocks + length c.rows
unfolding entries_of
entries-length c =
    length-append (map block_entry c.blocks) (map row_entry c.rows)
    ∙ ap₂ (λ (a b : ℕ). a + b) (mapped-length block_entry c.blocks) (mapped-length row_entry c.rows)

-- ---- each entry is fine

byte_fits : (n : ℕ) → n < 256 → FitsIn 1 (pos n)
unfolding below_of above_of
byte_fits n h = sides-between (omega arith) (omega arith)

two_fits : (n : ℕ) → n < 65536 → FitsIn 2 (pos n)
unfolding below_of above_of
two_fits n h = sides-between (omega arith) (omega arith)

four-fits : (v : ℤ) → SFits w32 v → FitsIn 4 v
unfolding below_of above_of
four-fits v f = let s = fits-sides v f in sides-between (omega arith) (omega arith)

connectors-fit : (l : List Connector) → All Small l → Match FitsIn (connector_widths (length l)) (connector_numbers l)
unfolding connector_widths connector_numbers
connectors-fit [] a = tt
connectors-fit (c ∷ l) a = (byte_fits c.class a.0.class, (two_fits c.number a.0.number, connectors-fit l a.1))

parameters-fit : (vs : List ℤ) → All (SFits w32) vs → Match FitsIn (replicate (length vs) 4) vs
parameters-fit [] a = tt
parameters-fit (v ∷ vs) a = (four-fits v a.0, parameters-fit vs a.1)

module _ (limits : Limits) (n : ℕ) where
  block_fit : (b : Block) → BlockKeeps limits n b → Match FitsIn (widths_of (block_shape b.kind)) (block_entry b).numbers
  unfolding block_shape block_entry widths
  block_fit b k =
      let small = bytewise limits n b k in
      let p = match-length In (kind_of b.kind).parameters b.parameters k.parameters.ranges in
      let connectors = connectors-fit b.inputs (inputs-small limits n b k) in
      let parameters = parameters-fit b.parameters k.parameters.fit in
      let of-inputs : List ℕ = connector_widths (length b.inputs) in
      let of-parameters : List ℕ = replicate (length b.parameters) 4 in
      let rest = match-append FitsIn of-inputs of-parameters (connector_numbers b.inputs) b.parameters connectors parameters in
      (byte_fits b.kind small.kind, (byte_fits b.option small.option, rw (k.inputs, p) at rest))

  block-known : (b : Block) → BlockKeeps limits n b → known b.kind ≡ true
  unfolding known
  block-known b k = rw (le-leb 1 b.kind k.kind-low, lt-ltb b.kind (length kinds) k.kind-high)

  pub block-fine : (b : Block) → BlockKeeps limits n b → Fine (block_entry b)
  unfolding block_entry
  block-fine b k = record { shaped = block b.kind (block-known b k) refl refl; fit = block_fit b k; label = k.label }

  row-fit : (r : Row) → RowKeeps limits n r → Match FitsIn (widths_of output_shape) (row_entry r).numbers
  unfolding output_shape row_entry widths connector_widths connector_numbers
  row-fit r k = (byte_fits r.class (row-class limits n r k), (byte_fits r.number k.fits, connectors-fit (r.from ∷ []) (row_small limits n r k)))

  pub row_fine : (r : Row) → RowKeeps limits n r → Fine (row_entry r)
  unfolding row_entry
  row_fine r k = record { shaped = output refl; fit = row-fit r k; label = tt }

pub kept_fine : (c : Circuit) → Keeps ours c → All Fine (entries_of c)
unfolding entries_of
kept_fine c k =
    (all_append Fine (map block_entry c.blocks) (map row_entry c.rows)).1 (
      all-mapped Fine block_entry c.blocks (all_map _ _ (block-fine ours c.n) c.blocks k.blocks),
      all-mapped Fine row_entry c.rows (all_map _ _ (row_fine ours c.n) c.rows k.rows),
    )
