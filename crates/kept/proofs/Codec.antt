-- Bytes read and bytes written: what stands in a list is what its numbers write, and what was written is read again. Assumes nothing.
use mathlib.Core.Path.{◌≡◌, refl, ap, ap₂, sym, ◌∙◌}
use mathlib.Core.List.{List, [], ◌∷◌, ◌++◌, append_assoc}
use Prim.Native.Nat.{ℕ, zero, suc, ◌+◌, ◌-◌, ◌*◌, ◌/◌, ◌%◌, ◌^◌, ◌≤◌, ◌<◌}
use native.Mathlib.Nat.{add-zero, add_comm, add_assoc, mul-zero, mul-suc, mul_assoc, pow-succ', one-le-pow, mod-eq_of_lt, mod-lt, mul-add-div_right, mul-add-mod_self_right, mod-one}
use native.Mathlib.Numerals.{add-one}
use native.Mathlib.Omega.{arith}
use lib.Arith.{mod-mul, digits_lt, digits_div}
use lib.Dec.{lit<}
use lib.ListN.{length, get_or, take, drop, length-drop, length-append}
use lib.Seq.{drop-cons, take-add, drop-append_seam, drop-drop, get_or-drop, length-take-le}
use lib.IntN.{ℤ}
use mir.Syntax.{w32}
use mir.Val.{SFits, to_z, of_z}
use mir.Facts.{of_z-to_z, to_z-of_z, Fits-of_z, sfits_to_z}
use Rattle.words.specs.Bytes.{number_at, bytes_of}
use Rattle.words.proofs.Written.{length-bytes}
use Rattle.kinds.specs.Kinds.{In, kind_of, content_length}
use Rattle.refusals.specs.declared.Limits.{Limits}
use Rattle.connectors.specs.Connectors.{Connector, connector_at, connectors_at}
use Rattle.blockfield.specs.BlockField.{signed_at, signeds_at}
use Rattle.decoding.specs.Decoded.{Block, size_at, next_at}
use Rattle.kept.specs.Keeps.{Bytes, All, joined, signed_bytes, field, connector_bytes, BlockKeeps, block_content}
use Rattle.kept.proofs.Lists.{match-length}

-- ---- the bytes of a number

-- 256 to a power is above 0
power : (k : ℕ) → 0 < 256 ^ k
power k = one-le-pow k 256 (lit< tt)

-- what stands above k bytes does not show in them
bytes-above : (k q r : ℕ) → bytes_of k (q * 256 ^ k + r) ≡ bytes_of k r
unfolding bytes_of
bytes-above zero q r = refl
bytes-above (suc k) q r =
    let p : ℕ = 256 ^ k in
    let e : q * 256 ^ suc k ≡ q * 256 * p = ap (λ (m : ℕ). q * m) (pow-succ' 256 k) ∙ sym (mul_assoc q 256 p) in
    let d : (q * 256 * p + r) / p % 256 ≡ r / p % 256 =
    ap (λ (m : ℕ). m % 256) (mul-add-div_right (power k) (q * 256) r) ∙ mul-add-mod_self_right q 256 (r / p) in
    ap (λ (m : ℕ). bytes_of (suc k) (m + r)) e ∙ ap₂ (λ (x : ℕ) (l : List ℕ). x ∷ l) d (bytes-above k (q * 256) r)

pub bytes_small : (k n : ℕ) → All (λ b. b < 256) (bytes_of k n)
unfolding bytes_of
bytes_small zero n = tt
bytes_small (suc k) n = (mod-lt (n / 256 ^ k) (lit< tt), bytes_small k n)

-- ---- what stands in a list, written again

abbrev pub part : List ℕ → ℕ → ℕ → List ℕ
part s i n = take n (drop i s)

pub part-cons : (s : List ℕ) (i n : ℕ) → i < length s → part s i (suc n) ≡ get_or s i 0 ∷ part s (i + 1) n
part-cons s i n h = rw (drop-cons s i 0 h, add-one) refl

pub part-add : (s : List ℕ) (i m n : ℕ) → part s i (m + n) ≡ part s i m ++ part s (i + m) n
part-add s i m n = take-add m n (drop i s) ∙ ap (λ l. part s i m ++ take n l) (drop-drop m i s)

pub part_length : (s : List ℕ) (i n : ℕ) → i + n ≤ length s → length (part s i n) ≡ n
part_length s i n h = let q : n ≤ length s - i = omega arith in length-take-le n (drop i s) (rw length-drop q)

module _ (s : List ℕ) (small : Bytes s) where
  pub number_small : (k i : ℕ) → number_at k s i < 256 ^ k
  unfolding number_at
  number_small zero i = lit< tt
  number_small (suc k) i = rw (pow-succ' 256 k) (digits_lt (small i) (number_small k (i + 1)))

  pub number-part : (k i : ℕ) → i + k ≤ length s → part s i k ≡ bytes_of k (number_at k s i)
  unfolding number_at bytes_of
  number-part zero i h = refl
  number-part (suc k) i h =
      let a : i < length s = omega arith in
      let b : i + 1 + k ≤ length s = omega arith in
      let x : ℕ = get_or s i 0 in
      let y : ℕ = number_at k s (i + 1) in
      let p : (x * 256 ^ k + y) / 256 ^ k % 256 ≡ x =
      ap (λ (m : ℕ). m % 256) (digits_div x (number_small k (i + 1))) ∙ mod-eq_of_lt (small i) in
      part-cons s i k a ∙ sym (ap₂ (λ (u : ℕ) (l : List ℕ). u ∷ l) p (bytes-above k x y ∙ sym (number-part k (i + 1) b)))

  pub connector-part : (i : ℕ) → i + 3 ≤ length s → part s i 3 ≡ connector_bytes (connector_at s i)
  unfolding connector_bytes
  connector-part i h =
      let a : i < length s = omega arith in
      let b : i + 1 + 2 ≤ length s = omega arith in
      part-cons s i 2 a ∙ ap (λ l. get_or s i 0 ∷ l) (number-part 2 (i + 1) b)

  pub signed-fits : (i : ℕ) → SFits w32 (signed_at s i)
  signed-fits i = sfits_to_z (record { fits = number_small 4 i })

  signed_part : (i : ℕ) → i + 4 ≤ length s → part s i 4 ≡ signed_bytes (signed_at s i)
  unfolding signed_bytes
  signed_part i h = number-part 4 i h ∙ ap (bytes_of 4) (sym (of_z-to_z {w = w32} (record { fits = number_small 4 i })))

  pub connectors-part : (i k : ℕ) → i + 3 * k ≤ length s → part s i (3 * k) ≡ joined connector_bytes (connectors_at s i k)
  unfolding connectors_at
  connectors-part i zero h = refl
  connectors-part i (suc k) h =
      let e : 3 * suc k ≡ 3 + 3 * k = omega arith in
      let a : i + 3 ≤ length s = omega arith in
      let b : i + 3 + 3 * k ≤ length s = omega arith in
      ap (part s i) e ∙ part-add s i 3 (3 * k) ∙ ap₂ (λ (u v : List ℕ). u ++ v) (connector-part i a) (connectors-part (i + 3) k b)

  pub signeds-part : (i k : ℕ) → i + 4 * k ≤ length s → part s i (4 * k) ≡ joined signed_bytes (signeds_at s i k)
  unfolding signeds_at
  signeds-part i zero h = refl
  signeds-part i (suc k) h =
      let e : 4 * suc k ≡ 4 + 4 * k = omega arith in
      let a : i + 4 ≤ length s = omega arith in
      let b : i + 4 + 4 * k ≤ length s = omega arith in
      ap (part s i) e ∙ part-add s i 4 (4 * k) ∙ ap₂ (λ (u v : List ℕ). u ++ v) (signed_part i a) (signeds-part (i + 4) k b)

  pub field-part : (at : ℕ) → next_at s at ≤ length s → part s at (3 + size_at s at) ≡ field (get_or s at 0) (part s (at + 3) (size_at s at))
  unfolding field
  field-part at h =
      let a : at < length s = omega arith in
      let b : at + 1 + 2 ≤ length s = omega arith in
      let n = size_at s at in
      let u = part s (at + 3) n in
      part-add s at 3 n
      ∙ ap (λ (l : List ℕ). l ++ u) (part-cons s at 2 a ∙ ap (λ l. get_or s at 0 ∷ l) (number-part 2 (at + 1) b))
      ∙ ap (λ (k : ℕ). get_or s at 0 ∷ (bytes_of 2 k ++ u)) (sym (part_length s (at + 3) n h))

-- ---- what was written, read again

module _ (s : List ℕ) where
  pub step : (i x : ℕ) (r : List ℕ) → drop i s ≡ x ∷ r → (get_or s i 0 ≡ x) × (drop (i + 1) s ≡ r)
  step i x r e = (
    sym (get_or-drop i s 0 0 ∙ ap (λ (k : ℕ). get_or s k 0) (add-zero i)) ∙ ap (λ (l : List ℕ). get_or l 0 0) e,
    sym (drop-drop 1 i s) ∙ ap (drop 1) e,
  )

  low_read : (k i x : ℕ) (r : List ℕ) → drop i s ≡ bytes_of k x ++ r → (number_at k s i ≡ x % 256 ^ k) × (drop (i + k) s ≡ r)
  unfolding number_at bytes_of
  low_read zero i x r e = (sym (mod-one x), rw add-zero e)
  low_read (suc k) i x r e =
      let a = step i (x / 256 ^ k % 256) (bytes_of k x ++ r) e in
      let b = low_read k (i + 1) x r a.1 in
      let q : i + 1 + k ≡ i + suc k = omega arith in (
        ap₂ (λ (u v : ℕ). u * 256 ^ k + v) a.0 b.0 ∙ sym (ap (λ (m : ℕ). x % m) (pow-succ' 256 k) ∙ mod-mul x (lit< tt) (power k)),
        ap (λ (n : ℕ). drop n s) (sym q) ∙ b.1,
      )

  pub number_read : (k i x : ℕ) (r : List ℕ) → x < 256 ^ k → drop i s ≡ bytes_of k x ++ r → (number_at k s i ≡ x) × (drop (i + k) s ≡ r)
  number_read k i x r h e = let a = low_read k i x r e in (a.0 ∙ mod-eq_of_lt h, a.1)

  pub connector-read : (i : ℕ) (c : Connector) (r : List ℕ) → c.number < 65536 → drop i s ≡ connector_bytes c ++ r
      → (connector_at s i ≡ c) × (drop (i + 3) s ≡ r)
  unfolding connector_bytes
  connector-read i c r h e =
      let a = step i _ _ e in
      let b = number_read 2 (i + 1) c.number r h a.1 in
      (λ t. record { class = a.0 t; number = b.0 t }, rw add_assoc at b.1)

  pub connectors-read : (i : ℕ) (cs : List Connector) (r : List ℕ) → All (λ c. c.number < 65536) cs
      → drop i s ≡ joined connector_bytes cs ++ r → (connectors_at s i (length cs) ≡ cs) × (drop (i + 3 * length cs) s ≡ r)
  unfolding connectors_at
  connectors-read i [] r f e = (refl, rw add-zero e)
  connectors-read i (c ∷ cs) r f e =
      let rest = joined connector_bytes cs in
      let a = connector-read i c (rest ++ r) f.0 (e ∙ append_assoc (connector_bytes c) rest r) in
      let b = connectors-read (i + 3) cs r f.1 a.1 in
      let q : i + 3 + 3 * length cs ≡ i + 3 * suc (length cs) = omega arith in
      (ap₂ (λ (x : Connector) (l : List Connector). x ∷ l) a.0 b.0, ap (λ (n : ℕ). drop n s) (sym q) ∙ b.1)

  pub signeds-read : (i : ℕ) (vs : List ℤ) (r : List ℕ) → All (SFits w32) vs → drop i s ≡ joined signed_bytes vs ++ r
      → (signeds_at s i (length vs) ≡ vs) × (drop (i + 4 * length vs) s ≡ r)
  unfolding signeds_at signed_bytes
  signeds-read i [] r f e = (refl, rw add-zero e)
  signeds-read i (v ∷ vs) r f e =
      let rest = joined signed_bytes vs in
      let a = number_read 4 i (of_z w32 v) (rest ++ r) (Fits-of_z f.0).fits (e ∙ append_assoc (signed_bytes v) rest r) in
      let b = signeds-read (i + 4) vs r f.1 a.1 in
      let q : i + 4 + 4 * length vs ≡ i + 4 * suc (length vs) = omega arith in
      (ap₂ (λ (x : ℤ) (l : List ℤ). x ∷ l) (ap (to_z w32) a.0 ∙ to_z-of_z f.0) b.0, ap (λ (n : ℕ). drop n s) (sym q) ∙ b.1)

  pub record Stands (at tag : ℕ) (content r : List ℕ) : Type 0 where
    pub tag_is : get_or s at 0 ≡ tag
    pub size_is : size_at s at ≡ length content
    pub content-is : drop (at + 3) s ≡ content ++ r
    pub next-is : drop (next_at s at) s ≡ r
    pub inside : next_at s at ≤ length s

  pub field-read : (at tag : ℕ) (content r : List ℕ) → length content < 65536 → drop at s ≡ field tag content ++ r → Stands at tag content r
  unfolding field
  field-read at tag content r h e =
      let size : List ℕ = bytes_of 2 (length content) in
      let a = step at tag ((size ++ content) ++ r) e in
      let b = number_read 2 (at + 1) (length content) (content ++ r) h (a.1 ∙ append_assoc size content r) in
      let c : drop (at + 3) s ≡ content ++ r = rw add_assoc at b.1 in
      let n : size_at s at ≡ length content = b.0 in
      let tail : length s - (at + 3) ≡ length content + length r = sym (length-drop (at + 3) s) ∙ ap length c ∙ length-append content r in
      let whole : length s - at ≡ suc (length ((size ++ content) ++ r)) = sym (length-drop at s) ∙ ap length e in
      let three = length-append (size ++ content) r in
      let two = length-append size content in
      let width : length size ≡ 2 = length-bytes 2 (length content) in
      record {
        tag_is = a.0;
        size_is = n;
        content-is = c;
        next-is = sym (drop-drop (size_at s at) (at + 3) s) ∙ ap₂ (λ (k : ℕ) (l : List ℕ). drop k l) n c ∙ drop-append_seam content r;
        inside = omega arith;
      }

-- ---- how long it is

pub connector-size : (c : Connector) → length (connector_bytes c) ≡ 3
unfolding connector_bytes
connector-size c = ap suc (length-bytes 2 c.number)

-- of parts of one length
pub joined-size : {A : Type 0} (f : A → List ℕ) (k : ℕ) → ((x : A) → length (f x) ≡ k) → (l : List A) → length (joined f l) ≡ k * length l
joined-size f k h [] = sym (mul-zero k)
joined-size f k h (x ∷ l) =
    length-append (f x) (joined f l)
    ∙ ap₂ (λ (u v : ℕ). u + v) (h x) (joined-size f k h l)
    ∙ add_comm k (k * length l)
    ∙ sym (mul-suc k (length l))

pub block_size : (limits : Limits) (n : ℕ) (b : Block) → BlockKeeps limits n b → length (block_content b) ≡ content_length (kind_of b.kind)
unfolding block_content signed_bytes
block_size limits n b k =
    let p = match-length In (kind_of b.kind).parameters b.parameters k.parameters.ranges in
    let m = k.inputs in
    let i = joined-size connector_bytes 3 connector-size b.inputs in
    let j = joined-size signed_bytes 4 (λ v. length-bytes 4 (of_z w32 v)) b.parameters in
    let l = length-append (joined connector_bytes b.inputs) (joined signed_bytes b.parameters) in
    omega arith
