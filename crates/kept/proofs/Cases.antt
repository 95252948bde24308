-- A circuit by its two descriptions: an on-delay with a label and an inverted input, a threshold trigger, two rows. Both are computed.
-- Assumes nothing.
use mathlib.Core.Path.{◌≡◌, refl}
use mathlib.Core.Bool.{Bool, true, ◌&&◌}
use mathlib.Core.List.{List, [], ◌∷◌}
use mathlib.Core.Option.{none, some}
use Prim.Native.Nat.{ℕ, zero, suc}
use native.Mathlib.Omega.{arith}
use lib.Dec.{ltb}
use lib.IntN.{pos}
use borrow.Author.Tests.{ltb-true}
use Rattle.words.specs.Bytes.{number_at, bytes_of}
use Rattle.words.specs.Signed.{minus}
use Rattle.kinds.specs.Kinds.{kinds, kind_of, known, allowed, scaled, timed, indexed, chosen}
use Rattle.refusals.specs.Limited.{ours}
use Rattle.connectors.specs.Connectors.{Connector, connectors_at, member, takes, inverts, least, greatest, names_block, misfits, wrong_sort, wrong, later, any_of}
use Rattle.blockfield.specs.BlockField.{signeds_at, wrong_length, wrong_kind, wrong_inputs, later_inputs, block_faults}
use Rattle.fields.specs.Fields.{header_faults, label_faults, row_faults, end_faults, limit_of, spot_of}
use Rattle.decoding.specs.Decoded.{Circuit, index_used, destination_used, labelled}
use Rattle.circuit.specs.Circuit.{accepted, by_tag, tag_faults, field_faults, field_number, taken, closing, walk, verdict_at}
use Rattle.kept.specs.Keeps.{Bytes, Keeps, field, connector_bytes, signed_bytes, block_content, row_content, encode}
use Rattle.refusals.proofs.Tests.{and-iff}
use Rattle.kept.proofs.Exactly.{accepted-exactly}

to : ℕ → ℕ → Connector
to class number = record { class = class; number = number }

example : Circuit
example =
    record {
      version = 1;
      n = 2;
      blocks =
          record { kind = 9; option = 1; inputs = to 0x81 1 ∷ []; parameters = pos 0 ∷ pos 300 ∷ []; label = some (65 ∷ []) }
          ∷ record { kind = 13; option = 0; inputs = to 7 1 ∷ []; parameters = minus 33 ∷ pos 0 ∷ pos 5 ∷ pos 5 ∷ []; label = none }
          ∷ [];
      rows = record { class = 1; number = 1; from = to 6 1 } ∷ record { class = 2; number = 64; from = to 0x86 2 } ∷ [];
    }

bytes : List ℕ
bytes =
    0x01 ∷ 0 ∷ 3 ∷ 1 ∷ 0 ∷ 2
    ∷ 0x10 ∷ 0 ∷ 13 ∷ 9 ∷ 1 ∷ 0x81 ∷ 0 ∷ 1 ∷ 0 ∷ 0 ∷ 0 ∷ 0 ∷ 0 ∷ 0 ∷ 1 ∷ 44
    ∷ 0x20 ∷ 0 ∷ 1 ∷ 65
    ∷ 0x10 ∷ 0 ∷ 21 ∷ 13 ∷ 0 ∷ 7 ∷ 0 ∷ 1 ∷ 255 ∷ 255 ∷ 255 ∷ 223 ∷ 0 ∷ 0 ∷ 0 ∷ 0 ∷ 0 ∷ 0 ∷ 0 ∷ 5 ∷ 0 ∷ 0 ∷ 0 ∷ 5
    ∷ 0x30 ∷ 0 ∷ 5 ∷ 1 ∷ 1 ∷ 6 ∷ 0 ∷ 1
    ∷ 0x30 ∷ 0 ∷ 5 ∷ 2 ∷ 64 ∷ 0x86 ∷ 0 ∷ 2
    ∷ 0x7F ∷ 0 ∷ 0
    ∷ []

its-bytes : encode example ≡ bytes
unfolding example bytes to encode field bytes_of signed_bytes connector_bytes block_content row_content
its-bytes = refl

judged : verdict_at ours bytes ≡ accepted example
unfolding example bytes to verdict_at walk closing taken labelled field_number field_faults tag_faults by_tag header_faults block_faults label_faults row_faults end_faults number_at destination_used index_used limit_of spot_of wrong_length wrong_kind known kind_of kinds scaled timed indexed chosen allowed wrong_inputs later_inputs any_of wrong misfits wrong_sort later connectors_at signeds_at member takes inverts least greatest names_block
judged = refl

all_bytes : List ℕ → Bool
all_bytes [] = true
all_bytes (b ∷ l) = ltb b 256 && all_bytes l

are-bytes : (l : List ℕ) → all_bytes l ≡ true → Bytes l
unfolding all_bytes
are-bytes [] e i = omega arith
are-bytes (b ∷ l) e zero = ltb-true _ _ ((and-iff _ _).0 e).0
are-bytes (b ∷ l) e (suc i) = are-bytes l ((and-iff (ltb b 256) (all_bytes l)).0 e).1 i

-- some circuit keeps the rules
kept : Keeps ours example
unfolding all_bytes bytes
kept = ((accepted-exactly ours bytes (are-bytes bytes refl) example).0 judged).0
