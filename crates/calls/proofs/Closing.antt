-- Publish reads and keeps nothing of blocks done: whatever stands there, record and outputs become the same. Assumes nothing.
use Prim.Native.Nat.{ℕ, zero, suc, ◌+◌, ◌-◌}
use native.Mathlib.Omega.{arith}
use mathlib.Core.Path.{◌≡◌, refl, ◌∙◌}
use mathlib.Core.Bool.{false}
use mathlib.Core.List.{List, [], ◌∷◌, ◌++◌}
use lib.ListN.{length-set}
use lib.Seq.{get_or-set_other}
use lib.IntN.{ℤ, pos}
use Rattle.decoding.specs.Decoded.{Row}
use Rattle.record.specs.Places.{done, index_of, place_of, at, put, change}
use Rattle.record.proofs.Located.{Spot, is-phase, is-done, is-mark, is-elapsed, is-input, is-analog, is-flag, is-analog_flag, is_block, change-length, change-at, is-change}
use Rattle.steps.proofs.Reading.{bit-same, value-other}
use Rattle.destinations.specs.Destinations.{Q, M, AQ, AM, carried, destined, list_from, outputs_of, publish_word}

list_same : (m a : ℕ) (f g : ℕ → ℤ) → ((i : ℕ) → f i ≡ g i) → list_from a m f ≡ list_from a m g
list_same zero a f g h = refl
list_same (suc m) a f g h = rw (h a, list_same m (a + 1) f g h)

append-same : {a b x y : List ℤ} → a ≡ b → x ≡ y → a ++ x ≡ b ++ y
append-same e f = rw (e, f)

module _ (l : List ℤ) (z : ℤ) where
  -- the record with another number of blocks done
  abbrev told : List ℤ
  told = put l done z

  carried_other : (row : Row) → carried told row ≡ carried l row
  unfolding carried
  carried_other row = rw (bit-same told l false row.from (value-other l z row.from), value-other l z row.from)

  destined-other : (rows : List Row) (class n : ℕ) → destined rows told class n ≡ destined rows l class n
  unfolding destined
  destined-other [] class n = refl
  destined-other (row ∷ rows) class n = rw (carried_other row, destined-other rows class n)

  pub outputs-other : (rows : List Row) → outputs_of rows told ≡ outputs_of rows l
  unfolding outputs_of
  outputs-other rows =
      append-same (list_same 20 1 (destined rows told Q) (destined rows l Q) (destined-other rows Q))
      (list_same 8 1 (destined rows told AQ) (destined rows l AQ) (destined-other rows AQ))

  -- every word but that one
  kept : (i : ℕ) → (i ≡ 1 → ⊥) → at told i ≡ at l i
  unfolding index_of
  kept i ne = get_or-set_other l 1 i z (pos 0) ne

  module _ (rows : List Row) where
    same_at : (i : ℕ) → Spot i → publish_word rows told (place_of i) (at told i) ≡ publish_word rows l (place_of i) (at l i)
    unfolding index_of
    same_at i (is-phase q e) = rw e
    same_at i (is-done q e) = rw e
    same_at i (is-mark q e) = rw e
    same_at i (is-elapsed q e) = rw e
    same_at i (is-input a b e) = rw e (kept i (λ q. omega arith))
    same_at i (is-analog a b e) = rw e (kept i (λ q. omega arith))
    same_at i (is-flag a b e) = rw (e, kept 2 (λ q. omega arith), destined-other rows M (i - 35))
    same_at i (is-analog_flag a b e) = rw e (destined-other rows AM (i - 99))
    same_at i (is_block a e) = rw e (kept i (λ q. omega arith))

    pub publish-other : change (publish_word rows told) told ≡ change (publish_word rows l) l
    publish-other =
        is-change (publish_word rows l) l (change (publish_word rows told) told)
        (change-length (publish_word rows told) told ∙ length-set l (index_of done) z)
        (λ i h at_i. change-at (publish_word rows told) told i (simp length-set h) ∙ same_at i at_i)
