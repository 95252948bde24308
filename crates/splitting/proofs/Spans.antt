-- A cell that is held, as one span and in the two lists. Assumes nothing.
use Rattle.std.proofs.Common.{◌≡◌, ℕ, ◌+◌, ◌≤◌, ◌<◌, List, length, get_or, set, refl, Bool, true, false, eqb, ◌∙◌}
use Rattle.std.proofs.Math.ListN.{get_or-map, length-map}
use Rattle.std.proofs.lemmas.List.{map-set, get_or-set_same, get_or-set_other}
use borrow.Author.Tests.{eqb-true, eqb-false}
use Rattle.splitting.specs.declared.held.Span.{Span}
use Rattle.splitting.specs.Spans.{starts_of, sizes_of, LiesIn}

abbrev none : Span
none = record { start = 0; size = 0 }

pub start_is : (spans : List Span) (j : ℕ) → get_or (starts_of spans) j 0 ≡ (get_or spans j (record { start = 0; size = 0 })).start
start_is spans j = get_or-map (λ (c : Span). c.start) spans j none

pub size_is : (spans : List Span) (j : ℕ) → get_or (sizes_of spans) j 0 ≡ (get_or spans j (record { start = 0; size = 0 })).size
size_is spans j = get_or-map (λ (c : Span). c.size) spans j none

-- a cell of a text, and the text's part that it is
pub lies : (spans : List Span) (long j : ℕ) → LiesIn spans long j
    → (get_or spans j (record { start = 0; size = 0 })).start + (get_or spans j (record { start = 0; size = 0 })).size ≤ long
lies spans long j h = rw (start_is spans j, size_is spans j) at h

-- one more cell is held
module _ (spans : List Span) (k : ℕ) (c : Span) where
  pub starts_set : starts_of (set spans k c) ≡ set (starts_of spans) k c.start
  starts_set = map-set (λ (x : Span). x.start) spans k c

  pub sizes_set : sizes_of (set spans k c) ≡ set (sizes_of spans) k c.size
  sizes_set = map-set (λ (x : Span). x.size) spans k c

  pub lies_set : (long : ℕ) → k < length spans → c.start + c.size ≤ long → ((j : ℕ) → LiesIn spans long j) → (j : ℕ) → LiesIn (set spans k c) long j
  lies_set long g h all j = by (eqb j k) refl
    where
      of_span : (get_or (set spans k c) j none).start + (get_or (set spans k c) j none).size ≤ long → LiesIn (set spans k c) long j
      of_span q = rw (start_is (set spans k c) j, size_is (set spans k c) j) q

      by : (t : Bool) → eqb j k ≡ t → LiesIn (set spans k c) long j
      by true e = of_span (rw (eqb-true j k e, get_or-set_same spans k c none g) h)
      by false e = of_span (rw (get_or-set_other spans k j c none (eqb-false j k e)) (lies spans long j (all j)))

pub ruleset spans = (start_is, size_is)

pub starts_long : (spans : List Span) → length spans ≡ 16 → length (starts_of spans) ≡ 16
starts_long spans h = length-map spans (λ c. c.start) ∙ h

pub sizes_long : (spans : List Span) → length spans ≡ 16 → length (sizes_of spans) ≡ 16
sizes_long spans h = length-map spans (λ c. c.size) ∙ h
