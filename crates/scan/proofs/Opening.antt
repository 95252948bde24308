-- From what the code finds to what the calls answer and leave. Assumes nothing.
use Prim.Native.Nat.{ℕ}
use native.Mathlib.Omega.{arith}
use mathlib.Core.Path.{◌≡◌, refl, sym, ap, ◌∙◌, subst}
use mathlib.Core.Bool.{Bool, true, false, cond, not, ◌||◌}
use mathlib.Core.List.{List, [], ◌∷◌, map}
use lib.Dec.{eqb}
use lib.ListN.{length, take}
use lib.IntN.{ℤ}
use borrow.Author.Tests.{eqb-true}
use Rattle.refusals.specs.Limited.{ours}
use Rattle.refusals.specs.Faults.{◌when◌, lowest}
use Rattle.refusals.specs.declared.Refusal.{Refusal}
use Rattle.refusals.specs.declared.Refused.{Refused}
use Rattle.refusals.specs.Refusals.{number_of}
use Rattle.std.specs.Prelude.{Result, Ok, Err}
use Rattle.refusals.specs.Answers.{refused_at, answer_of}
use Rattle.refusals.proofs.Laws.{ours-modest}
use Rattle.refusals.proofs.Numbers.{number-above}
use Rattle.decoding.specs.Decoded.{Block, Circuit, block_at}
use Rattle.decoding.specs.Held.{Head, head_of, bare}
use Rattle.decoding.specs.declared.known.Known.{Known}
use Rattle.circuit.specs.Circuit.{verdict, refused, accepted}
use Rattle.circuit.specs.Judged.{Accepts}
use Rattle.kept.specs.Keeps.{Bytes}
use Rattle.lines.specs.Lines.{Line, line_of, lines_of}
use Rattle.record.specs.Places.{size_of}
use Rattle.record.specs.Sound.{in_scan, sound}
use Rattle.record.specs.Written.{lines_at, Stand}
use Rattle.steps.specs.Steps.{to_go}
use Rattle.steps.specs.Wired.{AllFine}
use Rattle.record.proofs.Split.{lines-length}
use Rattle.destinations.proofs.Decided.{accepted-rows}
use Rattle.calls.specs.Calls.{Call, cold_start, warm_start, latch, run, publish, Plan, plan_of, is_reading, faults, refusal, gives, leaves, shows, answer_after, record_after, outputs_after}
use Rattle.calls.proofs.Accepts.{answer-accepted, record-accepted, outputs-accepted, answer-refused, record-refused, outputs-refused, answer-after, record-after, outputs-after}
use Rattle.calls.proofs.Fine.{accepted-fine}
use Rattle.scan.specs.Opened.{asks_sound, Refuses, Opened, Opens}

-- ---- the circuit is refused

pub circuit-refused : (s : List ℕ) (number place : ℕ) → verdict s ≡ refused number place → (x : Call) (l : List ℤ) → Refuses s x l number place
unfolding answer_after record_after outputs_after
circuit-refused s number place e x l = record { answer = rw e; words = rw e; outs = λ o. rw e }

-- ---- the circuit is accepted, and a number is told or none

module _ (s : List ℕ) (c : Circuit) (e : verdict s ≡ accepted c) (x : Call) (l : List ℤ) where
  pub told-number : (k : ℕ) → (k ≡ 0 → ⊥) → refusal (plan_of c) x l ≡ k → Refuses s x l k 0
  told-number k ne r =
      let no : refusal (plan_of c) x l ≡ 0 → ⊥ = λ z. ne (sym r ∙ z) in
      record {
        answer = answer-after s c e x l ∙ answer-refused (plan_of c) x l no ∙ ap (λ (q : ℕ). refused_at q 0) r;
        words = record-after s c e x l ∙ record-refused (plan_of c) x l no;
        outs = λ o. outputs-after s c e x l o ∙ outputs-refused (plan_of c) x l no o;
      }

  pub answered : refusal (plan_of c) x l ≡ 0 → answer_after s x l ≡ gives (plan_of c) x l
  answered r = answer-after s c e x l ∙ answer-accepted (plan_of c) x l r

  pub left_so : refusal (plan_of c) x l ≡ 0 → record_after s x l ≡ leaves (plan_of c) x l
  left_so r = record-after s c e x l ∙ record-accepted (plan_of c) x l r

  pub shown-so : refusal (plan_of c) x l ≡ 0 → (o : List ℤ) → outputs_after s x l o ≡ shows (plan_of c) x l o
  shown-so r o = outputs-after s c e x l o ∙ outputs-accepted (plan_of c) x l r o

-- ---- which number

module _ (p : Plan) (l : List ℤ) where
  abbrev is_long : Bool
  is_long = eqb (length l) (size_of (length p.lines))

  pub twenty : (x : Call) → is_long ≡ false → refusal p x l ≡ 20
  unfolding refusal faults
  twenty cold_start e = rw e
  twenty warm_start e = rw e
  twenty (latch r t) e = rw e
  twenty (run c) e = rw e
  twenty (publish k) e = rw e

  pub cold-number : is_long ≡ true → refusal p cold_start l ≡ 0
  unfolding refusal faults
  cold-number e = rw e

  pub twenty-one : (x : Call) → asks_sound x ≡ true → is_long ≡ true → sound p.lines l ≡ false → refusal p x l ≡ 21
  unfolding refusal faults
  twenty-one cold_start a e f = cc
  twenty-one warm_start a e f = rw (e, f)
  twenty-one (latch r t) a e f = rw (e, f)
  twenty-one (run c) a e f = rw (e, f)
  twenty-one (publish k) a e f = rw (e, f)

  module _ (e : is_long ≡ true) (f : sound p.lines l ≡ true) where
    pub warm-number : {t : Bool} → in_scan l ≡ t → refusal p warm_start l ≡ cond t 22 0
    unfolding refusal faults
    warm-number g = rw (e, f, g)

    pub latch-number : (r : List ℤ) (z : ℤ) {t u : Bool} → in_scan l ≡ t → is_reading r z ≡ u → refusal p (latch r z) l ≡ cond t 22 (cond (not u) 23 0)
    unfolding refusal faults
    latch-number r z g h = rw (e, f, g, h)

    pub run-number : (c : ℕ) {t : Bool} → in_scan l ≡ t → refusal p (run c) l ≡ cond (not t) 22 0
    unfolding refusal faults
    run-number c g = rw (e, f, g)

    pub publish-number : (k : ℕ) {t u v : Bool} → in_scan l ≡ t → eqb (to_go p.lines l) 0 ≡ u → eqb k 28 ≡ v → refusal p (publish k) l ≡ cond (not t || not u) 22 (cond (not v) 24 0)
    unfolding refusal faults
    publish-number k g h i = rw (e, f, g, h, i)

-- every refusal has a number
some_number : (refusal : Refusal) → number_of refusal ≡ 0 → ⊥
some_number refusal e = omega (arith, number-above refusal)

-- ---- what stands in the bytes of an accepted circuit

map-twice : {A B C : Type 0} (f : A → B) (g : B → C) (l : List A) → map g (map f l) ≡ map (λ x. g (f x)) l
map-twice f g [] = refl
map-twice f g (x ∷ l) = ap (λ m. g (f x) ∷ m) (map-twice f g l)

same_line : (l : List Block) → map line_of (map bare l) ≡ map line_of l
unfolding line_of
same_line [] = refl
same_line (b ∷ l) = ap (λ m. line_of b ∷ m) (same_line l)

module _ (s : List ℕ) (head : Head) (offsets : List ℕ) (a : Accepts ours s head offsets) where
  pub plan-lines : lines_at s head.n offsets ≡ lines_of a.circuit
  unfolding lines_of
  plan-lines =
      sym (map-twice (block_at s) line_of (take head.n offsets)) ∙ ap (map line_of) a.there ∙ same_line a.circuit.blocks

  pub stands : Stand s head.n offsets
  stands = record { few = a.few; long = a.long; lie = a.lie }

  pub plan-length : length (lines_of a.circuit) ≡ head.n
  plan-length = ap length (sym plan-lines) ∙ lines-length s head.n offsets stands

  -- the numbers 20 and 21
  pub record-told : (l : List ℤ) (x : Call) → asks_sound x ≡ true → (k : ℕ) → (k ≡ 0 → ⊥)
      → k ≡ lowest (20 when not (eqb (length l) (size_of head.n)) ∷ 21 when not (sound (lines_at s head.n offsets) l) ∷ []) → Refuses s x l k 0
  record-told l x asks k ne e =
      told-number s a.circuit a.is x l k ne (by (eqb (length l) (size_of head.n)) (sound (lines_at s head.n offsets) l) refl refl)
    where
      by : (t u : Bool) → eqb (length l) (size_of head.n) ≡ t → sound (lines_at s head.n offsets) l ≡ u → refusal (plan_of a.circuit) x l ≡ k
      by false u f g =
          twenty (plan_of a.circuit) l x (ap (λ (n : ℕ). eqb (length l) (size_of n)) plan-length ∙ f) ∙ sym (e ∙ ap (λ (t : Bool). lowest (20 when not t ∷ 21 when not (sound (lines_at s head.n offsets) l) ∷ [])) f)
      by true false f g =
          twenty-one (plan_of a.circuit) l x asks (ap (λ (n : ℕ). eqb (length l) (size_of n)) plan-length ∙ f) (ap (λ (m : List Line). sound m l) (sym plan-lines) ∙ g)
          ∙ sym (e ∙ rw (f, g))
      by true true f g = absurd (ne (e ∙ rw (f, g)))

  -- neither
  pub record-right : (l : List ℤ) → Bytes s → length l ≡ size_of head.n → sound (lines_at s head.n offsets) l ≡ true → Opened s l head offsets
  record-right l small fits ok =
      record {
        circuit = a.circuit;
        is = a.is;
        lines = plan-lines;
        rows = a.rows-there;
        runs =
            record {
              stand = stands;
              fine = subst AllFine (sym plan-lines) (accepted-fine s small a.circuit a.is).lines;
              long = fits;
              is-sound = ok;
            };
        shown = accepted-rows ours s head offsets ours-modest small a;
      }

  -- the record is refused
  pub refused_so : (l : List ℤ) (refusal : Refusal)
      → number_of refusal ≡ lowest (20 when not (eqb (length l) (size_of head.n)) ∷ 21 when not (sound (lines_at s head.n offsets) l) ∷ [])
      → (x : Call) → asks_sound x ≡ true → Refuses s x l (number_of refusal) 0
  refused_so l refusal e x asks = record-told l x asks (number_of refusal) (some_number refusal) e

  -- or not
  pub accepted_so : (l : List ℤ) → Bytes s
      → 0 ≡ lowest (20 when not (eqb (length l) (size_of head.n)) ∷ 21 when not (sound (lines_at s head.n offsets) l) ∷ []) → Opened s l head offsets
  accepted_so l small e = by (eqb (length l) (size_of head.n)) (sound (lines_at s head.n offsets) l) refl refl e
    where
      by : (t u : Bool) → eqb (length l) (size_of head.n) ≡ t → sound (lines_at s head.n offsets) l ≡ u → 0 ≡ lowest (20 when not (eqb (length l) (size_of head.n)) ∷ 21 when not (sound (lines_at s head.n offsets) l) ∷ []) → Opened s l head offsets
      by true true f g h = record-right l small (eqb-true (length l) (size_of head.n) f) g
      by true false f g h = let z : ◌≡◌ {A = ℕ} 0 21 = h ∙ rw (f, g) in absurd (let y : ⊥ = omega arith in y)
      by false u f g h = let z : ◌≡◌ {A = ℕ} 0 20 = h ∙ rw f in absurd (let y : ⊥ = omega arith in y)

-- ---- as a result

module _ (s : List ℕ) (l : List ℤ) (known : Known) where
  pub opens-not : (e : Refused) → ((x : Call) → asks_sound x ≡ true → Refuses s x l (number_of e.refusal) e.place) → Opens s l (Err e) known
  opens-not e h =
      record {
        refuses = λ f p x asks. let q : e ≡ f = cc in subst (λ (g : Refused). Refuses s x l (number_of g.refusal) g.place) q (h x asks);
        accepts = λ p. absurd (let z : ⊥ = cc in z);
      }

  pub opens : Opened s l (head_of known) known.offsets → Opens s l (Ok tt) known
  opens o = record { refuses = λ e p x asks. absurd (let z : ⊥ = cc in z); accepts = λ p. o }

-- ---- what a refusal leaves

module _ (s : List ℕ) (x : Call) (l : List ℤ) where
  pub refused_so_far : {r : Result (ℕ × ℕ) Refused} (e : Refused) → r ≡ Err e → Refuses s x l (number_of e.refusal) e.place
      → (answer_of r ≡ answer_after s x l) × (l ≡ record_after s x l) × ((o : List ℤ) → o ≡ outputs_after s x l o)
  refused_so_far e is r = rw is (sym r.answer, sym r.words, λ o. sym (r.outs o))

  pub refused_here : {e : Refused} (refusal : Refusal) → e ≡ record { refusal = refusal; place = 0 } → Refuses s x l (number_of refusal) 0
      → (answer_of (Err e) ≡ answer_after s x l) × (l ≡ record_after s x l) × ((o : List ℤ) → o ≡ outputs_after s x l o)
  refused_here refusal is r = rw is (sym r.answer, sym r.words, λ o. sym (r.outs o))
