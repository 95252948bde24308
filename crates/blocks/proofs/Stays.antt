-- What a rule gives is in the range that a sound record asks, over all kinds at once; and which words a kind leaves 0.
-- A rule's own lemma speaks of its Q, its remembered bit and its number; one product has a line for each kind. Assumes nothing.
use mathlib.Core.Path.{◌≡◌, refl}
use mathlib.Core.Bool.{Bool, true, false, not, cond, ◌&&◌, beq}
use mathlib.Core.List.{List, [], ◌∷◌}
use Prim.Native.Nat.{ℕ, zero, suc, ◌+◌, ◌*◌, ◌≤◌, max}
use native.Mathlib.Omega.{arith}
use lib.Dec.{ltb, eqb}
use lib.ListN.{get_or}
use lib.IntN.{ℤ, pos, ◌-ℤ◌}
use Rattle.words.specs.Signed.{word_of}
use Rattle.words.proofs.Bounds.{zero-between, count-between, amount-between}
use Rattle.words.proofs.Bits.{bit-between, word-between}
use Rattle.kinds.specs.Kinds.{Kind, Sort, digital, analog, none, elapsed, up_to, In, sixteen, delay, latching, shifting, trigger, choosing, most_count, counting, stairway, amplifying, kinds, kind_of, chosen, most_of, parameter, sort_range, output_range, remembered_range}
use Rattle.kinds.specs.Time.{ticks}
use Rattle.kinds.specs.declared.Ticks.{Ticks}
use Rattle.rules.specs.declared.BlockWords.{BlockWords}
use Rattle.rules.specs.Rules.{three, gives, shows, bit, all_of, some_of, and_gate, and_edge, nand_gate, nand_edge, or_gate, nor_gate, xor_gate, not_gate, grown, on_delay, off_delay, latching_relay, digit, register_bit, stepped, shift_register, actual_of, triggers_on, threshold_trigger, compared, multiplexed, amplified, tally, counts_on, up_down_counter, trg_and_running, stands, is_dark, dims, stairway_switch}
use Rattle.rules.proofs.Register.{digit-small, shifted-below}
use Rattle.rules.proofs.Worked.{tally-most}
use Rattle.rules.proofs.Actual.{actual-in}
use Rattle.blocks.specs.declared.Prepared.{Prepared}
use Rattle.blocks.specs.Blocks.{was_bit, was_on, was_pressed, was_running, was_number, Rule, idle, rules, worked_out}
use Rattle.blocks.specs.Fit.{Fit, Sound}

-- ---- a line for each kind

abbrev Each : (ℕ → Rule → Type 0) → List Rule → Type 0
Each P [] = Unit {0}
Each P (r ∷ rs) = P 0 r × Each (λ n. P (suc n)) rs

-- a line and those behind it
infixr 20 ◌also◌
abbrev ◌also◌ : {A B : Type 0} → A → B → A × B
a also b = (a, b)

at_each : (P : ℕ → Rule → Type 0) (rs : List Rule) → ((n : ℕ) → P n idle) → Each P rs → (kind : ℕ) → P kind (get_or rs kind idle)
at_each P [] d ps kind = d kind
at_each P (r ∷ rs) d ps zero = ps.0
at_each P (r ∷ rs) d ps (suc kind) = at_each (λ n. P (suc n)) rs (λ n. d (suc n)) ps.1 kind

-- ---- the words of a digital block

module _ (k : Kind) (t : Ticks) (is : k.output ≡ digital) where
  digital-out : (q : Bool) → In (output_range k) (word_of q)
  digital-out q = rw is (word-between q)

  shows-sound : (q : Bool) → Sound k t (shows q)
  shows-sound q = record { output-is = digital-out q; remembered-is = zero-between; number_is = zero-between }

  gives-sound : 1 ≤ k.remembered → (q b : Bool) (n : ℕ) → n ≤ most_of k.number t → Sound k t (gives q b n)
  gives-sound h q b n m = record { output-is = digital-out q; remembered-is = bit-between b h; number_is = count-between m }

-- ---- what a rule with cases puts together, said once: both laws below follow from it

-- Q, a remembered bit, and a number that is at most m
record Made (m : ℕ) (w : BlockWords) : Type 0 where
  q : Bool
  held : Bool
  n : ℕ
  is : w ≡ gives q held n
  most : n ≤ m

made : {m : ℕ} (q held : Bool) (n : ℕ) → n ≤ m → Made m (gives q held n)
made q held n h = record { q = q; held = held; n = n; is = refl; most = h }

-- Ta is at most T
on-made : (trg was : Bool) (ta t e : Ticks) → Made t.0 (on_delay trg was ta t e)
unfolding on_delay
on-made false was ta t e = made false false 0 (omega arith)
on-made true false ta t e = made (eqb 0 t.0) true 0 (omega arith)
on-made true true ta t e = made (eqb (grown ta t e).0 t.0) true (grown ta t e).0 (omega arith)

fades-made : (ends : Bool) {m : ℕ} (ta : ℕ) → ta ≤ m → Made m (cond ends (gives false false 0) (gives true false ta))
fades-made true ta h = made false false 0 (omega arith)
fades-made false ta h = made true false ta h

-- Ta is at most T, or stays as it was
off-made : (r trg was q : Bool) (ta t e : Ticks) → Made (max ta.0 t.0) (off_delay r trg was q ta t e)
unfolding off_delay
off-made true trg was q ta t e = made false trg 0 (omega arith)
off-made false true false q ta t e = made true true 0 (omega arith)
off-made false true true q ta t e = made q true 0 (omega arith)
off-made false false true q ta t e = made (q && ltb 0 t.0) false 0 (omega arith)
off-made false false false true ta t e = fades-made (eqb (grown ta t e).0 t.0) (grown ta t e).0 (omega arith)
off-made false false false false ta t e = made false false ta.0 (omega arith)

-- Q alone
record Shown (w : BlockWords) : Type 0 where
  q : Bool
  is : w ≡ shows q

relay-shown : (r s q : Bool) → Shown (latching_relay r s q)
unfolding latching_relay
relay-shown true s q = record { q = false; is = refl }
relay-shown false true q = record { q = true; is = refl }
relay-shown false false q = record { q = q; is = refl }

-- Q, Trg, whether it runs, and a number that is at most m
record Stood (m : ℕ) (w : BlockWords) : Type 0 where
  q : Bool
  trg : Bool
  running : Bool
  n : ℕ
  is : w ≡ stands q trg running n
  most : n ≤ m

stood : {m : ℕ} (q trg running : Bool) (n : ℕ) → n ≤ m → Stood m (stands q trg running n)
stood q trg running n h = record { q = q; trg = trg; running = running; n = n; is = refl; most = h }

dims-stood : (ta t warning dark : Ticks) → ta.0 ≤ t.0 → Stood t.0 (dims ta t warning dark)
dims-stood ta t warning dark h = by (eqb ta.0 t.0)
  where
    by : (ends : Bool) → Stood t.0 (cond ends (stands false false false 0) (stands (not (is_dark ta t warning dark)) false true ta.0))
    by true = stood false false false 0 (omega arith)
    by false = stood (not (is_dark ta t warning dark)) false true ta.0 h

-- Ta is at most T
stairs-stood : (trg was ran : Bool) (ta t warning dark e : Ticks) → Stood t.0 (stairway_switch trg was ran ta t warning dark e)
unfolding stairway_switch
stairs-stood true false ran ta t warning dark e = stood true true true 0 (omega arith)
stairs-stood true true ran ta t warning dark e = stood ran true ran 0 (omega arith)
stairs-stood false false false ta t warning dark e = stood false false false 0 (omega arith)
stairs-stood false true false ta t warning dark e = stood false false false 0 (omega arith)
stairs-stood false true true ta t warning dark e = dims-stood (ticks 0) t warning dark (omega arith)
stairs-stood false false true ta t warning dark e = dims-stood (grown ta t e) t warning dark (omega arith)

-- ---- the delays, the relay, the register of 8 bits

delay-sound : (n : ℕ) (t : Ticks) {m : ℕ} {w : BlockWords} → Made m w → m ≤ t.0 → Sound (delay n) t w
delay-sound n t d h =
    rw d.is (gives-sound (delay n) t refl (omega arith) d.q d.held d.n (omega (arith, d.most)))

relay-sound : (t : Ticks) {w : BlockWords} → Shown w → Sound latching t w
relay-sound t d = rw d.is (shows-sound latching t refl d.q)

stepped-most : (rises down x : Bool) (r : ℕ) → r ≤ 255 → stepped rises down x r ≤ 255
stepped-most true down x r h = omega (arith, shifted-below down x r (omega arith))
stepped-most false down x r h = h

shift-sound : (t : Ticks) (x trg down was : Bool) (r j : ℕ) → r ≤ 255 → Sound shifting t (shift_register x trg down was r j)
unfolding shift_register
shift-sound t x trg down was r j h =
    let next = stepped (trg && not was) down x r in
    gives-sound shifting t refl (omega arith) (register_bit next j) trg next (stepped-most (trg && not was) down x r h)

-- ---- the counter, the stairway switch

count-sound : (t : Ticks) (r cnt down was q : Bool) (n : ℕ) (p : List ℤ) → n ≤ most_count → Sound counting t (up_down_counter r cnt down was q n p)
unfolding up_down_counter
count-sound t r cnt down was q n p h =
    let next = tally r (cnt && not was) down n in
    gives-sound counting t refl (omega arith) (counts_on (pos next) (parameter p 0) (parameter p 1) q) cnt next
    (tally-most r (cnt && not was) down n h)

held_in : (trg running : Bool) → In (remembered_range stairway) (trg_and_running trg running)
held_in trg running = count-between (omega (arith, digit-small trg, digit-small running))

stairs-sound : (t : Ticks) {m : ℕ} {w : BlockWords} → Stood m w → m ≤ t.0 → Sound stairway t w
stairs-sound t d h =
    rw d.is
    record {
      output-is = word-between d.q;
      remembered-is = held_in d.trg d.running;
      number_is = count-between (omega (arith, d.most));
    }

-- ---- the thresholds: a bit

threshold-sound : (t : Ticks) (ax : ℤ) (p : List ℤ) (q : Bool) → Sound (trigger 1) t (threshold_trigger ax p q)
unfolding threshold_trigger
threshold-sound t ax p q =
    shows-sound (trigger 1) t refl
    (triggers_on (actual_of ax (parameter p 0) (parameter p 1)) (parameter p 2) (parameter p 3) q)

compare-sound : (t : Ticks) (ax ay : ℤ) (p : List ℤ) (q : Bool) → Sound (trigger 2) t (compared ax ay p q)
unfolding compared
compare-sound t ax ay p q =
    shows-sound (trigger 2) t refl
    (triggers_on (actual_of ax (parameter p 0) (parameter p 1) -ℤ actual_of ay (parameter p 0) (parameter p 1)) (parameter p 2) (parameter p 3) q)

-- ---- the multiplexer: its values have 16 bits

chosen-in : (p : Prepared) → Fit 15 p → (en s1 s2 : Bool) → In sixteen (cond en (parameter p.params (2 * digit s1 + digit s2)) (pos 0))
unfolding kind_of kinds chosen
chosen-in p f false s1 s2 = record { between = refl }
chosen-in p f true false false = f.params_are 0 (omega arith) (λ e. omega arith)
chosen-in p f true false true = f.params_are 1 (omega arith) (λ e. omega arith)
chosen-in p f true true false = f.params_are 2 (omega arith) (λ e. omega arith)
chosen-in p f true true true = f.params_are 3 (omega arith) (λ e. absurd (omega arith))

choice-sound : (p : Prepared) → Fit 15 p → (t : Ticks) (en s1 s2 : Bool) → Sound choosing t (multiplexed en s1 s2 p.params)
unfolding multiplexed
choice-sound p f t en s1 s2 =
    record { output-is = chosen-in p f en s1 s2; remembered-is = zero-between; number_is = zero-between }

-- ---- the amplifier: an actual value is held to 16 bits

amplifier-sound : (t : Ticks) (ax : ℤ) (p : List ℤ) → Sound amplifying t (amplified ax p)
unfolding amplified
amplifier-sound t ax p =
    record { output-is = actual-in ax (parameter p 0) (parameter p 1); remembered-is = zero-between; number_is = zero-between }

-- ---- all kinds

abbrev pub Keeps : ℕ → Rule → Type 0
Keeps kind r =
    (b : List Bool) (a : List ℤ) (p : Prepared) (was : BlockWords) (e : Ticks) → Fit kind p → Sound (kind_of kind) p.time was → Sound (kind_of kind) p.time (r b a p was e)

idle-sound : (k : Kind) (t : Ticks) → Sound k t (three (pos 0) (pos 0) (pos 0))
idle-sound k t = record { output-is = out k.output; remembered-is = zero-between; number_is = zero-between }
  where
    out : (s : Sort) → In (sort_range s) (pos 0)
    out digital = record { between = refl }
    out analog = record { between = refl }

each_keeps : Each Keeps rules
unfolding rules kind_of kinds and_gate and_edge nand_gate nand_edge or_gate nor_gate xor_gate not_gate
each_keeps =
    (λ b a p was e f s. idle-sound _ _)
    also (λ b a p was e f s. shows-sound _ _ refl (all_of b))
    also (λ b a p was e f s. gives-sound _ _ refl (omega arith) (all_of b && not (was_bit was)) (all_of b) 0 (omega arith))
    also (λ b a p was e f s. shows-sound _ _ refl (not (all_of b)))
    also (λ b a p was e f s. gives-sound _ _ refl (omega arith) (not (all_of b) && was_bit was) (all_of b) 0 (omega arith))
    also (λ b a p was e f s. shows-sound _ _ refl (some_of b))
    also (λ b a p was e f s. shows-sound _ _ refl (not (some_of b)))
    also (λ b a p was e f s. shows-sound _ _ refl (not (beq (bit b 0) (bit b 1))))
    also (λ b a p was e f s. shows-sound _ _ refl (not (bit b 0)))
    also (λ b a p was e f s. delay-sound 1 p.time (on-made (bit b 0) (was_bit was) (ticks (was_number was)) p.time e) (omega arith))
    also (λ b a p was e f s. delay-sound 2 p.time (off-made (bit b 1) (bit b 0) (was_bit was) (was_on was) (ticks (was_number was)) p.time e) (omega (arith, (amount-between s.number_is).1)))
    also (λ b a p was e f s. relay-sound p.time (relay-shown (bit b 1) (bit b 0) (was_on was)))
    also (λ b a p was e f s. shift-sound p.time (bit b 0) (bit b 1) (bit b 2) (was_bit was) (was_number was) _ (amount-between s.number_is).1)
    also (λ b a p was e f s. threshold-sound p.time (parameter a 0) p.params (was_on was))
    also (λ b a p was e f s. compare-sound p.time (parameter a 0) (parameter a 1) p.params (was_on was))
    also (λ b a p was e f s. choice-sound p f p.time (bit b 0) (bit b 1) (bit b 2))
    also (λ b a p was e f s. threshold-sound p.time (parameter a 0) p.params (was_on was))
    also (λ b a p was e f s. count-sound p.time (bit b 0) (bit b 1) (bit b 2) (was_bit was) (was_on was) (was_number was) p.params (amount-between s.number_is).1)
    also (λ b a p was e f s. stairs-sound p.time (stairs-stood (bit b 0) (was_pressed was) (was_running was) (ticks (was_number was)) p.time p.warning p.dark e) (omega arith))
    also (λ b a p was e f s. amplifier-sound p.time (parameter a 0) p.params)
    also tt

-- a block's words stay in the ranges that a sound record asks
pub stays-sound : (kind : ℕ) → Keeps kind (worked_out kind)
unfolding worked_out
stays-sound kind = at_each Keeps rules (λ n b a p was e f s. idle-sound (kind_of n) p.time) each_keeps kind

-- ---- "block words that the block's kind has no use for 0", whatever stood there

-- the remembered word is in its range, which is 0 alone where the kind remembers nothing; the number is 0 where the kind has none
pub record Leaves (k : Kind) (w : BlockWords) : Type 0 where
  pub remembered-is : In (remembered_range k) w.remembered
  pub number_is : k.number ≡ none → w.number ≡ pos 0

leaves-zero : (k : Kind) (o : ℤ) → Leaves k (three o (pos 0) (pos 0))
leaves-zero k o = record { remembered-is = zero-between; number_is = λ e. refl }

leaves-bit : (k : Kind) → 1 ≤ k.remembered → (q b : Bool) → Leaves k (gives q b 0)
leaves-bit k h q b = record { remembered-is = bit-between b h; number_is = λ e. refl }

-- a kind that has a number
leaves-number : (k : Kind) → 1 ≤ k.remembered → (k.number ≡ none → ⊥) → (q b : Bool) (n : ℕ) → Leaves k (gives q b n)
leaves-number k h has q b n = record { remembered-is = bit-between b h; number_is = λ e. absurd (has e) }

elapsed-is : elapsed ≡ none → ⊥
elapsed-is e = let z : ◌≡◌ {A = ℕ} 0 1 = cc in omega arith

up_to-is : (n : ℕ) → up_to n ≡ none → ⊥
up_to-is n e = let z : ◌≡◌ {A = ℕ} 0 1 = cc in omega arith

delay-leaves : (n : ℕ) {m : ℕ} {w : BlockWords} → Made m w → Leaves (delay n) w
delay-leaves n d = rw d.is (leaves-number (delay n) (omega arith) elapsed-is d.q d.held d.n)

relay-leaves : {w : BlockWords} → Shown w → Leaves latching w
relay-leaves d = rw d.is (leaves-zero latching (word_of d.q))

shift-leaves : (x trg down was : Bool) (r j : ℕ) → Leaves shifting (shift_register x trg down was r j)
unfolding shift_register
shift-leaves x trg down was r j =
    let next = stepped (trg && not was) down x r in
    leaves-number shifting (omega arith) (up_to-is 255) (register_bit next j) trg next

count-leaves : (r cnt down was q : Bool) (n : ℕ) (p : List ℤ) → Leaves counting (up_down_counter r cnt down was q n p)
unfolding up_down_counter
count-leaves r cnt down was q n p =
    let next = tally r (cnt && not was) down n in
    leaves-number counting (omega arith) (up_to-is most_count) (counts_on (pos next) (parameter p 0) (parameter p 1) q) cnt next

stairs-leaves : {m : ℕ} {w : BlockWords} → Stood m w → Leaves stairway w
stairs-leaves d = rw d.is record { remembered-is = held_in d.trg d.running; number_is = λ e. absurd (elapsed-is e) }

abbrev pub Uses : ℕ → Rule → Type 0
Uses kind r = (b : List Bool) (a : List ℤ) (p : Prepared) (was : BlockWords) (e : Ticks) → Leaves (kind_of kind) (r b a p was e)

each-uses : Each Uses rules
unfolding rules kind_of kinds and_gate and_edge nand_gate nand_edge or_gate nor_gate xor_gate not_gate threshold_trigger compared multiplexed amplified
each-uses =
    (λ b a p was e. leaves-zero _ _)
    also (λ b a p was e. leaves-zero _ _)
    also (λ b a p was e. leaves-bit _ (omega arith) (all_of b && not (was_bit was)) (all_of b))
    also (λ b a p was e. leaves-zero _ _)
    also (λ b a p was e. leaves-bit _ (omega arith) (not (all_of b) && was_bit was) (all_of b))
    also (λ b a p was e. leaves-zero _ _)
    also (λ b a p was e. leaves-zero _ _)
    also (λ b a p was e. leaves-zero _ _)
    also (λ b a p was e. leaves-zero _ _)
    also (λ b a p was e. delay-leaves 1 (on-made (bit b 0) (was_bit was) (ticks (was_number was)) p.time e))
    also (λ b a p was e. delay-leaves 2 (off-made (bit b 1) (bit b 0) (was_bit was) (was_on was) (ticks (was_number was)) p.time e))
    also (λ b a p was e. relay-leaves (relay-shown (bit b 1) (bit b 0) (was_on was)))
    also (λ b a p was e. shift-leaves (bit b 0) (bit b 1) (bit b 2) (was_bit was) (was_number was) _)
    also (λ b a p was e. leaves-zero _ _)
    also (λ b a p was e. leaves-zero _ _)
    also (λ b a p was e. leaves-zero _ _)
    also (λ b a p was e. leaves-zero _ _)
    also (λ b a p was e. count-leaves (bit b 0) (bit b 1) (bit b 2) (was_bit was) (was_on was) (was_number was) p.params)
    also (λ b a p was e. stairs-leaves (stairs-stood (bit b 0) (was_pressed was) (was_running was) (ticks (was_number was)) p.time p.warning p.dark e))
    also (λ b a p was e. leaves-zero _ _)
    also tt

-- the words that a kind has no use for become 0
pub leaves : (kind : ℕ) → Uses kind (worked_out kind)
unfolding worked_out
leaves kind = at_each Uses rules (λ n b a p was e. leaves-zero (kind_of n) (pos 0)) each-uses kind
