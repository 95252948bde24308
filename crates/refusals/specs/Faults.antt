-- Document 01, "Refusal numbers and their order": "The first field with a fault is named, with the lowest number that holds for
-- it; then 20 to 24 in order."
use Rattle.std.specs.Prelude.{ℕ, ◌≤◌, ◌≡◌, Bool, true, cond, ◌&&◌, List, [], ◌∷◌, leb}

-- a refusal number, and whether it holds
pub record Fault : Type 0 where
  pub number : ℕ
  pub holds : Bool

infix 70 ◌when◌
abbrev pub ◌when◌ : ℕ → Bool → Fault
k when b = record { number = k; holds = b }

-- the first that holds, and 0 where none does. It is the lowest, as the numbers of a field's list, and of a call's, rise
-- (`field-lowest`, `refusal-lowest`)
abbrev pub lowest : List Fault → ℕ
lowest [] = 0
lowest (f ∷ l) = cond f.holds f.number (lowest l)

-- none of a list's numbers that hold is below k
abbrev pub AtMost : ℕ → List Fault → Type 0
AtMost k [] = Unit {0}
AtMost k (f ∷ l) = (f.holds ≡ true → k ≤ f.number) × AtMost k l

-- no number of a list is below k, nor below one before it
abbrev pub rises_from : ℕ → List Fault → Bool
rises_from k [] = true
rises_from k (f ∷ l) = leb k f.number && rises_from f.number l

-- none is 0, nor below one before it
abbrev pub rises : List Fault → Bool
rises l = rises_from 1 l
