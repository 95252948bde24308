-- Document 01, "Refusal numbers and their order": "An answer is four numbers: refusal number or 0, place, first, second."
use Rattle.std.specs.Prelude.{ℕ, Result, Ok, Err}
use Rattle.refusals.specs.declared.Answer.{Answer}
use Rattle.refusals.specs.declared.Refused.{Refused}
use Rattle.refusals.specs.Refusals.{number_of}

-- "On refusal first and second are 0"
abbrev pub refused_at : ℕ → ℕ → Answer
refused_at number place = record { number = number; place = place; first = 0; second = 0 }

-- refusal number and place are 0
abbrev pub accepted_with : ℕ → ℕ → Answer
accepted_with first second = record { number = 0; place = 0; first = first; second = second }

-- the answer of what a call was judged to be: first and second, or a refusal and its place
abbrev pub answer_of : Result (ℕ × ℕ) Refused → Answer
answer_of (Ok (first, second)) = accepted_with first second
answer_of (Err refused) = refused_at (number_of refused.refusal) refused.place
