-- What a command answers.
use Rattle.std.specs.Prelude.{ℕ, List, [], Result, Ok, Err}

-- what is written: the standard output and the error output, and the exit status
pub record Outcome : Type 0 where
  pub output : List ℕ
  pub error : List ℕ
  pub status : ℕ

abbrev pub written : List ℕ → Outcome
written output = record { output = output; error = []; status = 0 }

abbrev pub refused : ℕ → List ℕ → Outcome
refused status line = record { output = []; error = line; status = status }

-- what is judged of a text: that it is refused, before patterns are looked at, or else what is answered
abbrev pub Judged : Type 0
Judged = Result Outcome Outcome

abbrev pub outcome_of : Judged → Outcome
outcome_of (Ok outcome) = outcome
outcome_of (Err refusal) = refusal
