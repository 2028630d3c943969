-- The sessions of a timeclock text: the pairs of a clock-in and the next clock-out.
use Rattle.std.specs.Prelude.{ℕ, ◌+◌, nat_lt, List, [], ◌∷◌, ◌++◌, Option, Some, None, Result, Ok, Err, if◌then◌else◌}
use Rattle.std.specs.Str.{is_utf8}
use Rattle.time_logs.specs.ClockLines.{clock_line}
use Rattle.time_logs.specs.Faults.{◌>>=◌}
use Rattle.time_logs.specs.declared.clock_line.ClockLine.{ClockLine}
use Rattle.time_logs.specs.declared.clock_line.ClockLine.TheVariants as lines
use Rattle.time_logs.specs.declared.faults.LogFault.{LogFault}
use Rattle.time_logs.specs.declared.faults.LogFault.TheVariants as faults
use Rattle.time_logs.specs.declared.sessions.Begun.{Begun}
use Rattle.time_logs.specs.declared.sessions.Session.{Session}

-- a line that says something: a clock-in, a clock-out, or a line of no form
pub data Stroke : Type 0 where
  starts : Begun → Stroke
  stops : (line moment : ℕ) → Stroke
  bad : (line : ℕ) → Stroke

-- what a line says, if it is in UTF-8 and of a form
unfoldable pub line_says : List ℕ → Option ClockLine
line_says content = if is_utf8 content then clock_line content else None

-- that of the line with this number
abbrev pub strokes_on : ℕ → Option ClockLine → List Stroke
strokes_on line None = bad line ∷ []
strokes_on line (Some lines.Gap) = []
strokes_on line (Some (lines.Out moment)) = stops line moment ∷ []
strokes_on line (Some (lines.In moment account description)) =
    starts (record { line = line; from = moment; account = account; description = description }) ∷ []

-- those of lines of which the first has this number
abbrev pub strokes_from : ℕ → List (List ℕ) → List Stroke
strokes_from line [] = []
strokes_from line (l ∷ ls) = strokes_on line (line_says l) ++ strokes_from (line + 1) ls

-- the session of a clock-in that ends at a moment
abbrev pub ended : Begun → ℕ → Session
ended begun until = record {
  line = begun.line;
  from = begun.from;
  until = until;
  account = begun.account;
  description = begun.description;
}

-- the pairs of a clock-in and the next clock-out, or the first fault
abbrev pub pairs : List Stroke → Result (List Session) LogFault
pairs [] = Ok []
pairs (bad line ∷ rest) = Err (faults.BadLine line)
pairs (stops line moment ∷ rest) = Err (faults.Order line)
pairs (starts begun ∷ []) = Err (faults.Open begun.line)
pairs (starts begun ∷ bad line ∷ rest) = Err (faults.BadLine line)
pairs (starts begun ∷ starts other ∷ rest) = Err (faults.Order other.line)
pairs (starts begun ∷ stops line moment ∷ rest) =
    if nat_lt moment begun.from then Err (faults.Backwards line)
    else (pairs rest >>= λ sessions. Ok (ended begun moment ∷ sessions))

-- The sessions of some lines, or the first fault.
abbrev pub sessions_in : List (List ℕ) → Result (List Session) LogFault
sessions_in ls = pairs (strokes_from 1 ls)
