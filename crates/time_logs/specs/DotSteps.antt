-- Timedot lines one after another: the transactions of the days before, and the day that is being read.
use Rattle.std.specs.Prelude.{ℕ, Bool, true, false, List, [], ◌∷◌, ◌++◌, length, Option, Some, None, Result, Ok, Err}
use Rattle.hl_num.specs.Decimal.{Decimal}
use Rattle.hl_time.specs.declared.day.Day.{Day}
use Rattle.book.specs.declared.transaction.Posting.{Posting}
use Rattle.book.specs.declared.transaction.Txn.{Txn}
use Rattle.time_logs.specs.Days.{hours_entry, hours_posting}
use Rattle.time_logs.specs.Faults.{◌>>=◌}
use Rattle.time_logs.specs.Limits.{limited}
use Rattle.time_logs.specs.Timedot.{line_says}
use Rattle.time_logs.specs.declared.dot_line.DotLine.{DotLine}
use Rattle.time_logs.specs.declared.dot_line.DotLine.TheVariants as lines
use Rattle.time_logs.specs.declared.faults.LogFault.{LogFault}
use Rattle.time_logs.specs.declared.faults.LogFault.TheVariants as faults
use Rattle.time_logs.specs.declared.timedot.Dots as declared_dots
use Rattle.time_logs.specs.declared.timedot.Head as declared_head

-- a day that is being read: its line, its day, its description, and its postings so far
pub record Head : Type 0 where
  pub line : ℕ
  pub day : Day
  pub description : List ℕ
  pub postings : List Posting

-- the transactions of the days before, and the day that is being read
pub record Dots : Type 0 where
  pub done : List Txn
  pub head : Option Head

abbrev pub head_of : declared_head.Head → Head
head_of h = record { line = h.line; day = h.day; description = h.description; postings = h.postings.items }

abbrev pub head_in : Option declared_head.Head → Option Head
head_in None = None
head_in (Some h) = Some (head_of h)

abbrev pub dots_of : declared_dots.Dots → Dots
dots_of d = record { done = d.done.items; head = head_in d.head }

abbrev pub said_or_bad : ℕ → Option DotLine → Result DotLine LogFault
said_or_bad line None = Err (faults.BadLine line)
said_or_bad line (Some said) = Ok said

-- what a line says, or the fault of one that is of no form
abbrev pub line_said : Bool → ℕ → List ℕ → Result DotLine LogFault
line_said begun line content = said_or_bad line (line_says begun content)

-- the transaction of a day
abbrev pub head_entry : Head → Txn
head_entry h = hours_entry h.line h.day.0 h.description h.postings

abbrev pub settled_with : List Txn → Option Head → List Txn
settled_with done None = done
settled_with done (Some h) = done ++ head_entry h ∷ []

-- the transactions with that of the day that is being read
abbrev pub settled : Dots → List Txn
settled d = settled_with d.done d.head

-- a day begins
abbrev pub with_head : Dots → ℕ → Day → List ℕ → Dots
with_head d line day description = record {
  done = settled d;
  head = Some (record { line = line; day = day; description = description; postings = [] });
}

abbrev pub head_with : Option Head → Posting → Option Head
head_with None posting = None
head_with (Some h) posting = Some (record h { postings = h.postings ++ posting ∷ [] })

-- hours of the day that is being read
abbrev pub with_hours : Dots → ℕ → List ℕ → Decimal → Dots
with_hours d line account hours = record { done = d.done; head = head_with d.head (hours_posting line account hours) }

abbrev pub after_line : Dots → ℕ → DotLine → Dots
after_line d line lines.Gap = d
after_line d line (lines.Head day description) = with_head d line day description
after_line d line (lines.Spent account hours) = with_hours d line account hours

abbrev pub has_head : Option Head → Bool
has_head None = false
has_head (Some h) = true

-- after a line with its number
abbrev pub after_content : Dots → ℕ → List ℕ → Result Dots LogFault
after_content d line content = line_said (has_head d.head) line content >>= λ said. Ok (after_line d line said)

-- before any line
abbrev pub none_yet : Dots
none_yet = record { done = []; head = None }

-- the transactions of all days, where they aren't too many
abbrev pub finished : Dots → Result (List Txn) LogFault
finished d = limited (length (settled d)) (settled d)
