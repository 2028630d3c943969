-- The transactions of a timedot text: one for each line of a day, with the quantities below it.
use Rattle.std.specs.Prelude.{ℕ, ◌+◌, Bool, true, false, ◌||◌, List, [], ◌∷◌, ◌++◌, length, Option, Some, None, Result, Err, if◌then◌else◌}
use Rattle.std.specs.Str.{is_utf8}
use Rattle.hl_num.specs.Decimal.{Decimal}
use Rattle.hl_time.specs.declared.day.Day.{Day}
use Rattle.book.specs.declared.transaction.Posting.{Posting}
use Rattle.book.specs.declared.transaction.Txn.{Txn}
use Rattle.time_logs.specs.Days.{hours_entry, hours_posting}
use Rattle.time_logs.specs.DotLines.{dot_line}
use Rattle.time_logs.specs.Limits.{limited}
use Rattle.time_logs.specs.declared.dot_line.DotLine.{DotLine}
use Rattle.time_logs.specs.declared.dot_line.DotLine.TheVariants as lines
use Rattle.time_logs.specs.declared.faults.LogFault.{LogFault}
use Rattle.time_logs.specs.declared.faults.LogFault.TheVariants as faults

-- a line that says something: a day, a quantity, or a line of no form
pub data Note : Type 0 where
  heads : (line : ℕ) → Day → (description : List ℕ) → Note
  spends : (line : ℕ) → (account : List ℕ) → Decimal → Note
  bad : (line : ℕ) → Note

-- what a line says, if it is in UTF-8 and of a form; a quantity is of a form where a day stands before it
unfoldable pub line_says : Bool → List ℕ → Option DotLine
line_says begun content = if is_utf8 content then dot_line begun content else None

-- that of the line with this number
abbrev pub notes_on : ℕ → Option DotLine → List Note
notes_on line None = bad line ∷ []
notes_on line (Some lines.Gap) = []
notes_on line (Some (lines.Head day description)) = heads line day description ∷ []
notes_on line (Some (lines.Spent account hours)) = spends line account hours ∷ []

abbrev pub is_head : Option DotLine → Bool
is_head (Some (lines.Head day description)) = true
is_head _ = false

-- those of lines of which the first has this number; `begun` says whether a day stands before it
abbrev pub notes_from : Bool → ℕ → List (List ℕ) → List Note
notes_from begun line [] = []
notes_from begun line (l ∷ ls) =
    let says = line_says begun l in
    notes_on line says ++ notes_from (begun || is_head says) (line + 1) ls

-- the first line of no form
abbrev pub first_bad : List Note → Option ℕ
first_bad [] = None
first_bad (bad line ∷ rest) = Some line
first_bad (heads line day description ∷ rest) = first_bad rest
first_bad (spends line account hours ∷ rest) = first_bad rest

-- the postings of the quantities up to the next day
abbrev pub first_postings : List Note → List Posting
first_postings (spends line account hours ∷ rest) = hours_posting line account hours ∷ first_postings rest
first_postings _ = []

-- a transaction for each day, with the quantities up to the next
abbrev pub entries : List Note → List Txn
entries [] = []
entries (heads line day description ∷ rest) =
    hours_entry line day.0 description (first_postings rest) ∷ entries rest
entries (spends line account hours ∷ rest) = entries rest
entries (bad line ∷ rest) = entries rest

-- some transactions, where no line is of no form and they aren't too many
abbrev pub unless_bad : Option ℕ → List Txn → Result (List Txn) LogFault
unless_bad (Some line) txns = Err (faults.BadLine line)
unless_bad None txns = limited (length txns) txns

abbrev pub entries_noted : List Note → Result (List Txn) LogFault
entries_noted notes = unless_bad (first_bad notes) (entries notes)

-- The transactions of a timedot text's lines, or the first fault.
abbrev pub timedot : List (List ℕ) → Result (List Txn) LogFault
timedot ls = entries_noted (notes_from false 1 ls)
