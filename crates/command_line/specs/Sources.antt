-- The text of the input, of a file or of a store.
use Rattle.std.specs.Prelude.{ℕ, ◌+◌, Bool, true, false, ◌&&◌, List, nat_lt, Option, Some, None, Result, Ok, Err, if◌then◌else◌, length}
use Rattle.hl_base.specs.Limits.{text_limit}
use Rattle.hl_time.specs.Calendar.{year_of}
use Rattle.book_commands.specs.Works.{judge}
use Rattle.book_commands.specs.declared.work.Work.{Work}
use Rattle.book_commands.specs.declared.work.Work.TheVariants as works
use Rattle.command_words.specs.declared.task.Origin.{Origin}
use Rattle.command_words.specs.declared.task.Origin.TheVariants as origins
use Rattle.refusals.specs.Errors.{absent_line, limit_line}
use Rattle.refusals.specs.Outcomes.{Judged, Outcome, refused}
use Rattle.store_text.specs.Refusals.{line_of, status_of, text_in as text_of_store}
use Rattle.store_text.specs.Shelved.{image_under}
use Rattle.store_text.specs.declared.refusal.StoreRefusal.{StoreRefusal}

-- A text as it is read: one of too many bytes is told as one byte above the limit.
abbrev pub within_bytes : List ℕ → Result (List ℕ) Outcome
within_bytes text =
    if nat_lt text_limit (length text) then Err (refused 7 (limit_line (text_limit + 1) text_limit)) else Ok text

-- the bytes under a name, at most so many, where there are some; of too many one above the limit is told
abbrev pub file_within : ℕ → List ℕ → Option (List ℕ) → Result (List ℕ) Outcome
file_within most name None = Err (refused 8 (absent_line name))
file_within most name (Some bytes) =
    if nat_lt most (length bytes) then Err (refused 7 (limit_line (most + 1) most)) else Ok bytes

-- the text under a name
abbrev pub text_under : List ℕ → Option (List ℕ) → Result (List ℕ) Outcome
text_under name file = file_within text_limit name file

-- the text of a store of this name, or why it has none
abbrev pub text_stored : List ℕ → Result (List ℕ) StoreRefusal → Result (List ℕ) Outcome
text_stored name (Ok text) = Ok text
text_stored name (Err r) = Err (refused (status_of r) (line_of name r))

-- that of the store of a name, among the files of a shelf
abbrev pub store_under : (List ℕ → Option (List ℕ)) → List ℕ → Result (List ℕ) Outcome
store_under file name = text_stored name (text_of_store (image_under file name))

-- the year of dates that have none: that of the day, and none in a store
abbrev pub default_year : Origin → ℕ → Option ℕ
default_year origins.Input day = Some (year_of day)
default_year (origins.File name) day = Some (year_of day)
default_year (origins.Store name) day = None

-- a text of which more is asked than itself has a limit; one that a store holds is told with its size
abbrev pub has_limit : Work → Bool
has_limit works.Text = false
has_limit _ = true

abbrev pub judge_within : ℕ → Option ℕ → Work → List ℕ → Judged
judge_within day year work text =
    if has_limit work && nat_lt text_limit (length text) then Err (refused 7 (limit_line (length text) text_limit))
    else judge day year work text

-- what is judged of a text that was read, and before it the refusal of what is there in place of one
abbrev pub judged : ℕ → Option ℕ → Work → Result (List ℕ) Outcome → Judged
judged day year work (Ok text) = judge_within day year work text
judged day year work (Err refusal) = Err refusal
