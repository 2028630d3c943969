-- How the lines of a directive end: with a `;` comment on its line, and indented comment lines after it.
use Rattle.std.specs.Prelude.{ℕ, ◌+◌, List, [], ◌∷◌, if◌then◌else◌, Result, Ok, Err}
use Rattle.hl_base.specs.Ascii.{semicolon}
use Rattle.book.specs.declared.fault.Fault.{Fault}
use Rattle.book.specs.declared.fault.Cause.TheVariants as cause
use Rattle.entry_reader.specs.Causes.{fault_at}
use Rattle.entry_reader.specs.Comments.{is_comment}
use Rattle.entry_reader.specs.Lines.{before_byte}
use Rattle.entry_reader.specs.Postings.{ends_line, comment_at}

-- all of some lines are comments, of which the first is the line-th
unfoldable pub comments_only : ℕ → List (List ℕ) → Result (Unit {0}) Fault
comments_only line [] = Ok tt
comments_only line (c ∷ cs) = if is_comment c then comments_only (line + 1) cs else Err (fault_at line cause.Form)

-- nothing but comments follows, on a line and on those after it
unfoldable pub closing : ℕ → List ℕ → List (List ℕ) → Result (Unit {0}) Fault
closing line text after = if ends_line text then comments_only (line + 1) after else Err (fault_at line cause.Form)

-- the comment with which a line ends, empty where there is none
unfoldable pub ending_at : ℕ → List ℕ → Result (List ℕ) Fault
ending_at line text = if ends_line text then Ok (comment_at text) else Err (fault_at line cause.Form)

-- what a line says before its comment
abbrev pub before_comment : List ℕ → List ℕ
before_comment text = before_byte semicolon text
