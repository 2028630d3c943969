-- What the report commands answer.
use Rattle.std.specs.Prelude.{◌≡◌, ℕ, List, Option, Result, Ok, Err}
use Rattle.book.specs.declared.item.Placed.{Placed}
use Rattle.book.specs.declared.item.Book.{Book}
use Rattle.query.specs.Made.{IsPatternRefused}
use Rattle.query_terms.specs.Making.{Stays}
use Rattle.query_terms.specs.Reading.{terms_of}
use Rattle.query_terms.specs.declared.kinds.Term.{Term}
use Rattle.report_cells.specs.declared.fault.ReportFault.{ReportFault}
use Rattle.report_options.specs.declared.options.Options.{Options}
use Rattle.report_commands.specs.Answered.{text_by}
use Rattle.report_commands.specs.Matters.{letters_in, matter_over}
use Rattle.report_commands.specs.declared.asked.Asked.{Asked}
use Rattle.report_commands.specs.declared.fault.WordsFault.{WordsFault}
use Rattle.report_commands.specs.declared.fault.WordsFault.TheVariants as words_fault

-- the text of a report, or why it isn't made
abbrev pub Report : Type 0
Report = Result (List ℕ) WordsFault

abbrev pub as_report : Result (List ℕ) ReportFault → Report
as_report (Ok text) = Ok text
as_report (Err fault) = Err (words_fault.Report fault)

-- what the terms of a query ask for, or the word that is none
abbrev pub answer_by : Options → ℕ → List Placed → Book → Result (List Term) (List ℕ) → Report
answer_by options day items book (Ok terms) =
    as_report (text_by options.command (letters_in items) (matter_over options day items book terms))
answer_by options day items book (Err word) = Err (words_fault.BadTerm word)

-- what is asked over the items of a text and their book on a day
unfoldable pub answer_over : Asked → ℕ → List Placed → Book → Report
answer_over asked day items book = answer_by asked.options day items book (terms_of day asked.words)

-- ---- what a call answers

-- A report is answered, or why it isn't made: a pattern may be refused by who builds them, whose count rises then, and rises
-- for nothing else; want of memory says nothing.
abbrev pub Answers : Asked → ℕ → List Placed → Book → ℕ → ℕ → Option (List ℕ) → Option (List ℕ) → Report → Type 0
Answers asked day items book before now last_before last_now (Ok text) =
    (answer_over asked day items book ≡ Ok text) × Stays before now last_before last_now
Answers asked day items book before now last_before last_now (Err (words_fault.PatternRefused word)) =
    IsPatternRefused day asked.words word before now last_now
Answers asked day items book before now last_before last_now (Err words_fault.Memory) = Stays before now last_before last_now
Answers asked day items book before now last_before last_now (Err fault) =
    (answer_over asked day items book ≡ Err fault) × Stays before now last_before last_now
