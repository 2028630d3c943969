-- What the report commands answer, with entries that rules make and with budgets.
use Rattle.std.specs.Prelude.{ℕ, Bool, true, false, ◌||◌, is_some, List, Option, Result, Ok, Err}
use Rattle.hl_time.specs.declared.spans.Span.{Span}
use Rattle.book.specs.declared.fault.Fault.{Fault}
use Rattle.book.specs.declared.item.Book.{Book}
use Rattle.book.specs.declared.item.Placed.{Placed}
use Rattle.balancing.specs.Load.{load}
use Rattle.generated.specs.Periodic.{goals_of}
use Rattle.generated.specs.declared.fault.GenFault.{GenFault}
use Rattle.journal_reader.specs.Items.{items_in}
use Rattle.query.specs.Matching.{dates_in}
use Rattle.query_terms.specs.Reading.{terms_of}
use Rattle.query_terms.specs.declared.kinds.Term.{Term}
use Rattle.report_cells.specs.declared.fault.ReportFault.{ReportFault}
use Rattle.report_options.specs.declared.options.Options.{Options}
use Rattle.report_sums.specs.Matters.{Matter}
use Rattle.report_takings.specs.Columns.{columns_of}
use Rattle.report_commands.specs.Answered.{text_by}
use Rattle.report_commands.specs.Matters.{letters_in, matter_over}
use Rattle.report_commands.specs.Reports as plain
use Rattle.report_commands.specs.declared.asked.Asked.{Asked}
use Rattle.report_commands.specs.declared.fault.WordsFault.TheVariants as words_fault
use Rattle.plan_commands.specs.Books.{planned_book}
use Rattle.plan_commands.specs.Bounds.{given_bounds}
use Rattle.plan_commands.specs.Columns.{goal_span}
use Rattle.plan_commands.specs.Faults.{widened}
use Rattle.plan_commands.specs.Goals.{budget_of}
use Rattle.plan_commands.specs.declared.fault.PlanFault.{PlanFault}
use Rattle.plan_commands.specs.declared.fault.PlanFault.TheVariants as plan_fault

-- the text of a report, or why it isn't made
abbrev pub Report : Type 0
Report = Result (List ℕ) PlanFault

abbrev pub as_report : Result (List ℕ) ReportFault → Report
as_report made = widened (plain.as_report made)

-- the budget beside goals, or why there are none
abbrev pub beside : Matter → List Span → Result Book GenFault → Report
beside m columns (Ok goals) = as_report (budget_of m columns goals.txns)
beside m columns (Err fault) = Err (plan_fault.Generated fault)

-- the budget of a report by its columns, beside the goals of their days
abbrev pub budget_by : List Placed → Matter → List Span → Report
budget_by items m columns = beside m columns (goals_of items (goal_span columns))

abbrev pub budget_in : List Placed → Matter → Report
budget_in items m = budget_by items m (columns_of m.asked)

-- the budget over a book
abbrev pub budget_over : Options → ℕ → List Placed → List Term → Book → Report
budget_over options day items terms book = budget_in items (matter_over options day items book terms)

-- what the command answers over a book without one
abbrev pub plain_over : Options → ℕ → List Placed → List Term → Book → Report
plain_over options day items terms book =
    as_report (text_by options.command (letters_in items) (matter_over options day items book terms))

abbrev pub report_on : Bool → Options → ℕ → List Placed → List Term → Book → Report
report_on true options day items terms book = budget_over options day items terms book
report_on false options day items terms book = plain_over options day items terms book

-- the report over a book that is made, or why none is
abbrev pub on_made : Bool → Options → ℕ → List Placed → List Term → Result Book GenFault → Report
on_made budget options day items terms (Ok book) = report_on budget options day items terms book
on_made budget options day items terms (Err fault) = Err (plan_fault.Generated fault)

-- the report that terms ask for, or the word that is none
abbrev pub answer_by : Options → ℕ → List Placed → Book → Result (List Term) (List ℕ) → Report
answer_by options day items book (Ok terms) =
    on_made options.budget options day items terms
    (planned_book options.forecast options.auto (given_bounds options (dates_in terms)) day items book)
answer_by options day items book (Err word) = Err (plan_fault.Words (words_fault.BadTerm word))

-- What is asked over the items of a text and their book on a day: the words are read as terms, rules make their entries, and
-- the report is made over the book with these.
unfoldable pub answer_over : Asked → ℕ → List Placed → Book → Report
answer_over asked day items book = answer_by asked.options day items book (terms_of day asked.words)

-- entries of rules are asked for, or a budget
abbrev pub asks_rules : Options → Bool
asks_rules options = options.auto || is_some options.forecast || options.budget

-- ---- over a text

abbrev pub report_loaded : Asked → ℕ → List Placed → Result Book Fault → Result Report Fault
report_loaded asked day items (Ok book) = Ok (answer_over asked day items book)
report_loaded asked day items (Err fault) = Err fault

abbrev pub report_read : Asked → ℕ → Result (List Placed) Fault → Result Report Fault
report_read asked day (Ok items) = report_loaded asked day items (load items)
report_read asked day (Err fault) = Err fault

-- What is asked over a text that begins in a year, on a day, or the fault that the text has: it is read, then loaded, and
-- then reported.
abbrev pub report_over : Asked → ℕ → Option ℕ → List ℕ → Result Report Fault
report_over asked day year text = report_read asked day (items_in year text)
