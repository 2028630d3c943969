-- How many nodes a report asks.
use Rattle.std.specs.Prelude.{◌≡◌, ℕ, ◌*◌, Bool, true, false, List, [], length}
use Rattle.book.specs.declared.item.Book.{Book}
use Rattle.book.specs.declared.item.Placed.{Placed}
use Rattle.hl_base.specs.Counts.{Counts}
use Rattle.hl_time.specs.declared.spans.Span.{Span}
use Rattle.index_cells.specs.Asks.{AsksFor}
use Rattle.index_cells.specs.Names.{symbols_in}
use Rattle.index_cells.specs.Posted.{posted_in}
use Rattle.report_cells.specs.Report.{accounts_in}
use Rattle.report_commands.specs.Matters.{letters_in, question_over}
use Rattle.report_commands.specs.declared.asked.Asked.{Asked}
use Rattle.report_takings.specs.Columns.{columns_of}
use Rattle.kept_reports.specs.Served.{is_from_kept}

-- the columns of a report without words of a query
abbrev pub bare_columns : Asked → ℕ → List Placed → Book → List Span
bare_columns asked day items book = columns_of (question_over asked.options day book (letters_in items) [])

-- 44 for each account and symbol of a book and each column
abbrev pub nodes_in : Book → List Span → ℕ
nodes_in book columns =
    44 * length (symbols_in (posted_in book.txns)) * length columns * length (accounts_in (posted_in book.txns))

-- a report that may come from what is kept asks at most so many, and any other none
abbrev pub AsksWhere : Bool → ℕ → Counts → Counts → Type 0
AsksWhere true most before after = AsksFor most before after
AsksWhere false most before after = after ≡ before

-- what a report asks
abbrev pub Asks : Asked → ℕ → List Placed → Book → Counts → Counts → Type 0
Asks asked day items book before after =
    AsksWhere (is_from_kept asked) (nodes_in book (bare_columns asked day items book)) before after
