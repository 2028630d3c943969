-- The book that a report is made over: that of a text, with the entries that its rules make where these are asked for.
use Rattle.std.specs.Prelude.{ℕ, Bool, List, Option, Some, None, Result, Ok, Err, if◌then◌else◌}
use Rattle.hl_time.specs.declared.spans.Period.{Period}
use Rattle.book.specs.declared.item.Book.{Book}
use Rattle.book.specs.declared.item.Placed.{Placed}
use Rattle.generated.specs.Auto.{auto_of}
use Rattle.generated.specs.Periodic.{forecast_of}
use Rattle.generated.specs.Windows.{window_of}
use Rattle.generated.specs.declared.fault.GenFault.{GenFault}

-- with the transactions of a forecast, where one is asked for: those that the periodic rules make within its window, by the
-- period that is asked for, the bounds that the report is given, and the day
abbrev pub with_forecast : Option Period → Period → ℕ → List Placed → Book → Result Book GenFault
with_forecast None given day items book = Ok book
with_forecast (Some asked) given day items book = forecast_of items book.txns (window_of asked given book.txns day)

-- with the postings that automated rules add, where they are asked for
abbrev pub with_rules : Bool → ℕ → List Placed → Book → Result Book GenFault
with_rules is_asked day items book = if is_asked then auto_of day items book.txns else Ok book

abbrev pub then_rules : Bool → ℕ → List Placed → Result Book GenFault → Result Book GenFault
then_rules is_asked day items (Ok book) = with_rules is_asked day items book
then_rules is_asked day items (Err fault) = Err fault

-- The forecast comes first, so automated rules add to its transactions too.
abbrev pub planned_book : Option Period → Bool → Period → ℕ → List Placed → Book → Result Book GenFault
planned_book forecast auto given day items book = then_rules auto day items (with_forecast forecast given day items book)
