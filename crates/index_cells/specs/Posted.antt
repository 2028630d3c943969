-- What a plain report takes of a book: each posting as it is written, whatever its day.
use Rattle.std.specs.Prelude.{◌≡◌, ◌<◌, min, nat_lt, Bool, false, List, [], map, if◌then◌else◌}
use Rattle.std.specs.List.{AllByRecursion, list_all}
use Rattle.hl_time.specs.Calendar.{day_end}
use Rattle.hl_time.specs.declared.spans.Span.{Span}
use Rattle.book.specs.declared.transaction.Posting.{Posting}
use Rattle.book.specs.declared.transaction.Txn.{Txn}
use Rattle.query.specs.Matching.{day_of}
use Rattle.report_cells.specs.Taken.{Taken}
use Rattle.report_options.specs.declared.options.Start.{Start}
use Rattle.report_takings.specs.Asking.{Question}
use Rattle.report_takings.specs.Costs.{is_at_cost, moved}
use Rattle.report_takings.specs.Entries.{Entry, day_in, entries_of}
use Rattle.report_takings.specs.Takings.{is_historical, names_earlier, shown_in}
use Rattle.report_takings.specs.declared.scope.Scope.{Scope}

abbrev pub posted : Entry → Taken
posted entry = record { account = entry.0.account; day = day_in entry; amount = moved false entry.0 }

-- the postings of some transactions
abbrev pub posted_in : List Txn → List Taken
posted_in txns = map posted (entries_of txns)

-- their days are days of the calendar
abbrev pub AreDated : List Txn → Type 0
AreDated txns = AllByRecursion (λ t. t.day < day_end) (posted_in txns)

-- the test of a posting, and of all those of a transaction
abbrev pub is_early : Txn → Posting → Bool
is_early txn posting = nat_lt (day_of posting txn) day_end

abbrev pub is_dated : Txn → Bool
is_dated txn = list_all (is_early txn) txn.postings

-- A plain report: its query has no terms, its amounts are taken as they are written, and it names no account for
-- earlier postings alone.
pub record IsPlain (scope : Scope) (asked : Question) : Type 0 where
  pub terms : scope.query.now.terms.items ≡ []
  pub written : is_at_cost asked.options ≡ false
  pub later : names_earlier asked ≡ false

-- the days that count: those that are shown, or all before their end, up to the end of the calendar
abbrev pub days_in : Start → List Span → Span
days_in start columns = record {
  from = if is_historical start then 0 else (shown_in columns).from;
  end = min (shown_in columns).end day_end;
}
