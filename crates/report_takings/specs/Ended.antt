-- The ends of the days of postings, gathered one after another.
use Rattle.std.specs.Prelude.{ℕ, Some, if◌then◌else◌}
use Rattle.std.specs.List.{fold}
use Rattle.book.specs.declared.transaction.Txn.{Txn}
use Rattle.query.specs.Matching.{least, later}
use Rattle.report_takings.specs.Asking.{Question}
use Rattle.report_takings.specs.Days.{least_of, greatest_of}
use Rattle.report_takings.specs.Entries.{Entry, day_in}
use Rattle.report_takings.specs.Spans.{days_meant}
use Rattle.report_takings.specs.declared.ends.Ends.{Ends}

-- the ends of the days of the postings that the query means
abbrev pub ends_of : Question → Ends
ends_of asked = record { first = least_of (days_meant asked); last = greatest_of (days_meant asked) }

abbrev pub with_day : Ends → ℕ → Ends
with_day ends day = record { first = least ends.first (Some day); last = later ends.last (Some day) }

abbrev pub with_entry : Question → Ends → Entry → Ends
with_entry asked ends entry = if asked.means_undated entry then with_day ends (day_in entry) else ends

abbrev pub with_txn : Question → Ends → Txn → Ends
with_txn asked ends txn = fold (λ so_far posting. with_entry asked so_far (posting, txn)) ends txn.postings
