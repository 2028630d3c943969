-- The postings that are chosen, one transaction after another.
use Rattle.std.specs.Prelude.{[], ◌∷◌, ◌++◌, List, filter, map}
use Rattle.std.specs.List.{flat_map}
use Rattle.hl_time.specs.declared.spans.Span.{Span}
use Rattle.book.specs.declared.transaction.Txn.{Txn}
use Rattle.report_options.specs.declared.options.Start.{Start}
use Rattle.report_takings.specs.Asking.{Question, entries}
use Rattle.report_takings.specs.Entries.{Entry}
use Rattle.report_cells.specs.Taken.{Taken}
use Rattle.report_takings.specs.Takings.{is_chosen, is_kept, taken}
use Rattle.report_takings.specs.declared.entries.Part.{Part}
use Rattle.report_takings.specs.declared.entries.Part.TheVariants.{Counted, Named}

-- a posting, where it is chosen
abbrev pub chosen_of : Start → Question → Span → Entry → List Entry
chosen_of start asked shown entry = filter (is_chosen start asked shown) (entry ∷ [])

-- those of a transaction
abbrev pub chosen_in : Start → Question → Span → Txn → List Entry
chosen_in start asked shown txn = flat_map (λ posting. chosen_of start asked shown (posting, txn)) txn.postings

-- what is taken of a posting for its amount, where it is chosen
abbrev pub taken_of : Question → Span → Entry → List Taken
taken_of asked shown entry = map (taken Counted asked) (chosen_of asked.options.start asked shown entry)

-- that of a transaction's postings
abbrev pub taken_in : Question → Span → Txn → List Taken
taken_in asked shown txn = flat_map (λ posting. taken_of asked shown (posting, txn)) txn.postings

-- what is taken of the postings that are kept for a part, with these days shown
abbrev pub kept_as : Part → Question → Span → List Taken
kept_as part asked shown = map (taken part asked) (filter (is_kept part asked shown) (entries asked))

-- what is taken in all
abbrev pub taken_by : Question → Span → List Taken
taken_by asked shown = kept_as Counted asked shown ++ kept_as Named asked shown
