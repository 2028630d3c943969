-- Which transactions are printed, and how.
use Rattle.std.specs.Prelude.{ℕ, Bool, ◌&&◌, List, map, if◌then◌else◌}
use Rattle.hl_time.specs.declared.spans.Period.{Period}
use Rattle.book.specs.declared.transaction.Txn.{Txn}
use Rattle.journal_printer.specs.Journal.{chosen_text}
use Rattle.journal_printer.specs.Texts.{Shaping}
use Rattle.journal_printer.specs.declared.detail.Detail.{Detail}
use Rattle.journal_printer.specs.declared.detail.Detail.TheVariants.{Written, Explicit}
use Rattle.query.specs.Matching.{lies_in, period}
use Rattle.report_options.specs.declared.options.Options.{Options}
use Rattle.report_takings.specs.Asking.{Question}
use Rattle.report_takings.specs.Spans.{given_from, given_end}

-- the bounds that are given: of the options, narrowed by the terms of days outside `not:`
abbrev pub given : Question → Period
given asked = period (given_from asked) (given_end asked)

-- its own day lies in the bounds that are given, of which a missing one narrows nothing, and the query means it
abbrev pub is_printed : Question → Txn → Bool
is_printed asked txn = lies_in (given asked) txn.day.0 && asked.means_txn txn

-- with `-x` what balancing found is shown too
abbrev pub detail_of : Options → Detail
detail_of options = if options.explicit then Explicit else Written

-- the transactions that are printed, by day and then by number, with an empty line after each
abbrev pub print_text : Question → Shaping → List ℕ
print_text asked shape = chosen_text shape (detail_of asked.options) asked.txns (map (is_printed asked) asked.txns)
