-- What each command answers to a text.
use Rattle.std.specs.Prelude.{ℕ, ◌≤◌, length, List, [], ◌∷◌, ◌++◌, Option, Some, None, Result, Ok, Err}
use Rattle.std.specs.List.{flat_map}
use Rattle.std.specs.Option.{option_or}
use Rattle.hl_base.specs.Ascii.{line_feed}
use Rattle.hl_base.specs.Limits.{text_limit}
use Rattle.book.specs.declared.item.Book.{Book}
use Rattle.book.specs.declared.item.Placed.{Placed}
use Rattle.book.specs.declared.transaction.Txn.{Txn}
use Rattle.book_care.specs.Asked.{Asked as Closed}
use Rattle.book_care.specs.Breaks.{first_by, first_fault}
use Rattle.book_care.specs.Entries.{made}
use Rattle.book_care.specs.Judged.{first_cause}
use Rattle.book_care.specs.Reads.{context_at_end}
use Rattle.book_care.specs.declared.declarations.Declarations.{Declarations}
use Rattle.book_care.specs.declared.faults.Check.{Check}
use Rattle.book_care.specs.declared.faults.CloseFault.{CloseFault}
use Rattle.book_care.specs.declared.faults.StrictFault.{StrictFault}
use Rattle.entry_reader.specs.Contexts.{Context, context_of}
use Rattle.entry_reader.specs.Lines.{contents_of}
use Rattle.journal_printer.specs.Entries.{entry_shape}
use Rattle.journal_printer.specs.Layout.{txn_text}
use Rattle.journal_printer.specs.declared.detail.Detail.TheVariants as detail
use Rattle.query.specs.Words.{terms_mean}
use Rattle.query_terms.specs.Reading.{terms_of}
use Rattle.query_terms.specs.declared.kinds.Term.{Term}
use Rattle.report_commands.specs.Matters.{letters_in}
use Rattle.plan_commands.specs.Reports.{Report, answer_over}
use Rattle.report_commands.specs.declared.asked.Asked.{Asked}
use Rattle.report_options.specs.Options.{IsValid}
use Rattle.time_logs.specs.Timeclock.{timeclock}
use Rattle.time_logs.specs.Timedot.{timedot}
use Rattle.time_logs.specs.declared.faults.LogFault.{LogFault}
use Rattle.refusals.specs.Errors.{plan_line, plan_status, term_line}
use Rattle.book_commands.specs.TextFaults.{explained_text}
use Rattle.book_commands.specs.FaultLines.{close_line, log_line, log_status, strict_line}
use Rattle.refusals.specs.Outcomes.{Judged, Outcome, refused, written}
use Rattle.book_commands.specs.Listed.{items_made}
use Rattle.book_commands.specs.Texts.{judged_text}
use Rattle.book_commands.specs.declared.work.CloseAsked.{CloseAsked}
use Rattle.book_commands.specs.declared.work.Entries.{Entries}
use Rattle.book_commands.specs.declared.work.Entries.TheVariants as chosen
use Rattle.book_commands.specs.declared.work.LogForm.{LogForm}
use Rattle.book_commands.specs.declared.work.LogForm.TheVariants as forms
use Rattle.book_commands.specs.declared.work.Work.{Work}
use Rattle.book_commands.specs.declared.work.Work.TheVariants as works

-- ---- transactions as the text of a journal

-- a transaction as an entry that is read in a context, and an empty line
abbrev pub entry_text : Context → Txn → List ℕ
entry_text context txn = txn_text (entry_shape context) detail.Written txn ++ (line_feed ∷ [])

abbrev pub entries_text : Context → List Txn → List ℕ
entries_text context txns = flat_map (entry_text context) txns

-- ---- reports

-- what is written of a report, with what the rules of its text make, or of why there is none
abbrev pub report_outcome : Report → Outcome
report_outcome (Ok text) = written text
report_outcome (Err fault) = refused (plan_status fault) (plan_line fault)

unfoldable pub report_made : Asked → ℕ → List Placed → Book → Outcome
report_made asked day items book = report_outcome (answer_over asked day items book)

-- ---- hours

-- the context of a text without directives
abbrev pub plain_context : Context
plain_context = context_of None []

-- the transactions of a log, in its order, or its first fault
abbrev pub log_txns : LogForm → List (List ℕ) → Result (List Txn) LogFault
log_txns forms.Clock lines = timeclock lines
log_txns forms.Dot lines = timedot lines

abbrev pub hours_outcome : Result (List Txn) LogFault → Outcome
hours_outcome (Ok txns) = written (entries_text plain_context txns)
hours_outcome (Err fault) = refused (log_status fault) (log_line fault)

unfoldable pub hours_made : LogForm → List ℕ → Outcome
hours_made form text = hours_outcome (log_txns form (contents_of text))

-- ---- strict checks

-- what the first check that fails says, in their order
abbrev pub first_said : (Check → Option StrictFault) → List Check → Option StrictFault
first_said says [] = None
first_said says (check ∷ checks) = option_or (says check) (first_said says checks)

abbrev pub first_broken : List Check → List Placed → List Txn → Option StrictFault
first_broken checks items txns = first_said (λ check. first_fault check items txns) checks

-- the same, by the names that are kept as declared
abbrev pub by_kept : Declarations → List Txn → Check → Option StrictFault
by_kept declarations txns check = first_by declarations check txns

abbrev pub first_kept : List Check → Declarations → List Txn → Option StrictFault
first_kept checks declarations txns = first_said (by_kept declarations txns) checks

abbrev pub strict_outcome : Option StrictFault → Outcome
strict_outcome None = written []
strict_outcome (Some fault) = refused 1 (strict_line fault)

unfoldable pub strict_made : List Check → List Placed → Book → Outcome
strict_made checks items book = strict_outcome (first_broken checks items book.txns)

-- ---- closing entries

-- what is asked to be closed, by the terms of a query
abbrev pub closed_over : CloseAsked → List Placed → Book → List Term → Closed
closed_over asked items book terms = record {
  items = items;
  txns = book.txns;
  means = λ entry. terms_mean terms (letters_in items) entry.0 entry.1;
  on = asked.on;
  into = asked.into;
}

-- the text of those of a closing and an opening entry that are asked for
abbrev pub chosen_text : Context → Entries → Txn × Txn → List ℕ
chosen_text context chosen.Both entries = entry_text context entries.0 ++ entry_text context entries.1
chosen_text context chosen.Closing entries = entry_text context entries.0
chosen_text context chosen.Opening entries = entry_text context entries.1

-- if there are any
abbrev pub pair_text : Context → Entries → Option (Txn × Txn) → List ℕ
pair_text context asked None = []
pair_text context asked (Some entries) = chosen_text context asked entries

abbrev pub close_outcome : Context → Entries → Option (Txn × Txn) → Option CloseFault → Outcome
close_outcome context asked entries None = written (pair_text context asked entries)
close_outcome context asked entries (Some fault) = refused 1 (close_line fault)

-- the entries of what is closed, or the first cause against them
abbrev pub closing_outcome : Entries → Closed → Outcome
closing_outcome asked closed = close_outcome (context_at_end closed.items) asked (made closed) (first_cause closed)

abbrev pub close_by : CloseAsked → List Placed → Book → Result (List Term) (List ℕ) → Outcome
close_by asked items book (Ok terms) = closing_outcome asked.entries (closed_over asked items book terms)
close_by asked items book (Err word) = refused 1 (term_line word)

unfoldable pub close_made : CloseAsked → ℕ → List Placed → Book → Outcome
close_made asked day items book = close_by asked items book (terms_of day asked.words)

-- ---- all commands

-- What is judged of a text on a day, with a year for dates without one.
abbrev pub judge : ℕ → Option ℕ → Work → List ℕ → Judged
judge day year works.Text text = Ok (written text)
judge day year (works.Report asked) text = judged_text (report_made asked day) year text
judge day year (works.Hours form) text = Ok (hours_made form text)
judge day year (works.Strict checks) text = judged_text (strict_made checks) year text
judge day year (works.Close asked) text = judged_text (close_made asked day) year text
judge day year works.Explain text = explained_text year text
judge day year works.Items text = judged_text (items_made text) year text

-- the words of which a pattern may be refused
abbrev pub words_of : Work → List (List ℕ)
words_of works.Text = []
words_of (works.Report asked) = asked.words
words_of (works.Hours form) = []
words_of (works.Strict checks) = []
words_of (works.Close asked) = asked.words
words_of works.Explain = []
words_of works.Items = []

-- the options of a report are valid
abbrev pub IsWorkable : Work → Type 0
IsWorkable (works.Report asked) = IsValid asked.options
IsWorkable other = Unit {0}

-- a text of which more is asked than itself has its limit
abbrev pub IsWithin : Work → List ℕ → Type 0
IsWithin works.Text text = Unit {0}
IsWithin other text = length text ≤ text_limit
