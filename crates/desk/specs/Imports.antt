-- What an import adds to a journal, and what is remembered of it.
use Rattle.std.specs.Prelude.{ℕ, ◌+◌, List, [], ◌∷◌, ◌++◌, map, find, Option, Some, None, Result, Ok, Err}
use Rattle.std.specs.List.{flat_map}
use Rattle.std.specs.Str.{bytes_eq}
use Rattle.hl_base.specs.Ascii.{line_feed}
use Rattle.hl_base.specs.declared.change.Latest.{Latest}
use Rattle.book.specs.declared.fault.Fault.{Fault}
use Rattle.book.specs.declared.item.Placed.{Placed}
use Rattle.book.specs.declared.transaction.Txn.{Txn}
use Rattle.entry_reader.specs.Contexts.{Context, context_of}
use Rattle.entry_reader.specs.Lines.{contents_of}
use Rattle.journal_printer.specs.declared.detail.Detail.TheVariants as detail
use Rattle.journal_printer.specs.Entries.{entry_shape}
use Rattle.journal_printer.specs.Layout.{txn_text}
use Rattle.live_journal.specs.declared.edit.Edit.TheVariants as edits
use Rattle.live_journal.specs.Loading.{reading_in}
use Rattle.query_terms.specs.Readings.{known_by}
use Rattle.csv_rules.specs.declared.faults.RulesFault.TheVariants as rules_fault
use Rattle.csv_rules.specs.declared.kinds.Sheet.{Sheet}
use Rattle.csv_rules.specs.Building.{form_sources, sheet_sources}
use Rattle.csv_rules.specs.Drafts.{Progress, put, start}
use Rattle.csv_rules.specs.Forms.{form_of}
use Rattle.csv_rules.specs.Importing.{new_after, state_after}
use Rattle.csv_rules.specs.Reading.{rules_of}
use Rattle.csv_entries.specs.declared.faults.ConvertFault.{ConvertFault}
use Rattle.csv_entries.specs.Conversion.{conversion}
use Rattle.desk.specs.declared.csv_fault.CsvFault.{CsvFault}
use Rattle.desk.specs.declared.csv_fault.CsvFault.TheVariants as csv_fault
use Rattle.desk.specs.declared.deed.Deed.{Deed}

-- ---- the entries of a file

abbrev pub as_csv : Result (List Txn) ConvertFault → Result (List Txn) CsvFault
as_csv (Ok txns) = Ok txns
as_csv (Err fault) = Err (csv_fault.Convert fault)

-- the entries that rules make of a file, each pattern of which finds what the grammar of regexes reads in it
abbrev pub made_by : Result Sheet ℕ → List ℕ → Result (List Txn) CsvFault
made_by (Ok sheet) csv = as_csv (conversion (known_by (sheet_sources sheet)) sheet csv)
made_by (Err line) csv = Err (csv_fault.Rules (rules_fault.BadRule line))

-- The entries that a file becomes by a text of rules, or why it becomes none.
unfoldable pub entries_of : List ℕ → List ℕ → Result (List Txn) CsvFault
entries_of rules csv = made_by (rules_of rules) csv

-- the number of a line with patterns of these sources, if there are any
abbrev pub line_with : ℕ → List (List ℕ) → List ℕ
line_with line [] = []
line_with line (source ∷ sources) = line ∷ []

abbrev pub lines_of_form : {F : Type 0} → (F → List ℕ) → Option F → List ℕ
lines_of_form of None = []
lines_of_form of (Some form) = of form

-- the numbers of those of some lines, behind others, that have a pattern with a special character, up to the first line
-- that isn't of its form
abbrev pub pattern_lines_from : Progress → ℕ → List (List ℕ) → List ℕ
pattern_lines_from p line [] = []
pattern_lines_from p line (l ∷ ls) =
    lines_of_form (λ form. line_with line (form_sources form) ++ pattern_lines_from (put p form) (line + 1) ls) (form_of p.stage l)

-- The lines of a text of rules whose patterns may be refused by who builds them.
abbrev pub pattern_lines : List ℕ → List ℕ
pattern_lines rules = pattern_lines_from start 1 (contents_of rules)

-- ---- what is put behind the text

abbrev pub context_in : Result (List Placed) Fault → Context
context_in (Ok items) = context_of None (map (λ p. p.item) items)
context_in (Err fault) = context_of None []

-- the context at the end of a text without a year before it
abbrev pub context_at : List ℕ → Context
context_at text = context_in (reading_in None text)

-- an entry as it is printed in a context
abbrev pub entry_text : Context → Txn → List ℕ
entry_text context txn = txn_text (entry_shape context) detail.Written txn

-- entries as they are printed in a context, with a blank line between them
abbrev pub entries_text : Context → List Txn → List ℕ
entries_text context [] = []
entries_text context (txn ∷ txns) = entry_text context txn ++ flat_map (λ next. line_feed ∷ entry_text context next) txns

-- ---- what is remembered

-- the state of the import of a name
abbrev pub state_named : List ℕ → List Latest → Option Latest
state_named name states = find (λ s. bytes_eq s.name name) states

abbrev pub deed_for : List ℕ → List Txn → Option Latest → Option Deed
deed_for text [] mark = None
deed_for text (txn ∷ new) mark = Some (record { edit = edits.Add (entries_text (context_at text) (txn ∷ new)); mark = mark })

-- The edit that an import of some entries is under a name: the new ones are put behind the text, and the state of the import
-- becomes the one after them. None where no entry is new.
abbrev pub new_deed : List ℕ → List Latest → List ℕ → List Txn → Option Deed
new_deed text states name txns =
    deed_for text (new_after (state_named name states) txns) (state_after name (state_named name states) txns)
