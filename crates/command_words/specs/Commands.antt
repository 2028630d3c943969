-- What the words of the program ask for.
use Rattle.std.specs.Prelude.{ℕ, ◌≤◌, Bool, true, false, List, [], ◌∷◌, Option, Some, None, Result, Ok, Err, if◌then◌else◌, codes}
use Rattle.std.specs.Str.{bytes_eq}
use Rattle.book_care.specs.declared.faults.Check.{Check}
use Rattle.refusals.specs.Errors.{usage_line, words_line}
use Rattle.book_commands.specs.Works.{IsWorkable}
use Rattle.book_commands.specs.declared.work.Entries.{Entries}
use Rattle.book_commands.specs.declared.work.Entries.TheVariants as entries
use Rattle.book_commands.specs.declared.work.LogForm.{LogForm}
use Rattle.book_commands.specs.declared.work.LogForm.TheVariants as forms
use Rattle.book_commands.specs.declared.work.Work.{Work}
use Rattle.book_commands.specs.declared.work.Work.TheVariants as works
use Rattle.report_options.specs.declared.program.Given.{Given}
use Rattle.report_commands.specs.declared.asked.Asked.{Asked}
use Rattle.report_commands.specs.declared.fault.WordsFault.{WordsFault}
use Rattle.report_commands.specs.declared.fault.WordsFault.TheVariants as words_fault
use Rattle.plan_commands.specs.Commands.{given_of}
use Rattle.command_words.specs.Chores.{chore_named}
use Rattle.command_words.specs.ExplainWords.{explain_task, is_unnamed}
use Rattle.command_words.specs.HelpWords.{help_task}
use Rattle.command_words.specs.Limits.{most_entries}
use Rattle.command_words.specs.Said.{said_by}
use Rattle.command_words.specs.StoreWords.{add_task, export_task, feed_task, follow_task, import_task, init_task, items_task, replace_task}
use Rattle.command_words.specs.TalkWords.{sample_task, talk_task, task_alone}
use Rattle.command_words.specs.Usage.{missing}
use Rattle.command_words.specs.declared.chores.Chore.{Chore}
use Rattle.command_words.specs.declared.chores.Chore.TheVariants as chores
use Rattle.command_words.specs.declared.said.Named.{Named}
use Rattle.command_words.specs.declared.said.Named.TheVariants as named
use Rattle.command_words.specs.declared.said.Said.{Said}
use Rattle.command_words.specs.declared.task.Origin.{Origin}
use Rattle.command_words.specs.declared.task.Origin.TheVariants as origins
use Rattle.command_words.specs.declared.task.Task.{Task}
use Rattle.command_words.specs.declared.task.Task.TheVariants as task
use Rattle.command_words.specs.declared.usage.UsageFault.{UsageFault}
use Rattle.command_words.specs.declared.usage.UsageFault.TheVariants as usages

-- a name, and `-` for the input
abbrev pub name_of_journal : List ℕ → Option (List ℕ)
name_of_journal name = if bytes_eq name (codes "-") then None else Some name

abbrev pub file_or_input : Option (List ℕ) → Origin
file_or_input None = origins.Input
file_or_input (Some name) = origins.File name

abbrev pub store_or_input : Option (List ℕ) → Origin
store_or_input None = origins.Input
store_or_input (Some name) = origins.Store name

-- the file of a name, and the store of one
abbrev pub file_origin : List ℕ → Origin
file_origin name = file_or_input (name_of_journal name)

abbrev pub store_origin : List ℕ → Origin
store_origin name = store_or_input (name_of_journal name)

-- what is asked of a text
abbrev pub text_task : Origin → Work → Task
text_task origin work = task.Over (record { origin = origin; work = work })

-- ---- reports

-- the journal that is named; the words of which both a file and a store are named exclude each other
abbrev pub origin_named : Option (List ℕ) → Option (List ℕ) → Origin
origin_named (Some store) file = store_origin store
origin_named None (Some file) = file_origin file
origin_named None None = origins.Input

abbrev pub given_origin : Given → Origin
given_origin given = origin_named given.store given.file

abbrev pub report_given : Given → Asked → Task
report_given given asked = text_task (given_origin given) (works.Report asked)

abbrev pub report_task : Result (Given × Asked) WordsFault → Result Task UsageFault
report_task (Ok read) = Ok (report_given read.0 read.1)
report_task (Err fault) = Err (usages.Words fault)

-- ---- the other commands over a text or a store

abbrev pub log_form : Bool → LogForm
log_form dot = if dot then forms.Dot else forms.Clock

-- where the journal is that is named; a file and a store exclude each other
abbrev pub origin_of : Named → Result Origin UsageFault
origin_of named.Unnamed = Ok origins.Input
origin_of (named.File name) = Ok (file_origin name)
origin_of (named.Store word name) = Ok (store_origin name)
origin_of (named.Both earlier later) = Err (usages.Words (words_fault.Conflict earlier later))

-- checks; one at least has to be named
abbrev pub strict_task : Origin → List Check → Result Task UsageFault
strict_task origin [] = missing
strict_task origin (check ∷ checks) = Ok (text_task origin (works.Strict (check ∷ checks)))

-- the account that takes the balances, and the words of the query
abbrev pub into_or_default : Option (List ℕ) → List ℕ
into_or_default (Some account) = account
into_or_default None = codes "equity:closing"

abbrev pub one_word : List ℕ → List (List ℕ)
one_word word = word ∷ []

abbrev pub words_or_default : List (List ℕ) → List (List ℕ)
words_or_default [] = one_word (codes "type:AL")
words_or_default (word ∷ words) = word ∷ words

-- the entries of a closing that are asked for: both where neither is, or each
abbrev pub entries_of : Bool → Bool → Entries
entries_of true false = entries.Closing
entries_of false true = entries.Opening
entries_of true true = entries.Both
entries_of false false = entries.Both

-- closing entries; their day has to be given
abbrev pub close_task : Origin → Entries → Option ℕ → List ℕ → List (List ℕ) → Result Task UsageFault
close_task origin asked (Some on) into words = Ok (text_task origin (works.Close (record { entries = asked; on = on; into = into; words = words })))
close_task origin asked None into words = missing

abbrev pub task_over : Chore → Said → Origin → Result Task UsageFault
task_over chores.Hours said origin = Ok (text_task origin (works.Hours (log_form said.dot)))
task_over chores.Strict said origin = strict_task origin said.checks
task_over chores.Close said origin = close_task origin (entries_of said.closing said.opening) said.on (into_or_default said.into) (words_or_default said.words)
task_over chores.Explain said origin = explain_task (is_unnamed said.journal) origin said.rules said.words
task_over chores.Init said origin = init_task origin said.limit said.words
task_over chores.Add said origin = add_task said.words
task_over chores.Import said origin = import_task said.dry said.rules said.remembered said.words
task_over chores.Replace said origin = replace_task origin said.base said.words
task_over chores.Talk said origin = Ok (talk_task origin said.allow)
task_over chores.Sample said origin = sample_task said.words
task_over chores.Export said origin = export_task said.words
task_over chores.Items said origin = items_task said.words
task_over chores.Feed said origin = feed_task said.words
task_over chores.Follow said origin = follow_task said.limit said.words

abbrev pub task_from : Chore → Said → Result Origin UsageFault → Result Task UsageFault
task_from chore said (Ok origin) = task_over chore said origin
task_from chore said (Err fault) = Err fault

abbrev pub task_said : Chore → Said → Result Task UsageFault
task_said chore said = task_from chore said (origin_of said.journal)

abbrev pub task_by : Chore → Result Said UsageFault → Result Task UsageFault
task_by chore (Ok said) = task_said chore said
task_by chore (Err fault) = Err fault

-- what the words behind such a command ask for
abbrev pub chore_task : Chore → List (List ℕ) → Result Task UsageFault
chore_task chore words = task_by chore (said_by chore words)

-- ---- all commands

abbrev pub chore_or_report : Option Chore → ℕ → List ℕ → List (List ℕ) → Result Task UsageFault
chore_or_report (Some chore) day word words = chore_task chore words
chore_or_report None day word words = report_task (given_of day (word ∷ words))

-- what the first word asks for, with those behind it
abbrev pub task_at : ℕ → List ℕ → List (List ℕ) → Result Task UsageFault
task_at day word words =
    if bytes_eq word (codes "--help") then help_task words
    else if bytes_eq word (codes "--version") then task_alone task.Version words
    else chore_or_report (chore_named word) day word words

-- what the words ask for on a day, or what is wrong with them
abbrev pub task_of : ℕ → List (List ℕ) → Result Task UsageFault
task_of day [] = Err (usages.Words (words_fault.NoCommand []))
task_of day (word ∷ words) = task_at day word words

-- the options of a report are valid, and a sample has few enough entries
abbrev pub IsReadable : Task → Type 0
IsReadable (task.Over given) = IsWorkable given.work
IsReadable (task.Sample count) = count ≤ most_entries
IsReadable other = Unit {0}

-- the error line of words that have no reading
abbrev pub line_of_usage : UsageFault → List ℕ
line_of_usage (usages.Words fault) = words_line fault
line_of_usage usages.Missing = usage_line

abbrev pub usage_of : List (List ℕ) → UsageFault → List ℕ
usage_of [] fault = usage_line
usage_of (word ∷ words) fault = line_of_usage fault
