-- The lines that are written to the error output.
use Rattle.std.specs.Prelude.{ℕ, List, [], ◌++◌, codes}
use Rattle.book.specs.declared.fault.Cause.{Cause}
use Rattle.book.specs.declared.fault.Cause.TheVariants.{TooLong}
use Rattle.book.specs.FaultLine.{fault_line}
use Rattle.error_lines.specs.Lines as lines
use Rattle.generated.specs.declared.fault.GenFault.{GenFault}
use Rattle.generated.specs.declared.fault.GenFault.TheVariants as gen_fault
use Rattle.plan_commands.specs.declared.fault.PlanFault.{PlanFault}
use Rattle.plan_commands.specs.declared.fault.PlanFault.TheVariants as plan_fault
use Rattle.report_cells.specs.declared.fault.ReportFault.{ReportFault}
use Rattle.report_cells.specs.declared.fault.ReportFault.TheVariants as report_fault
use Rattle.report_commands.specs.declared.fault.WordsFault.{WordsFault}
use Rattle.report_commands.specs.declared.fault.WordsFault.TheVariants as words_fault
use Rattle.refusals.specs.declared.refusal.PatternOf.{PatternOf}
use Rattle.refusals.specs.declared.refusal.PatternOf.TheVariants as pattern_of

-- no command
abbrev pub usage_line : List ℕ
usage_line = lines.usage []

-- a word that has no place
abbrev pub usage_word_line : List ℕ → List ℕ
usage_word_line word = lines.ended (codes "error: usage: " ++ word)

-- a word that is no term of a query
abbrev pub term_line : List ℕ → List ℕ
term_line word = lines.bad_term word

-- a pattern that isn't built: one of a word, or one of the automated rule at a line
abbrev pub pattern_line : PatternOf → List ℕ
pattern_line (pattern_of.Word word) = lines.refused_pattern word
pattern_line (pattern_of.Rule line) = lines.refused_rule_pattern line

-- a count past its limit
abbrev pub limit_line : ℕ → ℕ → List ℕ
limit_line count limit = lines.past_limit count limit

-- a name under which there is no file
abbrev pub absent_line : List ℕ → List ℕ
absent_line name = lines.absent name

abbrev pub read_fault_line : List ℕ
read_fault_line = lines.read_fault

abbrev pub disk_fault_line : List ℕ
disk_fault_line = lines.disk_fault

abbrev pub write_fault_line : List ℕ
write_fault_line = lines.write_fault

abbrev pub connection_line : List ℕ
connection_line = lines.connection

abbrev pub memory_line : List ℕ
memory_line = lines.memory

-- the exit status of a text with a fault: 7 where an entry is too long, else 1
abbrev pub fault_status : Cause → ℕ
fault_status TooLong = 7
fault_status _ = 1

-- why a report can't be made
abbrev pub report_line : ReportFault → List ℕ
report_line (report_fault.Range symbol) = lines.out_of_range symbol
report_line (report_fault.TooWide columns limit) = limit_line columns limit
report_line report_fault.Memory = memory_line

abbrev pub words_line : WordsFault → List ℕ
words_line (words_fault.NoCommand word) = usage_word_line word
words_line (words_fault.BadOption word) = usage_word_line word
words_line (words_fault.Conflict a b) = lines.conflict a b
words_line (words_fault.BadTerm word) = term_line word
words_line (words_fault.PatternRefused word) = pattern_line (pattern_of.Word word)
words_line (words_fault.Report fault) = report_line fault
words_line words_fault.Memory = memory_line

-- the exit status of a report that isn't made: 7 where it has too many columns, else 1
abbrev pub report_status : ReportFault → ℕ
report_status (report_fault.TooWide columns limit) = 7
report_status _ = 1

abbrev pub words_status : WordsFault → ℕ
words_status (words_fault.Report fault) = report_status fault
words_status _ = 1

-- why rules make no book
abbrev pub rules_line : GenFault → List ℕ
rules_line (gen_fault.Journal fault) = fault_line fault
rules_line (gen_fault.BadTerm line) = lines.bad_rule line
rules_line (gen_fault.PatternRefused line) = pattern_line (pattern_of.Rule line)
rules_line (gen_fault.TooMany count limit) = limit_line count limit
rules_line gen_fault.Memory = memory_line

-- the exit status of rules that make no book: 7 where an entry is too long or they make too much, else 1
abbrev pub rules_status : GenFault → ℕ
rules_status (gen_fault.Journal fault) = fault_status fault.cause
rules_status (gen_fault.TooMany count limit) = 7
rules_status _ = 1

-- why a report isn't made with what rules make, and its exit status
abbrev pub plan_line : PlanFault → List ℕ
plan_line (plan_fault.Words fault) = words_line fault
plan_line (plan_fault.Generated fault) = rules_line fault
plan_line plan_fault.Memory = memory_line

abbrev pub plan_status : PlanFault → ℕ
plan_status (plan_fault.Words fault) = words_status fault
plan_status (plan_fault.Generated fault) = rules_status fault
plan_status plan_fault.Memory = 1
