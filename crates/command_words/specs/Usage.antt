-- What is wrong with words that have no reading.
use Rattle.std.specs.Prelude.{List, ℕ, Option, Some, Result, Err}
use Rattle.std.specs.Option.{option_map}
use Rattle.report_commands.specs.Commands.{words_cause}
use Rattle.report_commands.specs.declared.fault.WordsFault.{WordsFault}
use Rattle.report_commands.specs.declared.fault.WordsFault.TheVariants as words_fault
use Rattle.command_words.specs.declared.usage.UsageFault.{UsageFault}
use Rattle.command_words.specs.declared.usage.UsageFault.TheVariants as usages

abbrev pub of_words : WordsFault → UsageFault
of_words fault = usages.Words fault

-- what is wrong, as an error tells it; want of memory tells nothing
abbrev pub usage_cause : UsageFault → Option UsageFault
usage_cause (usages.Words fault) = option_map of_words (words_cause fault)
usage_cause usages.Missing = Some usages.Missing

-- a word that has no place
abbrev pub misplaced : {A : Type 0} → List ℕ → Result A UsageFault
misplaced word = Err (usages.Words (words_fault.BadOption word))

-- a word is missing
abbrev pub missing : {A : Type 0} → Result A UsageFault
missing = Err usages.Missing
