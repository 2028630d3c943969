-- The report that some words ask for, entries that rules make and budgets among them.
use Rattle.std.specs.Prelude.{ℕ, List, [], ◌∷◌, Option, Some, None, Result, Ok, Err}
use Rattle.report_options.specs.Commands.{command_named}
use Rattle.report_options.specs.Options.{reading}
use Rattle.report_options.specs.Programs.{program_reading}
use Rattle.report_options.specs.declared.command.Command.{Command}
use Rattle.report_options.specs.declared.fault.OptionFault.{OptionFault}
use Rattle.report_options.specs.declared.options.Options.{Options}
use Rattle.report_options.specs.declared.program.Given.{Given}
use Rattle.report_commands.specs.Commands.{all_words, as_words_fault}
use Rattle.report_commands.specs.declared.asked.Asked.{Asked}
use Rattle.report_commands.specs.declared.fault.WordsFault.{WordsFault}
use Rattle.report_commands.specs.declared.fault.WordsFault.TheVariants as words_fault

-- what options and the words of a query ask for
abbrev pub asked_with : Options → List (List ℕ) → Asked
asked_with options words = record { options = options; words = all_words options words }

abbrev pub asked_by : Result (Options × List (List ℕ)) OptionFault → Result Asked WordsFault
asked_by (Ok read) = Ok (asked_with read.0 read.1)
asked_by (Err fault) = Err (as_words_fault fault)

abbrev pub asked_from : List ℕ → Option Command → ℕ → List (List ℕ) → Result Asked WordsFault
asked_from word None day words = Err (words_fault.NoCommand word)
asked_from word (Some command) day words = asked_by (reading command day words)

-- What words ask for on a day, the first being the command, or what is wrong with them.
abbrev pub asked_of : ℕ → List (List ℕ) → Result Asked WordsFault
asked_of day [] = Err (words_fault.NoCommand [])
asked_of day (word ∷ words) = asked_from word (command_named word) day words

-- ---- words behind the program's name

abbrev pub given_by : Result (Given × Options × List (List ℕ)) OptionFault → Result (Given × Asked) WordsFault
given_by (Ok read) = Ok (read.0, asked_with read.1 read.2)
given_by (Err fault) = Err (as_words_fault fault)

abbrev pub given_from : List ℕ → Option Command → ℕ → List (List ℕ) → Result (Given × Asked) WordsFault
given_from word None day words = Err (words_fault.NoCommand word)
given_from word (Some command) day words = given_by (program_reading command day words)

-- The journal that words behind the program's name name, and what they ask of it on a day, or what is wrong with them.
abbrev pub given_of : ℕ → List (List ℕ) → Result (Given × Asked) WordsFault
given_of day [] = Err (words_fault.NoCommand [])
given_of day (word ∷ words) = given_from word (command_named word) day words
