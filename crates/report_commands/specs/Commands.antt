-- What is wrong with words, and the words of a query.
use Rattle.std.specs.Prelude.{ℕ, List, ◌++◌, Option, Some, None}
use Rattle.report_options.specs.Terms.{terms_of_options}
use Rattle.report_options.specs.declared.fault.OptionFault.{OptionFault}
use Rattle.report_options.specs.declared.fault.OptionFault.TheVariants as option_fault
use Rattle.report_options.specs.declared.options.Options.{Options}
use Rattle.report_commands.specs.declared.fault.WordsFault.{WordsFault}
use Rattle.report_commands.specs.declared.fault.WordsFault.TheVariants as words_fault

-- what is wrong with the words, as an error tells it; want of memory tells nothing
abbrev pub words_cause : WordsFault → Option WordsFault
words_cause (words_fault.NoCommand word) = Some (words_fault.NoCommand word)
words_cause (words_fault.BadOption word) = Some (words_fault.BadOption word)
words_cause (words_fault.Conflict a b) = Some (words_fault.Conflict a b)
words_cause (words_fault.BadTerm word) = Some (words_fault.BadTerm word)
words_cause (words_fault.PatternRefused word) = Some (words_fault.PatternRefused word)
words_cause (words_fault.Report fault) = Some (words_fault.Report fault)
words_cause words_fault.Memory = None

abbrev pub as_words_fault : OptionFault → WordsFault
as_words_fault (option_fault.BadOption word) = words_fault.BadOption word
as_words_fault (option_fault.Conflict a b) = words_fault.Conflict a b
as_words_fault option_fault.Memory = words_fault.Memory

-- the words of a query behind those that options stand for
abbrev pub all_words : Options → List (List ℕ) → List (List ℕ)
all_words options words = terms_of_options options ++ words
