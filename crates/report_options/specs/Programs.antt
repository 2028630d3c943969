-- What words behind the program's name say: the journal too.
use Rattle.std.specs.Prelude.{◌≡◌, ℕ, false, List, [], ◌∷◌, Option, Some, None, Result, Ok, Err}
use Rattle.report_options.specs.Items.{items_of, option_name}
use Rattle.report_options.specs.Names.{is_among}
use Rattle.report_options.specs.Options.{latest, judged, options_of, query_words}
use Rattle.report_options.specs.declared.command.Command.{Command}
use Rattle.report_options.specs.declared.fault.OptionFault.{OptionFault}
use Rattle.report_options.specs.declared.items.Item.{Item}
use Rattle.report_options.specs.declared.names.Name.{Name}
use Rattle.report_options.specs.declared.names.Name.TheVariants as names
use Rattle.report_options.specs.declared.names.Place.TheVariants as places
use Rattle.report_options.specs.declared.options.Options.{Options}
use Rattle.report_options.specs.declared.program.Given.{Given}
use Rattle.report_options.specs.declared.values.Value.TheVariants as values

abbrev pub name_of : Option Item → Option (List ℕ)
name_of None = None
name_of (Some item) = elim item.value [ values.Named name ↦ Some name | _ ↦ None ]

-- the name behind the last of some options
abbrev pub name_behind : List Item → List Name → Option (List ℕ)
name_behind items those = name_of (latest items those)

-- the journal that the items name
abbrev pub given_of : List Item → Given
given_of items = record { file = name_behind items (names.File ∷ []); store = name_behind items (names.Store ∷ []) }

-- no journal is named
abbrev pub unnamed : Given
unnamed = record { file = None; store = None }

abbrev pub program_reading_of : Command → Result (List Item) OptionFault → Result (Given × Options × List (List ℕ)) OptionFault
program_reading_of command (Ok items) = Ok (given_of items, options_of command items, query_words items)
program_reading_of command (Err fault) = Err fault

-- What the words of a command behind the program's name say on a day: the journal, the options and the words of the query,
-- or the fault of the first word that is no option or no value, or else of the first two words that exclude each other.
abbrev pub program_reading : Command → ℕ → List (List ℕ) → Result (Given × Options × List (List ℕ)) OptionFault
program_reading command day those = program_reading_of command (judged (items_of places.Program command day those))

-- the word is neither `-f` nor `--store`, also with a value behind `=`
abbrev pub NamesNoJournal : List ℕ → Type 0
NamesNoJournal word = is_among (option_name word) (names.File ∷ names.Store ∷ []) ≡ false
