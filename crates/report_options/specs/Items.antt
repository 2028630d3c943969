-- Words cut into options with their values, and words of the query.
use Rattle.std.specs.Prelude.{ℕ, Bool, not, ◌&&◌, ◌==◌, eqb, nat_eq, List, [], ◌∷◌, ◌++◌, map, codes, Option, Some, None, unwrap_or, Result, Ok, Err, if◌then◌else◌}
use Rattle.std.specs.List.{list_any, starts_with, before_first, after_first}
use Rattle.std.specs.Option.{option_or}
use Rattle.std.specs.Str.{bytes_eq}
use Rattle.hl_base.specs.Ascii.{equals}
use Rattle.report_options.specs.Names.{name_of, takes_value, has_option, is_sheet}
use Rattle.report_options.specs.Values.{value_of, bare_value, written_value, HasDays}
use Rattle.report_options.specs.declared.command.Command.{Command}
use Rattle.report_options.specs.declared.fault.OptionFault.{OptionFault}
use Rattle.report_options.specs.declared.fault.OptionFault.TheVariants as faults
use Rattle.report_options.specs.declared.items.Item.{Item}
use Rattle.report_options.specs.declared.names.Name.{Name}
use Rattle.report_options.specs.declared.names.Name.TheVariants as names
use Rattle.report_options.specs.declared.names.Place.{Place}
use Rattle.report_options.specs.declared.values.Value.{Value}
use Rattle.report_options.specs.declared.values.Value.TheVariants as values

-- what is wrong, as an error tells it; want of memory tells nothing
abbrev pub fault_cause : OptionFault → Option OptionFault
fault_cause (faults.BadOption word) = Some (faults.BadOption word)
fault_cause (faults.Conflict a b) = Some (faults.Conflict a b)
fault_cause faults.Memory = None

-- all later words are of the query
abbrev pub is_end : List ℕ → Bool
is_end word = bytes_eq word (codes "--")

-- a word that is read as an option
abbrev pub is_option : List ℕ → Bool
is_option word = starts_with nat_eq word (codes "-")

-- one of the long form
abbrev pub is_long : List ℕ → Bool
is_long word = starts_with nat_eq word (codes "--")

abbrev pub has_equals : List ℕ → Bool
has_equals word = list_any (λ b. b == equals) word

-- `--name=V`
abbrev pub has_value : List ℕ → Bool
has_value word = is_long word && has_equals word

-- what stands before the first `=`, or all
abbrev pub before_equals : List ℕ → List ℕ
before_equals word = before_first (λ b. eqb b equals) word

-- what stands after the first `=`, or nothing
abbrev pub after_equals : List ℕ → List ℕ
after_equals word = after_first (λ b. eqb b equals) word

-- the option that a word names
abbrev pub option_name : List ℕ → Name
option_name word = if is_long word then name_of (before_equals word) else name_of word

-- the value that the word itself holds
abbrev pub own_value : List ℕ → Option (List ℕ)
own_value word = if has_value word then Some (after_equals word) else None

-- the value is the next word
abbrev pub takes_next : List ℕ → Bool
takes_next word = takes_value (option_name word) && not (has_value word)

-- a word of the query, or an option with the next word where that is its value
pub data Piece : Type 0 where
  words : List ℕ → Piece
  option : List ℕ → Option (List ℕ) → Piece

abbrev pub piece_of : List ℕ → Option (List ℕ) → Piece
piece_of word next = if is_option word then option word next else words word

-- the words, each option with its value
abbrev pub pieces : List (List ℕ) → List Piece
pieces [] = []
pieces (word ∷ []) = if is_end word then [] else piece_of word None ∷ []
pieces (word ∷ next ∷ rest) =
    if is_end word then map words (next ∷ rest)
    else if takes_next word then piece_of word (Some next) ∷ pieces rest
    else piece_of word None ∷ pieces (next ∷ rest)

-- a word of the query as an item
abbrev pub query_word : List ℕ → Item
query_word word = record { word = word; name = names.Word; value = values.Nothing }

abbrev pub bad_option : List ℕ → Result Item OptionFault
bad_option word = Err (faults.BadOption word)

-- an option with the value that it has, or the fault of the word that holds the value
abbrev pub with_value : List ℕ → List ℕ → Name → Option Value → Result Item OptionFault
with_value word holder name (Some value) = Ok (record { word = word; name = name; value = value })
with_value word holder name None = bad_option holder

-- an option of the command: its value is its own, or the next word, or isn't written
abbrev pub valued : ℕ → List ℕ → Option (List ℕ) → Result Item OptionFault
valued day word next =
    with_value word (unwrap_or next word) (option_name word)
    (value_of day (option_name word) (option_or (own_value word) next))

-- what a piece of words at a place reads as
abbrev pub item_of : Place → Command → ℕ → Piece → Result Item OptionFault
item_of place command day (words word) = Ok (query_word word)
item_of place command day (option word next) =
    if has_option place command (option_name word) then valued day word next else bad_option word

abbrev pub put_first : Result Item OptionFault → Result (List Item) OptionFault → Result (List Item) OptionFault
put_first (Err fault) items = Err fault
put_first (Ok item) (Ok items) = Ok (item ∷ items)
put_first (Ok item) (Err fault) = Err fault

-- all of them, or the first fault
abbrev pub all_read : List (Result Item OptionFault) → Result (List Item) OptionFault
all_read [] = Ok []
all_read (item ∷ items) = put_first item (all_read items)

-- the items of the words, or the fault of the first that doesn't read
unfoldable pub items_in : Place → Command → ℕ → List (List ℕ) → Result (List Item) OptionFault
items_in place command day those = all_read (map (item_of place command day) (pieces those))

-- the command balancesheet, which stands last
abbrev pub sheet_item : Item
sheet_item = record { word = codes "bs"; name = names.Sheet; value = values.Nothing }

abbrev pub with_sheet : Command → Result (List Item) OptionFault → Result (List Item) OptionFault
with_sheet command (Ok items) = Ok (if is_sheet command then items ++ sheet_item ∷ [] else items)
with_sheet command (Err fault) = Err fault

abbrev pub items_of : Place → Command → ℕ → List (List ℕ) → Result (List Item) OptionFault
items_of place command day those = with_sheet command (items_in place command day those)

-- what the next words give to a word: its value, and what is left
abbrev pub next_of : List ℕ → List (List ℕ) → Option (List ℕ)
next_of word [] = None
next_of word (next ∷ rest) = if takes_next word then Some next else None

abbrev pub left_of : Bool → List (List ℕ) → List (List ℕ)
left_of takes [] = []
left_of takes (next ∷ rest) = if takes then rest else next ∷ rest

-- an option whose value is the next word, if there is one
abbrev pub next_valued : ℕ → List ℕ → Name → List (List ℕ) → Result Item OptionFault
next_valued day word name [] = with_value word word name (bare_value name)
next_valued day word name (next ∷ rest) = with_value word next name (written_value day name next)

-- its value has days that are days
abbrev pub IsDated : Item → Type 0
IsDated item = HasDays item.value
