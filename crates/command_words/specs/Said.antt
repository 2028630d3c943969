-- What the words behind a command that is no report say.
use Rattle.std.specs.Prelude.{ℕ, Bool, true, false, not, ◌&&◌, List, [], ◌∷◌, ◌++◌, map, codes, Option, Some, None, Result, Ok, Err, if◌then◌else◌}
use Rattle.std.specs.List.{fold}
use Rattle.std.specs.Str.{is_utf8}
use Rattle.book.specs.declared.fault.Fault.{Fault}
use Rattle.book.specs.declared.transaction.Side.{Side}
use Rattle.book.specs.declared.transaction.Side.TheVariants as sides
use Rattle.book_care.specs.declared.faults.Check.{Check}
use Rattle.book_commands.specs.Days.{closing_day}
use Rattle.entry_reader.specs.Accounts.{account_alone}
use Rattle.hl_time.specs.Date.{date_of, day_answer}
use Rattle.hl_time.specs.declared.day.Day.{Day}
use Rattle.hl_time.specs.declared.fault.TimeFault.{TimeFault}
use Rattle.report_options.specs.Items.{Piece, after_equals, before_equals, has_value, is_end, is_long, option, piece_of, words}
use Rattle.desk.specs.declared.request.Allow.{Allow}
use Rattle.command_words.specs.Chores.{allow_named, check_named, has_option, name_of, takes_value}
use Rattle.command_words.specs.Limits.{base_in, limit_in}
use Rattle.command_words.specs.Usage.{misplaced}
use Rattle.command_words.specs.declared.chores.Chore.{Chore}
use Rattle.command_words.specs.declared.chores.Chore.TheVariants as chores
use Rattle.command_words.specs.declared.chores.Name.{Name}
use Rattle.command_words.specs.declared.chores.Name.TheVariants as names
use Rattle.command_words.specs.declared.items.Item.{Item}
use Rattle.command_words.specs.declared.items.Item.TheVariants as items
use Rattle.command_words.specs.declared.said.Named.{Named}
use Rattle.command_words.specs.declared.said.Named.TheVariants as named
use Rattle.command_words.specs.declared.said.Said.{Said}
use Rattle.command_words.specs.declared.usage.UsageFault.{UsageFault}

-- ---- options and their values

-- the option that a word names: one of the long form may have its value behind `=`
abbrev pub option_name : List ℕ → Option Name
option_name word = if is_long word then name_of (before_equals word) else name_of word

abbrev pub needs_value : Option Name → Bool
needs_value (Some name) = takes_value name
needs_value None = false

-- the next word is the value
abbrev pub takes_next : List ℕ → Bool
takes_next word = needs_value (option_name word) && not (has_value word)

abbrev pub misplaced_item : List ℕ → Result Item UsageFault
misplaced_item word = misplaced word

-- what is said, or the fault of the word that holds its value
abbrev pub said_or_misplaced : List ℕ → Option Item → Result Item UsageFault
said_or_misplaced holder (Some item) = Ok item
said_or_misplaced holder None = misplaced_item holder

-- a date with its year, before the last day of the calendar
abbrev pub on_day : Option ℕ → Option Item
on_day (Some day) = Some (items.On day)
on_day None = None

abbrev pub on_date : Result Day TimeFault → Option Item
on_date (Ok day) = on_day (closing_day day)
on_date (Err fault) = None

unfoldable pub day_item : List ℕ → Option Item
day_item text = on_date (day_answer (date_of text None))

-- an account, as that of a real posting
abbrev pub if_real : Side → List ℕ → Option Item
if_real sides.Real account = Some (items.Into account)
if_real _ account = None

abbrev pub account_read : Result (Side × List ℕ) Fault → Option Item
account_read (Ok read) = if_real read.0 read.1
account_read (Err fault) = None

unfoldable pub account_item : List ℕ → Option Item
account_item text = if is_utf8 text then account_read (account_alone text) else None

-- the most bytes of each file of a store
abbrev pub limit_item : Option ℕ → Option Item
limit_item (Some limit) = Some (items.Limit limit)
limit_item None = None

-- the revision that a text is to follow
abbrev pub base_item : Option ℕ → Option Item
base_item (Some revision) = Some (items.Base revision)
base_item None = None

-- what requests may do
abbrev pub allow_item : Option Allow → Option Item
allow_item (Some allow) = Some (items.Allow allow)
allow_item None = None

abbrev pub store_item : List ℕ → List ℕ → Option Item
store_item word name = Some (items.Store word name)

-- what an option says with a value, by the word that names it, and without one
abbrev pub valued : Name → List ℕ → List ℕ → Option Item
valued names.Dot word value = None
valued names.Closing word value = None
valued names.Opening word value = None
valued names.DryRun word value = None
valued names.File word value = Some (items.File value)
valued names.Store word value = store_item word value
valued names.On word value = day_item value
valued names.Into word value = account_item value
valued names.Limit word value = limit_item (limit_in value)
valued names.Base word value = base_item (base_in value)
valued names.Rules word value = Some (items.Rules value)
valued names.Remembered word value = Some (items.Remembered value)
valued names.Allow word value = allow_item (allow_named value)

abbrev pub bare : Name → Option Item
bare names.Dot = Some items.Dot
bare names.Closing = Some items.Closing
bare names.Opening = Some items.Opening
bare names.DryRun = Some items.DryRun
bare _ = None

-- with the next word as its value, if there is one
abbrev pub next_valued : Name → List ℕ → Option (List ℕ) → Result Item UsageFault
next_valued name word None = misplaced_item word
next_valued name word (Some next) = said_or_misplaced next (valued name word next)

-- what an option says: its value is behind `=`, the next word, or not written
abbrev pub option_item : Name → List ℕ → Option (List ℕ) → Result Item UsageFault
option_item name word next =
    if has_value word then said_or_misplaced word (valued name word (after_equals word))
    else if takes_value name then next_valued name word next
    else said_or_misplaced word (bare name)

-- ---- words

-- a word that is read as an option is one of the command's
abbrev pub named_item : Chore → Option Name → List ℕ → Option (List ℕ) → Result Item UsageFault
named_item chore (Some name) word next = if has_option chore name then option_item name word next else misplaced_item word
named_item chore None word next = misplaced_item word

abbrev pub checked : List ℕ → Option Check → Result Item UsageFault
checked word (Some check) = Ok (items.Check check)
checked word None = misplaced_item word

-- another one is a check, a word of the query or a name
abbrev pub plain_item : Chore → List ℕ → Result Item UsageFault
plain_item chores.Hours word = misplaced_item word
plain_item chores.Talk word = misplaced_item word
plain_item chores.Strict word = checked word (check_named word)
plain_item _ word = Ok (items.Word word)

abbrev pub item_of : Chore → Piece → Result Item UsageFault
item_of chore (words word) = plain_item chore word
item_of chore (option word next) = named_item chore (option_name word) word next

-- the words, each with the one that follows it; a word that is the value of the one before it isn't among them, and all words
-- behind `--` are no options
abbrev pub pieces : List (List ℕ) → List Piece
pieces [] = []
pieces (word ∷ []) = if is_end word then [] else piece_of word None ∷ []
pieces (word ∷ next ∷ rest) =
    if is_end word then map words (next ∷ rest)
    else if takes_next word then piece_of word (Some next) ∷ pieces rest
    else piece_of word (Some next) ∷ pieces (next ∷ rest)

abbrev pub put_first : Result Item UsageFault → Result (List Item) UsageFault → Result (List Item) UsageFault
put_first (Err fault) more = Err fault
put_first (Ok item) (Ok more) = Ok (item ∷ more)
put_first (Ok item) (Err fault) = Err fault

-- all of them, or the first fault
abbrev pub all_said : List (Result Item UsageFault) → Result (List Item) UsageFault
all_said [] = Ok []
all_said (item ∷ more) = put_first item (all_said more)

-- what the words say one by one, or the fault of the first that has no place
unfoldable pub items_in : Chore → List (List ℕ) → Result (List Item) UsageFault
items_in chore those = all_said (map (item_of chore) (pieces those))

-- and words none of which is an option
unfoldable pub plain_items : Chore → List (List ℕ) → Result (List Item) UsageFault
plain_items chore those = all_said (map (plain_item chore) those)

-- ---- all of it

abbrev pub unsaid : Said
unsaid = record { dot = false; journal = named.Unnamed; on = None; into = None; closing = false; opening = false; limit = None; base = None; rules = None; remembered = None; dry = false; allow = None; checks = []; words = [] }

-- the journal that is named where a file is named too, or a store: the first two words that exclude each other stay
abbrev pub with_file : Named → List ℕ → Named
with_file named.Unnamed name = named.File name
with_file (named.File other) name = named.File name
with_file (named.Store word other) name = named.Both word (codes "-f")
with_file (named.Both earlier later) name = named.Both earlier later

abbrev pub with_store : Named → List ℕ → List ℕ → Named
with_store named.Unnamed word name = named.Store word name
with_store (named.Store first other) word name = named.Store first name
with_store (named.File other) word name = named.Both (codes "-f") word
with_store (named.Both earlier later) word name = named.Both earlier later

-- one word more: of a repeated option the last counts
abbrev pub with_item : Said → Item → Said
with_item said items.Dot = record said { dot = true }
with_item said (items.File name) = record said { journal = with_file said.journal name }
with_item said (items.Store word name) = record said { journal = with_store said.journal word name }
with_item said (items.On day) = record said { on = Some day }
with_item said (items.Into account) = record said { into = Some account }
with_item said items.Closing = record said { closing = true }
with_item said items.Opening = record said { opening = true }
with_item said (items.Limit limit) = record said { limit = Some limit }
with_item said (items.Base revision) = record said { base = Some revision }
with_item said (items.Rules name) = record said { rules = Some name }
with_item said (items.Remembered name) = record said { remembered = Some name }
with_item said items.DryRun = record said { dry = true }
with_item said (items.Allow allow) = record said { allow = Some allow }
with_item said (items.Check check) = record said { checks = said.checks ++ check ∷ [] }
with_item said (items.Word word) = record said { words = said.words ++ word ∷ [] }

abbrev pub onto : Said → Result (List Item) UsageFault → Result Said UsageFault
onto said (Ok more) = Ok (fold with_item said more)
onto said (Err fault) = Err fault

-- What the words behind a command say.
abbrev pub said_by : Chore → List (List ℕ) → Result Said UsageFault
said_by chore those = onto unsaid (items_in chore those)

-- ---- what a word stands before

abbrev pub next_of : List (List ℕ) → Option (List ℕ)
next_of [] = None
next_of (next ∷ rest) = Some next
