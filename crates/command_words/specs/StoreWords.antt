-- What the words of commands over a store ask for: those that are no options name it.
use Rattle.std.specs.Prelude.{ℕ, Bool, List, [], ◌∷◌, ◌++◌, codes, Option, Some, None, Result, Ok, Err, if◌then◌else◌}
use Rattle.book_commands.specs.declared.work.Work.TheVariants as works
use Rattle.command_words.specs.Limits.{most_limit}
use Rattle.command_words.specs.Usage.{misplaced, missing}
use Rattle.command_words.specs.declared.task.Importing.{Importing}
use Rattle.command_words.specs.declared.task.Origin.{Origin}
use Rattle.command_words.specs.declared.task.Origin.TheVariants as origins
use Rattle.command_words.specs.declared.task.StoreTask.TheVariants as stored
use Rattle.command_words.specs.declared.task.Task.{Task}
use Rattle.command_words.specs.declared.task.Task.TheVariants as task
use Rattle.command_words.specs.declared.usage.UsageFault.{UsageFault}

abbrev pub misplaced_name : List ℕ → Result (List ℕ) UsageFault
misplaced_name word = misplaced word

abbrev pub missing_name : Result (List ℕ) UsageFault
missing_name = missing

-- a name with no word behind it
abbrev pub name_alone : List ℕ → List (List ℕ) → Result (List ℕ) UsageFault
name_alone name [] = Ok name
name_alone name (next ∷ rest) = misplaced_name next

-- the one name that some words are
abbrev pub plain_name : List (List ℕ) → Result (List ℕ) UsageFault
plain_name [] = missing_name
plain_name (name ∷ rest) = name_alone name rest

-- the text of the store of a name
abbrev pub export : List ℕ → Task
export name = task.Over (record { origin = origins.Store name; work = works.Text })

abbrev pub export_of : Result (List ℕ) UsageFault → Result Task UsageFault
export_of (Ok name) = Ok (export name)
export_of (Err fault) = Err fault

abbrev pub export_task : List (List ℕ) → Result Task UsageFault
export_task words = export_of (plain_name words)

-- the items of the store of a name
abbrev pub listing : List ℕ → Task
listing name = task.Over (record { origin = origins.Store name; work = works.Items })

abbrev pub listing_of : Result (List ℕ) UsageFault → Result Task UsageFault
listing_of (Ok name) = Ok (listing name)
listing_of (Err fault) = Err fault

abbrev pub items_task : List (List ℕ) → Result Task UsageFault
items_task words = listing_of (plain_name words)

-- ---- stores that are made or edited

-- the limit of a store where none is given
abbrev pub limit_or_default : Option ℕ → ℕ
limit_or_default (Some limit) = limit
limit_or_default None = most_limit

-- a store that is to be made of a text
abbrev pub making : Origin → Option ℕ → List ℕ → Task
making source limit store = task.Stored (stored.Init (record { store = store; source = source; limit = limit_or_default limit }))

abbrev pub making_of : Origin → Option ℕ → Result (List ℕ) UsageFault → Result Task UsageFault
making_of source limit (Ok store) = Ok (making source limit store)
making_of source limit (Err fault) = Err fault

abbrev pub init_task : Origin → Option ℕ → List (List ℕ) → Result Task UsageFault
init_task source limit words = making_of source limit (plain_name words)

-- an entry into a store
abbrev pub adding : List ℕ → Task
adding store = task.Stored (stored.Add store)

abbrev pub adding_of : Result (List ℕ) UsageFault → Result Task UsageFault
adding_of (Ok store) = Ok (adding store)
adding_of (Err fault) = Err fault

abbrev pub add_task : List (List ℕ) → Result Task UsageFault
add_task words = adding_of (plain_name words)

-- the rules of a file stand beside it where none are given
abbrev pub rules_beside : List ℕ → List ℕ
rules_beside file = file ++ codes ".rules"

abbrev pub rules_or_default : Option (List ℕ) → List ℕ → List ℕ
rules_or_default (Some rules) file = rules
rules_or_default None file = rules_beside file

-- a file is remembered under its own name where none is given
abbrev pub name_or_default : Option (List ℕ) → List ℕ → List ℕ
name_or_default (Some name) file = name
name_or_default None file = file

-- a file that is to be imported into a store
abbrev pub importing : List ℕ → Option (List ℕ) → Option (List ℕ) → List ℕ → Importing
importing store rules name file = record { store = store; file = file; rules = rules_or_default rules file; name = name_or_default name file }

-- an import, or what it would add
abbrev pub import_or_preview : Bool → Importing → Task
import_or_preview dry what = if dry then task.Stored (stored.Preview what) else task.Stored (stored.Import what)

abbrev pub import_of : Bool → List ℕ → Option (List ℕ) → Option (List ℕ) → Result (List ℕ) UsageFault → Result Task UsageFault
import_of dry store rules name (Ok file) = Ok (import_or_preview dry (importing store rules name file))
import_of dry store rules name (Err fault) = Err fault

abbrev pub import_task : Bool → Option (List ℕ) → Option (List ℕ) → List (List ℕ) → Result Task UsageFault
import_task dry rules name [] = missing
import_task dry rules name (store ∷ words) = import_of dry store rules name (plain_name words)

-- a text that is to take the place of a store's
abbrev pub replacing : Origin → Option ℕ → List ℕ → Task
replacing source base store = task.Stored (stored.Replace (record { store = store; source = source; base = base }))

abbrev pub replacing_of : Origin → Option ℕ → Result (List ℕ) UsageFault → Result Task UsageFault
replacing_of source base (Ok store) = Ok (replacing source base store)
replacing_of source base (Err fault) = Err fault

abbrev pub replace_task : Origin → Option ℕ → List (List ℕ) → Result Task UsageFault
replace_task source base words = replacing_of source base (plain_name words)

-- ---- frames

-- the frames of a store
abbrev pub feeding : List ℕ → Task
feeding store = task.Stored (stored.Feed store)

abbrev pub feeding_of : Result (List ℕ) UsageFault → Result Task UsageFault
feeding_of (Ok store) = Ok (feeding store)
feeding_of (Err fault) = Err fault

abbrev pub feed_task : List (List ℕ) → Result Task UsageFault
feed_task words = feeding_of (plain_name words)

-- a replica that follows
abbrev pub following : Option ℕ → List ℕ → Task
following limit replica = task.Stored (stored.Follow (record { replica = replica; limit = limit_or_default limit }))

abbrev pub following_of : Option ℕ → Result (List ℕ) UsageFault → Result Task UsageFault
following_of limit (Ok replica) = Ok (following limit replica)
following_of limit (Err fault) = Err fault

abbrev pub follow_task : Option ℕ → List (List ℕ) → Result Task UsageFault
follow_task limit words = following_of limit (plain_name words)
