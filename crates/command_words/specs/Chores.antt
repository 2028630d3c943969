-- The commands over a text or a store that are no reports, and their options.
use Rattle.std.specs.Prelude.{ℕ, Bool, true, false, List, codes, Option, Some, None, if◌then◌else◌}
use Rattle.std.specs.Str.{bytes_eq}
use Rattle.book_care.specs.declared.faults.Check.{Check}
use Rattle.book_care.specs.declared.faults.Check.TheVariants as checks
use Rattle.desk.specs.declared.request.Allow.{Allow}
use Rattle.desk.specs.declared.request.Allow.TheVariants as allow
use Rattle.command_words.specs.declared.chores.Chore.{Chore}
use Rattle.command_words.specs.declared.chores.Chore.TheVariants as chores
use Rattle.command_words.specs.declared.chores.Name.{Name}
use Rattle.command_words.specs.declared.chores.Name.TheVariants as names

-- the command that a word names
unfoldable pub chore_named : List ℕ → Option Chore
chore_named word =
    if bytes_eq word (codes "hours") then Some chores.Hours
    else if bytes_eq word (codes "strict") then Some chores.Strict
    else if bytes_eq word (codes "close") then Some chores.Close
    else if bytes_eq word (codes "explain") then Some chores.Explain
    else if bytes_eq word (codes "init") then Some chores.Init
    else if bytes_eq word (codes "add") then Some chores.Add
    else if bytes_eq word (codes "import") then Some chores.Import
    else if bytes_eq word (codes "talk") then Some chores.Talk
    else if bytes_eq word (codes "sample") then Some chores.Sample
    else if bytes_eq word (codes "replace") then Some chores.Replace
    else if bytes_eq word (codes "export") then Some chores.Export
    else if bytes_eq word (codes "items") then Some chores.Items
    else if bytes_eq word (codes "feed") then Some chores.Feed
    else if bytes_eq word (codes "follow") then Some chores.Follow
    else None

-- the check that a word names
unfoldable pub check_named : List ℕ → Option Check
check_named word =
    if bytes_eq word (codes "accounts") then Some checks.Accounts
    else if bytes_eq word (codes "commodities") then Some checks.Commodities
    else if bytes_eq word (codes "payees") then Some checks.Payees
    else if bytes_eq word (codes "tags") then Some checks.Tags
    else if bytes_eq word (codes "ordereddates") then Some checks.OrderedDates
    else None

-- what requests may do, as a word says it
unfoldable pub allow_named : List ℕ → Option Allow
allow_named word =
    if bytes_eq word (codes "view") then Some allow.View
    else if bytes_eq word (codes "add") then Some allow.Add
    else if bytes_eq word (codes "edit") then Some allow.Edit
    else None

-- the option that a word names, without a value behind `=`
unfoldable pub name_of : List ℕ → Option Name
name_of word =
    if bytes_eq word (codes "--dot") then Some names.Dot
    else if bytes_eq word (codes "-f") then Some names.File
    else if bytes_eq word (codes "--store") then Some names.Store
    else if bytes_eq word (codes "--on") then Some names.On
    else if bytes_eq word (codes "--into") then Some names.Into
    else if bytes_eq word (codes "--close") then Some names.Closing
    else if bytes_eq word (codes "--open") then Some names.Opening
    else if bytes_eq word (codes "--limit") then Some names.Limit
    else if bytes_eq word (codes "--base") then Some names.Base
    else if bytes_eq word (codes "--rules") then Some names.Rules
    else if bytes_eq word (codes "--name") then Some names.Remembered
    else if bytes_eq word (codes "--dry-run") then Some names.DryRun
    else if bytes_eq word (codes "--allow") then Some names.Allow
    else None

-- a value has to be written
abbrev pub takes_value : Name → Bool
takes_value names.Dot = false
takes_value names.Closing = false
takes_value names.Opening = false
takes_value names.DryRun = false
takes_value _ = true

abbrev pub is_hours : Chore → Bool
is_hours chores.Hours = true
is_hours _ = false

abbrev pub is_of_journals : Chore → Bool
is_of_journals chores.Strict = true
is_of_journals chores.Close = true
is_of_journals chores.Explain = true
is_of_journals chores.Talk = true
is_of_journals _ = false

abbrev pub is_close : Chore → Bool
is_close chores.Close = true
is_close _ = false

-- a file may be the source of its text
abbrev pub is_of_texts : Chore → Bool
is_of_texts chores.Hours = true
is_of_texts chores.Strict = true
is_of_texts chores.Close = true
is_of_texts chores.Explain = true
is_of_texts chores.Init = true
is_of_texts chores.Replace = true
is_of_texts chores.Talk = true
is_of_texts _ = false

-- it makes a store
abbrev pub is_of_new_stores : Chore → Bool
is_of_new_stores chores.Init = true
is_of_new_stores chores.Follow = true
is_of_new_stores _ = false

abbrev pub is_import : Chore → Bool
is_import chores.Import = true
is_import _ = false

-- it is over a file of a bank
abbrev pub is_of_bank_files : Chore → Bool
is_of_bank_files chores.Explain = true
is_of_bank_files chores.Import = true
is_of_bank_files _ = false

abbrev pub is_replace : Chore → Bool
is_replace chores.Replace = true
is_replace _ = false

abbrev pub is_talk : Chore → Bool
is_talk chores.Talk = true
is_talk _ = false

-- a command has an option
abbrev pub has_option : Chore → Name → Bool
has_option chore names.File = is_of_texts chore
has_option chore names.Dot = is_hours chore
has_option chore names.Store = is_of_journals chore
has_option chore names.On = is_close chore
has_option chore names.Into = is_close chore
has_option chore names.Closing = is_close chore
has_option chore names.Opening = is_close chore
has_option chore names.Limit = is_of_new_stores chore
has_option chore names.Base = is_replace chore
has_option chore names.Rules = is_of_bank_files chore
has_option chore names.Remembered = is_import chore
has_option chore names.DryRun = is_import chore
has_option chore names.Allow = is_talk chore
