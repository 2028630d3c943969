-- Why a store of a text isn't made.
use Rattle.std.specs.Prelude.{◌≡◌, ℕ, ◌-◌, ◌^◌, ◌==◌, min, List, nat_lt, Option, Some, None, if◌then◌else◌}
use Rattle.live_journal.specs.declared.fault.OpenFault.{OpenFault}
use Rattle.live_journal.specs.declared.fault.OpenFault.TheVariants as unopened
use Rattle.text_store.specs.Edits.{whole_size}
use Rattle.text_store.specs.Files.{fresh}
use Rattle.text_store.specs.Refusals.{first_length}
use Rattle.store_text.specs.declared.refusal.StoreRefusal.{StoreRefusal}
use Rattle.store_text.specs.declared.refusal.StoreRefusal.TheVariants as refusal
use Rattle.store_making.specs.declared.refusal.JournalRefusal.{JournalRefusal}
use Rattle.store_making.specs.declared.refusal.JournalRefusal.TheVariants as making

-- that of a text that makes no journal
abbrev pub of_text : OpenFault → JournalRefusal
of_text (unopened.Load fault) = making.Load fault
of_text (unopened.TooLarge limit size) = making.TooLarge limit size
of_text unopened.Memory = making.Memory

-- that of the files: want of memory is told as such
abbrev pub of_store : StoreRefusal → JournalRefusal
of_store refusal.Memory = making.Memory
of_store refusal.Absent = making.Store refusal.Absent
of_store (refusal.NotAStore at) = making.Store (refusal.NotAStore at)
of_store (refusal.Newer version) = making.Store (refusal.Newer version)
of_store (refusal.Exists len) = making.Store (refusal.Exists len)
of_store (refusal.Full size limit) = making.Store (refusal.Full size limit)
of_store refusal.ReadFault = making.Store refusal.ReadFault
of_store refusal.DiskFault = making.Store refusal.DiskFault

-- a text is refused for this fault, or memory ran out
abbrev pub IsOfText : JournalRefusal → Option OpenFault → Type 0
IsOfText (making.Store r) fault = ⊥
IsOfText (making.Load told) fault = fault ≡ Some (unopened.Load told)
IsOfText (making.TooLarge limit size) fault = fault ≡ Some (unopened.TooLarge limit size)
IsOfText making.Memory fault = Unit {0}

-- a file isn't empty: the length of the first such one
abbrev pub exists : List ℕ → List ℕ → Option StoreRefusal
exists first second = if first_length first second == 0 then None else Some (refusal.Exists (first_length first second))

-- Why two files don't become the store of a text: it would pass the limit, or else one of them isn't empty.
abbrev pub files_refusal : List ℕ → ℕ → List ℕ → List ℕ → Option StoreRefusal
files_refusal text limit first second =
    if nat_lt limit (whole_size (fresh text)) then Some (refusal.Full (min (whole_size (fresh text)) (2 ^ 64 - 1)) limit) else exists first second
