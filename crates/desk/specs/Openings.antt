-- Why a machine isn't made or opened.
use Rattle.std.specs.Prelude.{◌≡◌, ℕ, List, None, Result, Ok, Err}
use Rattle.hl_base.specs.declared.disk.Disk.{Ghosts}
use Rattle.live_journal.specs.declared.fault.OpenFault.{OpenFault}
use Rattle.live_journal.specs.declared.fault.OpenFault.TheVariants as unopened
use Rattle.live_journal.specs.Loading.{fault_of, Tells}
use Rattle.text_store.specs.declared.fault.StoreFault.{StoreFault}
use Rattle.text_store.specs.declared.fault.StoreFault.TheVariants as store_fault
use Rattle.text_store.specs.declared.image.Image.{Image}
use Rattle.text_store.specs.Edits.{whole_size}
use Rattle.text_store.specs.Files.{fresh}
use Rattle.text_store.specs.Image.{image}
use Rattle.text_store.specs.Refusals.{CreateRefused, OpenRefused, Told}
use Rattle.desk.specs.declared.desk.Desk.{Desk}
use Rattle.desk.specs.declared.fault.DeskFault.{DeskFault}
use Rattle.desk.specs.declared.fault.DeskFault.TheVariants as desk_fault

-- the refusals of a text and of a store as those of a machine: want of memory is its own
abbrev pub load_refusal : OpenFault → DeskFault
load_refusal unopened.Memory = desk_fault.Memory
load_refusal (unopened.Load fault) = desk_fault.Load (unopened.Load fault)
load_refusal (unopened.TooLarge limit size) = desk_fault.Load (unopened.TooLarge limit size)

abbrev pub store_refusal : StoreFault → DeskFault
store_refusal store_fault.Memory = desk_fault.Memory
store_refusal store_fault.DiskFault = desk_fault.Store store_fault.DiskFault
store_refusal (store_fault.NotAStore at) = desk_fault.Store (store_fault.NotAStore at)
store_refusal (store_fault.Newer version) = desk_fault.Store (store_fault.Newer version)
store_refusal (store_fault.Full size limit) = desk_fault.Store (store_fault.Full size limit)
store_refusal (store_fault.Exists len) = desk_fault.Store (store_fault.Exists len)

-- Why a machine of a text isn't made: the text is judged first, and the disks are as they were then. Want of memory is told
-- as such.
abbrev pub MakingRefused : {D : Type 0} → Ghosts D → D × D → D × D → List ℕ → ℕ → DeskFault → Type 0
MakingRefused g old new text limit (desk_fault.Load unopened.Memory) = ⊥
MakingRefused g old new text limit (desk_fault.Load fault) = Tells fault (fault_of None text) × (new ≡ old)
MakingRefused g old new text limit (desk_fault.Store store_fault.Memory) = ⊥
MakingRefused g old new text limit (desk_fault.Store fault) = (fault_of None text ≡ None) × CreateRefused g old new (whole_size (fresh text)) limit fault
MakingRefused g old new text limit desk_fault.Memory = new ≡ old

-- two files have an image, and its text makes no journal
abbrev pub Unloaded : OpenFault → List ℕ → List ℕ → Type 0
Unloaded fault first second =
    (shown : Image) × (image first second ≡ Ok shown) × Tells fault (fault_of None shown.text)

-- Why two files aren't opened as a machine: the store is judged first, and then its text. Want of memory is told as such.
abbrev pub OpeningRefused : {D : Type 0} → Ghosts D → D × D → D × D → DeskFault → Type 0
OpeningRefused g old new (desk_fault.Load unopened.Memory) = ⊥
OpeningRefused g old new (desk_fault.Load fault) = Told g old (Unloaded fault)
OpeningRefused g old new (desk_fault.Store store_fault.Memory) = ⊥
OpeningRefused g old new (desk_fault.Store fault) = OpenRefused g old new fault
OpeningRefused g old new desk_fault.Memory = Unit {0}

-- the disks of what was made or opened, or those that are given back
abbrev pub disks_of : {D : Type 0} {g : Ghosts D} → (Desk D g → D × D) → Result (Desk D g) (D × D × DeskFault) → D × D
disks_of of (Ok desk) = of desk
disks_of of (Err refusal) = (refusal.0, refusal.1)
