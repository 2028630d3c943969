-- Why a store isn't read, opened or made, and how that is said.
use Rattle.std.specs.Prelude.{ℕ, List, Option, Some, None, Result, Ok, Err}
use Rattle.error_lines.specs.Lines as lines
use Rattle.hl_base.specs.declared.shelf.ShelfFault.{ShelfFault}
use Rattle.hl_base.specs.declared.shelf.ShelfFault.TheVariants as shelf
use Rattle.text_store.specs.declared.fault.StoreFault.{StoreFault}
use Rattle.text_store.specs.declared.fault.StoreFault.TheVariants as store
use Rattle.text_store.specs.declared.image.Image.{Image}
use Rattle.text_store.specs.Image.{NoImage, NotAStore, Newer}
use Rattle.store_text.specs.declared.refusal.StoreRefusal.{StoreRefusal}
use Rattle.store_text.specs.declared.refusal.StoreRefusal.TheVariants as refusal

-- a refusal that the files decide; a failed call and want of memory have no cause in them
abbrev pub cause_of : StoreRefusal → Option StoreRefusal
cause_of refusal.ReadFault = None
cause_of refusal.DiskFault = None
cause_of refusal.Memory = None
cause_of refusal.Absent = Some refusal.Absent
cause_of (refusal.NotAStore at) = Some (refusal.NotAStore at)
cause_of (refusal.Newer version) = Some (refusal.Newer version)
cause_of (refusal.Exists len) = Some (refusal.Exists len)
cause_of (refusal.Full size limit) = Some (refusal.Full size limit)

-- the refusal of a take, which is never one of a length
abbrev pub untaken : ShelfFault → StoreRefusal
untaken shelf.Absent = refusal.Absent
untaken shelf.Failed = refusal.ReadFault
untaken (shelf.TooLong limit seen) = refusal.ReadFault
untaken shelf.Memory = refusal.Memory

-- that of a store
abbrev pub unopened : StoreFault → StoreRefusal
unopened store.DiskFault = refusal.DiskFault
unopened (store.NotAStore at) = refusal.NotAStore at
unopened (store.Newer version) = refusal.Newer version
unopened (store.Full size limit) = refusal.Full size limit
unopened (store.Exists len) = refusal.Exists len
unopened store.Memory = refusal.Memory

-- why two files have no image
abbrev pub without_image : NoImage → StoreRefusal
without_image (NotAStore at) = refusal.NotAStore at
without_image (Newer version) = refusal.Newer version

-- the text of an image, or why there is none
abbrev pub text_of : Result Image NoImage → Result (List ℕ) StoreRefusal
text_of (Ok shown) = Ok shown.text
text_of (Err none) = Err (without_image none)

abbrev pub text_in : Option (Result Image NoImage) → Result (List ℕ) StoreRefusal
text_in None = Err refusal.Absent
text_in (Some found) = text_of found

-- a disk wasn't taken
abbrev pub IsOfTaking : StoreRefusal → Type 0
IsOfTaking refusal.Absent = Unit {0}
IsOfTaking refusal.ReadFault = Unit {0}
IsOfTaking refusal.Memory = Unit {0}
IsOfTaking _ = ⊥

-- two disks weren't opened as a store
abbrev pub IsOfOpening : StoreRefusal → Type 0
IsOfOpening (refusal.NotAStore at) = Unit {0}
IsOfOpening (refusal.Newer version) = Unit {0}
IsOfOpening refusal.DiskFault = Unit {0}
IsOfOpening refusal.Memory = Unit {0}
IsOfOpening _ = ⊥

-- one or the other
abbrev pub IsOfReading : StoreRefusal → Type 0
IsOfReading (refusal.Exists len) = ⊥
IsOfReading (refusal.Full size limit) = ⊥
IsOfReading _ = Unit {0}

-- the exit status
abbrev pub status_of : StoreRefusal → ℕ
status_of refusal.ReadFault = 3
status_of refusal.DiskFault = 5
status_of refusal.Memory = 6
status_of (refusal.Full size limit) = 7
status_of _ = 8

-- the line, of a store of this name
abbrev pub line_of : List ℕ → StoreRefusal → List ℕ
line_of name refusal.Absent = lines.absent name
line_of name (refusal.NotAStore at) = lines.not_a_store at
line_of name (refusal.Newer version) = lines.newer version
line_of name (refusal.Exists len) = lines.exists len
line_of name (refusal.Full size limit) = lines.full size limit
line_of name refusal.ReadFault = lines.read_fault
line_of name refusal.DiskFault = lines.disk_fault
line_of name refusal.Memory = lines.memory
