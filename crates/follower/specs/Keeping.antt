-- When a store is written anew before a record, and why a frame wasn't stored.
use Rattle.std.specs.Prelude.{◌≡◌, ◌⊎◌, ℕ, ◌+◌, ◌*◌, Bool, false, ◌||◌, if◌then◌else◌, nat_lt, List, Option, None, Some}
use Rattle.hl_base.specs.declared.disk.Disk.{Ghosts}
use Rattle.hl_base.specs.Causes.{Rose}
use Rattle.text_store.specs.declared.image.Image.{Image}
use Rattle.text_store.specs.declared.fault.StoreFault.{StoreFault}
use Rattle.text_store.specs.declared.fault.StoreFault.TheVariants as store_fault
use Rattle.text_store.specs.declared.store.Store.{Store}
use Rattle.text_store.specs.Edits.{whole_size}
use Rattle.text_store.specs.Stores.{Holds, Keeps, MayShow, NoWider, Tell, Throughout, bounds, disks, fault_count, limit_of, repair_due, size_of}
use Rattle.follower.specs.declared.keep.Unkept.{Unkept}
use Rattle.follower.specs.declared.keep.Unkept.TheVariants as unkept
use Rattle.follower.specs.Stands.{Stands}

-- a store of a size and a limit is written anew before a record of r bytes, where a new one has so many
abbrev pub due_at : ℕ → ℕ → ℕ → ℕ → Bool
due_at size limit r whole = nat_lt limit (size + r) || nat_lt (2 * whole + 65536) size

-- the size before such a record
abbrev pub room_size : ℕ → ℕ → ℕ → ℕ → ℕ
room_size size limit r whole = if due_at size limit r whole then whole else size

-- the same of a store with an image
abbrev pub is_due_for : {D : Type 0} {g : Ghosts D} → Store D g → Image → ℕ → Bool
is_due_for store image r = due_at (size_of store) (limit_of store) r (whole_size image)

abbrev pub size_for : {D : Type 0} {g : Ghosts D} → Store D g → Image → ℕ → ℕ
size_for store image r = room_size (size_of store) (limit_of store) r (whole_size image)

-- a disk's count of faults rose, or memory ran out, with the count as it was
abbrev pub IsCause : Unkept → ℕ → ℕ → Type 0
IsCause unkept.DiskFault before after = Rose before after
IsCause unkept.Memory before after = after ≡ before

-- what the disks may show beside the image after a frame that wasn't stored
abbrev pub LeftPending : Unkept → Option Image → Image → Option Image → Type 0
LeftPending unkept.DiskFault before next after = (after ≡ None) ⊎ ((after ≡ before) ⊎ (after ≡ Some next))
LeftPending unkept.Memory before next after = (after ≡ None) ⊎ (after ≡ before)

-- why a store wrote nothing, where it had the room
abbrev pub unkept_of : StoreFault → Unkept
unkept_of store_fault.DiskFault = unkept.DiskFault
unkept_of (store_fault.NotAStore at) = unkept.Memory
unkept_of (store_fault.Newer version) = unkept.Memory
unkept_of (store_fault.Full size limit) = unkept.Memory
unkept_of (store_fault.Exists len) = unkept.Memory
unkept_of store_fault.Memory = unkept.Memory

-- a store goes on: its limit stays, it may reach no further, and its disks tell what they told
pub record GoesOn {D : Type 0} {g : Ghosts D} (old new : Store D g) : Type 0 where
  pub limit : limit_of new ≡ limit_of old
  pub no_wider : NoWider old new
  pub keeps : Keeps g (disks old) (disks new) (bounds old)

-- a frame that wasn't stored: after a disk fault the disks may show it, and after want of memory the store is at rest
abbrev pub LeftBy : {D : Type 0} {g : Ghosts D} → Unkept → Store D g → Image → Image → Type 0
LeftBy unkept.DiskFault new shown next = MayShow new shown next
LeftBy unkept.Memory new shown next = (repair_due new ≡ false) × Holds new shown

-- why a store, which came from another one, didn't store a frame
abbrev pub IsCauseIn : {D : Type 0} {g : Ghosts D} → Unkept → Store D g → Store D g → Type 0
IsCauseIn {D} {g} e old new = IsCause e (fault_count g (disks old)) (fault_count g (disks new))

-- no disk fault came between two stores
abbrev pub HasNoFault : {D : Type 0} {g : Ghosts D} → Store D g → Store D g → Type 0
HasNoFault {D} {g} old new = fault_count g (disks new) ≡ fault_count g (disks old)

-- a crash at any moment between two stores leaves files that show this, where the disks tell what it leaves
abbrev pub Between : {D : Type 0} {g : Ghosts D} → Store D g → Store D g → (List ℕ → List ℕ → Type 0) → Type 0
Between {D} {g} old new shows = Tell g (disks old) → Throughout g (disks old) (disks new) shows

-- a store stands for an image after a frame that wasn't stored
abbrev pub StandsStill : {D : Type 0} {g : Ghosts D} → Unkept → Store D g → Image → Option Image → Image → Type 0
StandsStill e new shown pending next = (after : Option Image) × LeftPending e pending next after × Stands new shown after
