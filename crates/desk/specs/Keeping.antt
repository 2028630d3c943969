-- What is kept beside a journal's text, when a store is written anew, and why a change isn't kept.
use Rattle.std.specs.Prelude.{◌≡◌, ◌⊎◌, ℕ, ◌+◌, ◌*◌, ◌^◌, Bool, true, false, ◌&&◌, ◌||◌, if◌then◌else◌, List, [], ◌∷◌, length, nat_lt, Option, Some, None}
use Rattle.hl_base.specs.declared.disk.Disk.{Ghosts}
use Rattle.hl_base.specs.Causes.{Rose}
use Rattle.hl_base.specs.declared.change.Latest.{Latest}
use Rattle.text_store.specs.declared.image.Image.{Image}
use Rattle.text_store.specs.declared.fault.StoreFault.{StoreFault}
use Rattle.text_store.specs.declared.fault.StoreFault.TheVariants as store_fault
use Rattle.text_store.specs.declared.store.Store.{Store}
use Rattle.text_store.specs.Image.{have_own_names}
use Rattle.text_store.specs.Stores.{Holds, Keeps, MayShow, NoWider, bounds, disks, limit_of, repair_due}
use Rattle.desk.specs.declared.keep.Unkept.{Unkept}
use Rattle.desk.specs.declared.keep.Unkept.TheVariants as unkept

-- each import's name has fewer than 2^32 bytes
abbrev pub have_short_names : List Latest → Bool
have_short_names [] = true
have_short_names (state ∷ states) = nat_lt (length state.name) (2 ^ 32) && have_short_names states

-- states of imports that can be written: fewer than 2^32, with short names that differ
abbrev pub are_writable : List Latest → Bool
are_writable latest = nat_lt (length latest) (2 ^ 32) && (have_short_names latest && have_own_names latest)

-- a store of a size and a limit is written anew before a record, where a new one has so many bytes
abbrev pub due_at : ℕ → ℕ → ℕ → ℕ → Bool
due_at size limit r whole = nat_lt limit (size + r) || nat_lt (2 * whole + 65536) size

-- a disk's count of faults rose, or memory ran out, with the count as it was
abbrev pub IsCause : Unkept → ℕ → ℕ → Type 0
IsCause unkept.DiskFault before after = Rose before after
IsCause unkept.Memory before after = after ≡ before

-- the edit that the disks may show beside the image after a change that wasn't kept
abbrev pub LeftPending : Unkept → Option Image → Image → Option Image → Type 0
LeftPending unkept.DiskFault before next after = (after ≡ None) ⊎ ((after ≡ before) ⊎ (after ≡ Some next))
LeftPending unkept.Memory before next after = (after ≡ None) ⊎ (after ≡ before)

-- why a store wrote nothing, where it had the room
abbrev pub unkept_of : StoreFault → Unkept
unkept_of store_fault.DiskFault = unkept.DiskFault
unkept_of (store_fault.NotAStore at) = unkept.Memory
unkept_of (store_fault.Newer version) = unkept.Memory
unkept_of (store_fault.Full size limit) = unkept.Memory
unkept_of (store_fault.Exists len) = unkept.Memory
unkept_of store_fault.Memory = unkept.Memory

-- a store goes on: its limit stays, it may reach no further, and its disks tell what they told
pub record GoesOn {D : Type 0} {g : Ghosts D} (old new : Store D g) : Type 0 where
  pub limit : limit_of new ≡ limit_of old
  pub no_wider : NoWider old new
  pub keeps : Keeps g (disks old) (disks new) (bounds old)

-- a change that wasn't kept: after a disk fault the disks may show it, and after want of memory the store is at rest
abbrev pub LeftBy : {D : Type 0} {g : Ghosts D} → Unkept → Store D g → Image → Image → Type 0
LeftBy unkept.DiskFault new shown next = MayShow new shown next
LeftBy unkept.Memory new shown next = (repair_due new ≡ false) × Holds new shown

-- the size of a store before a record of so many bytes, where a new one has so many
abbrev pub room_size : ℕ → ℕ → ℕ → ℕ → ℕ
room_size size limit r whole = if due_at size limit r whole then whole else size
