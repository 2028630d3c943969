-- What each refusal of a store says.
use Rattle.std.specs.Prelude.{◌≡◌, ℕ, ◌-◌, ◌^◌, ◌≤◌, ◌<◌, min, true, if◌then◌else◌, ◌==◌, List, length, Some, Result, Err}
use Rattle.hl_base.specs.declared.disk.Disk.{Ghosts}
use Rattle.hl_base.specs.Causes.{Rose}
use Rattle.text_store.specs.declared.fault.StoreFault.{StoreFault}
use Rattle.text_store.specs.declared.fault.StoreFault.TheVariants.{DiskFault, NotAStore, Newer, Full, Exists, Memory}
use Rattle.text_store.specs.declared.image.Image.{Image}
use Rattle.text_store.specs.declared.store.Store.{Store}
use Rattle.text_store.specs.Image.{NoImage, NotAStore as NoStore, Newer as NewerStore, image}
use Rattle.text_store.specs.Stores.{disks, fault_count, limit_of, repair_due}

-- Why a half of so many bytes wasn't written: a disk failed and a repair is due, the size is past the limit, or memory ran
-- out; in the last two cases no disk was called.
abbrev pub PutRefused : {D : Type 0} {g : Ghosts D} → Store D g → Store D g → ℕ → StoreFault → Type 0
PutRefused {D} {g} old new needed DiskFault = (needed ≤ limit_of old) × Rose (fault_count g (disks old)) (fault_count g (disks new)) × (repair_due new ≡ true)
PutRefused old new needed (Full size limit) = (limit_of old < needed) × (size ≡ min needed (2 ^ 64 - 1)) × (limit ≡ limit_of old) × (new ≡ old)
PutRefused old new needed Memory = new ≡ old
PutRefused old new needed (NotAStore at) = ⊥
PutRefused old new needed (Newer version) = ⊥
PutRefused old new needed (Exists len) = ⊥

-- the disks read as they did
abbrev pub ReadTheSame : {D : Type 0} → Ghosts D → D × D → D × D → Type 0
ReadTheSame g old new = (g.seen new.0 ≡ g.seen old.0) × (g.seen new.1 ≡ g.seen old.1)

-- where both disks tell what they read as
abbrev pub Told : {D : Type 0} → Ghosts D → D × D → (List ℕ → List ℕ → Type 0) → Type 0
Told g pair P = (first second : List ℕ) → g.seen pair.0 ≡ Some first → g.seen pair.1 ≡ Some second → P first second

-- two disks tell their files, which have this image, or the want of one
abbrev pub TellImage : {D : Type 0} → Ghosts D → D × D → Result Image NoImage → Type 0
TellImage g pair found = (first : List ℕ) × (second : List ℕ) × (g.seen pair.0 ≡ Some first) × (g.seen pair.1 ≡ Some second) × (image first second ≡ found)

-- disks that told their files still do, and these have the image, or the want of one, that they had
abbrev pub ImageStays : {D : Type 0} → Ghosts D → D × D → D × D → Type 0
ImageStays g old new = Told g old (λ first second. TellImage g new (image first second))

-- the length of the first file, or of the second where the first is empty
abbrev pub first_length : List ℕ → List ℕ → ℕ
first_length first second = if length first == 0 then length second else length first

-- Why a store of so many bytes wasn't made. The size is judged first, and then whether a file isn't empty.
abbrev pub CreateRefused : {D : Type 0} → Ghosts D → D × D → D × D → ℕ → ℕ → StoreFault → Type 0
CreateRefused g old new needed most DiskFault = (needed ≤ most) × Rose (fault_count g old) (fault_count g new)
CreateRefused g old new needed most (Full size limit) = (most < needed) × (size ≡ min needed (2 ^ 64 - 1)) × (limit ≡ most) × (new ≡ old)
CreateRefused g old new needed most (Exists len) = (needed ≤ most) × (0 < len) × Told g old (λ first second. len ≡ first_length first second) × ReadTheSame g old new
CreateRefused g old new needed most Memory = new ≡ old
CreateRefused g old new needed most (NotAStore at) = ⊥
CreateRefused g old new needed most (Newer version) = ⊥

-- why two files were not opened as a store; but for a disk fault they are as they were
abbrev pub OpenRefused : {D : Type 0} → Ghosts D → D × D → D × D → StoreFault → Type 0
OpenRefused g old new DiskFault = Rose (fault_count g old) (fault_count g new)
OpenRefused g old new (NotAStore at) = Told g old (λ first second. image first second ≡ Err (NoStore at)) × ReadTheSame g old new
OpenRefused g old new (Newer version) = Told g old (λ first second. image first second ≡ Err (NewerStore version)) × ReadTheSame g old new
OpenRefused g old new Memory = ReadTheSame g old new
OpenRefused g old new (Full size limit) = ⊥
OpenRefused g old new (Exists len) = ⊥

-- why files whose image was found were not opened: a disk failed, or memory ran out and they are as they were
abbrev pub RenewRefused : {D : Type 0} → Ghosts D → D × D → D × D → StoreFault → Type 0
RenewRefused g old new DiskFault = Rose (fault_count g old) (fault_count g new)
RenewRefused g old new Memory = ReadTheSame g old new
RenewRefused g old new (NotAStore at) = ⊥
RenewRefused g old new (Newer version) = ⊥
RenewRefused g old new (Full size limit) = ⊥
RenewRefused g old new (Exists len) = ⊥
