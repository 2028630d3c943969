-- What a shelf in memory keeps: the files that it was made with, and the disks that came back.
use Rattle.std.specs.Prelude.{◌≡◌, ◌≢◌, ℕ, zero, suc, Bool, true, false, List, [], ◌∷◌, bytes_eq, if◌then◌else◌, Option, None, Some, is_some, IsTrue}
use Rattle.hl_base.specs.declared.mem_disk.MemDisk.{MemDisk}
use Rattle.hl_base.specs.declared.mem_shelf.Place.{Place}
use Rattle.hl_base.specs.History.{MayLeaveOf, LeftSinceOf}
use Rattle.hl_base.specs.Shelf.{Tells}

-- the bytes of the first file of a name
abbrev pub bytes_of : List ℕ → List (List ℕ × List ℕ) → Option (List ℕ)
bytes_of name [] = None
bytes_of name (file ∷ files) = if bytes_eq file.0 name then Some file.1 else bytes_of name files

-- the disk that lies in the place of a name
abbrev pub disk_of : List ℕ → List Place → Option MemDisk
disk_of name [] = None
disk_of name (place ∷ places) = if bytes_eq place.name name then place.disk else disk_of name places

-- there is a place for a name
abbrev pub has_place : List ℕ → List Place → Bool
has_place name [] = false
has_place name (place ∷ places) = if bytes_eq place.name name then true else has_place name places

-- the bytes under a name: those of the disk that came back, else of the file that was there
abbrev pub text_of : Option MemDisk → Option (List ℕ) → Option (List ℕ)
text_of None first = first
text_of (Some disk) first = Some disk.surface.text

-- what a crash may leave of them
abbrev pub MayLeaveUnder : Option MemDisk → Option (List ℕ) → List ℕ → Type 0
MayLeaveUnder None None c = Unit {0}
MayLeaveUnder None (Some bytes) c = c ≡ bytes
MayLeaveUnder (Some disk) first c = MayLeaveOf disk.log c

-- what a crash may have left since the disk was taken
abbrev pub LeftUnder : Option MemDisk → Option (List ℕ) → List ℕ → Type 0
LeftUnder None None c = Unit {0}
LeftUnder None (Some bytes) c = c ≡ bytes
LeftUnder (Some disk) first c = LeftSinceOf disk.log 0 c

-- the reach up to which new disks fail no call, by the rooms of their records, their calls that are to fail and their room
abbrev pub room_of_new : Option (ℕ × ℕ) → List ℕ → ℕ → Option ℕ
room_of_new None [] room = Some room
room_of_new None (n ∷ fails) room = None
room_of_new (Some rooms) fails room = None

-- what a shelf in memory tells
abbrev pub tells_of : Option (ℕ × ℕ) → List ℕ → ℕ → Tells
tells_of log fails room = record { files = true; crashes = is_some log; disk_room = room_of_new log fails room }

-- it is the number of the first place of a name
abbrev pub IsFirst : List ℕ → List Place → ℕ → Type 0
IsFirst name [] i = ⊥
IsFirst name (place ∷ places) zero = IsTrue (bytes_eq place.name name)
IsFirst name (place ∷ places) (suc i) = (bytes_eq place.name name ≡ false) × IsFirst name places i

-- a disk is put into the place of a name; the other names keep theirs
pub record PutsBack (name : List ℕ) (disk : MemDisk) (old new : List Place) : Type 0 where
  pub here : disk_of name new ≡ Some disk
  pub others : (other : List ℕ) → other ≢ name → disk_of other new ≡ disk_of other old
  pub places : (other : List ℕ) → has_place other new ≡ has_place other old

-- each name keeps its disk and its place
pub record PlacesStay (old new : List Place) : Type 0 where
  pub disks : (name : List ℕ) → disk_of name new ≡ disk_of name old
  pub places : (name : List ℕ) → IsTrue (has_place name old) → IsTrue (has_place name new)
