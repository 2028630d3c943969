-- The records that a store at rest has in its half in use.
use Rattle.std.specs.Prelude.{◌≡◌, ◌⊎◌, ℕ, ◌+◌, ◌^◌, ◌<◌, ◌≤◌, List, [], ◌∷◌, length, Some, Ok}
use Rattle.hl_base.specs.declared.disk.Disk.{Ghosts}
use Rattle.text_store.specs.declared.change.Change.{Change}
use Rattle.text_store.specs.declared.image.Image.{Image}
use Rattle.text_store.specs.declared.store.Store.{Store}
use Rattle.text_store.specs.Changes.{AreStates, HasShortName, IsChange, kind_of, payload_of}
use Rattle.text_store.specs.Entries.{Entry, open_entries}
use Rattle.text_store.specs.Files.{IsWritable, header, next_generation, rest_of, whole_payload}
use Rattle.text_store.specs.Frames.{base_of}
use Rattle.text_store.specs.Image.{image}
use Rattle.text_store.specs.Standing.{IsPartDone, Task, put, record_bytes, rewrite}
use Rattle.text_store.specs.Stores.{Holds, MayShow}
use Rattle.follower.specs.declared.frame.Frame.{Frame}
use Rattle.replica_laws.specs.Lives.{AreFramesOf, Becomes, Records, accepted, written_anew}

-- a change whose name, numbers and payload fit their bytes
pub record IsRecordable (change : Change) : Type 0 where
  pub name : HasShortName change
  pub numbers : IsChange change
  pub fits : length (payload_of change) < 2 ^ 64

-- an image whose states and payload fit their bytes
pub record IsWhole (shown : Image) : Type 0 where
  pub states : AreStates shown.latest
  pub fits : length (whole_payload shown) < 2 ^ 64

-- the frames of records, of which the first has this revision and each other the next one
abbrev pub framed : ℕ → List Entry → List Frame
framed revision [] = []
framed revision (entry ∷ entries) = record { revision = revision; kind = entry.kind; payload = entry.payload } ∷ framed (revision + 1) entries

-- a store at rest whose half in use has these records
pub record HasRecords {D : Type 0} {g : Ghosts D} (store : Store D g) (records : Records) : Type 0 where
  pub held : Holds store records.shown
  pub file : List ℕ
  pub seen : g.seen store.live.device ≡ Some file
  pub are : AreFramesOf records (framed (base_of file) (open_entries 32 file))

-- two files of which the half in use, once it is opened, has these records
pub record HaveRecords (records : Records) (first second : List ℕ) : Type 0 where
  pub shows : image first second ≡ Ok records.shown
  pub are : AreFramesOf records (framed (base_of (rest_of first second)) (open_entries 32 (rest_of first second)))

-- these records or those
abbrev pub HaveEither : Records → Records → List ℕ → List ℕ → Type 0
HaveEither before after first second = HaveRecords before first second ⊎ HaveRecords after first second

-- an entry is the record of a change that is accepted
pub record PutsChange (before after : Records) (entry : List ℕ) : Type 0 where
  pub change : Change
  pub can : IsRecordable change
  pub bytes : entry ≡ record_bytes (kind_of change) (payload_of change)
  pub becomes : Becomes before (accepted change) after

-- a header and an entry are those of the image, in the generation behind this one
pub record WritesAnew (generation : ℕ) (before after : Records) (head entry : List ℕ) : Type 0 where
  pub limit : ℕ
  pub small : limit < 2 ^ 64
  pub within : before.shown.revision ≤ 2 ^ 62
  pub writable : IsWritable before.shown
  pub can : IsWhole before.shown
  pub head_is : head ≡ header limit (next_generation generation) before.shown.revision
  pub entry_is : entry ≡ record_bytes 67 (whole_payload before.shown)
  pub becomes : Becomes before written_anew after

-- the records that a task makes of others, when it is done
abbrev pub Makes : ℕ → Records → Records → Task → Type 0
Makes generation before after (put entry beside) = PutsChange before after entry
Makes generation before after (rewrite old head entry) = WritesAnew generation before after head entry

-- A store of which a repair is due, since a fault left a task done in part. Its records are those from before the task.
pub record HasPart {D : Type 0} {g : Ghosts D} (store : Store D g) (before after : Records) : Type 0 where
  pub task : Task
  pub front : List ℕ
  pub entries : List Entry
  pub part : IsPartDone store front entries before.shown task
  pub may : MayShow store before.shown after.shown
  pub makes : Makes store.generation before after task
  pub are : AreFramesOf before (framed (base_of front) entries)
