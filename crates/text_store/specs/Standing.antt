-- What stands of a store's records inside a call and after a disk fault.
use Rattle.std.specs.Prelude.{◌≡◌, ℕ, Bool, true, false, List, [], ◌∷◌, ◌++◌, length}
use Rattle.hl_base.specs.declared.disk.Disk.{Ghosts}
use Rattle.text_store.specs.declared.change.Change.{Change}
use Rattle.text_store.specs.declared.image.Image.{Image}
use Rattle.text_store.specs.declared.store.Store.{Store}
use Rattle.text_store.specs.Changes.{kind_of, payload_of}
use Rattle.text_store.specs.Entries.{Entry, body}
use Rattle.text_store.specs.Files.{header, next_generation, whole_payload}
use Rattle.text_store.specs.Rest.{RestsAs, StandsIn, IsAt, IsRewritten}
use Rattle.text_store.specs.Settled.{IsSettled, IsUnsettled}
use Rattle.text_store.specs.Stores.{Leads, limit_of, placed}
use Rattle.text_store.specs.Kinds.{image_kind}

-- two files in their places: P holds of the half in use and Q of the other file
pub record Stand (in_second : Bool) (P Q : List ℕ → Type 0) (first second : List ℕ) : Type 0 where
  pub file : List ℕ
  pub beside : List ℕ
  pub of_file : P file
  pub of_beside : Q beside
  pub places : (first, second) ≡ placed in_second file beside

-- What a call does that may be cut short: it puts an entry behind the records of the half in use, beside this other file; or it writes
-- the other file anew, which had these bytes, with a header and an entry.
pub data Task : Type 0 where
  put : List ℕ → List ℕ → Task
  rewrite : List ℕ → List ℕ → List ℕ → Task

-- a record as it is put behind others, with a shut gate at its end
abbrev pub record_bytes : ℕ → List ℕ → List ℕ
record_bytes kind payload = body kind payload ++ 0 ∷ []

abbrev pub put_of : Change → List ℕ → Task
put_of change beside = put (record_bytes (kind_of change) (payload_of change)) beside

-- a C as the only record of the other file, in the generation behind that of the half in use
abbrev pub rewrite_of : {D : Type 0} {g : Ghosts D} → Store D g → Image → List ℕ → Task
rewrite_of store image beside =
    rewrite beside (header (limit_of store) (next_generation store.generation) image.revision) (record_bytes image_kind (whole_payload image))

-- the half in use keeps the bytes up to its last gate, whatever was done of a task
abbrev pub IsInUse : List ℕ → Task → List ℕ → Type 0
IsInUse front (put entry beside) file = IsAt front entry file
IsInUse front (rewrite old head entry) file = file ≡ front ++ 0 ∷ []

abbrev pub IsBeside : Task → List ℕ → Type 0
IsBeside (put entry beside) file = file ≡ beside
IsBeside (rewrite old head entry) file = IsRewritten old head entry file

-- two files of which the half in use keeps its records
abbrev pub StandFor : Bool → List ℕ → Task → List ℕ → List ℕ → Type 0
StandFor in_second front task first second = Stand in_second (IsInUse front task) (IsBeside task) first second

-- a fault left these records, of this image, and behind them a part of an entry
pub record IsPartPut {D : Type 0} {g : Ghosts D} (store : Store D g) (front : List ℕ) (entries : List Entry) (shown : Image) (entry beside : List ℕ) : Type 0 where
  pub is_due : (store.live.is_torn ≡ true) × (store.is_torn ≡ false)
  pub unsettled : IsUnsettled g.seen g.tells_crashes g.may_leave store.live front entries entry
  pub rests : RestsAs g.seen g.tells_crashes g.may_leave store.spare beside
  pub leads : Leads store.in_second store.generation (front ++ 0 ∷ []) beside shown

-- a fault left these records, of this image, and the other file written anew in part
pub record IsPartRewritten {D : Type 0} {g : Ghosts D} (store : Store D g) (front : List ℕ) (entries : List Entry) (shown : Image) (old head entry : List ℕ) : Type 0 where
  pub is_due : (store.live.is_torn ≡ false) × (store.is_torn ≡ true)
  pub settled : IsSettled g.seen g.tells_crashes g.may_leave store.live front entries
  pub stands : StandsIn g.seen g.tells_crashes g.may_leave store.spare (IsRewritten old head entry)
  pub leads : Leads store.in_second store.generation (front ++ 0 ∷ []) old shown
  pub size : length head ≡ 32

-- a store of which a repair is due: a fault left a task done in part
abbrev pub IsPartDone : {D : Type 0} {g : Ghosts D} → Store D g → List ℕ → List Entry → Image → Task → Type 0
IsPartDone store front entries shown (put entry beside) = IsPartPut store front entries shown entry beside
IsPartDone store front entries shown (rewrite old head entry) = IsPartRewritten store front entries shown old head entry
