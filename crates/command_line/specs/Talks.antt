-- One connection over the input and the output: to a journal in memory, or to a store.
use Rattle.std.specs.Prelude.{◌≡◌, ◌⊎◌, ℕ, List, [], Option, Result, Ok, Err, OnErr, length}
use Rattle.hl_base.specs.declared.disk.Disk.{Ghosts as Disks}
use Rattle.hl_base.specs.declared.shelf.Shelf.{Ghosts as Shelves}
use Rattle.hl_base.specs.Limits.{text_limit}
use Rattle.hl_time.specs.declared.day.Day.{Day}
use Rattle.query_terms.specs.declared.making.Maker.{Ghosts as Makers}
use Rattle.desk.specs.declared.request.Allow.{Allow}
use Rattle.refusals.specs.Errors.{connection_line, memory_line, read_fault_line, write_fault_line}
use Rattle.refusals.specs.declared.refusal.Refusal.{Refusal}
use Rattle.refusals.specs.declared.refusal.Refusal.TheVariants as refusal
use Rattle.store_making.specs.Lines.{line_of as making_line, status_of as making_status}
use Rattle.store_making.specs.declared.refusal.JournalRefusal.{JournalRefusal}
use Rattle.store_commands.specs.Asking.{told_by}
use Rattle.web_desk.specs.declared.conn_end.ConnEnd.{ConnEnd}
use Rattle.web_desk.specs.declared.conn_end.ConnEnd.TheVariants as conn
use Rattle.web_desk.specs.declared.conn_end.Way.TheVariants.{Read, Write}
use Rattle.talk_commands.specs.Links.{Wire}
use Rattle.talk_commands.specs.Memory.{TalksFrom}
use Rattle.talk_commands.specs.Stores.{TalksStore}
use Rattle.command_words.specs.declared.task.Origin.{Origin}
use Rattle.command_words.specs.declared.task.Origin.TheVariants as origins
use Rattle.command_words.specs.declared.task.Talking.{Talking}
use Rattle.command_line.specs.Answers.{Says, line_of, status_of}
use Rattle.command_line.specs.Files.{LoadsFile}
use Rattle.command_line.specs.Runs.{ReadsText}
use Rattle.command_line.specs.Scenes.{Scene, Soundness}
use Rattle.command_line.specs.StoreTasks.{RefusedAs}
use Rattle.command_line.specs.declared.outside.Outside.{Outside}

-- ---- how it ends

-- the exit status of an end, and the line that says why it isn't a good one
abbrev pub end_status : ConnEnd → ℕ
end_status conn.Closed = 0
end_status (conn.LinkFault Read) = 3
end_status (conn.LinkFault Write) = 4
end_status conn.Memory = 6
end_status other = 1

abbrev pub end_line : ConnEnd → List ℕ
end_line conn.Closed = []
end_line (conn.LinkFault Read) = read_fault_line
end_line (conn.LinkFault Write) = write_fault_line
end_line conn.Memory = memory_line
end_line other = connection_line

-- A good end has status 0, and nothing is written to the error output. Of another the line is written and the status is its
-- own; or the line can't be written, and it is 4.
abbrev pub TellsEnd : ConnEnd → ℕ → Option (List ℕ) → Option (List ℕ) → ℕ → ℕ → Type 0
TellsEnd conn.Closed status old new faults_old faults_new = (status ≡ 0) × (new ≡ old)
TellsEnd end status old new faults_old faults_new = Says status (end_status end) (end_line end) old new faults_old faults_new

-- the end is told, or why there was no connection
abbrev pub TellsTalk : ℕ → Scene → Scene → Result ConnEnd Refusal → Type 0
TellsTalk status old new (Ok end) = TellsEnd end status old.error new.error old.error_faults new.error_faults
TellsTalk status old new (Err x) = Says status (status_of x) (line_of x) old.error new.error old.error_faults new.error_faults

-- where the error output has room for the line, that doesn't fail
abbrev pub TellsSoundly : Soundness → ℕ → Result ConnEnd Refusal → Type 0
TellsSoundly sound status (Ok end) = sound.error (length (end_line end)) → status ≡ end_status end
TellsSoundly sound status (Err x) = sound.error (length (line_of x)) → status ≡ status_of x

-- ---- what it does

-- what the input and the output tell as one link
abbrev pub wire_in : Scene → Scene → Wire
wire_in old new = record {
  coming = old.left;
  sent = old.output;
  sent_now = new.output;
  read_faults = old.read_faults;
  read_faults_now = new.read_faults;
  write_faults = old.output_faults;
  write_faults_now = new.output_faults;
}

-- why there was none is a refusal with its status and its line, of a store of this name
abbrev pub ToldTalk : List ℕ → Result ConnEnd JournalRefusal → Result ConnEnd Refusal → Type 0
ToldTalk name (Ok end) (Ok told) = told ≡ end
ToldTalk name (Ok end) (Err x) = ⊥
ToldTalk name (Err e) (Ok told) = ⊥
ToldTalk name (Err e) (Err x) = RefusedAs (making_status e) (making_line name e) x

-- A connection asked a journal in memory that begins as a text. The files and the error output aren't touched.
pub record TalkedText {J O E S M : Type 0} (sc : Outside J O E S M → Scene) (m : Makers M) (text : List ℕ) (level : Allow) (day : Day)
    (old new : Outside J O E S M) (r : Result ConnEnd Refusal) : Type 0 where
  pub made : Result ConnEnd JournalRefusal
  pub talks : TalksFrom text level day.0 (told_by m old.maker new.maker) (wire_in (sc old) (sc new)) made
  -- where there was none the input is as it was
  pub untouched : OnErr made ((new.streams ≡ old.streams) × (new.maker ≡ old.maker))
  pub told : ToldTalk [] made r
  pub rest : new ≡ record old { streams = new.streams; maker = new.maker }

abbrev pub TalkedAfter : {J O E S M : Type 0} → (Outside J O E S M → Scene) → Makers M → Allow → Day → Result (List ℕ) Refusal
    → Outside J O E S M → Outside J O E S M → Result ConnEnd Refusal → Type 0
TalkedAfter sc m level day (Ok text) old new r = TalkedText sc m text level day old new r
TalkedAfter sc m level day (Err x) old new r = (r ≡ Err x) × (new ≡ old)

-- The text is that of a file, which was read first.
pub record TalkedFile {J O E S D M : Type 0} (sc : Outside J O E S M → Scene) (s : Shelves S D) (m : Makers M) (name : List ℕ) (level : Allow) (day : Day)
    (old new : Outside J O E S M) (r : Result ConnEnd Refusal) : Type 0 where
  pub mid : Outside J O E S M
  pub read : Result (List ℕ) Refusal
  pub reads : ReadsText (origins.File name) read (sc old) (sc mid)
  pub shelf : LoadsFile s text_limit name old.shelf mid.shelf read
  pub rest : mid ≡ record old { shelf = mid.shelf }
  pub talks : TalkedAfter sc m level day read mid new r

-- A connection asked a store.
pub record TalkedStore {J O E S D M : Type 0} (sc : Outside J O E S M → Scene) (s : Shelves S D) (g : Disks D) (m : Makers M) (name : List ℕ) (level : Allow)
    (day : Day) (old new : Outside J O E S M) (r : Result ConnEnd Refusal) : Type 0 where
  pub made : Result ConnEnd JournalRefusal
  pub talks : TalksStore s g name level day.0 (told_by m old.maker new.maker) (wire_in (sc old) (sc new)) old.shelf new.shelf made
  pub untouched : OnErr made ((new.streams ≡ old.streams) × (new.maker ≡ old.maker))
  pub told : ToldTalk name made r
  pub rest : new ≡ record old { streams = new.streams; shelf = new.shelf; maker = new.maker }

-- What a connection does, by where its journal is.
abbrev pub TalkedOver : {J O E S D M : Type 0} → (Outside J O E S M → Scene) → Shelves S D → Disks D → Makers M → Origin → Allow → Day
    → Outside J O E S M → Outside J O E S M → Result ConnEnd Refusal → Type 0
TalkedOver sc s g m origins.Input level day old new r = TalkedText sc m [] level day old new r
TalkedOver sc s g m (origins.File name) level day old new r = TalkedFile sc s m name level day old new r
TalkedOver sc s g m (origins.Store name) level day old new r = TalkedStore sc s g m name level day old new r

-- A connection was answered to its end, or why there was none; or memory ran out for its words. Then its end was told, which leaves all
-- but the error output.
pub record RunsTalk {J O E S D M : Type 0} (sc : Outside J O E S M → Scene) (so : Outside J O E S M → Soundness) (s : Shelves S D) (g : Disks D) (m : Makers M) (what : Talking) (day : Day)
    (status : ℕ) (old new : Outside J O E S M) : Type 0 where
  pub last : Outside J O E S M
  pub end : Result ConnEnd Refusal
  pub talked : TalkedOver sc s g m what.origin what.allow day old last end ⊎ ((end ≡ Err refusal.Memory) × (last ≡ old))
  pub told : TellsTalk status (sc last) (sc new) end
  pub soundly : TellsSoundly (so last) status end
  pub stays : (new.shelf ≡ last.shelf) × (new.maker ≡ last.maker) × (new.streams ≡ last.streams)
