-- What an import would add to a store, which is written and not stored.
use Rattle.std.specs.Prelude.{◌≡◌, ◌⊎◌, ℕ, ◌≤◌, List, [], ◌==◌, Option, Result, Ok, Err, if◌then◌else◌}
use Rattle.hl_base.specs.Causes.{Rose}
use Rattle.hl_base.specs.declared.shelf.Shelf.{Ghosts as Shelves}
use Rattle.hl_time.specs.declared.day.Day.{Day}
use Rattle.query_terms.specs.declared.making.Maker.{Ghosts as Makers}
use Rattle.desk.specs.declared.request.Request.{Request}
use Rattle.refusals.specs.declared.refusal.Refusal.{Refusal}
use Rattle.refusals.specs.declared.refusal.Refusal.TheVariants as refusal
use Rattle.store_text.specs.Shelved.{second_name}
use Rattle.store_making.specs.Lines.{line_of as making_line, status_of as making_status}
use Rattle.store_making.specs.declared.refusal.JournalRefusal.{JournalRefusal}
use Rattle.store_commands.specs.Asking.{told_by}
use Rattle.store_commands.specs.Notices.{notices_of}
use Rattle.store_commands.specs.Previews.{Previews}
use Rattle.store_commands.specs.Replies.{IsEditReply, line_of as reply_line, status_of as reply_status}
use Rattle.store_commands.specs.declared.preview.Preview.{Preview}
use Rattle.store_commands.specs.declared.preview.Preview.TheVariants as preview
use Rattle.command_words.specs.declared.task.Importing.{Importing}
use Rattle.command_line.specs.Answers.{Wrote, WrotePrefix}
use Rattle.command_line.specs.Files.{LoadsFile}
use Rattle.command_line.specs.Scenes.{Scene}
use Rattle.command_line.specs.StoreTasks.{Goes, Loads, LoadsImport, RefusedAs, ToldLine}
use Rattle.command_line.specs.declared.outside.Outside.{Outside}

-- the most bytes of a file of a store
abbrev pub most_stored : ℕ
most_stored = 1099511627776

-- what would be added is the output, or the edit would be refused for this
abbrev pub ToldPreview : Preview → Result (List ℕ) Refusal → Type 0
ToldPreview (preview.Adds bytes) (Ok output) = output ≡ bytes
ToldPreview (preview.Adds bytes) (Err x) = ⊥
ToldPreview (preview.Refused r) result = ToldLine (reply_status r) (reply_line r) result

-- or the store isn't opened, for this
abbrev pub ToldAsked : List ℕ → Result Preview JournalRefusal → Result (List ℕ) Refusal → Type 0
ToldAsked name (Ok told) result = ToldPreview told result
ToldAsked name (Err e) (Ok output) = ⊥
ToldAsked name (Err e) (Err x) = RefusedAs (making_status e) (making_line name e) x

-- what was asked for is an edit
abbrev pub IsEditPreview : Preview → Type 0
IsEditPreview (preview.Adds bytes) = Unit {0}
IsEditPreview (preview.Refused r) = IsEditReply r

abbrev pub IsOfEdit : Result Preview JournalRefusal → Type 0
IsOfEdit (Ok told) = IsEditPreview told
IsOfEdit (Err e) = Unit {0}

-- It was asked what a request would make of the store of this name, whose two files are these. Only patterns were built.
pub record PreviewsFiles {J O E S M : Type 0} (m : Makers M) (name first second : List ℕ) (what : Request) (day : Day) (old new : Outside J O E S M)
    (r : Result (List ℕ) Refusal) : Type 0 where
  pub asked : Result Preview JournalRefusal
  pub previews : Previews first second what day.0 (told_by m old.maker new.maker) asked
  pub told : ToldAsked name asked r
  pub rest : new ≡ record old { maker = new.maker }

-- no bytes where there is no such file
abbrev pub line_or_none : ℕ → List ℕ → Result (List ℕ) Refusal
line_or_none status line = if status == 8 then Ok [] else Err (refusal.Line status line)

abbrev pub unless_absent : Refusal → Result (List ℕ) Refusal
unless_absent (refusal.Line status line) = line_or_none status line
unless_absent (refusal.Pattern what line) = Err (refusal.Pattern what line)
unless_absent refusal.ReadFault = Err refusal.ReadFault
unless_absent refusal.DiskFault = Err refusal.DiskFault
unless_absent refusal.Memory = Err refusal.Memory

abbrev pub or_none : Result (List ℕ) Refusal → Result (List ℕ) Refusal
or_none (Ok bytes) = Ok bytes
or_none (Err x) = unless_absent x

-- A file that may be absent was loaded, and then this came of its bytes.
pub record LoadsAny {J O E S D M : Type 0} (s : Shelves S D) (most : ℕ) (name : List ℕ)
    (Then : List ℕ → Outside J O E S M → Outside J O E S M → Result (List ℕ) Refusal → Type 0) (old new : Outside J O E S M) (r : Result (List ℕ) Refusal) : Type 0 where
  pub mid : S
  pub read : Result (List ℕ) Refusal
  pub reads : LoadsFile s most name old.shelf mid read
  pub goes : Goes Then (or_none read) (record old { shelf = mid }) new r

-- or there was no memory to go on
abbrev pub OrMemory : {J O E S M : Type 0} → (Outside J O E S M → Outside J O E S M → Result (List ℕ) Refusal → Type 0)
    → Outside J O E S M → Outside J O E S M → Result (List ℕ) Refusal → Type 0
OrMemory P old new r = P old new r ⊎ ((r ≡ Err refusal.Memory) × (new ≡ old))

-- The two files of the store of this name were loaded, and it was asked what a request would make of it.
abbrev pub PreviewsStore : {J O E S D M : Type 0} → Shelves S D → Makers M → List ℕ → Request → Day → Outside J O E S M → Outside J O E S M
    → Result (List ℕ) Refusal → Type 0
PreviewsStore s m name what day =
    Loads s most_stored name (λ first. OrMemory (LoadsAny s most_stored (second_name name) (λ second. PreviewsFiles m name first second what day)))

-- These lines were written to an error output; or a write to it failed, after a front of them.
pub record Notes (lines : List ℕ) (old new : Option (List ℕ)) (faults_old faults_new : ℕ) : Type 0 where
  pub written : ((faults_new ≡ faults_old) × Wrote old new lines) ⊎ (Rose faults_old faults_new × WrotePrefix old new lines)
  pub later : faults_old ≤ faults_new

-- These lines were written to the error output, and then this came; what fails in writing them changes nothing of it.
pub record NotesThen {J O E S M : Type 0} (sc : Outside J O E S M → Scene) (lines : List ℕ)
    (Then : Outside J O E S M → Outside J O E S M → Result (List ℕ) Refusal → Type 0) (old new : Outside J O E S M) (r : Result (List ℕ) Refusal) : Type 0 where
  pub err : E
  pub notes : Notes lines (sc old).error (sc (record old { err = err })).error (sc old).error_faults (sc (record old { err = err })).error_faults
  pub goes : Then (record old { err = err }) new r

-- The notices of a request were written to the error output, and then it was asked what it would make of the store; or there was
-- no memory for the notices.
abbrev pub PreviewsNoted : {J O E S D M : Type 0} → (Outside J O E S M → Scene) → Shelves S D → Makers M → List ℕ → Request → Day
    → Outside J O E S M → Outside J O E S M → Result (List ℕ) Refusal → Type 0
PreviewsNoted sc s m name what day = OrMemory (NotesThen sc (notices_of what) (PreviewsStore s m name what day))

-- The file was loaded, then its rules; their notices were written to the error output, and then it was asked what importing it
-- would make of the store. No file is changed.
abbrev pub PreviewsImport : {J O E S D M : Type 0} → (Outside J O E S M → Scene) → Shelves S D → Makers M → Importing → Day
    → Outside J O E S M → Outside J O E S M → Result (List ℕ) Refusal → Type 0
PreviewsImport sc s m what day = LoadsImport s what day (PreviewsNoted sc s m)
