-- What a command does that makes a store or edits one.
use Rattle.std.specs.Prelude.{◌≡◌, ◌≢◌, ◌⊎◌, ℕ, List, [], Result, Ok, Err}
use Rattle.hl_base.specs.declared.disk.Disk.{Ghosts as Disks}
use Rattle.hl_base.specs.declared.shelf.Shelf.{Ghosts as Shelves}
use Rattle.hl_base.specs.Limits.{text_limit}
use Rattle.hl_time.specs.declared.day.Day.{Day}
use Rattle.query_terms.specs.declared.making.Maker.{Ghosts as Makers}
use Rattle.desk.specs.declared.reply.Reply.{Reply}
use Rattle.desk.specs.declared.request.Request.{Request}
use Rattle.desk.specs.declared.request.Request.TheVariants as request
use Rattle.refusals.specs.declared.refusal.Refusal.{Refusal}
use Rattle.refusals.specs.declared.refusal.Refusal.TheVariants as refusal
use Rattle.store_making.specs.Lines.{line_of as making_line, status_of as making_status}
use Rattle.store_making.specs.Making.{MakesStore}
use Rattle.store_making.specs.declared.refusal.JournalRefusal.{JournalRefusal}
use Rattle.store_commands.specs.Asking.{EditsStore, told_by}
use Rattle.store_commands.specs.Replacing.{ReplacesStore}
use Rattle.store_commands.specs.Replies.{line_of as reply_line, status_of as reply_status}
use Rattle.store_commands.specs.declared.edit.StoreEdit.{StoreEdit}
use Rattle.command_words.specs.declared.task.Importing.{Importing}
use Rattle.command_words.specs.declared.task.Making.{Making}
use Rattle.command_words.specs.declared.task.Origin.TheVariants as origins
use Rattle.command_words.specs.declared.task.Replacing.{Replacing}
use Rattle.command_line.specs.Answers.{IsStatus, status_of}
use Rattle.command_line.specs.Files.{LoadsFile, ReadsShelf}
use Rattle.command_line.specs.Runs.{ReadsText}
use Rattle.command_line.specs.Scenes.{Scene}
use Rattle.command_line.specs.declared.outside.Outside.{Outside}

-- the most bytes of a file that is imported, and of its rules
abbrev pub most_imported : ℕ
most_imported = 8388608

-- ---- what is said of a store

-- this status and line are told, or want of memory
abbrev pub RefusedAs : ℕ → List ℕ → Refusal → Type 0
RefusedAs status line x = (x ≡ refusal.Memory) ⊎ (x ≡ refusal.Line status line)

-- the status of a refusal isn't that of words
abbrev pub IsOfStored : Refusal → Type 0
IsOfStored x = IsStatus (status_of x) × (status_of x ≢ 2)

-- a store that was made writes nothing to the output
abbrev pub ToldMaking : {U : Type 0} → List ℕ → Result U JournalRefusal → Result (List ℕ) Refusal → Type 0
ToldMaking name (Ok done) (Ok output) = output ≡ []
ToldMaking name (Ok done) (Err x) = ⊥
ToldMaking name (Err e) (Ok output) = ⊥
ToldMaking name (Err e) (Err x) = RefusedAs (making_status e) (making_line name e) x

-- the line of a reply is the output where its status is 0, and else why it was refused
abbrev pub ToldLine : ℕ → List ℕ → Result (List ℕ) Refusal → Type 0
ToldLine status line (Ok output) = (status ≡ 0) × (output ≡ line)
ToldLine status line (Err x) = (x ≡ refusal.Memory) ⊎ ((status ≢ 0) × (x ≡ refusal.Line status line))

abbrev pub ToldEdit : List ℕ → Result Reply JournalRefusal → Result (List ℕ) Refusal → Type 0
ToldEdit name (Ok r) result = ToldLine (reply_status r) (reply_line r) result
ToldEdit name (Err e) (Ok output) = ⊥
ToldEdit name (Err e) (Err x) = RefusedAs (making_status e) (making_line name e) x

-- ---- a store that is made

-- a store of a text was made among the files of a shelf, and this is said of it
abbrev pub MadeOf : {S D : Type 0} → Shelves S D → Disks D → Making → List ℕ → S → S → Result (List ℕ) Refusal → Type 0
MadeOf s g what text old new r =
    (made : Result (Unit {0}) JournalRefusal) × MakesStore s g what.store text what.limit old new made × ToldMaking what.store made r

-- what was read, and then made; where nothing was read the shelf isn't asked
abbrev pub MadeAfter : {S D : Type 0} → Shelves S D → Disks D → Making → Result (List ℕ) Refusal → S → S → Result (List ℕ) Refusal → Type 0
MadeAfter s g what (Ok text) old new r = MadeOf s g what text old new r
MadeAfter s g what (Err x) old new r = (r ≡ Err x) × (new ≡ old)

-- The text was read, and a store made of it, or why not. Nothing but the shelf is touched then.
pub record InitsStore {J O E S D M : Type 0} (sc : Outside J O E S M → Scene) (s : Shelves S D) (g : Disks D) (what : Making)
    (old new : Outside J O E S M) (r : Result (List ℕ) Refusal) : Type 0 where
  pub mid : Outside J O E S M
  pub read : Result (List ℕ) Refusal
  pub reads : ReadsText what.source read (sc old) (sc mid)
  pub shelf : ReadsShelf s text_limit what.source old.shelf mid.shelf read
  pub makes : MadeAfter s g what read mid.shelf new.shelf r
  pub rest : new ≡ record mid { shelf = new.shelf }

-- ---- edits

-- a store was asked for an edit on a day, and this is said of the reply
pub record EditedBy {J O E S D M : Type 0} (s : Shelves S D) (g : Disks D) (m : Makers M) (name : List ℕ) (what : Request) (day : Day)
    (old new : Outside J O E S M) (r : Result (List ℕ) Refusal) : Type 0 where
  pub asked : Result Reply JournalRefusal
  pub edits : EditsStore s g name what day (told_by m old.maker new.maker) old.shelf new.shelf asked
  pub told : ToldEdit name asked r
  pub rest : new ≡ record old { shelf = new.shelf; maker = new.maker }

abbrev pub AddedAfter : {J O E S D M : Type 0} → Shelves S D → Disks D → Makers M → List ℕ → Day → Result (List ℕ) Refusal
    → Outside J O E S M → Outside J O E S M → Result (List ℕ) Refusal → Type 0
AddedAfter s g m name day (Ok entry) old new r = EditedBy s g m name (request.Add entry) day old new r
AddedAfter s g m name day (Err x) old new r = (r ≡ Err x) × (new ≡ old)

-- The entry was read from the input, and the store asked to add it.
pub record AddsEntry {J O E S D M : Type 0} (sc : Outside J O E S M → Scene) (s : Shelves S D) (g : Disks D) (m : Makers M) (name : List ℕ) (day : Day)
    (old new : Outside J O E S M) (r : Result (List ℕ) Refusal) : Type 0 where
  pub mid : Outside J O E S M
  pub read : Result (List ℕ) Refusal
  pub reads : ReadsText origins.Input read (sc old) (sc mid)
  pub stays : (mid.shelf ≡ old.shelf) × (mid.maker ≡ old.maker)
  pub adds : AddedAfter s g m name day read mid new r

-- ---- a file that is imported

-- what was loaded, and what then came of it
abbrev pub Goes : {J O E S M : Type 0} → (List ℕ → Outside J O E S M → Outside J O E S M → Result (List ℕ) Refusal → Type 0) → Result (List ℕ) Refusal
    → Outside J O E S M → Outside J O E S M → Result (List ℕ) Refusal → Type 0
Goes Then (Ok bytes) old new r = Then bytes old new r
Goes Then (Err x) old new r = (r ≡ Err x) × (new ≡ old)

-- A file was loaded, and then this came of its bytes.
pub record Loads {J O E S D M : Type 0} (s : Shelves S D) (most : ℕ) (name : List ℕ)
    (Then : List ℕ → Outside J O E S M → Outside J O E S M → Result (List ℕ) Refusal → Type 0) (old new : Outside J O E S M) (r : Result (List ℕ) Refusal) : Type 0 where
  pub mid : S
  pub read : Result (List ℕ) Refusal
  pub reads : LoadsFile s most name old.shelf mid read
  pub goes : Goes Then read (record old { shelf = mid }) new r

-- The file was loaded, then its rules, and then this came of the request to import it into the store, on a day.
abbrev pub LoadsImport : {J O E S D M : Type 0} → Shelves S D → Importing → Day
    → (List ℕ → Request → Day → Outside J O E S M → Outside J O E S M → Result (List ℕ) Refusal → Type 0)
    → Outside J O E S M → Outside J O E S M → Result (List ℕ) Refusal → Type 0
LoadsImport s what day Then =
    Loads s most_imported what.file (λ csv. Loads s most_imported what.rules (λ rules. Then what.store (request.Import what.name rules csv) day))

-- The store was then asked to import it.
abbrev pub ImportsFile : {J O E S D M : Type 0} → Shelves S D → Disks D → Makers M → Importing → Day → Outside J O E S M → Outside J O E S M
    → Result (List ℕ) Refusal → Type 0
ImportsFile s g m what day = LoadsImport s what day (EditedBy s g m)

-- the edit that imports the bytes of a file, where its rules were loaded
abbrev pub import_edit : Importing → Day → List ℕ → Result (List ℕ) Refusal → Result StoreEdit Refusal
import_edit what day csv (Ok rules) = Ok (record { store = what.store; request = request.Import what.name rules csv; day = day })
import_edit what day csv (Err x) = Err x

-- The rules were loaded, and this is the edit, or why there is none.
pub record LoadsRules {S D : Type 0} (s : Shelves S D) (what : Importing) (day : Day) (csv : List ℕ) (old new : S) (edit : Result StoreEdit Refusal) : Type 0 where
  pub read : Result (List ℕ) Refusal
  pub reads : LoadsFile s most_imported what.rules old new read
  pub is : edit ≡ import_edit what day csv read

abbrev pub RulesAfter : {S D : Type 0} → Shelves S D → Importing → Day → Result (List ℕ) Refusal → S → S → Result StoreEdit Refusal → Type 0
RulesAfter s what day (Ok csv) old new edit = LoadsRules s what day csv old new edit
RulesAfter s what day (Err x) old new edit = (edit ≡ Err x) × (new ≡ old)

-- The file was loaded, then its rules, and this is the edit that imports it, or why there is none.
pub record LoadsEdit {S D : Type 0} (s : Shelves S D) (what : Importing) (day : Day) (old new : S) (edit : Result StoreEdit Refusal) : Type 0 where
  pub mid : S
  pub read : Result (List ℕ) Refusal
  pub reads : LoadsFile s most_imported what.file old mid read
  pub rules : RulesAfter s what day read mid new edit

-- ---- a text in the place of a store's

-- a store was asked for it on a day, and this is said of the reply
pub record ReplacedBy {J O E S D M : Type 0} (s : Shelves S D) (g : Disks D) (m : Makers M) (what : Replacing) (text : List ℕ) (day : Day)
    (old new : Outside J O E S M) (r : Result (List ℕ) Refusal) : Type 0 where
  pub asked : Result Reply JournalRefusal
  pub replaces : ReplacesStore s g what.store text what.base day (told_by m old.maker new.maker) old.shelf new.shelf asked
  pub told : ToldEdit what.store asked r
  pub rest : new ≡ record old { shelf = new.shelf; maker = new.maker }

abbrev pub ReplacedAfter : {J O E S D M : Type 0} → Shelves S D → Disks D → Makers M → Replacing → Day → Result (List ℕ) Refusal
    → Outside J O E S M → Outside J O E S M → Result (List ℕ) Refusal → Type 0
ReplacedAfter s g m what day (Ok text) old new r = ReplacedBy s g m what text day old new r
ReplacedAfter s g m what day (Err x) old new r = (r ≡ Err x) × (new ≡ old)

-- The text was read, and then the store asked to have it in the place of its own.
pub record ReplacesText {J O E S D M : Type 0} (sc : Outside J O E S M → Scene) (s : Shelves S D) (g : Disks D) (m : Makers M) (what : Replacing) (day : Day)
    (old new : Outside J O E S M) (r : Result (List ℕ) Refusal) : Type 0 where
  pub mid : Outside J O E S M
  pub read : Result (List ℕ) Refusal
  pub reads : ReadsText what.source read (sc old) (sc mid)
  pub shelf : ReadsShelf s text_limit what.source old.shelf mid.shelf read
  pub maker : mid.maker ≡ old.maker
  pub replaces : ReplacedAfter s g m what day read mid new r
