-- What is done to its end, where what it is over is good and no call failed: status 0, or want of memory.
use Rattle.std.specs.Prelude.{◌≡◌, ◌⊎◌, ℕ, ◌≤◌, List, length, Some, None, Result, Ok, Err, IsTrue}
use Rattle.hl_base.specs.Causes.{Rose}
use Rattle.live_journal.specs.Loading.{fault_of}
use Rattle.web_messages.specs.Streams.{IsOfWhole}
use Rattle.text_store.specs.declared.image.Image.{Image}
use Rattle.book.specs.declared.transaction.Txn.{Txn}
use Rattle.desk.specs.Imports.{entries_of}
use Rattle.desk.specs.States.{answer_to}
use Rattle.desk.specs.declared.request.Request.{Request}
use Rattle.desk.specs.declared.request.Request.TheVariants as request
use Rattle.sample_text.specs.Sample.{sample_text}
use Rattle.store_text.specs.Shelved.{image_under, or_empty, second_name}
use Rattle.store_making.specs.Refusals.{files_refusal}
use Rattle.store_following.specs.Ready.{IsReady}
use Rattle.store_commands.specs.Asking.{state_under}
use Rattle.store_commands.specs.Replacing.{replacement}
use Rattle.store_commands.specs.Replies.{status_of as reply_status}
use Rattle.refusals.specs.Outcomes.{Judged, outcome_of}
use Rattle.refusals.specs.declared.refusal.PatternOf.{PatternOf}
use Rattle.command_words.specs.declared.task.Origin.{Origin}
use Rattle.command_words.specs.declared.task.Origin.TheVariants as origins
use Rattle.command_words.specs.declared.task.Explaining.{Explaining}
use Rattle.command_words.specs.declared.task.Following.{Following}
use Rattle.command_words.specs.declared.task.Importing.{Importing}
use Rattle.command_words.specs.declared.task.Making.{Making}
use Rattle.command_words.specs.declared.task.Replacing.{Replacing}
use Rattle.command_words.specs.declared.task.StoreTask.{StoreTask}
use Rattle.command_words.specs.declared.task.StoreTask.TheVariants as stored
use Rattle.command_words.specs.declared.task.Talking.{Talking}
use Rattle.command_words.specs.declared.task.Task.{Task}
use Rattle.command_words.specs.declared.task.Task.TheVariants as task
use Rattle.command_words.specs.declared.task.TextTask.{TextTask}
use Rattle.command_words.specs.declared.usage.UsageFault.{UsageFault}
use Rattle.command_line.specs.Answers.{IsStore}
use Rattle.command_line.specs.Previewing.{most_stored}
use Rattle.command_line.specs.Scenes.{RefusedIn, Scene, judged_in, text_in}
use Rattle.command_line.specs.Sources.{file_within}
use Rattle.command_line.specs.StoreTasks.{most_imported}

-- no call of the input, of an output, of the shelf or of one of its disks failed
pub record NoneRose (old new : Scene) : Type 0 where
  pub reads : Rose old.read_faults new.read_faults → ⊥
  pub output : Rose old.output_faults new.output_faults → ⊥
  pub error : Rose old.error_faults new.error_faults → ⊥
  pub shelf : Rose old.shelf_faults new.shelf_faults → ⊥
  pub disks : Rose old.disk_faults new.disk_faults → ⊥

-- all was done, or memory ran out
abbrev pub IsDone : ℕ → Type 0
IsDone status = (status ≡ 0) ⊎ (status ≡ 6)

-- a command over a text of which nothing is refused, where no pattern was refused
abbrev pub CompletesText : TextTask → ℕ → ℕ → Scene → Scene → Type 0
CompletesText given day status old new =
    NoneRose old new → ((what : PatternOf) → RefusedIn given day old new what → ⊥)
    → (told : Judged) → judged_in given day old ≡ Some told → (outcome_of told).status ≡ 0 → IsDone status

-- the journal of a connection loads: the empty one, or that of a text that is told
abbrev pub LoadsIn : Origin → Scene → Type 0
LoadsIn origins.Input s = Unit {0}
LoadsIn (origins.File name) s = (text : List ℕ) × (text_in (origins.File name) s ≡ Some (Ok text)) × (fault_of None text ≡ None)
LoadsIn (origins.Store name) s = (text : List ℕ) × (text_in (origins.Store name) s ≡ Some (Ok text)) × (fault_of None text ≡ None)

-- a connection to a journal that loads, over which whole messages within the limits come
abbrev pub CompletesTalk : Talking → ℕ → Scene → Scene → Type 0
CompletesTalk what status old new =
    NoneRose old new → LoadsIn what.origin old → (bytes : List ℕ) → old.left ≡ Some bytes → IsOfWhole bytes → IsDone status

-- a sample whose text loads
abbrev pub CompletesSample : ℕ → ℕ → Scene → Scene → Type 0
CompletesSample count status old new = NoneRose old new → fault_of None (sample_text count) ≡ None → IsDone status

-- ---- stores

-- a store of a text that loads, in files that are empty or absent, with the room; no store is a source of it
abbrev pub CompletesInit : Making → ℕ → Scene → Scene → Type 0
CompletesInit what status old new =
    NoneRose old new → (IsStore what.source → ⊥) → (text : List ℕ) → text_in what.source old ≡ Some (Ok text) → fault_of None text ≡ None → IsTrue old.files_told
    → files_refusal text what.limit (or_empty (old.file what.store)) (or_empty (old.file (second_name what.store))) ≡ None → IsDone status

-- the files of a store have an image whose text loads, and an edit of it stands or leaves the text as it is
abbrev pub AnswersWell : List ℕ → Request → ℕ → Scene → Type 0
AnswersWell name what day s =
    (shown : Image) × (image_under s.file name ≡ Some (Ok shown)) × (fault_of None shown.text ≡ None)
    × (reply_status ((answer_to (state_under s.file name shown) day what).reply) ≡ 0)

abbrev pub CompletesAdd : List ℕ → ℕ → ℕ → Scene → Scene → Type 0
CompletesAdd name day status old new =
    NoneRose old new → (Rose old.refusals new.refusals → ⊥) → IsTrue old.files_told → (entry : List ℕ) → text_in origins.Input old ≡ Some (Ok entry)
    → AnswersWell name (request.Add entry) day old → IsDone status

abbrev pub CompletesImport : Importing → ℕ → ℕ → Scene → Scene → Type 0
CompletesImport what day status old new =
    NoneRose old new → (Rose old.refusals new.refusals → ⊥) → IsTrue old.files_told → (csv rules : List ℕ)
    → file_within most_imported what.file (old.file what.file) ≡ Ok csv → file_within most_imported what.rules (old.file what.rules) ≡ Ok rules
    → AnswersWell what.store (request.Import what.name rules csv) day old → IsDone status

-- each of a store's two files has at most as many bytes as one may have
abbrev pub AreWithin : List ℕ → Scene → Type 0
AreWithin name s = (length (or_empty (s.file name)) ≤ most_stored) × (length (or_empty (s.file (second_name name))) ≤ most_stored)

-- a dry run of an import
abbrev pub CompletesPreview : Importing → ℕ → ℕ → Scene → Scene → Type 0
CompletesPreview what day status old new =
    NoneRose old new → (Rose old.refusals new.refusals → ⊥) → IsTrue old.files_told → (csv rules : List ℕ)
    → file_within most_imported what.file (old.file what.file) ≡ Ok csv → file_within most_imported what.rules (old.file what.rules) ≡ Ok rules
    → AreWithin what.store old → AnswersWell what.store (request.Import what.name rules csv) day old → IsDone status

-- a file of a bank that becomes entries by its rules
abbrev pub CompletesExplain : Explaining → ℕ → Scene → Scene → Type 0
CompletesExplain what status old new =
    NoneRose old new → (Rose old.refusals new.refusals → ⊥) → IsTrue old.files_told → (csv rules : List ℕ)
    → file_within most_imported what.file (old.file what.file) ≡ Ok csv → file_within most_imported what.rules (old.file what.rules) ≡ Ok rules
    → (txns : List Txn) → entries_of rules csv ≡ Ok txns → IsDone status

-- a text that takes the place of the one of a store
abbrev pub CompletesReplace : Replacing → ℕ → ℕ → Scene → Scene → Type 0
CompletesReplace what day status old new =
    NoneRose old new → (Rose old.refusals new.refusals → ⊥) → (IsStore what.source → ⊥) → IsTrue old.files_told → (text : List ℕ)
    → text_in what.source old ≡ Some (Ok text)
    → AnswersWell what.store (replacement what.base text (image_under old.file what.store)) day old → IsDone status

-- a store that is there feeds its frames
abbrev pub CompletesFeed : List ℕ → ℕ → Scene → Scene → Type 0
CompletesFeed name status old new =
    NoneRose old new → IsTrue old.files_told → (shown : Image) → image_under old.file name ≡ Some (Ok shown) → IsDone status

-- a replica follows all frames of a history, in their order, for each of which it has room
abbrev pub CompletesFollow : Following → ℕ → Scene → Scene → Type 0
CompletesFollow what status old new =
    NoneRose old new → IsTrue old.files_told → IsReady old.left old.file what.replica what.limit → IsDone status

abbrev pub CompletesStored : StoreTask → ℕ → ℕ → Scene → Scene → Type 0
CompletesStored (stored.Init what) day status old new = CompletesInit what status old new
CompletesStored (stored.Add name) day status old new = CompletesAdd name day status old new
CompletesStored (stored.Import what) day status old new = CompletesImport what day status old new
CompletesStored (stored.Preview what) day status old new = CompletesPreview what day status old new
CompletesStored (stored.Replace what) day status old new = CompletesReplace what day status old new
CompletesStored (stored.Explain what) day status old new = CompletesExplain what status old new
CompletesStored (stored.Feed name) day status old new = CompletesFeed name status old new
CompletesStored (stored.Follow what) day status old new = CompletesFollow what status old new

abbrev pub CompletesTask : ℕ → ℕ → Scene → Scene → Task → Type 0
CompletesTask day status old new (task.Over given) = CompletesText given day status old new
CompletesTask day status old new (task.Stored what) = CompletesStored what day status old new
CompletesTask day status old new (task.Talk what) = CompletesTalk what status old new
CompletesTask day status old new (task.Sample count) = CompletesSample count status old new
CompletesTask day status old new (task.Help subject) = NoneRose old new → IsDone status
CompletesTask day status old new task.Version = NoneRose old new → IsDone status

abbrev pub Completes : ℕ → ℕ → Scene → Scene → Result Task UsageFault → Type 0
Completes day status old new (Ok what) = CompletesTask day status old new what
Completes day status old new (Err fault) = Unit {0}
