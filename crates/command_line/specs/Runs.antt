-- What a run does.
use Rattle.std.specs.Prelude.{◌≡◌, ◌≢◌, ◌⊎◌, ℕ, List, IfSome, IsOk, OnOk, IfErr, Result, Ok, Err, length}
use Rattle.hl_base.specs.Causes.{Rose}
use Rattle.book_commands.specs.Answers.{Finds, MakerStays}
use Rattle.refusals.specs.Errors.{disk_fault_line, memory_line, pattern_line, read_fault_line, write_fault_line}
use Rattle.refusals.specs.Outcomes.{outcome_of}
use Rattle.refusals.specs.declared.refusal.PatternOf.{PatternOf}
use Rattle.refusals.specs.declared.refusal.Refusal.{Refusal}
use Rattle.refusals.specs.declared.refusal.Refusal.TheVariants as refusal
use Rattle.command_words.specs.declared.task.Origin.{Origin}
use Rattle.command_words.specs.declared.task.TextTask.{TextTask}
use Rattle.command_words.specs.declared.task.Task.{Task}
use Rattle.command_words.specs.declared.task.Task.TheVariants as task
use Rattle.command_words.specs.declared.usage.UsageFault.{UsageFault}
use Rattle.command_line.specs.Answers.{FindsText, IsErrorLine, IsNamed, IsOfAnswer, IsOfSource, IsStore, IsTextStatus, Says, Wrote, WrotePrefix}
use Rattle.command_words.specs.Commands.{usage_of}
use Rattle.command_line.specs.Help.{help_of, version_text}
use Rattle.command_line.specs.Scenes.{FilesStay, IsReadWhole, MayRefuseIn, OtherStays, OutputsStay, RefusedIn, Scene, Soundness, SourceIsSound, SourceRose, TellsIn, judged_in, telling, text_in}

-- A text was read from the input, a file or a store, or why not.
pub record ReadsText (origin : Origin) (result : Result (List ℕ) Refusal) (old new : Scene) : Type 0 where
  pub found : IfSome (text_in origin old) (FindsText result)
  pub kind : IfErr result (IsOfSource origin)
  pub whole : OnOk result (IsReadWhole origin old new)
  pub rose : result ≡ Err refusal.ReadFault → SourceRose origin old new
  pub disk_rose : result ≡ Err refusal.DiskFault → Rose old.disk_faults new.disk_faults
  pub other : OtherStays origin old new
  pub files : FilesStay origin old new
  pub outputs : OutputsStay old new
  pub maker : MakerStays (telling old new)

-- What a command answers to a text before anything is written: its output, or why there is none.
pub record AnswersText (given : TextTask) (day : ℕ) (result : Result (List ℕ) Refusal) (old new : Scene) : Type 0 where
  pub found : IfSome (judged_in given day old) (Finds result)
  pub kind : IsOfAnswer given.origin result
  pub whole : OnOk result (IsReadWhole given.origin old new)
  pub rose : result ≡ Err refusal.ReadFault → SourceRose given.origin old new
  pub disk_rose : result ≡ Err refusal.DiskFault → Rose old.disk_faults new.disk_faults
  pub other : OtherStays given.origin old new
  pub files : FilesStay given.origin old new
  pub outputs : OutputsStay old new
  pub maker : TellsIn given day old new result

-- The words have no reading: their line is said, with status 2, or want of memory is; all else stays.
pub record RefusesWords (line : List ℕ) (status : ℕ) (old new : Scene) : Type 0 where
  pub said : Says status 2 line old.error new.error old.error_faults new.error_faults
      ⊎ Says status 6 memory_line old.error new.error old.error_faults new.error_faults
  pub unread : (new.left ≡ old.left) × (new.shelf_faults ≡ old.shelf_faults)
  pub files : (name : List ℕ) → new.file name ≡ old.file name
  pub unwritten : new.output ≡ old.output
  pub maker : MakerStays (telling old new)

-- It is refused by its text or its words, as the definition says; or a pattern of its query or of a rule isn't built, and the
-- text isn't refused.
pub record RefusedText (given : TextTask) (day status : ℕ) (old new : Scene) : Type 0 where
  pub unwritten : new.output ≡ old.output
  pub cause : (IfSome (judged_in given day old) (λ told.
      ((outcome_of told).status ≡ status) × Wrote old.error new.error (outcome_of told).error) × MakerStays (telling old new))
      ⊎ ((what : PatternOf) × RefusedIn given day old new what × (status ≡ 1)
      × Wrote old.error new.error (pattern_line what) × IfSome (judged_in given day old) IsOk)

-- A write to the output failed, and that is said.
abbrev pub OutputFailed : ℕ → Scene → Scene → Type 0
OutputFailed status old new = Rose old.output_faults new.output_faults
    × Says status 4 write_fault_line old.error new.error old.error_faults new.error_faults

-- A write to the error output failed, and nothing was written to the output.
abbrev pub ErrorFailed : Scene → Scene → Type 0
ErrorFailed old new = Rose old.error_faults new.error_faults × (new.output ≡ old.output)

-- What a command does over the text of the input, of a file or of a store, on a day.
pub record RunsText (given : TextTask) (day status : ℕ) (old new : Scene) : Type 0 where
  -- the words have a reading
  pub read : status ≢ 2
  -- all was done: the input was read to its end, and the output was written
  pub done : status ≡ 0 → (new.error ≡ old.error) × IsReadWhole given.origin old new × MakerStays (telling old new)
      × IfSome (judged_in given day old) (λ told.
      ((outcome_of told).status ≡ 0) × Wrote old.output new.output (outcome_of told).output)
  -- it was refused, and nothing of an output was written
  pub refused : IsTextStatus status → RefusedText given day status old new
  -- there is no file or store of the name, so one was named
  pub named : status ≡ 8 → IsNamed given.origin
  -- the source couldn't be read, or the disks of the store
  pub read_fault : status ≡ 3 → SourceRose given.origin old new × MakerStays (telling old new)
      × (new.output ≡ old.output) × Wrote old.error new.error read_fault_line
  pub disk_fault : status ≡ 5 → IsStore given.origin × Rose old.disk_faults new.disk_faults × MakerStays (telling old new)
      × (new.output ≡ old.output) × Wrote old.error new.error disk_fault_line
  -- a write failed: one to the output, after a front of it; or one to the error output, after a front of a line that says
  -- why there is none
  pub write_fault : status ≡ 4 → (OutputFailed status old new × IfSome (judged_in given day old) (λ told.
      WrotePrefix old.output new.output (outcome_of told).output))
      ⊎ (ErrorFailed old new × IfSome (judged_in given day old) (λ told. (line : List ℕ)
      × IsErrorLine given.work (outcome_of told) line × WrotePrefix old.error new.error line))
  -- memory ran out, and nothing of an output was written
  pub memory : status ≡ 6 → (new.output ≡ old.output) × Wrote old.error new.error memory_line
  -- no pattern was refused but one of the query's words or of a rule
  pub maker : MayRefuseIn given day old new
  pub other : OtherStays given.origin old new
  pub files : FilesStay given.origin old new

-- A text is written that neither the input nor the day changes.
pub record Prints (text : List ℕ) (status : ℕ) (old new : Scene) : Type 0 where
  pub statuses : (status ≡ 0) ⊎ ((status ≡ 4) ⊎ (status ≡ 6))
  pub written : status ≡ 0 → Wrote old.output new.output text
  pub quiet : status ≡ 0 → new.error ≡ old.error
  pub prefix : WrotePrefix old.output new.output text
  -- a write failed: one to the output, or one to the error output of the line that tells want of memory
  pub write_fault : status ≡ 4 → OutputFailed status old new
      ⊎ (ErrorFailed old new × WrotePrefix old.error new.error memory_line)
  pub memory : status ≡ 6 → (new.output ≡ old.output) × Wrote old.error new.error memory_line
  pub unread : (new.left ≡ old.left) × (new.shelf_faults ≡ old.shelf_faults)
  pub files : (name : List ℕ) → new.file name ≡ old.file name
  pub maker : MakerStays (telling old new)

-- what a run does on a day, by what is asked for; `StoresTask` says what one does over a store that changes, of a connection and of
-- a sample
abbrev pub RunsTask : ℕ → ℕ → Scene → Scene → Task → Type 0
RunsTask day status old new (task.Over given) = RunsText given day status old new
RunsTask day status old new (task.Stored what) = status ≢ 2
RunsTask day status old new (task.Talk what) = status ≢ 2
RunsTask day status old new (task.Sample count) = status ≢ 2
RunsTask day status old new (task.Help subject) = Prints (help_of subject) status old new
RunsTask day status old new task.Version = Prints version_text status old new

-- What a run does with its words on a day.
abbrev pub Runs : List (List ℕ) → ℕ → ℕ → Scene → Scene → Result Task UsageFault → Type 0
Runs words day status old new (Ok what) = RunsTask day status old new what
Runs words day status old new (Err fault) = RefusesWords (usage_of words fault) status old new

-- Of a command over a text nothing of the outside is said to have failed that can't fail: a source that is sound, and outputs
-- with room.
pub record TextSoundly (given : TextTask) (day status : ℕ) (old : Scene) (sound : Soundness) : Type 0 where
  pub source : SourceIsSound given.origin sound → status ≢ 3
  pub outputs : IfSome (judged_in given day old) (λ told. sound.output (length (outcome_of told).output)
      → ((line : List ℕ) → IsErrorLine given.work (outcome_of told) line → sound.error (length line)) → status ≢ 4)

abbrev pub TaskSoundly : ℕ → ℕ → Scene → Soundness → Task → Type 0
TaskSoundly day status old sound (task.Over given) = TextSoundly given day status old sound
TaskSoundly day status old sound (task.Stored what) = Unit {0}
TaskSoundly day status old sound (task.Talk what) = Unit {0}
TaskSoundly day status old sound (task.Sample count) = Unit {0}
TaskSoundly day status old sound (task.Help subject) = sound.output (length (help_of subject)) → sound.error (length memory_line) → status ≢ 4
TaskSoundly day status old sound task.Version = sound.output (length version_text) → sound.error (length memory_line) → status ≢ 4

-- and of words without a reading no write, if there is room for their line
abbrev pub RunsSoundly : List (List ℕ) → ℕ → ℕ → Scene → Soundness → Result Task UsageFault → Type 0
RunsSoundly words day status old sound (Ok what) = TaskSoundly day status old sound what
RunsSoundly words day status old sound (Err fault) =
    sound.error (length (usage_of words fault)) → sound.error (length memory_line) → status ≢ 4
