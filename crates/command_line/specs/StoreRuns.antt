-- What a run over a store that changes does, or over frames, and how it ends.
use Rattle.std.specs.Prelude.{◌≡◌, ◌⊎◌, ℕ, List, Result, Ok, Err, length}
use Rattle.hl_base.specs.declared.disk.Disk.{Ghosts as Disks}
use Rattle.hl_base.specs.declared.outside.Source.{Ghosts as Inputs}
use Rattle.hl_base.specs.declared.shelf.Shelf.{Ghosts as Shelves}
use Rattle.hl_time.specs.declared.day.Day.{Day}
use Rattle.query_terms.specs.declared.making.Maker.{Ghosts as Makers}
use Rattle.refusals.specs.declared.refusal.Refusal.{Refusal}
use Rattle.refusals.specs.declared.refusal.Refusal.TheVariants as refusal
use Rattle.command_words.specs.declared.task.StoreTask.{StoreTask}
use Rattle.command_words.specs.declared.task.StoreTask.TheVariants as stored
use Rattle.command_line.specs.Answers.{Says, Wrote, WrotePrefix, line_of, status_of}
use Rattle.command_line.specs.BankFiles.{ExplainsBankFile}
use Rattle.command_line.specs.Frames.{FeedsFrames, FollowsFrames}
use Rattle.command_line.specs.Previewing.{PreviewsImport}
use Rattle.command_line.specs.Runs.{OutputFailed}
use Rattle.command_line.specs.Scenes.{Scene, Soundness}
use Rattle.command_line.specs.StoreTasks.{AddsEntry, ImportsFile, InitsStore, ReplacesText}
use Rattle.command_line.specs.declared.outside.Outside.{Outside}

-- what is answered before anything is written
abbrev pub AnswersStored : {J O E S D M : Type 0} → Inputs J → (Outside J O E S M → Scene) → Shelves S D → Disks D → Makers M → StoreTask → Day
    → Outside J O E S M → Outside J O E S M → Result (List ℕ) Refusal → Type 0
AnswersStored j sc s g m (stored.Init what) day old new r = InitsStore sc s g what old new r
AnswersStored j sc s g m (stored.Add name) day old new r = AddsEntry sc s g m name day old new r
AnswersStored j sc s g m (stored.Import what) day old new r = ImportsFile s g m what day old new r
AnswersStored j sc s g m (stored.Preview what) day old new r = PreviewsImport sc s m what day old new r
AnswersStored j sc s g m (stored.Replace what) day old new r = ReplacesText sc s g m what day old new r
AnswersStored j sc s g m (stored.Feed name) day old new r = FeedsFrames s g name old new r
AnswersStored j sc s g m (stored.Follow what) day old new r = FollowsFrames j s g what old new r
AnswersStored j sc s g m (stored.Explain what) day old new r = ExplainsBankFile s m what old new r

-- The answer was written and the status is 0; or a write to the output failed; or the line of a refusal was said, and nothing
-- was written to the output.
abbrev pub Ends : ℕ → Scene → Scene → Result (List ℕ) Refusal → Type 0
Ends status old new (Ok output) = ((status ≡ 0) × (new.error ≡ old.error) × Wrote old.output new.output output)
    ⊎ ((status ≡ 4) × OutputFailed status old new × WrotePrefix old.output new.output output)
Ends status old new (Err x) = Says status (status_of x) (line_of x) old.error new.error old.error_faults new.error_faults
    × (new.output ≡ old.output)

-- where an output has room for what is written, that doesn't fail
abbrev pub EndsSoundly : Soundness → ℕ → Result (List ℕ) Refusal → Type 0
EndsSoundly sound status (Ok output) = sound.output (length output) → status ≡ 0
EndsSoundly sound status (Err x) = sound.error (length (line_of x)) → status ≡ status_of x

-- A command over a store was answered, or memory ran out for its words; then its end was written, which leaves the shelf, the
-- maker of patterns and the input.
pub record RunsStored {J O E S D M : Type 0} (j : Inputs J) (sc : Outside J O E S M → Scene) (so : Outside J O E S M → Soundness) (s : Shelves S D) (g : Disks D) (m : Makers M)
    (what : StoreTask) (day : Day) (status : ℕ) (old new : Outside J O E S M) : Type 0 where
  pub last : Outside J O E S M
  pub answer : Result (List ℕ) Refusal
  pub answers : AnswersStored j sc s g m what day old last answer ⊎ ((answer ≡ Err refusal.Memory) × (last ≡ old))
  pub ends : Ends status (sc last) (sc new) answer
  pub soundly : EndsSoundly (so last) status answer
  pub stays : (new.shelf ≡ last.shelf) × (new.maker ≡ last.maker) × (new.streams.input ≡ last.streams.input)
