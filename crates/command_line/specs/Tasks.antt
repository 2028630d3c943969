-- What a run does to its objects, by what is asked for.
use Rattle.std.specs.Prelude.{ℕ, Result, Ok, Err}
use Rattle.hl_base.specs.declared.disk.Disk.{Ghosts as Disks}
use Rattle.hl_base.specs.declared.outside.Source.{Ghosts as Inputs}
use Rattle.hl_base.specs.declared.shelf.Shelf.{Ghosts as Shelves}
use Rattle.hl_time.specs.declared.day.Day.{Day}
use Rattle.query_terms.specs.declared.making.Maker.{Ghosts as Makers}
use Rattle.command_words.specs.declared.task.Task.{Task}
use Rattle.command_words.specs.declared.task.Task.TheVariants as task
use Rattle.command_words.specs.declared.usage.UsageFault.{UsageFault}
use Rattle.command_line.specs.Samples.{RunsSample}
use Rattle.command_line.specs.Scenes.{Scene, Soundness}
use Rattle.command_line.specs.StoreRuns.{RunsStored}
use Rattle.command_line.specs.Talks.{RunsTalk}
use Rattle.command_line.specs.declared.outside.Outside.{Outside}

-- that of a command over a store that changes or over frames, of a connection and of a sample
abbrev pub StoresTask : {J O E S D M : Type 0} → Inputs J → (Outside J O E S M → Scene) → (Outside J O E S M → Soundness) → Shelves S D → Disks D → Makers M → Day → ℕ
    → Outside J O E S M → Outside J O E S M → Task → Type 0
StoresTask j sc so s g m day status old new (task.Stored what) = RunsStored j sc so s g m what day status old new
StoresTask j sc so s g m day status old new (task.Talk what) = RunsTalk sc so s g m what day status old new
StoresTask j sc so s g m day status old new (task.Sample count) = RunsSample sc so count status old new
StoresTask j sc so s g m day status old new other = Unit {0}

abbrev pub Stores : {J O E S D M : Type 0} → Inputs J → (Outside J O E S M → Scene) → (Outside J O E S M → Soundness) → Shelves S D → Disks D → Makers M → Day → ℕ
    → Outside J O E S M → Outside J O E S M → Result Task UsageFault → Type 0
Stores j sc so s g m day status old new (Ok what) = StoresTask j sc so s g m day status old new what
Stores j sc so s g m day status old new (Err fault) = Unit {0}
