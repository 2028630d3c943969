-- A sample, which is loaded and told.
use Rattle.std.specs.Prelude.{◌≡◌, ◌⊎◌, ℕ, List, [], Option, Some, None, Result, Ok, Err, length}
use Rattle.live_journal.specs.Loading.{fault_of}
use Rattle.live_journal.specs.declared.fault.OpenFault.{OpenFault}
use Rattle.refusals.specs.declared.refusal.Refusal.{Refusal}
use Rattle.sample_text.specs.Sample.{sample_line, sample_text}
use Rattle.store_making.specs.Lines.{line_of as making_line, status_of as making_status}
use Rattle.store_making.specs.Refusals.{of_text}
use Rattle.store_making.specs.declared.refusal.JournalRefusal.{JournalRefusal}
use Rattle.store_making.specs.declared.refusal.JournalRefusal.TheVariants as making
use Rattle.command_line.specs.Scenes.{Scene, Soundness}
use Rattle.command_line.specs.StoreRuns.{Ends, EndsSoundly}
use Rattle.command_line.specs.StoreTasks.{RefusedAs}
use Rattle.command_line.specs.declared.outside.Outside.{Outside}

-- what is said of a sample: its line, where its text loads, and else the first fault of that
abbrev pub sample_said : ℕ → Option OpenFault → Result (List ℕ) JournalRefusal
sample_said count None = Ok (sample_line count (length (sample_text count)))
sample_said count (Some fault) = Err (of_text fault)

abbrev pub sample_answer : ℕ → Result (List ℕ) JournalRefusal
sample_answer count = sample_said count (fault_of None (sample_text count))

-- memory ran out
abbrev pub WantsMemory : Refusal → Type 0
WantsMemory x = RefusedAs (making_status making.Memory) (making_line [] making.Memory) x

abbrev pub ToldLine : List ℕ → Result (List ℕ) Refusal → Type 0
ToldLine line (Ok output) = output ≡ line
ToldLine line (Err x) = WantsMemory x

abbrev pub ToldSample : Result (List ℕ) JournalRefusal → Result (List ℕ) Refusal → Type 0
ToldSample (Ok line) result = ToldLine line result
ToldSample (Err e) (Ok output) = ⊥
ToldSample (Err e) (Err x) = RefusedAs (making_status e) (making_line [] e) x ⊎ WantsMemory x

-- A sample was told, and its end written. It reads nothing, and asks no file and no maker of patterns.
pub record RunsSample {J O E S M : Type 0} (sc : Outside J O E S M → Scene) (so : Outside J O E S M → Soundness) (count status : ℕ) (old new : Outside J O E S M) : Type 0 where
  pub answer : Result (List ℕ) Refusal
  pub told : ToldSample (sample_answer count) answer
  pub ends : Ends status (sc old) (sc new) answer
  pub soundly : EndsSoundly (so old) status answer
  pub stays : (new.shelf ≡ old.shelf) × (new.maker ≡ old.maker) × (new.streams.input ≡ old.streams.input)
