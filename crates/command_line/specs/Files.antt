-- Files that are read whole, and what becomes of the shelf.
use Rattle.std.specs.Prelude.{◌≡◌, ◌≢◌, ℕ, ◌≤◌, List, Some, Result, Err, IfErr, IsTrue}
use Rattle.hl_base.specs.Causes.{Rose}
use Rattle.hl_base.specs.Shelf.{Keeps}
use Rattle.hl_base.specs.declared.shelf.Shelf.{Ghosts as Shelves}
use Rattle.refusals.specs.declared.refusal.Refusal.{Refusal}
use Rattle.refusals.specs.declared.refusal.Refusal.TheVariants as refusal
use Rattle.command_words.specs.declared.task.Origin.{Origin}
use Rattle.command_words.specs.declared.task.Origin.TheVariants as origins
use Rattle.command_line.specs.Answers.{FindsText, IsOfFile}
use Rattle.command_line.specs.Sources.{file_within}

-- A file was read, or why not: a failed call is told only where the count rose, with the name. All names keep what stands under them,
-- and what a crash leaves of them, and the shelf tells what it told before.
pub record LoadsFile {S D : Type 0} (s : Shelves S D) (most : ℕ) (name : List ℕ) (old new : S) (result : Result (List ℕ) Refusal) : Type 0 where
  pub found : IsTrue ((s.tells old).files) → FindsText result (file_within most name (s.file old name))
  pub kind : IfErr result IsOfFile
  pub rose : result ≡ Err refusal.ReadFault → Rose (s.faults old) (s.faults new) × (s.last_failed new ≡ Some name)
  pub same : result ≢ Err refusal.ReadFault → (s.faults new ≡ s.faults old) × (s.last_failed new ≡ s.last_failed old)
  pub later : s.faults old ≤ s.faults new
  pub disks : s.disk_faults new ≡ s.disk_faults old
  pub keeps : Keeps s.file s.may_leave s.left_since s.HasPlace old new (λ _. Unit {0})
  pub tells : s.tells new ≡ s.tells old
  pub sound : s.IsSound old → (result ≢ Err refusal.ReadFault) × s.IsSound new

-- what the shelf tells goes on where a store is read
pub record GoesOn {S D : Type 0} (s : Shelves S D) (old new : S) : Type 0 where
  pub later : (s.faults old ≤ s.faults new) × (s.disk_faults old ≤ s.disk_faults new)
  pub tells : s.tells new ≡ s.tells old
  pub sound : s.IsSound old → s.IsSound new

abbrev pub IsFile : Origin → Type 0
IsFile origins.Input = ⊥
IsFile (origins.File name) = Unit {0}
IsFile (origins.Store name) = ⊥

-- the shelf, where a text is read: only a file or a store is read of it
abbrev pub ReadsShelf : {S D : Type 0} → Shelves S D → ℕ → Origin → S → S → Result (List ℕ) Refusal → Type 0
ReadsShelf s most origins.Input old new result = new ≡ old
ReadsShelf s most (origins.File name) old new result = LoadsFile s most name old new result
ReadsShelf s most (origins.Store name) old new result = GoesOn s old new
