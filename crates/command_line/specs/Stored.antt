-- The text of a store, as it is read from a shelf.
use Rattle.std.specs.Prelude.{◌≡◌, ◌≢◌, ◌⊎◌, ℕ, List, Some, Result, Err, IfErr, IsTrue}
use Rattle.hl_base.specs.Causes.{Rose}
use Rattle.hl_base.specs.declared.shelf.Shelf.{Ghosts as Shelves}
use Rattle.refusals.specs.Refusing.{Refuses}
use Rattle.refusals.specs.declared.refusal.Refusal.{Refusal}
use Rattle.refusals.specs.declared.refusal.Refusal.TheVariants as refusal
use Rattle.store_text.specs.Refusals.{line_of, status_of}
use Rattle.store_text.specs.Shelved.{image_under, second_name}
use Rattle.store_text.specs.declared.refusal.StoreRefusal.{StoreRefusal}
use Rattle.store_text.specs.declared.refusal.StoreRefusal.TheVariants as store
use Rattle.command_line.specs.Answers.{FindsText, IsOfStore}
use Rattle.command_line.specs.Files.{GoesOn}
use Rattle.command_line.specs.Sources.{store_under}

-- the refusal of a store of this name: one of a failed call or of want of memory, or its line
abbrev pub RefusesStore : Refusal → List ℕ → StoreRefusal → Type 0
RefusesStore r name store.ReadFault = r ≡ refusal.ReadFault
RefusesStore r name store.DiskFault = r ≡ refusal.DiskFault
RefusesStore r name store.Memory = r ≡ refusal.Memory
RefusesStore r name told = Refuses r (status_of told) (line_of name told)

-- The text of a store was read, or why not: its image, or the want of one, stays, and so does each file that isn't one of its two.
pub record StoreText {S D : Type 0} (s : Shelves S D) (name : List ℕ) (old new : S) (result : Result (List ℕ) Refusal) : Type 0 where
  pub found : IsTrue ((s.tells old).files) → FindsText result (store_under (s.file old) name)
  pub kind : IfErr result IsOfStore
  pub rose : result ≡ Err refusal.ReadFault → Rose (s.faults old) (s.faults new)
      × ((s.last_failed new ≡ Some name) ⊎ (s.last_failed new ≡ Some (second_name name)))
  pub disk_rose : result ≡ Err refusal.DiskFault → Rose (s.disk_faults old) (s.disk_faults new)
  pub others : (other : List ℕ) → other ≢ name → other ≢ second_name name → s.file new other ≡ s.file old other
  pub image : IsTrue ((s.tells old).files) → image_under (s.file new) name ≡ image_under (s.file old) name
  pub sound : s.IsSound old → result ≢ Err refusal.ReadFault
  pub goes_on : GoesOn s old new
