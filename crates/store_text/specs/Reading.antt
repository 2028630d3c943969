-- What reading a store's text gives, and what it leaves.
use Rattle.std.specs.Prelude.{◌≡◌, ◌≢◌, ◌⊎◌, ℕ, ◌≤◌, max, false, List, Some, Result, Ok, Err, IfErr, OnOk, IsTrue, length}
use Rattle.hl_base.specs.Causes.{Rose}
use Rattle.hl_base.specs.Gives.{Gives}
use Rattle.hl_base.specs.declared.disk.Disk.{Ghosts as Disks}
use Rattle.hl_base.specs.declared.shelf.Shelf.{Ghosts as Shelves}
use Rattle.text_store.specs.declared.image.Image.{Image}
use Rattle.text_store.specs.Files.{WhileOpened, opened_limit}
use Rattle.text_store.specs.Image.{image}
use Rattle.text_store.specs.Refusals.{Told}
use Rattle.text_store.specs.Stores.{Keeps, Tell, Throughout, fault_count}
use Rattle.store_text.specs.Lending.{AreUntaken, Lends, NoneFailed}
use Rattle.store_text.specs.Refusals.{IsOfOpening, IsOfReading, cause_of, text_in, text_of}
use Rattle.store_text.specs.Shelved.{image_under, second_name}
use Rattle.store_text.specs.declared.refusal.StoreRefusal.{StoreRefusal}
use Rattle.store_text.specs.declared.refusal.StoreRefusal.TheVariants as refusal

-- what two disks read as has P
abbrev pub ReadAs : {D : Type 0} → Disks D → D × D → (List ℕ → List ℕ → Type 0) → Type 0
ReadAs g pair P = (first : List ℕ) × (second : List ℕ) × (g.seen pair.0 ≡ Some first) × (g.seen pair.1 ≡ Some second) × P first second

-- The text of the image of two disks, or why there is none.
pub record ReadsDisks {D : Type 0} (g : Disks D) (old new : D × D) (result : Result (List ℕ) StoreRefusal) : Type 0 where
  pub text : Told g old (λ first second. Gives (λ bytes. bytes) cause_of result (text_of (image first second)))
  -- they read as files with the same image, or the same want of one, also after a disk fault
  pub stays : Told g old (λ first second. ReadAs g new (λ f s. image f s ≡ image first second))
  -- a crash at any moment leaves files that it might have left before, or files with the image, or the want of one, of these
  pub any_moment : Told g old (λ first second. Tell g old → Throughout g old new (WhileOpened g old first second))
  pub kind : IfErr result IsOfOpening
  pub rose : result ≡ Err refusal.DiskFault → Rose (fault_count g old) (fault_count g new)
  pub no_fault : OnOk result (fault_count g new ≡ fault_count g old)
  pub keeps : Told g old (λ first second. Keeps g old new
      (max (opened_limit first second) (length first), max (opened_limit first second) (length second)))

-- the disks were taken, as the result says
abbrev pub WereTaken : Result (List ℕ) StoreRefusal → Type 0
WereTaken (Ok text) = Unit {0}
WereTaken (Err (refusal.NotAStore at)) = Unit {0}
WereTaken (Err (refusal.Newer version)) = Unit {0}
WereTaken (Err refusal.DiskFault) = Unit {0}
WereTaken (Err _) = ⊥

-- the disks weren't taken, for this
abbrev pub Untaken : {S D : Type 0} → Shelves S D → Disks D → List ℕ → S → S → Result (List ℕ) StoreRefusal → Type 0
Untaken s g name old new (Ok text) = ⊥
Untaken s g name old new (Err r) = ((old ≡ new) × (r ≡ refusal.Memory)) ⊎ AreUntaken s g false name (second_name name) old new r

-- The text of the store of a name among the files of a shelf, or why there is none.
pub record ReadsStore {S D : Type 0} (s : Shelves S D) (g : Disks D) (name : List ℕ) (old new : S) (result : Result (List ℕ) StoreRefusal) : Type 0 where
  -- what its files say, where they are told
  pub text : IsTrue ((s.tells old).files) → Gives (λ bytes. bytes) cause_of result (text_in (image_under (s.file old) name))
  -- where they have an image and no call failed the text is given, but for want of memory
  pub complete : IsTrue ((s.tells old).files) → (shown : Image) → image_under (s.file old) name ≡ Some (Ok shown)
      → NoneFailed s old new → IfErr result (λ r. r ≡ refusal.Memory)
  -- its image, or the want of one, stays, also after a disk fault
  pub kept : IsTrue ((s.tells old).files) → image_under (s.file new) name ≡ image_under (s.file old) name
  pub stays : IsTrue ((s.tells old).files) → result ≢ Err refusal.DiskFault → image_under (s.file new) name ≡ image_under (s.file old) name
  -- and so each crash leaves it
  pub crash : IsTrue ((s.tells old).files) → IsTrue ((s.tells old).crashes) → WereTaken result → (first second : List ℕ)
      → s.may_leave new name first → s.may_leave new (second_name name) second → Some (image first second) ≡ image_under (s.file old) name
  -- each name but those of the store's files keeps what stands under it
  pub others : (other : List ℕ) → other ≢ name → other ≢ second_name name → s.file new other ≡ s.file old other
  pub kind : IfErr result IsOfReading
  -- a call failed only where the count rose: of the shelf's takes, with the name of the file, or of the disks that came back
  pub read_fault : result ≡ Err refusal.ReadFault → Rose (s.faults old) (s.faults new)
      × ((s.last_failed new ≡ Some name) ⊎ (s.last_failed new ≡ Some (second_name name)))
  pub disk_fault : result ≡ Err refusal.DiskFault → Rose (s.disk_faults old) (s.disk_faults new)
  pub no_read_fault : result ≢ Err refusal.ReadFault → (s.faults new ≡ s.faults old) × (s.last_failed new ≡ s.last_failed old)
  pub no_disk_fault : OnOk result (s.disk_faults new ≡ s.disk_faults old)
  pub later : (s.faults old ≤ s.faults new) × (s.disk_faults old ≤ s.disk_faults new)
  pub sound : s.IsSound old → (result ≢ Err refusal.ReadFault) × s.IsSound new
  pub tells : s.tells new ≡ s.tells old
  -- its disks were taken and came back, and in between a crash at any moment left the image; or they weren't taken
  pub way : ((lent : D × D) × (back : D × D) × Lends s g false name (second_name name) old new lent back × ReadsDisks g lent back result)
      ⊎ Untaken s g name old new result
