-- What a store feeds, and what that leaves.
use Rattle.std.specs.Prelude.{◌≡◌, ◌≢◌, ◌⊎◌, ℕ, ◌≤◌, ◌++◌, ◌∷◌, [], max, false, List, Option, Some, None, Result, Ok, Err, IfOk, IfErr, OnOk, IfSome, IsTrue, length}
use Rattle.hl_base.specs.Causes.{Rose}
use Rattle.hl_base.specs.declared.disk.Disk.{Ghosts as Disks}
use Rattle.hl_base.specs.declared.shelf.Shelf.{Ghosts as Shelves}
use Rattle.text_store.specs.declared.fault.StoreFault.{StoreFault}
use Rattle.text_store.specs.declared.image.Image.{Image}
use Rattle.text_store.specs.declared.store.Store.{Store}
use Rattle.text_store.specs.Files.{opened_limit, opened_size, rest_of}
use Rattle.text_store.specs.Frames.{frames_of}
use Rattle.text_store.specs.Image.{Half, NoImage, half_image, image, live}
use Rattle.text_store.specs.Refusals.{Told}
use Rattle.text_store.specs.Stores.{Holds, Keeps, Shows, Tell, Throughout, disks, fault_count}
use Rattle.store_text.specs.Lending.{Lends}
use Rattle.store_text.specs.Reading.{ReadAs, Untaken, WereTaken}
use Rattle.store_text.specs.Refusals.{IsOfOpening, IsOfReading, cause_of, unopened, without_image}
use Rattle.store_text.specs.Shelved.{image_in, image_under, or_empty, second_name}
use Rattle.store_text.specs.declared.refusal.StoreRefusal.{StoreRefusal}
use Rattle.store_text.specs.declared.refusal.StoreRefusal.TheVariants as refusal

-- Frames of two files: those of the records of the half in use, up to its last gate; of an older store those of the half that is
-- written of it. That half has the image of the files, and as many bytes as what is in use of them.
pub record AreFed (first second frames : List ℕ) : Type 0 where
  pub half : Half
  pub shown : Image
  pub is_live : live (rest_of first second) ≡ Some half
  pub gives : half_image half ≡ Ok shown
  pub same : image first second ≡ Ok shown
  pub size : length (rest_of first second) ≡ opened_size first second
  pub frames_are : frames ≡ frames_of (rest_of first second)

-- files without an image are refused for this
abbrev pub RefusedFor : Result Image NoImage → StoreRefusal → Type 0
RefusedFor (Ok shown) r = ⊥
RefusedFor (Err none) r = r ≡ without_image none

abbrev pub RefusedIn : Option (Result Image NoImage) → StoreRefusal → Type 0
RefusedIn None r = r ≡ refusal.Absent
RefusedIn (Some found) r = RefusedFor found r

-- the frames of two files, or why there are none; a failed call and want of memory have no cause in the files
abbrev pub Feeds : Result (List ℕ) StoreRefusal → List ℕ → List ℕ → Type 0
Feeds (Ok frames) first second = AreFed first second frames
Feeds (Err r) first second = IfSome (cause_of r) (RefusedFor (image first second))

-- those of a store among the files of a shelf, whose second file may be absent
abbrev pub FeedsIn : Result (List ℕ) StoreRefusal → Option (List ℕ) → Option (List ℕ) → Type 0
FeedsIn (Ok frames) first second = (f : List ℕ) × (first ≡ Some f) × AreFed f (or_empty second) frames
FeedsIn (Err r) first second = IfSome (cause_of r) (RefusedIn (image_in first second))

-- what a store fed, as the answer of a command
abbrev pub of_fed : Result (List ℕ) StoreFault → Result (List ℕ) StoreRefusal
of_fed (Ok frames) = Ok frames
of_fed (Err fault) = Err (unopened fault)

-- The frames of a store that was opened were read from the half in use, or why not; its image stays, at any moment.
pub record FeedsOpen {D : Type 0} {g : Disks D} (store : Store D g) (new : D × D) (result : Result (List ℕ) StoreRefusal) : Type 0 where
  pub end : Store D g
  pub closed : new ≡ disks end
  pub frames : IfOk result (λ frames. (shown : Image) (held : Holds store shown) → frames ≡ frames_of (held.front ++ 0 ∷ []))
  pub held : (shown : Image) → Holds store shown → Holds end shown
  pub any_moment : (shown : Image) → Holds store shown → Tell g (disks store) → Throughout g (disks store) (disks end) (Shows shown)
  pub kind : IfErr result (λ r. (r ≡ refusal.DiskFault) ⊎ (r ≡ refusal.Memory))
  pub rose : result ≡ Err refusal.DiskFault → Rose (fault_count g (disks store)) (fault_count g (disks end))
  pub no_fault : OnOk result (fault_count g (disks end) ≡ fault_count g (disks store))
  pub keeps : Keeps g (disks store) (disks end) (0, 0)

-- files that a crash might have left before, or files with the image, or the want of one, of those that the disks read as
abbrev pub WhileFed : {D : Type 0} → Disks D → D × D → List ℕ → List ℕ → List ℕ → List ℕ → Type 0
WhileFed g old seen_first seen_second first second =
    (g.may_leave old.0 first × g.may_leave old.1 second) ⊎ (image first second ≡ image seen_first seen_second)

-- The frames of the store of two disks, or why there are none.
pub record FeedsDisks {D : Type 0} (g : Disks D) (old new : D × D) (result : Result (List ℕ) StoreRefusal) : Type 0 where
  pub frames : Told g old (λ first second. Feeds result first second)
  -- they read as files with the same image, or the same want of one, also after a disk fault
  pub stays : Told g old (λ first second. ReadAs g new (λ f s. image f s ≡ image first second))
  -- a crash at any moment leaves files that it might have left before, or files with the image, or the want of one, of these
  pub any_moment : Told g old (λ first second. Tell g old → Throughout g old new (WhileFed g old first second))
  pub kind : IfErr result IsOfOpening
  pub rose : result ≡ Err refusal.DiskFault → Rose (fault_count g old) (fault_count g new)
  pub no_fault : OnOk result (fault_count g new ≡ fault_count g old)
  pub keeps : Told g old (λ first second. Keeps g old new
      (max (opened_limit first second) (length first), max (opened_limit first second) (length second)))

-- The frames of the store of a name among the files of a shelf, or why there are none.
pub record FeedsStore {S D : Type 0} (s : Shelves S D) (g : Disks D) (name : List ℕ) (old new : S) (result : Result (List ℕ) StoreRefusal) : Type 0 where
  -- what its files say, where they are told
  pub frames : IsTrue ((s.tells old).files) → FeedsIn result (s.file old name) (s.file old (second_name name))
  -- its image, or the want of one, stays, also after a disk fault
  pub stays : IsTrue ((s.tells old).files) → image_under (s.file new) name ≡ image_under (s.file old) name
  -- and so each crash leaves it
  pub crash : IsTrue ((s.tells old).files) → IsTrue ((s.tells old).crashes) → WereTaken result → (first second : List ℕ)
      → s.may_leave new name first → s.may_leave new (second_name name) second → Some (image first second) ≡ image_under (s.file old) name
  -- each name but those of the store's files keeps what stands under it
  pub others : (other : List ℕ) → other ≢ name → other ≢ second_name name → s.file new other ≡ s.file old other
  pub kind : IfErr result IsOfReading
  -- a call failed only where the count rose: of the shelf's takes, with the name of the file, or of the disks that came back
  pub read_fault : result ≡ Err refusal.ReadFault → Rose (s.faults old) (s.faults new)
      × ((s.last_failed new ≡ Some name) ⊎ (s.last_failed new ≡ Some (second_name name)))
  pub disk_fault : result ≡ Err refusal.DiskFault → Rose (s.disk_faults old) (s.disk_faults new)
  pub no_read_fault : result ≢ Err refusal.ReadFault → (s.faults new ≡ s.faults old) × (s.last_failed new ≡ s.last_failed old)
  pub no_disk_fault : OnOk result (s.disk_faults new ≡ s.disk_faults old)
  pub later : (s.faults old ≤ s.faults new) × (s.disk_faults old ≤ s.disk_faults new)
  pub sound : s.IsSound old → (result ≢ Err refusal.ReadFault) × s.IsSound new
  pub tells : s.tells new ≡ s.tells old
  -- its disks were taken and came back, and in between a crash at any moment left the image; or they weren't taken
  pub way : ((lent : D × D) × (back : D × D) × Lends s g false name (second_name name) old new lent back × FeedsDisks g lent back result)
      ⊎ Untaken s g name old new result
