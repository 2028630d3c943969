-- What following a source does to a replica among the files of a shelf.
use Rattle.std.specs.Prelude.{◌≡◌, ◌≢◌, ◌⊎◌, ℕ, ◌+◌, ◌≤◌, true, List, [], Option, Some, Result, Ok, Err, IfOk, IfErr, OnOk, IsTrue}
use Rattle.hl_base.specs.Causes.{Rose}
use Rattle.hl_base.specs.declared.disk.Disk.{Ghosts as Disks}
use Rattle.hl_base.specs.declared.outside.Source.{Ghosts as Sources}
use Rattle.hl_base.specs.declared.shelf.Shelf.{Ghosts as Shelves}
use Rattle.text_store.specs.declared.change.Change.{Change}
use Rattle.text_store.specs.declared.image.Image.{Image}
use Rattle.text_store.specs.Image.{image}
use Rattle.follower.specs.Histories.{IsAfter}
use Rattle.follower.specs.declared.fault.FrameFault.TheVariants as frame_fault
use Rattle.follow_commands.specs.Genuine.{HasFrames}
use Rattle.follow_commands.specs.Whole.{HasAll, IsBehind}
use Rattle.store_text.specs.Lending.{AreUntaken, Lends}
use Rattle.store_text.specs.Shelved.{image_under, or_empty, second_name}
use Rattle.store_text.specs.declared.refusal.StoreRefusal.TheVariants as store_refusal
use Rattle.store_following.specs.Ready.{IsFailed, IsReady}
use Rattle.store_following.specs.Replicas.{FollowsDisks}
use Rattle.store_following.specs.declared.refusal.FollowRefusal.{FollowRefusal}
use Rattle.store_following.specs.declared.refusal.FollowRefusal.TheVariants as refusal
use Rattle.store_following.specs.declared.refusal.Followed.{Followed}

-- there is no replica of a name yet: its two files are absent or empty
abbrev pub IsNew : (List ℕ → Option (List ℕ)) → List ℕ → Type 0
IsNew file name = (or_empty (file name) ≡ []) × (or_empty (file (second_name name)) ≡ [])

-- its image is that after the first n changes of a history
pub record HasAfter (start : Image) (changes : List Change) (file : List ℕ → Option (List ℕ)) (name : List ℕ) (n : ℕ) : Type 0 where
  pub shown : Image
  pub under : image_under file name ≡ Some (Ok shown)
  pub after : IsAfter start n changes shown

-- the same, once a source of frames of that history was followed to its end, and not an earlier one
pub record HasLed (start : Image) (changes : List Change) (file : List ℕ → Option (List ℕ)) (name : List ℕ) (n : ℕ) (followed : Followed) : Type 0 where
  pub count : ℕ
  pub later : n ≤ count
  pub revision : followed.revision ≡ start.revision + count
  pub has : HasAfter start changes file name count

-- the same of a source that was followed up to a refusal
pub record HasLater (start : Image) (changes : List Change) (file : List ℕ → Option (List ℕ)) (name : List ℕ) (n : ℕ) : Type 0 where
  pub count : ℕ
  pub later : n ≤ count
  pub has : HasAfter start changes file name count

-- its image is one of a history, or one from before it
pub record HasEarlier (start : Image) (changes : List Change) (file : List ℕ → Option (List ℕ)) (name : List ℕ) : Type 0 where
  pub shown : Image
  pub under : image_under file name ≡ Some (Ok shown)
  pub behind : IsBehind start changes shown

-- no call of the shelf or of a disk failed
abbrev pub IsKept : FollowRefusal → Type 0
IsKept (refusal.Store store_refusal.ReadFault) = ⊥
IsKept (refusal.Store store_refusal.DiskFault) = ⊥
IsKept _ = Unit {0}

-- the disks weren't taken, for this
abbrev pub Untaken : {S D : Type 0} → Shelves S D → Disks D → List ℕ → S → S → Result Followed FollowRefusal → Type 0
Untaken s g name old new (Ok followed) = ⊥
Untaken s g name old new (Err (refusal.Store r)) = ((old ≡ new) × (r ≡ store_refusal.Memory)) ⊎ AreUntaken s g true name (second_name name) old new r
Untaken s g name old new (Err (refusal.Unread fault)) = ⊥
Untaken s g name old new (Err refusal.NoSnapshot) = ⊥
Untaken s g name old new (Err refusal.Payload) = ⊥

-- A replica among the files of a shelf follows a source. An absent file is an empty one.
pub record FollowsStore {J S D : Type 0} (i : Sources J) (s : Shelves S D) (g : Disks D) (name : List ℕ) (limit : ℕ) (source source_then : J) (old new : S) (result : Result Followed FollowRefusal) : Type 0 where
  -- at the end of the source its files have an image of the revision that is told
  pub shows : IsTrue ((s.tells old).files) → IfOk result (λ followed. (shown : Image) × (image_under (s.file new) name ≡ Some (Ok shown)) × (shown.revision ≡ followed.revision))
  -- where the source has any frames of one history, a new replica then has an image of it, and one that had an image of it has one
  -- that isn't earlier
  pub begins : IsTrue ((s.tells old).files) → IsNew (s.file old) name → (start : Image) (changes : List Change)
      → HasFrames (i.left source) start changes → IfOk result (HasLed start changes (s.file new) name 0)
  pub goes_on : IsTrue ((s.tells old).files) → (start : Image) (changes : List Change) (n : ℕ)
      → HasFrames (i.left source) start changes → HasAfter start changes (s.file old) name n → IfOk result (HasLed start changes (s.file new) name n)
  -- at a refusal, but for a failed call of the shelf or of a disk, the frames before it are kept
  pub kept_new : IsTrue ((s.tells old).files) → IsNew (s.file old) name → (start : Image) (changes : List Change)
      → HasFrames (i.left source) start changes → IfErr result (λ r. IsKept r → IsNew (s.file new) name ⊎ HasLater start changes (s.file new) name 0)
  pub kept : IsTrue ((s.tells old).files) → (start : Image) (changes : List Change) (n : ℕ)
      → HasFrames (i.left source) start changes → HasAfter start changes (s.file old) name n → IfErr result (λ r. IsKept r → HasLater start changes (s.file new) name n)
  -- where it has all of them in their order, a new replica then has the last image, and so has one that had an image of the history,
  -- or one from before it
  pub whole : IsTrue ((s.tells old).files) → (last : Image) (all : HasAll (i.left source) last)
      → IsNew (s.file old) name ⊎ HasEarlier all.start all.changes (s.file old) name → OnOk result (image_under (s.file new) name ≡ Some (Ok last))
  -- where each frame has room too, nothing is refused but for a failed call or want of memory
  pub complete : IsTrue ((s.tells old).files) → IsReady (i.left source) (s.file old) name limit → IfErr result IsFailed
  -- and so each crash leaves it
  pub crash : IsTrue ((s.tells old).files) → IsTrue ((s.tells old).crashes) → IfOk result (λ _. (first second : List ℕ)
      → s.may_leave new name first → s.may_leave new (second_name name) second → Some (image first second) ≡ image_under (s.file new) name)
  -- each name but those of the replica's files keeps what stands under it
  pub others : (other : List ℕ) → other ≢ name → other ≢ second_name name → s.file new other ≡ s.file old other
  -- a call failed only where the count rose: of the source's reads, of the shelf's takes, with the name of the file, or of the disks
  pub input_fault : result ≡ Err (refusal.Unread frame_fault.ReadFault) → Rose (i.faults source) (i.faults source_then)
  pub read_fault : result ≡ Err (refusal.Store store_refusal.ReadFault) → Rose (s.faults old) (s.faults new)
      × ((s.last_failed new ≡ Some name) ⊎ (s.last_failed new ≡ Some (second_name name)))
  pub disk_fault : result ≡ Err (refusal.Store store_refusal.DiskFault) → Rose (s.disk_faults old) (s.disk_faults new)
  pub no_read_fault : result ≢ Err (refusal.Store store_refusal.ReadFault) → (s.faults new ≡ s.faults old) × (s.last_failed new ≡ s.last_failed old)
  pub later : (s.faults old ≤ s.faults new) × (s.disk_faults old ≤ s.disk_faults new)
  pub sound : s.IsSound old → (result ≢ Err (refusal.Store store_refusal.ReadFault)) × s.IsSound new
  pub sound_input : i.IsSound source → result ≢ Err (refusal.Unread frame_fault.ReadFault)
  pub tells : s.tells new ≡ s.tells old
  -- its disks were taken and came back, and in between they followed the source; or they weren't taken, and no byte of it was read
  pub way : ((lent : D × D) × (back : D × D) × Lends s g true name (second_name name) old new lent back × FollowsDisks i g source source_then lent back limit result)
      ⊎ ((source_then ≡ source) × Untaken s g name old new result)
