-- What a store feeds, as frames of one history, and what a replica that follows them has.
use Rattle.std.specs.Prelude.{◌≡◌, ◌⊎◌, ℕ, ◌^◌, ◌≤◌, List, length, Some, Result, Ok, OnOk, IsTrue}
use Rattle.hl_base.specs.declared.disk.Disk.{Ghosts as Disks}
use Rattle.hl_base.specs.declared.outside.Source.{Ghosts as Sources}
use Rattle.hl_base.specs.declared.shelf.Shelf.{Ghosts as Shelves}
use Rattle.text_store.specs.declared.image.Image.{Image}
use Rattle.follower.specs.Histories.{IsAfter}
use Rattle.follow_commands.specs.Genuine.{HasFrames}
use Rattle.follow_commands.specs.Whole.{HasAll}
use Rattle.store_feeding.specs.Feeding.{FeedsStore}
use Rattle.store_following.specs.Following.{FollowsStore, HasEarlier, IsNew}
use Rattle.store_following.specs.declared.refusal.FollowRefusal.{FollowRefusal}
use Rattle.store_following.specs.declared.refusal.Followed.{Followed}
use Rattle.store_text.specs.Shelved.{image_under}

-- Frames are all of one history, in their order, of which an image is the last.
pub record AreOfHistory (frames : List ℕ) (shown : Image) : Type 0 where
  pub all : HasAll (Some frames) shown
  pub genuine : HasFrames (Some frames) all.start all.changes
  pub after : IsAfter all.start (length all.changes) all.changes shown

-- What the store of a name feeds is followed by a replica that is new, or that has an image of its history, or one from before that:
-- at Ok the replica has the store's image.
abbrev pub IsFollowed : {J E F D S : Type 0} → Sources J → Shelves E F → Disks F → Shelves S D → Disks D → List ℕ → Type 0
IsFollowed {J} {E} {F} {D} {S} i fed_shelf fed_disk s g frames =
    (name : List ℕ) (before after : E) (shown : Image)
    → FeedsStore fed_shelf fed_disk name before after (Ok frames) → IsTrue ((fed_shelf.tells before).files)
    → image_under (fed_shelf.file before) name ≡ Some (Ok shown) → shown.revision ≤ 2 ^ 62
    → (history : AreOfHistory frames shown) × ((replica : List ℕ) (limit : ℕ) (source source_then : J) (old new : S) (result : Result Followed FollowRefusal)
    → FollowsStore i s g replica limit source source_then old new result → IsTrue ((s.tells old).files) → i.left source ≡ Some frames
    → IsNew (s.file old) replica ⊎ HasEarlier history.all.start history.all.changes (s.file old) replica
    → OnOk result (image_under (s.file new) replica ≡ Some (Ok shown)))
