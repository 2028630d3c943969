-- The frames of a store, and a replica that follows frames.
use Rattle.std.specs.Prelude.{◌≡◌, ℕ, List, Result, Ok, Err}
use Rattle.hl_base.specs.declared.disk.Disk.{Ghosts as Disks}
use Rattle.hl_base.specs.declared.outside.Source.{Ghosts as Inputs}
use Rattle.hl_base.specs.declared.shelf.Shelf.{Ghosts as Shelves}
use Rattle.refusals.specs.declared.refusal.Refusal.{Refusal}
use Rattle.refusals.specs.declared.refusal.Refusal.TheVariants as refusal
use Rattle.store_text.specs.declared.refusal.StoreRefusal.{StoreRefusal}
use Rattle.store_feeding.specs.Feeding.{FeedsStore}
use Rattle.store_following.specs.Following.{FollowsStore}
use Rattle.store_following.specs.Lines.{followed_line, refusal_line, refusal_status}
use Rattle.store_following.specs.declared.refusal.FollowRefusal.{FollowRefusal}
use Rattle.store_following.specs.declared.refusal.Followed.{Followed}
use Rattle.command_words.specs.declared.task.Following.{Following}
use Rattle.command_line.specs.StoreTasks.{RefusedAs}
use Rattle.command_line.specs.Stored.{RefusesStore}
use Rattle.command_line.specs.declared.outside.Outside.{Outside}

-- ---- a store that feeds

-- the frames are the output, or why there are none, of a store of this name
abbrev pub ToldFrames : List ℕ → Result (List ℕ) StoreRefusal → Result (List ℕ) Refusal → Type 0
ToldFrames name (Ok frames) (Ok output) = output ≡ frames
ToldFrames name (Ok frames) (Err x) = ⊥
ToldFrames name (Err e) (Ok output) = ⊥
ToldFrames name (Err e) (Err x) = RefusesStore x name e

-- A store was asked for its frames. Nothing but the shelf is touched.
pub record FeedsFrames {J O E S D M : Type 0} (s : Shelves S D) (g : Disks D) (name : List ℕ) (old new : Outside J O E S M) (r : Result (List ℕ) Refusal) : Type 0 where
  pub fed : Result (List ℕ) StoreRefusal
  pub feeds : FeedsStore s g name old.shelf new.shelf fed
  pub told : ToldFrames name fed r
  pub rest : new ≡ record old { shelf = new.shelf }

-- ---- a replica that follows

-- a line is the output, or memory ran out
abbrev pub ToldFollowed : List ℕ → Result (List ℕ) Refusal → Type 0
ToldFollowed line (Ok output) = output ≡ line
ToldFollowed line (Err x) = x ≡ refusal.Memory

abbrev pub ToldFollowing : List ℕ → Result Followed FollowRefusal → Result (List ℕ) Refusal → Type 0
ToldFollowing name (Ok followed) result = ToldFollowed (followed_line followed) result
ToldFollowing name (Err e) (Ok output) = ⊥
ToldFollowing name (Err e) (Err x) = RefusedAs (refusal_status e) (refusal_line name e) x

-- A replica followed the input. Nothing but the input and the shelf is touched.
pub record FollowsFrames {J O E S D M : Type 0} (j : Inputs J) (s : Shelves S D) (g : Disks D) (what : Following) (old new : Outside J O E S M)
    (r : Result (List ℕ) Refusal) : Type 0 where
  pub made : Result Followed FollowRefusal
  pub follows : FollowsStore j s g what.replica what.limit old.streams.input new.streams.input old.shelf new.shelf made
  pub told : ToldFollowing what.replica made r
  pub rest : new ≡ record old { streams = record (old.streams) { input = new.streams.input }; shelf = new.shelf }
