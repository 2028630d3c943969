-- What the disks of a follower show, and what a crash leaves of them.
use Rattle.std.specs.Prelude.{◌≡◌, ◌⊎◌, false, List, ℕ, Option, Some, None, IsSomeAnd, Ok}
use Rattle.hl_base.specs.declared.disk.Disk.{Ghosts}
use Rattle.text_store.specs.declared.image.Image.{Image}
use Rattle.text_store.specs.declared.store.Store.{Store}
use Rattle.text_store.specs.Image.{image}
use Rattle.text_store.specs.Stores.{Holds, MayShow, repair_due}

-- The store stands for an image: a crash now leaves files that show it, or that with a frame taken that was refused for a disk
-- fault since the last one that was taken, if there is one.
abbrev pub Stands : {D : Type 0} {g : Ghosts D} → Store D g → Image → Option Image → Type 0
Stands store shown None = ((repair_due store ≡ false) × Holds store shown) ⊎ MayShow store shown shown
Stands store shown (Some other) = MayShow store shown other

-- two files show an image, or one of two others, if these are there
abbrev pub ShowsOne : Image → Option Image → Option Image → List ℕ → List ℕ → Type 0
ShowsOne shown pending next first second =
    (image first second ≡ Ok shown) ⊎ (IsSomeAnd pending (λ other. image first second ≡ Ok other) ⊎ IsSomeAnd next (λ other. image first second ≡ Ok other))
