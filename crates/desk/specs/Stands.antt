-- What the disks of the machine show of its state, and what a crash leaves of them.
use Rattle.std.specs.Prelude.{◌≡◌, ◌⊎◌, ℕ, true, false, List, Option, Some, None, IsSomeAnd, Ok}
use Rattle.hl_base.specs.declared.disk.Disk.{Ghosts}
use Rattle.text_store.specs.declared.image.Image.{Image}
use Rattle.text_store.specs.declared.store.Store.{Store}
use Rattle.text_store.specs.Image.{image}
use Rattle.text_store.specs.Stores.{Holds, MayShow, repair_due}
use Rattle.desk.specs.declared.reply.Reply.{Reply}
use Rattle.desk.specs.Steps.{is_done, is_fault}

-- The store stands for an image: a crash now leaves files that show it, or that of the edit that was refused for a disk fault
-- since the last one that was acknowledged, if there is one.
abbrev pub Stands : {D : Type 0} {g : Ghosts D} → Store D g → Image → Option Image → Type 0
Stands store shown None = ((repair_due store ≡ false) × Holds store shown) ⊎ MayShow store shown shown
Stands store shown (Some other) = MayShow store shown other

-- two files show an image, or one of two others, if these are there
abbrev pub ShowsOne : Image → Option Image → Option Image → List ℕ → List ℕ → Type 0
ShowsOne shown pending next first second =
    (image first second ≡ Ok shown) ⊎ (IsSomeAnd pending (λ other. image first second ≡ Ok other) ⊎ IsSomeAnd next (λ other. image first second ≡ Ok other))

-- the edit that the disks may show beside the state, after a reply: none; but for `Done`, the one before; after a disk fault,
-- this edit
abbrev pub IsPending : Option Image → Option Image → Reply → Option Image → Type 0
IsPending before next r after =
    (after ≡ None) ⊎ (((is_done r ≡ false) × (after ≡ before)) ⊎ ((is_fault r ≡ true) × (after ≡ next)))
