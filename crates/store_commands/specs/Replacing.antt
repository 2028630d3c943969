-- Replacing the text of a store.
use Rattle.std.specs.Prelude.{◌≡◌, ℕ, List, Option, Some, None, Result, Ok, Err, IsTrue}
use Rattle.hl_base.specs.declared.disk.Disk.{Ghosts as Disks}
use Rattle.hl_base.specs.declared.shelf.Shelf.{Ghosts as Shelves}
use Rattle.hl_time.specs.declared.day.Day.{Day}
use Rattle.text_store.specs.declared.image.Image.{Image}
use Rattle.text_store.specs.Image.{NoImage}
use Rattle.desk.specs.declared.desk.Desk.{Desk}
use Rattle.desk.specs.declared.reply.Reply.{Reply}
use Rattle.desk.specs.declared.request.Request.{Request}
use Rattle.desk.specs.declared.request.Request.TheVariants as request
use Rattle.store_text.specs.Shelved.{image_under}
use Rattle.store_making.specs.declared.refusal.JournalRefusal.{JournalRefusal}
use Rattle.store_commands.specs.Asking.{EditsStore, IsAsked, IsUnopened, OpensAs, Patterns, PatternsStay}

-- the base of a replacement: the revision that is there where none is given
abbrev pub base_or : Option ℕ → ℕ → ℕ
base_or (Some base) revision = base
base_or None revision = revision

-- the revision of an image; 0 where there is none
abbrev pub revision_of : Option (Result Image NoImage) → ℕ
revision_of (Some (Ok shown)) = shown.revision
revision_of (Some (Err none)) = 0
revision_of None = 0

-- the request that a text takes the place of the one of these files
abbrev pub replacement : Option ℕ → List ℕ → Option (Result Image NoImage) → Request
replacement base text found = request.Replace (base_or base (revision_of found)) text

-- Two disks were opened as a machine that was asked for it, or they weren't opened.
abbrev pub ReplacesDisks : {D : Type 0} → Disks D → D × D → D × D → List ℕ → Option ℕ → Day → Patterns → Result Reply JournalRefusal → Type 0
ReplacesDisks {D} g old new text base day p (Ok r) =
    (desk : Desk D g) × OpensAs g old desk × IsAsked desk (request.Replace (base_or base desk.live.revision) text) day p r new
ReplacesDisks g old new text base day p (Err e) = IsUnopened g old new e × PatternsStay p

-- A store was asked for it, or wasn't opened. Where no base is given, it is the revision that the store's files have.
pub record ReplacesStore {S D : Type 0} (s : Shelves S D) (g : Disks D) (name text : List ℕ) (base : Option ℕ) (day : Day) (p : Patterns) (old new : S)
    (result : Result Reply JournalRefusal) : Type 0 where
  pub revision : ℕ
  pub is : IsTrue ((s.tells old).files) → revision ≡ revision_of (image_under (s.file old) name)
  pub edits : EditsStore s g name (request.Replace (base_or base revision) text) day p old new result
