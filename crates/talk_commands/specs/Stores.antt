-- One connection to a store among the files of a shelf.
use Rattle.std.specs.Prelude.{◌≡◌, ◌≢◌, ◌⊎◌, ℕ, ◌≤◌, max, true, false, List, length, Option, Some, None, Result, Ok, Err, IsTrue}
use Rattle.hl_base.specs.Causes.{Rose}
use Rattle.hl_base.specs.declared.disk.Disk.{Ghosts as Disks}
use Rattle.hl_base.specs.declared.shelf.Shelf.{Ghosts as Shelves}
use Rattle.live_journal.specs.Loading.{fault_of}
use Rattle.text_store.specs.declared.image.Image.{Image}
use Rattle.text_store.specs.Files.{WhileOpened, opened_limit, opened_size}
use Rattle.text_store.specs.Image.{NoImage, image}
use Rattle.text_store.specs.Refusals.{Told}
use Rattle.text_store.specs.Stores.{Keeps, Tell, Throughout, bounds, disks, fault_count, limit_of}
use Rattle.desk.specs.declared.desk.Desk.{Desk}
use Rattle.desk.specs.declared.request.Allow.{Allow}
use Rattle.desk.specs.Desks.{Leads as DeskLeads, faults_of, shown_by, state_of}
use Rattle.desk.specs.Entries.{Entry}
use Rattle.desk.specs.Stands.{Stands}
use Rattle.desk.specs.States.{State}
use Rattle.store_text.specs.Lending.{Lends, NoneFailed}
use Rattle.store_text.specs.Shelved.{image_under, second_name}
use Rattle.store_text.specs.declared.refusal.StoreRefusal.TheVariants as refusal
use Rattle.store_making.specs.declared.refusal.JournalRefusal.{JournalRefusal}
use Rattle.store_making.specs.declared.refusal.JournalRefusal.TheVariants as journal
use Rattle.store_commands.specs.Asking.{IsUnasked, IsUnopened, Patterns, PatternsStay, limit_under, size_under}
use Rattle.web_desk.specs.declared.conn_end.ConnEnd.{ConnEnd}
use Rattle.talk_commands.specs.Histories.{Leads, ShowsLast, has_fault}
use Rattle.talk_commands.specs.Links.{IsHeld, IsSilent, Wire}

-- ---- two disks

-- A machine was opened on two disks, with what its requests may do. It stands for the image that they read as.
pub record IsOpened {D : Type 0} (g : Disks D) (level : Allow) (old : D × D) (desk : Desk D g) : Type 0 where
  pub shown : Told g old (λ f s. (image f s ≡ Ok (shown_by desk)) × Stands desk.store (shown_by desk) None × ((state_of desk).limit ≡ opened_limit f s))
  pub allowed : (state_of desk).allowed ≡ level
  -- its text makes a journal
  pub loads : fault_of None (state_of desk).text ≡ None
  -- its size is that of the half that they showed
  pub size : Told g old (λ f s. (state_of desk).size ≡ opened_size f s)
  -- a crash at any moment leaves files that it might have left before, or files with the image, or the want of one, of these
  pub any_moment : Told g old (λ f s. Tell g old → Throughout g old (disks desk.store) (WhileOpened g old f s))
  pub keeps : Told g old (λ f s. Keeps g old (disks desk.store) (max (opened_limit f s) (length f), max (opened_limit f s) (length s)))
  -- no call since reaches further than the limit, or than the length that the file had
  pub bounds : Told g old (λ f s.
      ((bounds desk.store).0 ≤ max (limit_of desk.store) (length f)) × ((bounds desk.store).1 ≤ max (limit_of desk.store) (length s)))
  pub no_fault : faults_of desk ≡ fault_count g old

-- A connection asked a machine by these entries, and its disks came back.
pub record IsTalked {D : Type 0} {g : Disks D} (desk : Desk D g) (day : ℕ) (p : Patterns) (w : Wire) (end : ConnEnd) (back : D × D) (entries : List Entry) : Type 0 where
  pub now : Desk D g
  pub led : DeskLeads desk entries now
  pub held : IsHeld day p w end entries
  pub returned : back ≡ disks now.store

-- A connection asked a machine, and its disks came back; or memory ran out before, and they came back as they were.
abbrev pub TalksDesk : {D : Type 0} {g : Disks D} → Desk D g → ℕ → Patterns → Wire → Result ConnEnd JournalRefusal → D × D → Type 0
TalksDesk desk day p w (Ok end) back = (entries : List Entry) × IsTalked desk day p w end back entries
TalksDesk desk day p w (Err e) back = (e ≡ journal.Memory) × (back ≡ disks desk.store) × PatternsStay p × IsSilent w

-- Two disks were opened as a machine that a connection asked by these entries.
abbrev pub AskedBy : {D : Type 0} → Disks D → Allow → D × D → D × D → ℕ → Patterns → Wire → ConnEnd → List Entry → Type 0
AskedBy {D} g level old new day p w end entries = (desk : Desk D g) × IsOpened g level old desk × IsTalked desk day p w end new entries

-- They were, or they weren't opened.
abbrev pub TalksDisks : {D : Type 0} → Disks D → Allow → D × D → D × D → ℕ → Patterns → Wire → Result ConnEnd JournalRefusal → Type 0
TalksDisks g level old new day p w (Ok end) = (entries : List Entry) × AskedBy g level old new day p w end entries
TalksDisks g level old new day p w (Err e) = IsUnopened g old new e × PatternsStay p × IsSilent w

-- ---- files

-- the state of a machine that was opened on an image
abbrev pub opened_state : Allow → Image → ℕ → ℕ → State
opened_state level shown size limit =
    record { text = shown.text; latest = shown.latest; revision = shown.revision; allowed = level; size = size; limit = limit }

-- that of the store of a name whose files have this image
abbrev pub state_under : Allow → (List ℕ → Option (List ℕ)) → List ℕ → Image → State
state_under level file name shown = opened_state level shown (size_under file name) (limit_under file name)

-- Some entries are a history from the state in which a machine was opened, and what the files have, and a crash leaves, then: the
-- last state, or that state with one edit that was refused for a disk fault since the last acknowledged one.
pub record IsCourse (opened : State) (entries : List Entry) (found : Option (Result Image NoImage)) (IsLeft : List ℕ → List ℕ → Type 0) : Type 0 where
  pub faults : ℕ
  pub faults_now : ℕ
  pub last : State
  pub beside : Option Image
  pub led : Leads opened faults None entries last faults_now beside
  pub shows : ShowsLast last beside found
  pub safe : (f t : List ℕ) → IsLeft f t → ShowsLast last beside (Some (image f t))

-- A store was asked by a connection: its image made the steps of its entries, where its files are told.
pub record IsConnected {S D : Type 0} (s : Shelves S D) (g : Disks D) (name : List ℕ) (level : Allow) (day : ℕ) (p : Patterns) (w : Wire) (old new : S)
    (end : ConnEnd) : Type 0 where
  pub entries : List Entry
  pub held : IsHeld day p w end entries
  pub course : IsTrue ((s.tells old).files) → (shown : Image) × (image_under (s.file old) name ≡ Some (Ok shown))
      × IsCourse (state_under level (s.file old) name shown) entries (image_under (s.file new) name)
      (λ f t. IsTrue ((s.tells old).crashes) × s.may_leave new name f × s.may_leave new (second_name name) t)
  -- an entry tells a disk fault only where the count of the disks rose
  pub disk_fault : has_fault entries ≡ true → Rose (s.disk_faults old) (s.disk_faults new)
  -- no call of the shelf itself failed
  pub faults : (s.faults new ≡ s.faults old) × (s.last_failed new ≡ s.last_failed old)
  pub way : (lent : D × D) × (back : D × D) × Lends s g false name (second_name name) old new lent back × AskedBy g level lent back day p w end entries

-- A store wasn't opened, for this: nothing was read of the link or sent over it.
pub record IsUnconnected {S D : Type 0} (s : Shelves S D) (g : Disks D) (name : List ℕ) (p : Patterns) (w : Wire) (old new : S) (e : JournalRefusal) : Type 0 where
  pub unasked : IsUnasked s g name old new e
  pub quiet : PatternsStay p
  pub silent : IsSilent w
  -- a call failed only where the count rose: of the shelf's takes, with the name of the file, or of the disks that came back
  pub read_fault : e ≡ journal.Store refusal.ReadFault → Rose (s.faults old) (s.faults new)
      × ((s.last_failed new ≡ Some name) ⊎ (s.last_failed new ≡ Some (second_name name)))
  pub disk_fault : e ≡ journal.Store refusal.DiskFault → Rose (s.disk_faults old) (s.disk_faults new)
  pub no_read_fault : e ≢ journal.Store refusal.ReadFault → (s.faults new ≡ s.faults old) × (s.last_failed new ≡ s.last_failed old)
  pub sound : s.IsSound old → e ≢ journal.Store refusal.ReadFault
  -- where its files have an image whose text loads, and no call failed, memory ran out
  pub complete : IsTrue ((s.tells old).files) → (shown : Image) → image_under (s.file old) name ≡ Some (Ok shown) → fault_of None shown.text ≡ None
      → NoneFailed s old new → e ≡ journal.Memory

abbrev pub Outcome : {S D : Type 0} → Shelves S D → Disks D → List ℕ → Allow → ℕ → Patterns → Wire → S → S → Result ConnEnd JournalRefusal → Type 0
Outcome s g name level day p w old new (Ok end) = IsConnected s g name level day p w old new end
Outcome s g name level day p w old new (Err e) = IsUnconnected s g name p w old new e

-- A connection asked a store, or the store wasn't opened.
pub record TalksStore {S D : Type 0} (s : Shelves S D) (g : Disks D) (name : List ℕ) (level : Allow) (day : ℕ) (p : Patterns) (w : Wire) (old new : S)
    (result : Result ConnEnd JournalRefusal) : Type 0 where
  pub outcome : Outcome s g name level day p w old new result
  -- each name but those of the store's files keeps what stands under it
  pub others : (other : List ℕ) → other ≢ name → other ≢ second_name name → s.file new other ≡ s.file old other
  pub later : (s.faults old ≤ s.faults new) × (s.disk_faults old ≤ s.disk_faults new)
  pub sound : s.IsSound old → s.IsSound new
  pub tells : s.tells new ≡ s.tells old
