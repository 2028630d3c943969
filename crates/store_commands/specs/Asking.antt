-- What one request of a store comes to.
use Rattle.std.specs.Prelude.{◌≡◌, ◌≢◌, ◌⊎◌, ℕ, ◌≤◌, max, true, false, List, length, Option, Some, None, IfSome, IsSomeAnd, Result, Ok, Err, IfOk, IsTrue}
use Rattle.hl_base.specs.Causes.{Rose}
use Rattle.hl_base.specs.declared.disk.Disk.{Ghosts as Disks}
use Rattle.hl_base.specs.declared.shelf.Shelf.{Ghosts as Shelves}
use Rattle.hl_time.specs.declared.day.Day.{Day}
use Rattle.query_terms.specs.Making.{Stays}
use Rattle.query_terms.specs.declared.making.Maker.{Ghosts as Makers}
use Rattle.live_journal.specs.Loading.{fault_of}
use Rattle.live_journal.specs.declared.fault.OpenFault.{OpenFault}
use Rattle.live_journal.specs.declared.fault.OpenFault.TheVariants as unopened_text
use Rattle.text_store.specs.declared.image.Image.{Image}
use Rattle.text_store.specs.Files.{WhileOpened, opened_limit, opened_size}
use Rattle.text_store.specs.Image.{NoImage, image}
use Rattle.text_store.specs.Refusals.{ImageStays, Told}
use Rattle.text_store.specs.Stores.{Keeps, Tell, Throughout, bounds, disks, fault_count, limit_of}
use Rattle.desk.specs.declared.desk.Desk.{Desk}
use Rattle.desk.specs.declared.fault.DeskFault.{DeskFault}
use Rattle.desk.specs.declared.fault.DeskFault.TheVariants as desk_fault
use Rattle.desk.specs.declared.reply.Reply.{Reply}
use Rattle.desk.specs.declared.reply.Reply.TheVariants as reply
use Rattle.desk.specs.declared.request.Allow.TheVariants as allow
use Rattle.desk.specs.declared.request.Request.{Request}
use Rattle.desk.specs.Desks.{IsServed, faults_of, shown_by, state_of}
use Rattle.desk.specs.Openings.{OpeningRefused}
use Rattle.desk.specs.Stands.{Stands}
use Rattle.desk.specs.States.{State, answer_to, image_of}
use Rattle.desk.specs.Steps.{Completes, Step, TellsReply, is_fault, next_of}
use Rattle.store_text.specs.Lending.{AreUntaken, Lends, NoneFailed}
use Rattle.store_text.specs.Refusals.{cause_of, text_in, unopened}
use Rattle.store_text.specs.Shelved.{image_under, or_empty, second_name}
use Rattle.store_text.specs.declared.refusal.StoreRefusal.{StoreRefusal}
use Rattle.store_text.specs.declared.refusal.StoreRefusal.TheVariants as refusal
use Rattle.store_making.specs.Refusals.{of_store, of_text}
use Rattle.store_making.specs.declared.refusal.JournalRefusal.{JournalRefusal}
use Rattle.store_making.specs.declared.refusal.JournalRefusal.TheVariants as journal
use Rattle.store_commands.specs.Replies.{IsEditReply}

-- why two disks aren't opened as a machine
abbrev pub of_opening : DeskFault → JournalRefusal
of_opening (desk_fault.Store fault) = of_store (unopened fault)
of_opening (desk_fault.Load fault) = of_text fault
of_opening desk_fault.Memory = journal.Memory

-- what a maker of patterns tells, before and after
pub record Patterns : Type 0 where
  pub before : ℕ
  pub now : ℕ
  pub last_before : Option (List ℕ)
  pub last_now : Option (List ℕ)

abbrev pub told_by : {M : Type 0} → Makers M → M → M → Patterns
told_by m old new = record { before = m.refusals old; now = m.refusals new; last_before = m.last_refused old; last_now = m.last_refused new }

abbrev pub PatternsStay : Patterns → Type 0
PatternsStay p = Stays p.before p.now p.last_before p.last_now

-- A machine was opened on two disks, with permission to edit. It stands for the image that they read as.
pub record OpensAs {D : Type 0} (g : Disks D) (old : D × D) (desk : Desk D g) : Type 0 where
  pub shown : Told g old (λ f s. (image f s ≡ Ok (shown_by desk)) × Stands desk.store (shown_by desk) None × ((state_of desk).limit ≡ opened_limit f s))
  pub allowed : (state_of desk).allowed ≡ allow.Edit
  -- its text makes a journal
  pub loads : fault_of None (state_of desk).text ≡ None
  -- its size is that of the half that they showed
  pub size : Told g old (λ f s. (state_of desk).size ≡ opened_size f s)
  -- a crash at any moment leaves files that it might have left before, or files with the image, or the want of one, of these
  pub any_moment : Told g old (λ f s. Tell g old → Throughout g old (disks desk.store) (WhileOpened g old f s))
  pub keeps : Told g old (λ f s. Keeps g old (disks desk.store) (max (opened_limit f s) (length f), max (opened_limit f s) (length s)))
  -- no call since reaches further than the limit, or than the length that the file had
  pub bounds : Told g old (λ f s.
      ((bounds desk.store).0 ≤ max (limit_of desk.store) (length f)) × ((bounds desk.store).1 ≤ max (limit_of desk.store) (length s)))
  pub no_fault : faults_of desk ≡ fault_count g old

-- Two disks weren't opened, for this: they have the image, or the want of one, that they had.
pub record IsUnopened {D : Type 0} (g : Disks D) (old new : D × D) (e : JournalRefusal) : Type 0 where
  pub fault : DeskFault
  pub is : e ≡ of_opening fault
  pub cause : OpeningRefused g old new fault
  pub stays : ImageStays g old new
  pub any_moment : Told g old (λ f s. Tell g old → Throughout g old new (WhileOpened g old f s))
  pub keeps : Told g old (λ f s. Keeps g old new (max (opened_limit f s) (length f), max (opened_limit f s) (length s)))

-- A machine was asked once on a day, and its disks came back.
pub record IsAsked {D : Type 0} {g : Disks D} (desk : Desk D g) (request : Request) (day : Day) (p : Patterns) (r : Reply) (back : D × D) : Type 0 where
  pub now : Desk D g
  pub served : IsServed desk (record { request = request; day = day; reply = r; revision = now.live.revision }) now
  pub maker : TellsReply request day.0 p.before p.now p.last_before p.last_now r
  pub complete : Completes (answer_to (state_of desk) day.0 request) (faults_of desk) (faults_of now) p.before p.now r
  pub returned : back ≡ disks now.store

-- Two disks were opened as a machine that was asked once, or they weren't opened.
abbrev pub AsksDisks : {D : Type 0} → Disks D → D × D → D × D → Request → Day → Patterns → Result Reply JournalRefusal → Type 0
AsksDisks {D} g old new request day p (Ok r) = (desk : Desk D g) × OpensAs g old desk × IsAsked desk request day p r new
AsksDisks g old new request day p (Err e) = IsUnopened g old new e × PatternsStay p

-- the limit of the store of a name, and the length of its half in use, among the files of a shelf
abbrev pub limit_under : (List ℕ → Option (List ℕ)) → List ℕ → ℕ
limit_under file name = opened_limit (or_empty (file name)) (or_empty (file (second_name name)))

abbrev pub size_under : (List ℕ → Option (List ℕ)) → List ℕ → ℕ
size_under file name = opened_size (or_empty (file name)) (or_empty (file (second_name name)))

-- the state of a machine that may be edited and was opened on an image
abbrev pub opened_state : Image → ℕ → ℕ → State
opened_state shown size limit = record { text = shown.text; latest = shown.latest; revision = shown.revision; allowed = allow.Edit; size = size; limit = limit }

-- that of the store of a name whose files have this image
abbrev pub state_under : (List ℕ → Option (List ℕ)) → List ℕ → Image → State
state_under file name shown = opened_state shown (size_under file name) (limit_under file name)

-- the image of a state, or after a disk fault that of the edit that was refused for it
abbrev pub ShowsAfter : Option Image → Reply → State → Option (Result Image NoImage) → Type 0
ShowsAfter next r state found =
    (found ≡ Some (Ok (image_of state))) ⊎ ((is_fault r ≡ true) × IsSomeAnd next (λ other. found ≡ Some (Ok other)))

-- One step of the machine from the state in which it was opened, and what the files have, and a crash leaves, then.
pub record IsStep (opened : State) (request : Request) (day : ℕ) (p : Patterns) (r : Reply) (found : Option (Result Image NoImage))
    (IsLeft : List ℕ → List ℕ → Type 0) : Type 0 where
  pub faults : ℕ
  pub faults_now : ℕ
  pub state : State
  -- the text of the state in which it was opened makes a journal
  pub loads : fault_of None opened.text ≡ None
  pub step : Step opened faults day request r state faults_now
  pub shows : ShowsAfter (next_of (answer_to opened day request)) r state found
  pub safe : (f t : List ℕ) → IsLeft f t → ShowsAfter (next_of (answer_to opened day request)) r state (Some (image f t))
  -- where no call of the disks failed and no pattern was refused, the reply is the step's own, or memory ran out
  pub complete : Completes (answer_to opened day request) faults faults_now p.before p.now r

-- files have an image, whose text makes no journal, for this
abbrev pub HasFault : Option (Result Image NoImage) → OpenFault → Type 0
HasFault found fault =
    (shown : Image) × (found ≡ Some (Ok shown)) × (fault_of None shown.text ≡ Some fault)

-- the want of an image of a store's files, or their text, is why it wasn't opened
abbrev pub IsRefusedBy : Option (Result Image NoImage) → JournalRefusal → Type 0
IsRefusedBy found (journal.Store r) = IfSome (cause_of r) (λ cause. text_in found ≡ Err cause)
IsRefusedBy found (journal.Load fault) = HasFault found (unopened_text.Load fault)
IsRefusedBy found (journal.TooLarge limit size) = HasFault found (unopened_text.TooLarge limit size)
IsRefusedBy found journal.Memory = Unit {0}

-- its disks were taken, as the refusal says
abbrev pub WereTaken : JournalRefusal → Type 0
WereTaken (journal.Store (refusal.NotAStore at)) = Unit {0}
WereTaken (journal.Store (refusal.Newer version)) = Unit {0}
WereTaken (journal.Store refusal.DiskFault) = Unit {0}
WereTaken (journal.Store r) = ⊥
WereTaken journal.Memory = ⊥
WereTaken _ = Unit {0}

-- no other refusal of a store is one of an opening
abbrev pub IsOfOpening : JournalRefusal → Type 0
IsOfOpening (journal.Store (refusal.Exists len)) = ⊥
IsOfOpening (journal.Store (refusal.Full size limit)) = ⊥
IsOfOpening (journal.Store refusal.Memory) = ⊥
IsOfOpening _ = Unit {0}

-- its disks weren't taken, for this
abbrev pub IsUntaken : {S D : Type 0} → Shelves S D → Disks D → List ℕ → S → S → JournalRefusal → Type 0
IsUntaken s g name old new e =
    ((new ≡ old) × (e ≡ journal.Memory)) ⊎ ((r : StoreRefusal) × (e ≡ of_store r) × AreUntaken s g false name (second_name name) old new r)

-- Nothing was asked of a store, for this: by its files, where these are told; they have the image, or the want of one, that they
-- had, and each crash leaves it.
pub record IsUnasked {S D : Type 0} (s : Shelves S D) (g : Disks D) (name : List ℕ) (old new : S) (e : JournalRefusal) : Type 0 where
  pub cause : IsTrue ((s.tells old).files) → IsRefusedBy (image_under (s.file old) name) e
  pub stays : IsTrue ((s.tells old).files) → image_under (s.file new) name ≡ image_under (s.file old) name
  pub crash : IsTrue ((s.tells old).files) → IsTrue ((s.tells old).crashes) → WereTaken e → (f t : List ℕ)
      → s.may_leave new name f → s.may_leave new (second_name name) t → Some (image f t) ≡ image_under (s.file old) name
  pub kind : IsOfOpening e
  pub way : ((lent : D × D) × (back : D × D) × Lends s g false name (second_name name) old new lent back × IsUnopened g lent back e)
      ⊎ IsUntaken s g name old new e

-- A store was asked once: its image made one step, where its files are told.
pub record IsAnswered {S D : Type 0} (s : Shelves S D) (g : Disks D) (name : List ℕ) (request : Request) (day : Day) (p : Patterns) (old new : S) (r : Reply) : Type 0 where
  pub step : IsTrue ((s.tells old).files) → (shown : Image) × (image_under (s.file old) name ≡ Some (Ok shown))
      × IsStep (state_under (s.file old) name shown) request day.0 p r (image_under (s.file new) name)
      (λ f t. IsTrue ((s.tells old).crashes) × s.may_leave new name f × s.may_leave new (second_name name) t)
  pub kind : IsEditReply r
  pub maker : TellsReply request day.0 p.before p.now p.last_before p.last_now r
  pub disk_fault : is_fault r ≡ true → Rose (s.disk_faults old) (s.disk_faults new)
  pub way : (lent : D × D) × (back : D × D) × Lends s g false name (second_name name) old new lent back × AsksDisks g lent back request day p (Ok r)

abbrev pub Outcome : {S D : Type 0} → Shelves S D → Disks D → List ℕ → Request → Day → Patterns → S → S → Result Reply JournalRefusal → Type 0
Outcome s g name request day p old new (Ok r) = IsAnswered s g name request day p old new r
Outcome s g name request day p old new (Err e) = IsUnasked s g name old new e × PatternsStay p

-- the reply is this one, or memory ran out
abbrev pub IsReplied : Result Reply JournalRefusal → Reply → Type 0
IsReplied (Ok r) good = (r ≡ reply.Memory) ⊎ (r ≡ good)
IsReplied (Err e) good = e ≡ journal.Memory

-- A store was asked for an edit, or wasn't opened.
pub record EditsStore {S D : Type 0} (s : Shelves S D) (g : Disks D) (name : List ℕ) (request : Request) (day : Day) (p : Patterns) (old new : S)
    (result : Result Reply JournalRefusal) : Type 0 where
  pub outcome : Outcome s g name request day p old new result
  -- where its files have an image whose text loads, no call failed and no pattern was refused, the reply is the answer to the
  -- request, or memory ran out
  pub complete : IsTrue ((s.tells old).files) → (shown : Image) → image_under (s.file old) name ≡ Some (Ok shown)
      → fault_of None shown.text ≡ None → NoneFailed s old new → (Rose p.before p.now → ⊥)
      → IsReplied result (answer_to (state_under (s.file old) name shown) day.0 request).reply
  -- each name but those of the store's files keeps what stands under it
  pub others : (other : List ℕ) → other ≢ name → other ≢ second_name name → s.file new other ≡ s.file old other
  -- a call failed only where the count rose: of the shelf's takes, with the name of the file, or of the disks that came back
  pub read_fault : result ≡ Err (journal.Store refusal.ReadFault) → Rose (s.faults old) (s.faults new)
      × ((s.last_failed new ≡ Some name) ⊎ (s.last_failed new ≡ Some (second_name name)))
  pub disk_fault : result ≡ Err (journal.Store refusal.DiskFault) → Rose (s.disk_faults old) (s.disk_faults new)
  pub no_disk_fault : IfOk result (λ r. is_fault r ≡ false → s.disk_faults new ≡ s.disk_faults old)
  pub no_read_fault : result ≢ Err (journal.Store refusal.ReadFault) → (s.faults new ≡ s.faults old) × (s.last_failed new ≡ s.last_failed old)
  pub later : (s.faults old ≤ s.faults new) × (s.disk_faults old ≤ s.disk_faults new)
  pub sound : s.IsSound old → (result ≢ Err (journal.Store refusal.ReadFault)) × s.IsSound new
  pub tells : s.tells new ≡ s.tells old
