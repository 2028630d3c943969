-- What an edit would make of a store, of whose two files a copy is edited.
use Rattle.std.specs.Prelude.{◌≡◌, ◌⊎◌, ℕ, Bool, true, false, List, None, Some, Result, Ok, Err}
use Rattle.hl_base.specs.Causes.{Rose}
use Rattle.hl_base.specs.declared.disk.Disk.{Ghosts as Disks}
use Rattle.hl_base.specs.declared.fault.Memory.{Memory}
use Rattle.live_journal.specs.Loading.{fault_of}
use Rattle.text_store.specs.declared.image.Image.{Image}
use Rattle.text_store.specs.Files.{opened_limit, opened_size}
use Rattle.text_store.specs.Image.{image}
use Rattle.text_store.specs.Refusals.{Told}
use Rattle.store_text.specs.Refusals.{text_of}
use Rattle.store_text.specs.declared.refusal.StoreRefusal.{StoreRefusal}
use Rattle.store_text.specs.declared.refusal.StoreRefusal.TheVariants as refusal
use Rattle.desk.specs.declared.reply.Reply.{Reply}
use Rattle.desk.specs.declared.reply.Reply.TheVariants as reply
use Rattle.desk.specs.declared.request.Request.{Request}
use Rattle.desk.specs.Previews.{added_to}
use Rattle.desk.specs.States.{Answer, State, added_by, answer_to}
use Rattle.desk.specs.Steps.{TellsReply, is_fault}
use Rattle.store_making.specs.declared.refusal.JournalRefusal.{JournalRefusal}
use Rattle.store_making.specs.declared.refusal.JournalRefusal.TheVariants as journal
use Rattle.store_commands.specs.Asking.{IsRefusedBy, Patterns, opened_state}
use Rattle.store_commands.specs.Replies.{IsEditReply}
use Rattle.store_commands.specs.declared.preview.Preview.{Preview}
use Rattle.store_commands.specs.declared.preview.Preview.TheVariants as preview

-- the state of a machine that is opened on two files with this image
abbrev pub state_in : List ℕ → List ℕ → Image → State
state_in first second shown = opened_state shown (opened_size first second) (opened_limit first second)

-- the edit is accepted: it is stored, or leaves the text as it is
abbrev pub is_accepted : Reply → Bool
is_accepted (reply.Done revision) = true
is_accepted (reply.Same revision) = true
is_accepted other = false

-- The preview of a request to a state: what the answer to it would add, where that is accepted; or a refusal, which is the answer's unless
-- memory ran out or a pattern was refused. That of a pattern has the pattern's line.
abbrev pub Says : State → ℕ → Request → Patterns → Preview → Type 0
Says s day request p (preview.Adds bytes) = (is_accepted (answer_to s day request).reply ≡ true) × (bytes ≡ added_by s (answer_to s day request))
Says s day request p (preview.Refused r) =
    (is_accepted r ≡ false) × IsEditReply r × TellsReply request day p.before p.now p.last_before p.last_now r
    × ((Rose p.before p.now → ⊥) → (r ≡ reply.Memory) ⊎ (r ≡ (answer_to s day request).reply))

-- What was added at the end of the text of two files, which disks now hold.
pub record Added {D : Type 0} (g : Disks D) (first second : List ℕ) (disks : D × D) (bytes : List ℕ) : Type 0 where
  pub before : List ℕ
  pub after : List ℕ
  pub was : text_of (image first second) ≡ Ok before
  pub now : Told g disks (λ f s. text_of (image f s) ≡ Ok after)
  pub is : bytes ≡ added_to before after

-- the preview that a reply makes, which answers an edit of two files; disks now hold these
abbrev pub SaysReply : {D : Type 0} → Disks D → List ℕ → List ℕ → D × D → Reply → Preview → Type 0
SaysReply g first second disks r (preview.Adds bytes) = (is_accepted r ≡ true) × Added g first second disks bytes
SaysReply g first second disks r (preview.Refused x) = (x ≡ r) × (is_accepted r ≡ false) × (is_fault r ≡ false)

abbrev pub adds_or_memory : Result (List ℕ) Memory → Result Preview JournalRefusal
adds_or_memory (Ok bytes) = Ok (preview.Adds bytes)
adds_or_memory (Err memory) = Err journal.Memory

-- Two files have an image whose text loads, and this is the preview of a request to it.
pub record SaysOf (first second : List ℕ) (what : Request) (day : ℕ) (p : Patterns) (told : Preview) : Type 0 where
  pub shown : Image
  pub is : image first second ≡ Ok shown
  pub loads : fault_of None shown.text ≡ None
  pub says : Says (state_in first second shown) day what p told

-- why a copy isn't opened: a call of its disks fails only where there is no room
abbrev pub of_store_copy : StoreRefusal → JournalRefusal
of_store_copy refusal.DiskFault = journal.Memory
of_store_copy refusal.Memory = journal.Memory
of_store_copy refusal.Absent = journal.Store refusal.Absent
of_store_copy (refusal.NotAStore at) = journal.Store (refusal.NotAStore at)
of_store_copy (refusal.Newer version) = journal.Store (refusal.Newer version)
of_store_copy (refusal.Exists len) = journal.Store (refusal.Exists len)
of_store_copy (refusal.Full size limit) = journal.Store (refusal.Full size limit)
of_store_copy refusal.ReadFault = journal.Store refusal.ReadFault

abbrev pub of_copy : JournalRefusal → JournalRefusal
of_copy (journal.Store r) = of_store_copy r
of_copy (journal.Load fault) = journal.Load fault
of_copy (journal.TooLarge limit size) = journal.TooLarge limit size
of_copy journal.Memory = journal.Memory

-- no call failed, and the files are there
abbrev pub IsOfCopy : JournalRefusal → Type 0
IsOfCopy (journal.Store (refusal.NotAStore at)) = Unit {0}
IsOfCopy (journal.Store (refusal.Newer version)) = Unit {0}
IsOfCopy (journal.Store r) = ⊥
IsOfCopy other = Unit {0}

-- what a request would make of the store of two files, or why the store isn't opened
abbrev pub Previews : List ℕ → List ℕ → Request → ℕ → Patterns → Result Preview JournalRefusal → Type 0
Previews first second request day p (Ok told) = SaysOf first second request day p told
Previews first second request day p (Err e) = IsRefusedBy (Some (image first second)) e × IsOfCopy e
