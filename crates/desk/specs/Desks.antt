-- What a contract sees of the machine, and of what it serves.
use Rattle.std.specs.Prelude.{◌≡◌, ℕ, List, [], ◌∷◌, Option}
use Rattle.hl_base.specs.declared.disk.Disk.{Ghosts}
use Rattle.text_store.specs.declared.image.Image.{Image}
use Rattle.text_store.specs.Stores.{disks, fault_count, size_of, limit_of, Tell, Throughout, Keeps, NoWider, bounds}
use Rattle.desk.specs.declared.deed.Deed.{Deed}
use Rattle.desk.specs.declared.desk.Desk.{Desk}
use Rattle.desk.specs.declared.reply.Reply.{Reply}
use Rattle.desk.specs.Entries.{Entry}
use Rattle.desk.specs.Stands.{IsPending, ShowsOne, Stands}
use Rattle.desk.specs.States.{State, Answer, answer_to, deed_in, image_of}
use Rattle.desk.specs.Steps.{Gives, counted, next_of}

-- the state that a machine stands for
abbrev pub state_of : {D : Type 0} {g : Ghosts D} → Desk D g → State
state_of desk = record {
  text = desk.live.text;
  latest = desk.latest;
  revision = desk.live.revision;
  allowed = desk.allow;
  size = size_of desk.store;
  limit = limit_of desk.store;
}

abbrev pub shown_by : {D : Type 0} {g : Ghosts D} → Desk D g → Image
shown_by desk = image_of (state_of desk)

-- how often the calls of a machine's disks failed
abbrev pub faults_of : {D : Type 0} {g : Ghosts D} → Desk D g → ℕ
faults_of {D} {g} desk = fault_count g (disks desk.store)

-- the requests since opening, and those that were refused
abbrev pub counts_of : {D : Type 0} {g : Ghosts D} → Desk D g → ℕ × ℕ
counts_of desk = (desk.requests, desk.refused)

-- A machine serves a request, which may be an edit, by an answer: the reply and the state after it are as the answer says; the
-- disks show the state after it, and at most one further edit, refused for a disk fault since the last acknowledged one; and a
-- crash at any moment between leaves the state before, such an edit, or this one where it stands.
pub record Serves {D : Type 0} {g : Ghosts D} (answer : Answer) (d : Option Deed) (old : Desk D g) (r : Reply) (new : Desk D g) : Type 0 where
  pub gives : Gives answer d (state_of old) (faults_of old) r (state_of new) (faults_of new)
  pub stands : (pending : Option Image) → Stands old.store (shown_by old) pending
      → (after : Option Image) × IsPending pending (next_of answer) r after × Stands new.store (shown_by new) after
  pub crash : (pending : Option Image) → Stands old.store (shown_by old) pending → Tell g (disks old.store)
      → Throughout g (disks old.store) (disks new.store) (ShowsOne (shown_by old) pending (next_of answer))
  pub keeps : Keeps g (disks old.store) (disks new.store) (bounds old.store)
  pub no_wider : NoWider old.store new.store

-- One request and its reply: a step of the machine, which counts it, with the revision after it.
pub record IsServed {D : Type 0} {g : Ghosts D} (old : Desk D g) (entry : Entry) (new : Desk D g) : Type 0 where
  pub serves : Serves (answer_to (state_of old) entry.day.0 entry.request) (deed_in (state_of old) entry.request) old entry.reply new
  pub counts : counts_of new ≡ counted (counts_of old) entry.reply
  pub revision : entry.revision ≡ new.live.revision

-- A run of requests and their replies, one after another.
abbrev pub Leads : {D : Type 0} {g : Ghosts D} → Desk D g → List Entry → Desk D g → Type 0
Leads old [] new = new ≡ old
Leads {D} {g} old (entry ∷ entries) new = (mid : Desk D g) × IsServed old entry mid × Leads mid entries new
