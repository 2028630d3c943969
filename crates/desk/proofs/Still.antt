-- What a machine that stays as it is shows, and one of which only the counts change.
use Rattle.std.proofs.Common.{◌≡◌, inl, inr, ℕ, false, List, Option, Some, None, refl, arith}
use Rattle.hl_base.specs.declared.change.Latest.{Latest}
use Rattle.hl_base.specs.declared.disk.Disk.{Ghosts}
use Rattle.live_journal.specs.Journals.{Journal}
use Rattle.text_store.specs.declared.image.Image.{Image}
use Rattle.text_store.specs.declared.store.Store.{Store}
use Rattle.text_store.specs.Stores.{Keeps, Leaves, NoWider, Tell, Throughout, bounds, disks, fault_count, limit_of, size_of}
use Rattle.text_store.proofs.Both.{stays}
use Rattle.desk.specs.declared.deed.Deed.{Deed}
use Rattle.desk.specs.declared.desk.Desk.{Desk}
use Rattle.desk.specs.declared.reply.Reply.{Reply}
use Rattle.desk.specs.declared.request.Allow.{Allow}
use Rattle.desk.specs.Desks.{Serves, faults_of, shown_by, state_of}
use Rattle.desk.specs.Stands.{IsPending, ShowsOne, Stands}
use Rattle.desk.specs.States.{Answer, State, image_of}
use Rattle.desk.specs.Steps.{Gives, is_done, next_of}

-- a crash now leaves what the disks stand for
pub leaves_of : {D : Type 0} {g : Ghosts D} (store : Store D g) (shown : Image) (pending next : Option Image) → Stands store shown pending → Tell g (disks store) → Leaves g (disks store) (ShowsOne shown pending next)
leaves_of store shown None next (inl rest) tell = λ f s a b. inl (rest.1.shows tell f s a b)
leaves_of store shown None next (inr torn) tell = λ f s a b. elim (torn.shows tell f s a b) [ inl x ↦ inl x | inr y ↦ inl y ]
leaves_of store shown (Some other) next torn tell = λ f s a b. elim (torn.shows tell f s a b) [ inl x ↦ inl x | inr y ↦ inr (inl y) ]

-- two disks that stay keep all that they tell
pub kept : {D : Type 0} (g : Ghosts D) (pair : D × D) (ends : ℕ × ℕ) → Keeps g pair pair ends
kept g pair ends = record {
  tells_first = refl;
  tells_second = refl;
  unfailing_first = refl;
  unfailing_second = refl;
  reach_first = omega arith;
  reach_second = omega arith;
  later_first = omega arith;
  later_second = omega arith;
}

-- a machine that stays serves a request that gives a reply so
pub still : {D : Type 0} {g : Ghosts D} (answer : Answer) (d : Option Deed) (desk : Desk D g) (r : Reply) → Gives answer d (state_of desk) (faults_of desk) r (state_of desk) (faults_of desk) → is_done r ≡ false → Serves answer d desk r desk
still {D} {g} answer d desk r gives undone = record {
  gives = gives;
  stands = λ pending stands. (pending, inr (inl (undone, refl)), stands);
  crash = λ pending stands tell. stays g (disks desk.store) _ (leaves_of desk.store (shown_by desk) pending _ stands tell);
  keeps = kept g (disks desk.store) (bounds desk.store);
  no_wider = (omega arith, omega arith);
}

-- the counts of requests are no part of what is served
pub recounted : {D : Type 0} {g : Ghosts D} (answer : Answer) (d : Option Deed) (old : Desk D g) (r : Reply) (mid new : Desk D g)
    → new.store ≡ mid.store → new.live ≡ mid.live → new.latest ≡ mid.latest → new.allow ≡ mid.allow → Serves answer d old r mid → Serves answer d old r new
recounted answer d old r mid new store live latest allowed h = record {
  gives = rw (store, live, latest, allowed) h.gives;
  stands = rw (store, live, latest) h.stands;
  crash = rw store h.crash;
  keeps = rw store h.keeps;
  no_wider = rw store h.no_wider;
}

-- the state of a machine of these parts
abbrev pub state_by : {D : Type 0} {g : Ghosts D} → Store D g → Journal → List Latest → Allow → State
state_by store live latest allowed = record {
  text = live.text;
  latest = latest;
  revision = live.revision;
  allowed = allowed;
  size = size_of store;
  limit = limit_of store;
}

-- a machine serves a request, whose parts are these afterwards
pub by_parts : {D : Type 0} {g : Ghosts D} (answer : Answer) (d : Option Deed) (old : Desk D g) (r : Reply) (new : Desk D g)
    (store : Store D g) (live : Journal) (latest : List Latest) (allowed : Allow)
    → new.store ≡ store → new.live ≡ live → new.latest ≡ latest → new.allow ≡ allowed
    → Gives answer d (state_of old) (faults_of old) r (state_by store live latest allowed) (fault_count g (disks store))
    → ((pending : Option Image) → Stands old.store (shown_by old) pending
    → (after : Option Image) × IsPending pending (next_of answer) r after × Stands store (image_of (state_by store live latest allowed)) after)
    → ((pending : Option Image) → Stands old.store (shown_by old) pending → Tell g (disks old.store)
    → Throughout g (disks old.store) (disks store) (ShowsOne (shown_by old) pending (next_of answer)))
    → Keeps g (disks old.store) (disks store) (bounds old.store) → NoWider old.store store → Serves answer d old r new
by_parts answer d old r new store live latest allowed is_store is_live is_latest is_allowed gives stands crash keeps no_wider = record {
  gives = rw (is_store, is_live, is_latest, is_allowed) gives;
  stands = rw (is_store, is_live, is_latest) stands;
  crash = rw is_store crash;
  keeps = rw is_store keeps;
  no_wider = rw is_store no_wider;
}
