-- What is replied in a dry run.
use Rattle.std.proofs.Common.{◌≡◌, ◌⊎◌, inl, inr, ℕ, true, false, List, Option, None, Result, Ok, Err, refl, sym, ap, subst, ◌∙◌}
use Rattle.std.proofs.lemmas.Bool.{false≢true}
use Rattle.hl_base.specs.declared.disk.Disk.{Ghosts}
use Rattle.live_journal.specs.Journals.{Planned}
use Rattle.query.specs.Building.{IsOneOf}
use Rattle.desk.specs.declared.deed.Deed.{Deed}
use Rattle.desk.specs.declared.desk.Desk.{Desk}
use Rattle.desk.specs.declared.reply.Reply.{Reply}
use Rattle.desk.specs.declared.reply.Reply.TheVariants as reply
use Rattle.desk.specs.Desks.{Serves, faults_of, state_of}
use Rattle.desk.specs.DryRuns.{IsDryReply, IsDryRun, IsRefusal, IsToldOf, IsUnchanged}
use Rattle.desk.specs.States.{Answer, State, dry_reply, dry_run}
use Rattle.desk.specs.Steps.{Gives, is_done}
use Rattle.desk.proofs.Still.{recounted, still}

-- a text where the edit would be stored, and else the edit's reply
pub dry_cases : (revision : ℕ) (text : List ℕ) (r : Reply)
    → ((is_done r ≡ true) × (dry_reply revision text r ≡ reply.Text revision text)) ⊎ ((is_done r ≡ false) × (dry_reply revision text r ≡ r))
dry_cases revision text (reply.Done next) = inl (refl, refl)
dry_cases revision text (reply.Same current) = inr (refl, refl)
dry_cases revision text (reply.Text now bytes) = inr (refl, refl)
dry_cases revision text (reply.Forbidden need have) = inr (refl, refl)
dry_cases revision text (reply.Stale base current) = inr (refl, refl)
dry_cases revision text (reply.BadBase base current) = inr (refl, refl)
dry_cases revision text (reply.NoSuchItem n count) = inr (refl, refl)
dry_cases revision text (reply.NotTransactions line) = inr (refl, refl)
dry_cases revision text (reply.Load fault) = inr (refl, refl)
dry_cases revision text (reply.TooLarge limit size) = inr (refl, refl)
dry_cases revision text (reply.DiskFault before after) = inr (refl, refl)
dry_cases revision text (reply.Words fault) = inr (refl, refl)
dry_cases revision text (reply.Csv fault) = inr (refl, refl)
dry_cases revision text (reply.Full size limit) = inr (refl, refl)
dry_cases revision text reply.Memory = inr (refl, refl)

-- what holds of a text and of the edit's reply holds of the reply in a dry run
pub text_or : (P : Reply → Type 0) (revision : ℕ) (text : List ℕ) (r : Reply) → P (reply.Text revision text) → P r → P (dry_reply revision text r)
text_or P revision text r told own =
    elim (dry_cases revision text r) [ inl h ↦ subst P (sym h.1) told | inr h ↦ subst P (sym h.1) own ]

-- nothing is done
undone_by : (revision : ℕ) (text : List ℕ) (r : Reply)
    → ((is_done r ≡ true) × (dry_reply revision text r ≡ reply.Text revision text)) ⊎ ((is_done r ≡ false) × (dry_reply revision text r ≡ r))
    → is_done (dry_reply revision text r) ≡ false
undone_by revision text r (inl h) = ap is_done h.1
undone_by revision text r (inr h) = ap is_done h.1 ∙ h.0

pub dry_undone : (revision : ℕ) (text : List ℕ) (r : Reply) → is_done (dry_reply revision text r) ≡ false
dry_undone revision text r = undone_by revision text r (dry_cases revision text r)

own_by : (revision : ℕ) (text : List ℕ) (r : Reply)
    → ((is_done r ≡ true) × (dry_reply revision text r ≡ reply.Text revision text)) ⊎ ((is_done r ≡ false) × (dry_reply revision text r ≡ r))
    → is_done r ≡ false → dry_reply revision text r ≡ r
own_by revision text r (inl h) undone = absurd (false≢true (sym undone ∙ h.0))
own_by revision text r (inr h) undone = h.1

dry_own : (revision : ℕ) (text : List ℕ) (r : Reply) → is_done r ≡ false → dry_reply revision text r ≡ r
dry_own revision text r undone = own_by revision text r (dry_cases revision text r) undone

text_by : (revision : ℕ) (text : List ℕ) (r : Reply)
    → ((is_done r ≡ true) × (dry_reply revision text r ≡ reply.Text revision text)) ⊎ ((is_done r ≡ false) × (dry_reply revision text r ≡ r))
    → is_done r ≡ true → dry_reply revision text r ≡ reply.Text revision text
text_by revision text r (inl h) done = h.1
text_by revision text r (inr h) done = absurd (false≢true (sym h.0 ∙ done))

dry_text : (revision : ℕ) (text : List ℕ) (r : Reply) → is_done r ≡ true → dry_reply revision text r ≡ reply.Text revision text
dry_text revision text r done = text_by revision text r (dry_cases revision text r) done

-- ---- what a machine serves

dry_gives : (s : State) (text : List ℕ) (answer : Answer) (n : ℕ) (r : Reply)
    → (r ≡ reply.Memory) ⊎ ((r ≡ dry_reply s.revision text answer.reply) ⊎ IsOneOf r answer.others) → Gives (dry_run s text answer) None s n r s n
dry_gives s text answer n r (inl h) = inr (inl (h, inl refl, refl))
dry_gives s text answer n r (inr (inl h)) = inl (h, refl, refl)
dry_gives s text answer n r (inr (inr h)) = inr (inr (inr (h, refl, refl)))

-- a machine that stays as it is serves a dry run
pub dry_serves : {D : Type 0} {g : Ghosts D} (old new : Desk D g) (text : List ℕ) (answer : Answer) (r : Reply)
    → IsDryReply (state_of old) text answer r → IsUnchanged old new → Serves (dry_run (state_of old) text answer) None old r new
dry_serves old new text answer r replied stays =
    recounted (dry_run (state_of old) text answer) None old r old new stays.store stays.live stays.latest stays.allowed
    (still (dry_run (state_of old) text answer) None old r (dry_gives (state_of old) text answer (faults_of old) r replied.1) replied.0)

pub unchanged : {D : Type 0} {g : Ghosts D} (desk : Desk D g) → IsUnchanged desk desk
unchanged desk = record { store = refl; live = refl; latest = refl; allowed = refl; counts = refl }

refused_gives : (s : State) (answer : Answer) (d : Option Deed) (n : ℕ) (r : Reply)
    → (r ≡ reply.Memory) ⊎ (((r ≡ answer.reply) × (answer.state ≡ s)) ⊎ IsOneOf r answer.others) → Gives answer d s n r s n
refused_gives s answer d n r (inl h) = inr (inl (h, inl refl, refl))
refused_gives s answer d n r (inr (inl h)) = inl (h.0, sym h.1, refl)
refused_gives s answer d n r (inr (inr h)) = inr (inr (inr (h, refl, refl)))

-- and a refusal
pub refused_serves : {D : Type 0} {g : Ghosts D} (desk : Desk D g) (answer : Answer) (d : Option Deed) (r : Reply)
    → IsRefusal (state_of desk) answer r → Serves answer d desk r desk
refused_serves desk answer d r refusal = still answer d desk r (refused_gives (state_of desk) answer d (faults_of desk) r refusal.1) refusal.0

-- ---- what is replied by what an edit is answered

refused_so : (s : State) (text : List ℕ) (answer : Answer) (r : Reply) → is_done r ≡ false
    → (r ≡ reply.Memory) ⊎ (((r ≡ answer.reply) × (answer.state ≡ s)) ⊎ IsOneOf r answer.others)
    → (r ≡ reply.Memory) ⊎ ((r ≡ dry_reply s.revision text answer.reply) ⊎ IsOneOf r answer.others)
refused_so s text answer r undone (inl h) = inl h
refused_so s text answer r undone (inr (inl h)) = inr (inl (h.0 ∙ sym (dry_own s.revision text answer.reply (sym (ap is_done h.0) ∙ undone))))
refused_so s text answer r undone (inr (inr h)) = inr (inr h)

-- a refusal is the same in a dry run
pub refused_dry : (s : State) (text : List ℕ) (answer : Answer) (r : Reply) → IsRefusal s answer r → IsDryReply s text answer r
refused_dry s text answer r refusal = (refusal.0, refused_so s text answer r refusal.0 refusal.1)

-- what is told of a dry run is a reply to it
pub told_dry : (s : State) (answer : Answer) (plan : Planned) (shown : Planned → List ℕ) (made : Result Planned Reply) (text : List ℕ) (r : Reply)
    → IsDryRun s answer plan made → IsToldOf s.revision shown made r → (is_done answer.reply ≡ true → shown plan ≡ text) → IsDryReply s text answer r
told_dry s answer plan shown (Ok p) text r ran (inl h) same = (ap is_done h, inl h)
told_dry s answer plan shown (Ok p) text r ran (inr h) same =
    let is : r ≡ reply.Text s.revision text = h ∙ ap (λ (x : Planned). reply.Text s.revision (shown x)) ran.1 ∙ ap (reply.Text s.revision) (same ran.0) in
    (ap is_done is, inr (inl (is ∙ sym (dry_text s.revision text answer.reply ran.0))))
told_dry s answer plan shown (Err x) text r ran told same =
    subst (λ (y : Reply). IsDryReply s text answer y) (sym told) (refused_dry s text answer x ran)
