-- What a dry run of an edit comes to, by what the edit is answered.
use Rattle.std.specs.Prelude.{◌≡◌, ◌⊎◌, ℕ, true, false, List, [], Option, Some, None, Result, Ok, Err}
use Rattle.hl_base.specs.declared.disk.Disk.{Ghosts}
use Rattle.live_journal.specs.Edits.{splice_of}
use Rattle.live_journal.specs.Journals.{Planned}
use Rattle.query.specs.Building.{IsOneOf}
use Rattle.desk.specs.declared.deed.Deed.{Deed}
use Rattle.desk.specs.declared.desk.Desk.{Desk}
use Rattle.desk.specs.declared.reply.Reply.{Reply}
use Rattle.desk.specs.declared.reply.Reply.TheVariants as reply
use Rattle.desk.specs.Desks.{counts_of}
use Rattle.desk.specs.Previews.{past_line_ends}
use Rattle.desk.specs.States.{Answer, State, dry_reply}
use Rattle.desk.specs.Steps.{is_done}

-- a machine stays as it is
pub record IsUnchanged {D : Type 0} {g : Ghosts D} (old new : Desk D g) : Type 0 where
  pub store : new.store ≡ old.store
  pub live : new.live ≡ old.live
  pub latest : new.latest ≡ old.latest
  pub allowed : new.allow ≡ old.allow
  pub counts : counts_of new ≡ counts_of old

-- A refusal by an answer, which leaves the state as it was: the answer's own reply, one of its others, or that memory ran out.
abbrev pub IsRefusal : State → Answer → Reply → Type 0
IsRefusal s answer r =
    (is_done r ≡ false) × ((r ≡ reply.Memory) ⊎ (((r ≡ answer.reply) × (answer.state ≡ s)) ⊎ IsOneOf r answer.others))

-- A dry run of an edit has the plan of an edit that would be stored, or the refusal that the edit would be replied.
abbrev pub IsDryRun : State → Answer → Planned → Result Planned Reply → Type 0
IsDryRun s answer plan (Ok made) = (is_done answer.reply ≡ true) × (made ≡ plan)
IsDryRun s answer plan (Err r) = IsRefusal s answer r

-- the reply to a dry run: what is shown of its plan, or that memory ran out; or the refusal
abbrev pub IsToldOf : ℕ → (Planned → List ℕ) → Result Planned Reply → Reply → Type 0
IsToldOf revision shown (Ok plan) r = (r ≡ reply.Memory) ⊎ (r ≡ reply.Text revision (shown plan))
IsToldOf revision shown (Err refusal) r = r ≡ refusal

-- A reply to the dry run of an edit that is answered so, with this text where the edit would be stored.
abbrev pub IsDryReply : State → List ℕ → Answer → Reply → Type 0
IsDryReply s text answer r =
    (is_done r ≡ false) × ((r ≡ reply.Memory) ⊎ ((r ≡ dry_reply s.revision text answer.reply) ⊎ IsOneOf r answer.others))

-- what a plan adds, without the blank line before it
abbrev pub added_in : Planned → List ℕ
added_in plan = past_line_ends plan.splice.inserted

-- what an edit adds, if there is one
abbrev pub inserted_by : State → Option Deed → List ℕ
inserted_by s None = []
inserted_by s (Some d) = past_line_ends (splice_of s.text d.edit).inserted
