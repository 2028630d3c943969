-- How a machine serves an edit that it puts into its store.
use Rattle.std.proofs.Common.{◌≡◌, ◌⊎◌, inl, inr, ℕ, ◌+◌, false, if◌then◌else◌, List, Option, Some, refl, ap, ◌∙◌}
use Rattle.std.specs.Option.{unwrap_or}
use Rattle.hl_base.specs.declared.change.Latest.{Latest}
use Rattle.live_journal.specs.Edits.{applied}
use Rattle.live_journal.specs.Journals.{Journal, Planned}
use Rattle.live_journal.specs.Refusals.{put_into}
use Rattle.text_store.specs.declared.image.Image.{Image}
use Rattle.desk.specs.declared.deed.Deed.{Deed}
use Rattle.desk.specs.declared.keep.Unkept.TheVariants as unkept
use Rattle.desk.specs.declared.reply.Reply.TheVariants as reply
use Rattle.desk.specs.Keeping.{LeftPending}
use Rattle.desk.specs.Stands.{IsPending}
use Rattle.desk.specs.States.{State, change_of, edited_state, record_size, size_before, states_with}
use Rattle.desk.specs.Steps.{Stays, size_for}

-- the state is the same but for the size of its store
pub stays_so : (s : State) (d : Option Deed) (size limit : ℕ) → limit ≡ s.limit → (size ≡ s.size) ⊎ (size ≡ size_for s d) → Stays s d (record s { size = size; limit = limit })
stays_so s d size limit same (inl h) =
    inl (ap (λ (n : ℕ). record s { size = n; limit = limit }) h ∙ ap (λ (n : ℕ). record s { limit = n }) same)
stays_so s d size limit same (inr h) =
    inr (ap (λ (n : ℕ). record s { size = n; limit = limit }) h ∙ ap (λ (n : ℕ). record s { size = size_for s d; limit = n }) same)

-- what may be shown beside the state after an edit that wasn't kept is what the reply says
pub left_memory : (next : Image) (pending after : Option Image) → LeftPending unkept.Memory pending next after → IsPending pending (Some next) reply.Memory after
left_memory next pending after (inl h) = inl h
left_memory next pending after (inr h) = inr (inl (refl, h))

pub left_fault : (next : Image) (from to : ℕ) (pending after : Option Image) → LeftPending unkept.DiskFault pending next after → IsPending pending (Some next) (reply.DiskFault from to) after
left_fault next from to pending after (inl h) = inl h
left_fault next from to pending after (inr (inl h)) = inr (inl (refl, h))
left_fault next from to pending after (inr (inr h)) = inr (inr (refl, h))

pub sized : (size old x y : ℕ) → x ≡ y → (size ≡ old) ⊎ (size ≡ x) → (size ≡ old) ⊎ (size ≡ y)
sized size old x y e (inl h) = inl h
sized size old x y e (inr h) = inr (h ∙ e)

-- a plan that changes the text raises the revision
pub put_so : (plan : Planned) (revision : ℕ) → plan.same ≡ false → put_into plan (if plan.same then revision else revision + 1) ≡ put_into plan (revision + 1)
put_so plan revision h = rw h refl

abbrev pub state_with : State → List ℕ → List Latest → ℕ → ℕ → ℕ → State
state_with s text latest revision size limit = record { text = text; latest = latest; revision = revision; allowed = s.allowed; size = size; limit = limit }

-- the state after an edit, by its parts
pub state_as : (s : State) (d : Deed) (live : Journal) (latest : List Latest) (size limit : ℕ) → live.text ≡ applied s.text d.edit → live.revision ≡ s.revision + 1
    → latest ≡ unwrap_or (states_with d.mark s.latest) s.latest
    → size ≡ size_before s (record_size (change_of s.text d)) + record_size (change_of s.text d) → limit ≡ s.limit
    → state_with s live.text latest live.revision size limit ≡ edited_state s d
state_as s d live latest size limit text revision states sizes limits =
    let n = size_before s (record_size (change_of s.text d)) + record_size (change_of s.text d) in
    let all = unwrap_or (states_with d.mark s.latest) s.latest in
    ap (λ (t : List ℕ). state_with s t latest live.revision size limit) text
    ∙ ap (λ (l : List Latest). state_with s (applied s.text d.edit) l live.revision size limit) states
    ∙ ap (λ (r : ℕ). state_with s (applied s.text d.edit) all r size limit) revision
    ∙ ap (λ (m : ℕ). state_with s (applied s.text d.edit) all (s.revision + 1) m limit) sizes
    ∙ ap (λ (m : ℕ). state_with s (applied s.text d.edit) all (s.revision + 1) n m) limits
