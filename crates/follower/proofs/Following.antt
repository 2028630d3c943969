-- A follower of one history has an image of it.
use Rattle.std.proofs.Common.{◌≡◌, ◌∙◌, ◌⊎◌, inl, inr, ℕ, zero, suc, ◌+◌, ◌<◌, ◌≤◌, ◌^◌, List, [], ◌∷◌, Option, Some, Result, Ok, Err, sym, ap, subst, arith}
use Rattle.text_store.specs.declared.change.Change.{Change}
use Rattle.text_store.specs.declared.change.Change.TheVariants.{Splice, Whole, Import}
use Rattle.text_store.specs.declared.fault.StoreFault.{StoreFault}
use Rattle.text_store.specs.declared.fault.StoreFault.TheVariants as store_fault
use Rattle.text_store.specs.declared.image.Image.{Image}
use Rattle.hl_base.specs.declared.disk.Disk.{Ghosts}
use Rattle.text_store.specs.Changes.{kind_of}
use Rattle.text_store.specs.Edits.{edited, edited_content, content_in, at_revision}
use Rattle.text_store.specs.Image.{changed, checkpointed}
use Rattle.text_store.proofs.Decoding.{changed_as}
use Rattle.text_store.proofs.Growing.{content_edited}
use Rattle.text_store.proofs.Wholes.{whole_reads}
use Rattle.follower.specs.declared.fault.Accepted.{Accepted}
use Rattle.follower.specs.declared.fault.Accepted.TheVariants.{Taken, Old, Gap}
use Rattle.follower.specs.declared.fault.FollowFault.{FollowFault}
use Rattle.follower.specs.declared.fault.FollowFault.TheVariants as fault
use Rattle.follower.specs.declared.follower.Follower.{Follower}
use Rattle.follower.specs.declared.frame.Frame.{Frame}
use Rattle.follower.specs.Accepting.{BecomesOf, IsUnstored, needed}
use Rattle.follower.specs.Histories.{IsAfter, IsSnapshot, IsRecord, IsGenuine, Becomes, AreGenuine, LeadTo}
use Rattle.follower.specs.Images.{snapshot, image_after}
use Rattle.follower.specs.Standings.{IsNext}
use Rattle.follower.proofs.Texts.{within_is, after_change, after_snapshot}

pub some_one : (o : Option Image) (a b : Image) → o ≡ Some a → o ≡ Some b → a ≡ b
some_one o a b x y = let e : a ≡ b = cc in e

-- there is one image after so many changes
one_after : (n : ℕ) (start : Image) (changes : List Change) (a b : Image) → IsAfter start n changes a → IsAfter start n changes b → a ≡ b
one_after zero start changes a b x y = x ∙ sym y
one_after (suc n) start [] a b x y = absurd x
one_after (suc n) start (change ∷ changes) a b x y =
    one_after n x.0 changes a b x.2 (subst (λ (i : Image). IsAfter i n changes b) (some_one (edited start change) y.0 x.0 y.1 x.1) y.2)

-- each change raises the revision by one
pub counted : (n : ℕ) (start : Image) (changes : List Change) (shown : Image) → IsAfter start n changes shown → shown.revision ≡ start.revision + n
counted zero start changes shown x = let e : shown.revision ≡ start.revision = ap (λ (i : Image). i.revision) x in omega (arith, e)
counted (suc n) start [] shown x = absurd x
counted (suc n) start (change ∷ changes) shown x =
    let rest = counted n x.0 changes shown x.2 in
    let first = (content_edited (start.revision + 1) (edited_content (content_in start) change) x.0 x.1).1 in
    omega (arith, rest, first)

-- a C gives its image
pub snapshot_is : (shown : Image) (frame : Frame) → IsSnapshot shown frame → frame.revision ≡ shown.revision → shown.revision ≤ 2 ^ 62 → snapshot frame ≡ Some shown
snapshot_is shown frame is revision small =
    within_is frame.revision (checkpointed frame.payload) (omega (arith, revision, small))
    ∙ (λ i. at_revision (revision i) ((ap checkpointed is.payload ∙ whole_reads shown is.writable is.states) i))

no_snapshot : (change : Change) → kind_of change ≡ 67 → ⊥
no_snapshot (Splice part) is = let e : 83 ≡ 67 = is in omega (arith, e)
no_snapshot (Whole text) is = let e : 84 ≡ 67 = is in omega (arith, e)
no_snapshot (Import state part) is = let e : 73 ≡ 67 = is in omega (arith, e)

-- a record gives the image that its change leads to
pub record_is : (before shown : Image) (change : Change) (frame : Frame) → IsRecord change frame → edited before change ≡ Some shown → frame.revision ≡ before.revision + 1 → frame.revision ≤ 2 ^ 62
    → image_after before frame ≡ Some shown
record_is before shown change frame is made next small =
    after_change before frame (λ kind. no_snapshot change (sym is.kind ∙ kind))
    ∙ within_is frame.revision (changed (content_in before) (record { at = 0; kind = frame.kind; payload = frame.payload })) small
    ∙ (λ i. at_revision (next i) (changed (content_in before) (record { at = 0; kind = is.kind i; payload = is.payload i })))
    ∙ ap (at_revision (before.revision + 1)) (changed_as (content_in before) change 0 is.name is.numbers)
    ∙ made

-- what a follower that stays has
same_image : {D : Type 0} {g : Ghosts D} (old new : Follower D g) → new ≡ old → new.image ≡ old.image
same_image {D} {g} old new is = ap (λ (f : Follower D g). f.image) is

unstored : {D : Type 0} {g : Ghosts D} (old new : Follower D g) (size : ℕ) (cause : StoreFault) → IsUnstored old new size cause → new.image ≡ old.image
unstored old new size (store_fault.Full told limit) is = same_image old new is.3
unstored old new size store_fault.DiskFault is = is.2
unstored old new size (store_fault.NotAStore at) is = absurd is
unstored old new size (store_fault.Newer version) is = absurd is
unstored old new size (store_fault.Exists len) is = absurd is
unstored old new size store_fault.Memory is = absurd is

module _ (start : Image) (changes : List Change) where
  taken_on : (n : ℕ) (shown after : Image) (frame : Frame) → IsAfter start n changes shown → IsGenuine start changes frame → IsNext shown.revision frame → image_after shown frame ≡ Some after
      → (m : ℕ) × (n ≤ m) × IsAfter start m changes after
  taken_on n shown after frame here genuine next made = by_kind genuine.is
    where
      ahead : n < genuine.count
      ahead = omega (arith, next.later, genuine.revision, counted n start changes shown here, counted genuine.count start changes genuine.shown genuine.after)

      as_genuine : image_after shown frame ≡ Some genuine.shown → (m : ℕ) × (n ≤ m) × IsAfter start m changes after
      as_genuine same =
          (genuine.count, omega (arith, ahead), subst (λ (i : Image). IsAfter start genuine.count changes i) (some_one (image_after shown frame) genuine.shown after same made) genuine.after)

      later : (frame.kind ≡ 67) ⊎ (frame.revision ≡ shown.revision + 1) → (frame.kind ≡ 67 → ⊥) → frame.revision ≡ shown.revision + 1
      later (inl kind) other = absurd (other kind)
      later (inr is) other = is

      by_kind : (IsSnapshot genuine.shown frame ⊎ ((k : ℕ) × (before : Image) × (change : Change) × (genuine.count ≡ suc k) × IsAfter start k changes before × (edited before change ≡ Some genuine.shown) × IsRecord change frame))
          → (m : ℕ) × (n ≤ m) × IsAfter start m changes after
      by_kind (inl is) = as_genuine (after_snapshot shown frame is.kind ∙ snapshot_is genuine.shown frame is genuine.revision genuine.within)
      by_kind (inr is) =
          let k = is.0 in
          let change = is.2 in
          let follows : frame.revision ≡ shown.revision + 1 = later next.next (λ kind. no_snapshot change (sym is.6.kind ∙ kind)) in
          let same_place : k ≡ n = omega (arith, follows, genuine.revision, is.3, counted n start changes shown here, counted genuine.count start changes genuine.shown genuine.after) in
          let same_before : is.1 ≡ shown = one_after n start changes is.1 shown (subst (λ (j : ℕ). IsAfter start j changes is.1) same_place is.4) here in
          as_genuine (record_is shown genuine.shown change frame is.6 (subst (λ (i : Image). edited i change ≡ Some genuine.shown) same_before is.5) follows
          (omega (arith, genuine.revision, genuine.within)))

  step_on : (n : ℕ) (shown after : Image) (frame : Frame) (result : Result Accepted FollowFault) → IsAfter start n changes shown → IsGenuine start changes frame → Becomes shown frame result after
      → (m : ℕ) × (n ≤ m) × IsAfter start m changes after
  step_on n shown after frame (Ok (Taken revision)) here genuine becomes = taken_on n shown after frame here genuine becomes.0 becomes.1
  step_on n shown after frame (Ok (Old had got)) here genuine becomes = (n, omega arith, subst (λ (i : Image). IsAfter start n changes i) (sym becomes) here)
  step_on n shown after frame (Ok (Gap had got)) here genuine becomes = (n, omega arith, subst (λ (i : Image). IsAfter start n changes i) (sym becomes) here)
  step_on n shown after frame (Err fault) here genuine becomes = (n, omega arith, subst (λ (i : Image). IsAfter start n changes i) (sym becomes) here)

  -- whatever comes of the frames of a history, an image of it goes on to one that isn't earlier
  leads_on : (n : ℕ) (shown end : Image) (steps : List (Frame × Result Accepted FollowFault)) → IsAfter start n changes shown → AreGenuine start changes steps → LeadTo shown steps end
      → (m : ℕ) × (n ≤ m) × IsAfter start m changes end
  leads_on n shown end [] here genuine leads = (n, omega arith, subst (λ (i : Image). IsAfter start n changes i) (sym leads) here)
  leads_on n shown end (step ∷ steps) here genuine leads =
      let first = step_on n shown leads.0 step.0 step.1 here genuine.0 leads.1 in
      let rest = leads_on first.0 leads.0 end steps first.2 genuine.1 leads.2 in
      (rest.0, omega (arith, first.1, rest.1), rest.2)

  pub never_falls : (n : ℕ) (shown end : Image) (steps : List (Frame × Result Accepted FollowFault)) → IsAfter start n changes shown → AreGenuine start changes steps → LeadTo shown steps end
      → (m : ℕ) × (n ≤ m) × (end.revision ≡ start.revision + m) × (shown.revision ≤ end.revision) × IsAfter start m changes end
  never_falls n shown end steps here genuine leads =
      let on = leads_on n shown end steps here genuine leads in
      let revision = counted on.0 start changes end on.2 in
      (on.0, on.1, revision, omega (arith, on.1, counted n start changes shown here, revision), on.2)

  -- the C of a history gives an image of it
  pub begins : (frame : Frame) (shown : Image) → IsGenuine start changes frame → frame.kind ≡ 67 → snapshot frame ≡ Some shown → (n : ℕ) × IsAfter start n changes shown
  begins frame shown genuine kind made = by_kind genuine.is
    where
      by_kind : (IsSnapshot genuine.shown frame ⊎ ((k : ℕ) × (before : Image) × (change : Change) × (genuine.count ≡ suc k) × IsAfter start k changes before × (edited before change ≡ Some genuine.shown) × IsRecord change frame))
          → (n : ℕ) × IsAfter start n changes shown
      by_kind (inl is) =
          let same : genuine.shown ≡ shown = some_one (snapshot frame) genuine.shown shown (snapshot_is genuine.shown frame is genuine.revision genuine.within) made in
          (genuine.count, subst (λ (i : Image). IsAfter start genuine.count changes i) same genuine.after)
      by_kind (inr is) = absurd (no_snapshot is.2 (sym is.6.kind ∙ kind))

-- what becomes of a frame, as a step of a history
pub leads_of : {D : Type 0} {g : Ghosts D} (old new : Follower D g) (frame : Frame) (result : Result Accepted FollowFault) → BecomesOf old frame result new → Becomes old.image frame result new.image
leads_of old new frame (Ok (Taken revision)) becomes = (becomes.0, becomes.2)
leads_of old new frame (Ok (Old had got)) becomes = same_image old new becomes.2
leads_of old new frame (Ok (Gap had got)) becomes = same_image old new becomes.3
leads_of old new frame (Err (fault.Store cause)) becomes = unstored old new (needed old frame becomes.1.0) cause becomes.1.2
leads_of old new frame (Err (fault.NotASnapshot kind)) becomes = absurd becomes
leads_of old new frame (Err (fault.BadPayload revision)) becomes = same_image old new becomes.3
leads_of old new frame (Err fault.Memory) becomes = becomes.1
