-- What crashes leave of a follower that has accepted frames.
use Rattle.std.proofs.Common.{◌≡◌, ◌⊎◌, inl, inr, Bool, List, [], ◌∷◌, Option, Some, None, Result, Ok, Err, IsTrue, sym, subst}
use Rattle.hl_base.specs.declared.disk.Disk.{Ghosts}
use Rattle.text_store.specs.declared.fault.StoreFault.TheVariants as store_fault
use Rattle.text_store.specs.declared.image.Image.{Image}
use Rattle.text_store.specs.Stores.{Tell, disks}
use Rattle.follower.specs.declared.fault.Accepted.{Accepted}
use Rattle.follower.specs.declared.fault.Accepted.TheVariants as accepted
use Rattle.follower.specs.declared.fault.FollowFault.{FollowFault}
use Rattle.follower.specs.declared.fault.FollowFault.TheVariants as fault
use Rattle.follower.specs.declared.follower.Follower.{Follower}
use Rattle.follower.specs.declared.frame.Frame.{Frame}
use Rattle.follower.specs.Accepting.{Accepts, IsPending}
use Rattle.follower.specs.Crashes.{Runs, IsUntaken, MayPend, CrashesShowOne}
use Rattle.follower.specs.Histories.{Becomes}
use Rattle.follower.specs.Images.{image_after}
use Rattle.follower.specs.Stands.{Stands}
use Rattle.follower.proofs.Following.{leads_of}

module _ (shown after : Image) (earlier : List (Frame × Result Accepted FollowFault)) (frame : Frame) (pending left : Option Image) where
  -- nothing may be shown
  nothing : (result : Result Accepted FollowFault) → left ≡ None → MayPend after ((frame, result) ∷ earlier) left
  nothing result is = subst (λ (o : Option Image). MayPend after ((frame, result) ∷ earlier) o) (sym is) tt

  further : (result : Result Accepted FollowFault) → IsUntaken result → (o : Option Image) → MayPend shown earlier o → MayPend shown ((frame, result) ∷ earlier) o
  further result untaken None pends = tt
  further result untaken (Some other) pends = inr (untaken, pends)

  -- what might be shown before
  stays : (result : Result Accepted FollowFault) → IsUntaken result → after ≡ shown → left ≡ pending → MayPend shown earlier pending → MayPend after ((frame, result) ∷ earlier) left
  stays result untaken same is pends =
      subst (λ (i : Image). MayPend i ((frame, result) ∷ earlier) left) (sym same)
      (subst (λ (o : Option Image). MayPend shown ((frame, result) ∷ earlier) o) (sym is) (further result untaken pending pends))

  -- this frame
  this_one : (o : Option Image) → o ≡ image_after shown frame → MayPend shown ((frame, Err (fault.Store store_fault.DiskFault)) ∷ earlier) o
  this_one None is = tt
  this_one (Some other) is = inl (sym is)

  failed : after ≡ shown → MayPend shown earlier pending → (left ≡ None) ⊎ ((left ≡ pending) ⊎ (left ≡ image_after shown frame)) → MayPend after ((frame, Err (fault.Store store_fault.DiskFault)) ∷ earlier) left
  failed same pends (inl none) = nothing (Err (fault.Store store_fault.DiskFault)) none
  failed same pends (inr (inl is)) = stays (Err (fault.Store store_fault.DiskFault)) tt same is pends
  failed same pends (inr (inr is)) = subst (λ (i : Image). MayPend i ((frame, Err (fault.Store store_fault.DiskFault)) ∷ earlier) left) (sym same) (this_one left is)

  short : after ≡ shown → MayPend shown earlier pending → (left ≡ None) ⊎ (left ≡ pending) → MayPend after ((frame, Err fault.Memory) ∷ earlier) left
  short same pends (inl none) = nothing (Err fault.Memory) none
  short same pends (inr is) = stays (Err fault.Memory) tt same is pends

  -- what may be shown after a frame
  pends_after : (result : Result Accepted FollowFault) → Becomes shown frame result after → MayPend shown earlier pending → IsPending pending (image_after shown frame) result left
      → MayPend after ((frame, result) ∷ earlier) left
  pends_after (Ok (accepted.Taken revision)) becomes pends is = nothing (Ok (accepted.Taken revision)) is
  pends_after (Ok (accepted.Old had got)) becomes pends is = stays (Ok (accepted.Old had got)) tt becomes is pends
  pends_after (Ok (accepted.Gap had got)) becomes pends is = stays (Ok (accepted.Gap had got)) tt becomes is pends
  pends_after (Err (fault.Store store_fault.DiskFault)) becomes pends is = failed becomes pends is
  pends_after (Err (fault.Store (store_fault.NotAStore at))) becomes pends is = stays (Err (fault.Store (store_fault.NotAStore at))) tt becomes is pends
  pends_after (Err (fault.Store (store_fault.Newer version))) becomes pends is = stays (Err (fault.Store (store_fault.Newer version))) tt becomes is pends
  pends_after (Err (fault.Store (store_fault.Full size limit))) becomes pends is = stays (Err (fault.Store (store_fault.Full size limit))) tt becomes is pends
  pends_after (Err (fault.Store (store_fault.Exists len))) becomes pends is = stays (Err (fault.Store (store_fault.Exists len))) tt becomes is pends
  pends_after (Err (fault.Store store_fault.Memory)) becomes pends is = stays (Err (fault.Store store_fault.Memory)) tt becomes is pends
  pends_after (Err (fault.NotASnapshot kind)) becomes pends is = stays (Err (fault.NotASnapshot kind)) tt becomes is pends
  pends_after (Err (fault.BadPayload revision)) becomes pends is = stays (Err (fault.BadPayload revision)) tt becomes is pends
  pends_after (Err fault.Memory) becomes pends is = short becomes pends is

module _ {D : Type 0} {g : Ghosts D} where
  -- the disks tell what they told
  tell_on : (old new : Follower D g) (frame : Frame) (result : Result Accepted FollowFault) → Accepts old frame result new → Tell g (disks old.store) → Tell g (disks new.store)
  tell_on old new frame result accepts tell =
      let F : Bool → Type 0 = λ b. IsTrue b in
      (subst F (sym accepts.keeps.tells_first) tell.0, subst F (sym accepts.keeps.tells_second) tell.1)

  run_pends : (old now : Follower D g) (steps : List (Frame × Result Accepted FollowFault)) → Stands old.store old.image None → Tell g (disks old.store) → Runs old steps now
      → (pending : Option Image) × MayPend now.image steps pending × Stands now.store now.image pending × Tell g (disks now.store)
  run_pends old now [] stands tell runs =
      (None, tt, subst (λ (f : Follower D g). Stands f.store f.image None) (sym runs) stands, subst (λ (f : Follower D g). Tell g (disks f.store)) (sym runs) tell)
  run_pends old now (step ∷ earlier) stands tell runs =
      let mid = runs.0 in
      let accepts = runs.2 in
      let before = run_pends old mid earlier stands tell runs.1 in
      let s = accepts.stands before.0 before.2 in (
        s.0,
        pends_after mid.image now.image earlier step.0 before.0 s.0 step.1 (leads_of mid now step.0 step.1 accepts.becomes) before.1 s.1,
        s.2,
        tell_on mid now step.0 step.1 accepts before.3,
      )

pub crashes_show_one : {D : Type 0} (g : Ghosts D) → CrashesShowOne g
crashes_show_one g = λ old now new steps frame result stands tell runs accepts.
    let here = run_pends old now steps stands tell runs in
    (here.0, here.1, accepts.crash here.0 here.2 here.3)
