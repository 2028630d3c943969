-- What becomes of frames.
use Rattle.std.proofs.Common.{◌≡◌, ◌∙◌, ◌⊎◌, inl, inr, ℕ, ◌+◌, ◌-◌, ◌^◌, ◌<◌, ◌≤◌, min, ◌==◌, Bool, false, if◌then◌else◌, length, Option, None, Some, Result, Ok, Err, IfErr, refl, sym, ap, subst, arith}
use Rattle.hl_base.specs.declared.disk.Disk.{Ghosts}
use Rattle.hl_base.specs.Causes.{Rose}
use Rattle.text_store.specs.declared.image.Image.{Image}
use Rattle.text_store.specs.declared.fault.StoreFault.{StoreFault}
use Rattle.text_store.specs.declared.fault.StoreFault.TheVariants as store_fault
use Rattle.text_store.specs.Edits.{whole_size}
use Rattle.text_store.specs.Refusals.{CreateRefused, OpenRefused}
use Rattle.text_store.specs.Stores.{Holds, Tell, Throughout, disks, fault_count, limit_of, repair_due, size_of}
use Rattle.text_store.proofs.Both.{stays}
use Rattle.follower.specs.declared.fault.Accepted.{Accepted}
use Rattle.follower.specs.declared.fault.Accepted.TheVariants as accepted
use Rattle.follower.specs.declared.fault.FollowFault.{FollowFault}
use Rattle.follower.specs.declared.fault.FollowFault.TheVariants as fault
use Rattle.follower.specs.declared.follower.Follower.{Follower}
use Rattle.follower.specs.declared.frame.Frame.{Frame}
use Rattle.follower.specs.declared.keep.Unkept.{Unkept}
use Rattle.follower.specs.declared.keep.Unkept.TheVariants as unkept
use Rattle.follower.specs.Accepting.{Accepts, BecomesOf, HadRoom, IsPending, IsUnmade, MakingRefused, OpeningRefused, needed}
use Rattle.follower.specs.Images.{image_after, snapshot}
use Rattle.follower.specs.Keeping.{GoesOn, IsCause, LeftPending, room_size}
use Rattle.follower.specs.Refused.{refusal_of, fault_of}
use Rattle.follower.specs.Standings.{IsNext}
use Rattle.follower.specs.Stands.{ShowsOne, Stands}
use Rattle.follower.proofs.Kept.{kept, leaves_of}
use Rattle.follower.proofs.Texts.{other_kind}

-- a follower that stays as it is
pub still : {D : Type 0} {g : Ghosts D} (follower : Follower D g) (frame : Frame) (result : Result Accepted FollowFault) → BecomesOf follower frame result follower
    → ((pending : Option Image) → IsPending pending (image_after follower.image frame) result pending) → HadRoom follower frame result follower
    → Accepts follower frame result follower
still {D} {g} follower frame result becomes pends room = record {
  becomes = becomes;
  room = room;
  stands = λ pending stands. (pending, pends pending, stands);
  crash = λ pending stands tell. stays g (disks follower.store) _ (leaves_of follower.store follower.image pending (image_after follower.image frame) stands tell);
  limit = refl;
  keeps = kept g (disks follower.store) _;
  no_wider = (omega arith, omega arith);
}

-- a frame that was to be stored
module _ {D : Type 0} {g : Ghosts D} (old new : Follower D g) (frame : Frame) (next : Image) (is_next : IsNext old.image.revision frame) (after : image_after old.image frame ≡ Some next)
    (on : GoesOn old.store new.store)
    (run : (pending : Option Image) → Stands old.store old.image pending → Tell g (disks old.store) → Throughout g (disks old.store) (disks new.store) (ShowsOne old.image pending (Some next))) where
  moving : (pending : Option Image) → Stands old.store old.image pending → Tell g (disks old.store)
      → Throughout g (disks old.store) (disks new.store) (ShowsOne old.image pending (image_after old.image frame))
  moving pending stands tell = subst (λ (o : Option Image). Throughout g (disks old.store) (disks new.store) (ShowsOne old.image pending o)) (sym after) (run pending stands tell)

  pub taken : (revision : ℕ) → revision ≡ frame.revision → new.image ≡ next → needed old frame next ≤ limit_of old.store → size_of new.store ≡ needed old frame next
      → ((pending : Option Image) → Stands old.store old.image pending → (repair_due new.store ≡ false) × Holds new.store next) → Accepts old frame (Ok (accepted.Taken revision)) new
  taken revision is image fits long held = record {
    becomes = (is_next, is, after ∙ ap Some (sym image));
    room = subst (λ (i : Image). (needed old frame i ≤ limit_of old.store) × (size_of new.store ≡ needed old frame i)) (sym image) (fits, long);
    stands = λ pending stands. (None, refl, inl (subst (λ (i : Image). (repair_due new.store ≡ false) × Holds new.store i) (sym image) (held pending stands)));
    crash = moving;
    limit = on.limit;
    keeps = on.keeps;
    no_wider = on.no_wider;
  }

  failed : needed old frame next ≤ limit_of old.store → new.image ≡ old.image → Rose (fault_count g (disks old.store)) (fault_count g (disks new.store))
      → ((pending : Option Image) → Stands old.store old.image pending → (left : Option Image) × LeftPending unkept.DiskFault pending next left × Stands new.store old.image left)
      → Accepts old frame (Err (fault.Store store_fault.DiskFault)) new
  failed fits image rose torn = record {
    becomes = (is_next, (next, after, (fits, rose, image)));
    room = tt;
    stands = λ pending stands.
        let t = torn pending stands in
        (t.0, left_of pending t.0 t.1, subst (λ (i : Image). Stands new.store i t.0) (sym image) t.2);
    crash = moving;
    limit = on.limit;
    keeps = on.keeps;
    no_wider = on.no_wider;
  }
    where
      left_of : (pending left : Option Image) → LeftPending unkept.DiskFault pending next left → (left ≡ None) ⊎ ((left ≡ pending) ⊎ (left ≡ image_after old.image frame))
      left_of pending left (inl none) = inl none
      left_of pending left (inr (inl same)) = inr (inl same)
      left_of pending left (inr (inr this)) = inr (inr (this ∙ sym after))

  short : new.image ≡ old.image
      → ((pending : Option Image) → Stands old.store old.image pending → (left : Option Image) × LeftPending unkept.Memory pending next left × Stands new.store old.image left)
      → Accepts old frame (Err fault.Memory) new
  short image torn = record {
    becomes = (is_next, image);
    room = tt;
    stands = λ pending stands.
        let t = torn pending stands in
        (t.0, t.1, subst (λ (i : Image). Stands new.store i t.0) (sym image) t.2);
    crash = moving;
    limit = on.limit;
    keeps = on.keeps;
    no_wider = on.no_wider;
  }

  pub refused : (reason : Unkept) → needed old frame next ≤ limit_of old.store → new.image ≡ old.image
      → IsCause reason (fault_count g (disks old.store)) (fault_count g (disks new.store))
      → ((pending : Option Image) → Stands old.store old.image pending → (left : Option Image) × LeftPending reason pending next left × Stands new.store old.image left)
      → Accepts old frame (Err (fault_of reason)) new
  refused unkept.DiskFault fits image cause torn = failed fits image cause torn
  refused unkept.Memory fits image cause torn = short image torn

-- a snapshot needs a half of its own
pub needs_whole : {D : Type 0} {g : Ghosts D} (old : Follower D g) (frame : Frame) (next : Image) → frame.kind ≡ 67 → needed old frame next ≡ whole_size next
needs_whole old frame next is =
    ap (λ (n : ℕ). if n == 67 then whole_size next else room_size (size_of old.store) (limit_of old.store) (10 + length frame.payload) (whole_size old.image) + (10 + length frame.payload)) is

-- another record needs its room
pub needs_room : {D : Type 0} {g : Ghosts D} (old : Follower D g) (frame : Frame) (next : Image) → (frame.kind ≡ 67 → ⊥)
    → needed old frame next ≡ room_size (size_of old.store) (limit_of old.store) (10 + length frame.payload) (whole_size old.image) + (10 + length frame.payload)
needs_room old frame next other =
    ap (λ (b : Bool). if b then whole_size next else room_size (size_of old.store) (limit_of old.store) (10 + length frame.payload) (whole_size old.image) + (10 + length frame.payload)) (other_kind frame.kind other)

-- no room for a frame
pub full : {D : Type 0} {g : Ghosts D} (old : Follower D g) (frame : Frame) (next : Image) (size : ℕ) (cause : StoreFault) → IsNext old.image.revision frame → image_after old.image frame ≡ Some next
    → needed old frame next ≡ size → limit_of old.store < size → cause ≡ store_fault.Full (min size (2 ^ 64 - 1)) (limit_of old.store) → Accepts old frame (Err (fault.Store cause)) old
full old frame next size cause is_next after is past told =
    subst (λ (c : StoreFault). Accepts old frame (Err (fault.Store c)) old) (sym told)
    (still old frame (Err (fault.Store (store_fault.Full (min size (2 ^ 64 - 1)) (limit_of old.store)))) (
      is_next,
      (next, after, (omega (arith, is, past), ap (λ (n : ℕ). min n (2 ^ 64 - 1)) (sym is), refl, refl)),
    )
    (λ pending. refl) tt)

-- ---- making and opening

pub unmade : {D : Type 0} (g : Ghosts D) (old new : D × D) (size limit : ℕ) (e : StoreFault) → CreateRefused g old new size limit e → IsUnmade g old new size limit (refusal_of e)
unmade g old new size limit store_fault.DiskFault refused = (refused, λ is. cc)
unmade g old new size limit (store_fault.Full told most) refused = (refused, λ is. cc)
unmade g old new size limit (store_fault.Exists len) refused = (refused, λ is. cc)
unmade g old new size limit (store_fault.NotAStore at) refused = absurd refused
unmade g old new size limit (store_fault.Newer version) refused = absurd refused
unmade g old new size limit store_fault.Memory refused = refused

pub unmade_of : {D : Type 0} (g : Ghosts D) (old new : D × D) (frame : Frame) (shown : Image) (limit : ℕ) (e : FollowFault) → frame.kind ≡ 67 → snapshot frame ≡ Some shown
    → IsUnmade g old new (whole_size shown) limit e → MakingRefused g old new frame limit e
unmade_of g old new frame shown limit (fault.Store cause) kind is refused = (kind, (shown, is, refused.0), refused.1)
unmade_of g old new frame shown limit fault.Memory kind is refused = (kind, refused)
unmade_of g old new frame shown limit (fault.NotASnapshot other) kind is refused = absurd refused
unmade_of g old new frame shown limit (fault.BadPayload revision) kind is refused = absurd refused

pub unopened : {D : Type 0} (g : Ghosts D) (old new : D × D) (e : StoreFault) → OpenRefused g old new e → OpeningRefused g old new (refusal_of e)
unopened g old new store_fault.DiskFault refused = (refused, λ is. cc)
unopened g old new (store_fault.Full told most) refused = absurd refused
unopened g old new (store_fault.Exists len) refused = absurd refused
unopened g old new (store_fault.NotAStore at) refused = (refused, λ is. cc)
unopened g old new (store_fault.Newer version) refused = (refused, λ is. cc)
unopened g old new store_fault.Memory refused = refused

pub if_err_map : {T E : Type 0} (r : Result T E) (P R : E → Type 0) → ((e : E) → P e → R e) → IfErr r P → IfErr r R
if_err_map (Ok v) P R from p = tt
if_err_map (Err e) P R from p = from e p
