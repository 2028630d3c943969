-- How two disks become a replica, or are opened as one, and what a source makes of it.
use Rattle.std.specs.Prelude.{◌≡◌, ◌≢◌, ◌⊎◌, ℕ, ◌<◌, ◌^◌, Bool, true, false, max, List, [], Option, Some, None, IfSome, Result, Ok, Err, IfOk, IfErr, OnOk, length}
use Rattle.hl_base.specs.Causes.{Rose}
use Rattle.hl_base.specs.declared.disk.Disk.{Ghosts as Disks}
use Rattle.hl_base.specs.declared.outside.Source.{Ghosts as Sources}
use Rattle.text_store.specs.declared.image.Image.{Image}
use Rattle.text_store.specs.Files.{WhileMade, WhileOpened, opened_limit}
use Rattle.text_store.specs.Image.{image}
use Rattle.text_store.specs.Refusals.{Told}
use Rattle.text_store.specs.Rest.{IsReadOn}
use Rattle.text_store.specs.Stores.{Keeps, Tell, Throughout, disks, fault_count, limit_of}
use Rattle.follower.specs.Accepting.{MakingRefused, OpeningRefused}
use Rattle.follower.specs.Fills.{NextRefused}
use Rattle.follower.specs.Heads.{BeginsWith}
use Rattle.follower.specs.Images.{snapshot}
use Rattle.follower.specs.Stands.{Stands}
use Rattle.follower.specs.declared.fault.FollowFault.{FollowFault}
use Rattle.follower.specs.declared.fault.FrameFault.{FrameFault}
use Rattle.follower.specs.declared.fault.FrameFault.TheVariants as frame_fault
use Rattle.follower.specs.declared.follower.Follower.{Follower}
use Rattle.follower.specs.declared.frame.Frame.{Frame}
use Rattle.follow_commands.specs.Genuine.{LeadsOn}
use Rattle.follow_commands.specs.Walks.{Follows}
use Rattle.follow_commands.specs.declared.following.Stop.{Stop}
use Rattle.follow_commands.specs.declared.tally.Tally.{Tally}
use Rattle.store_text.specs.declared.refusal.StoreRefusal.TheVariants as store_refusal
use Rattle.store_following.specs.Led.{ShowsOneLed, led}
use Rattle.store_following.specs.Refusals.{of_fault, told_of}
use Rattle.store_following.specs.declared.refusal.FollowRefusal.{FollowRefusal}
use Rattle.store_following.specs.declared.refusal.FollowRefusal.TheVariants as refusal
use Rattle.store_following.specs.declared.refusal.Followed.{Followed}

-- no frame was counted yet, or the one of which a replica was made
abbrev pub no_frame : Tally
no_frame = record { taken = 0; old = 0; gaps = 0 }

abbrev pub first_frame : Tally
first_frame = record { taken = 1; old = 0; gaps = 0 }

-- why frames weren't followed on
abbrev pub IsOfLeading : FollowRefusal → Type 0
IsOfLeading (refusal.Unread fault) = Unit {0}
IsOfLeading refusal.Payload = Unit {0}
IsOfLeading (refusal.Store (store_refusal.Full size limit)) = Unit {0}
IsOfLeading (refusal.Store store_refusal.DiskFault) = Unit {0}
IsOfLeading (refusal.Store store_refusal.Memory) = Unit {0}
IsOfLeading _ = ⊥

-- A replica follows a source to its end or to a refusal, and gives its disks back.
pub record IsLed {J D : Type 0} (i : Sources J) (g : Disks D) (source source_then : J) (from : Follower D g) (before : Tally) (new : D × D) (result : Result Followed FollowRefusal) : Type 0 where
  pub end : Follower D g
  pub tally : Tally
  pub done : Result (Unit {0}) Stop
  pub follows : Follows i g source source_then from end before tally done
  pub closed : new ≡ disks end.store
  pub told : result ≡ told_of done end.image.revision tally
  pub kind : IfErr result IsOfLeading
  -- its image is that after the frames that it took, and over those of one history it is led on
  pub image_is : end.image ≡ led from.image follows.steps
  pub genuine : LeadsOn (i.left source) from.image end.image
  -- a crash at any moment shows the image after the first so many frames, or that with the one behind them
  pub any_moment : Stands from.store from.image None → Tell g (disks from.store) → Throughout g (disks from.store) new (ShowsOneLed from.image follows.steps)
  -- but for a disk fault its disks then show its image, also after a crash
  pub rests : Stands from.store from.image None → result ≢ Err (refusal.Store store_refusal.DiskFault) → Stands end.store end.image None
  pub rose : result ≡ Err (refusal.Store store_refusal.DiskFault) → Rose (fault_count g (disks from.store)) (fault_count g new)
  pub tells : Tell g (disks from.store) → Tell g new

-- A replica was made of a frame, and led on.
pub record IsMade {J D : Type 0} (i : Sources J) (g : Disks D) (frame : Frame) (source source_then : J) (old new : D × D) (limit : ℕ) (result : Result Followed FollowRefusal) : Type 0 where
  pub made : Follower D g
  pub kind : frame.kind ≡ 67
  pub image_is : snapshot frame ≡ Some made.image
  pub stands : Told g old (λ f s. (f ≡ []) × (s ≡ []) × Stands made.store made.image None)
  pub has_limit : limit_of made.store ≡ limit
  pub any_moment : Told g old (λ f s. Tell g old → Throughout g old (disks made.store) (WhileMade g old made.image))
  pub keeps : Keeps g old (disks made.store) (limit, limit)
  pub leads : IsLed i g source source_then made first_frame new result

-- It wasn't made of it, and no further byte was read.
pub record IsUnmade {J D : Type 0} (g : Disks D) (frame : Frame) (source source_then : J) (old new : D × D) (limit : ℕ) (result : Result Followed FollowRefusal) : Type 0 where
  pub fault : FollowFault
  pub refused : MakingRefused g old new frame limit fault
  pub told : result ≡ Err (of_fault fault)
  pub any_moment : Told g old (λ f s. Tell g old → (shown : Image) → snapshot frame ≡ Some shown → Throughout g old new (WhileMade g old shown))
  pub keeps : Keeps g old new (limit, limit)
  pub unread : source_then ≡ source

-- the first frame of a source, or why there is none
pub record FirstIs {J : Type 0} (i : Sources J) (source mid : J) (found : Result (Option Frame) FrameFault) : Type 0 where
  pub told : IfOk found (λ frame. IfSome (i.left source) (λ bytes. (rest : List ℕ) × (i.left mid ≡ Some rest) × BeginsWith bytes frame rest))
  pub refused : IfErr found (NextRefused (i.left source) (i.faults source) (i.faults mid))
  pub steady : OnOk found (i.faults mid ≡ i.faults source)
  pub sound : i.IsSound source → (found ≢ Err frame_fault.ReadFault) × i.IsSound mid

-- what comes of it
abbrev pub StartsWith : {J D : Type 0} → Sources J → Disks D → Result (Option Frame) FrameFault → J → J → D × D → D × D → ℕ → Result Followed FollowRefusal → Type 0
StartsWith i g (Ok (Some frame)) source source_then old new limit result =
    (frame.revision < 2 ^ 64) × (IsMade i g frame source source_then old new limit result ⊎ IsUnmade g frame source source_then old new limit result)
StartsWith i g (Ok None) source source_then old new limit result = (source_then ≡ source) × (new ≡ old) × (result ≡ Err refusal.NoSnapshot)
StartsWith i g (Err fault) source source_then old new limit result = (source_then ≡ source) × (new ≡ old) × (result ≡ Err (refusal.Unread fault))

-- A new replica is made of the first frame of a source, and led on by the others; or why not.
pub record Starts {J D : Type 0} (i : Sources J) (g : Disks D) (source source_then : J) (old new : D × D) (limit : ℕ) (result : Result Followed FollowRefusal) : Type 0 where
  pub found : Result (Option Frame) FrameFault
  pub mid : J
  pub first : FirstIs i source mid found
  pub starts : StartsWith i g found mid source_then old new limit result

-- A replica was opened, and led on.
pub record IsOpened {J D : Type 0} (i : Sources J) (g : Disks D) (source source_then : J) (old new : D × D) (result : Result Followed FollowRefusal) : Type 0 where
  pub opened : Follower D g
  pub stands : Told g old (λ f s. (image f s ≡ Ok opened.image) × Stands opened.store opened.image None × (limit_of opened.store ≡ opened_limit f s))
  pub any_moment : Told g old (λ f s. Tell g old → Throughout g old (disks opened.store) (WhileOpened g old f s))
  pub keeps : Told g old (λ f s. Keeps g old (disks opened.store) (max (opened_limit f s) (length f), max (opened_limit f s) (length s)))
  pub leads : IsLed i g source source_then opened no_frame new result

-- It wasn't opened, and no byte was read.
pub record IsUnopened {J D : Type 0} (g : Disks D) (source source_then : J) (old new : D × D) (result : Result Followed FollowRefusal) : Type 0 where
  pub fault : FollowFault
  pub refused : OpeningRefused g old new fault
  pub told : result ≡ Err (of_fault fault)
  pub any_moment : Told g old (λ f s. Tell g old → Throughout g old new (WhileOpened g old f s))
  pub keeps : Told g old (λ f s. Keeps g old new (max (opened_limit f s) (length f), max (opened_limit f s) (length s)))
  pub unread : source_then ≡ source

-- what two disks become, by whether both are empty
abbrev pub ByLength : {J D : Type 0} → Sources J → Disks D → J → J → D × D → D × D → ℕ → Result Followed FollowRefusal → Bool → Type 0
ByLength i g source source_then old new limit result true = Starts i g source source_then old new limit result
ByLength i g source source_then old new limit result false = IsOpened i g source source_then old new result ⊎ IsUnopened g source source_then old new result

-- two files have no byte
abbrev pub AreEmpty : Bool → List ℕ → List ℕ → Type 0
AreEmpty true first second = (first ≡ []) × (second ≡ [])
AreEmpty false first second = ((first ≡ []) × (second ≡ [])) → ⊥

-- The lengths of two disks couldn't be asked for, and no byte was read.
pub record AreUnasked {J D : Type 0} (g : Disks D) (source source_then : J) (old new : D × D) (result : Result Followed FollowRefusal) : Type 0 where
  pub told : result ≡ Err (refusal.Store store_refusal.DiskFault)
  pub rose : Rose (fault_count g old) (fault_count g new)
  pub reads : IsReadOn g old.0 new.0 × IsReadOn g old.1 new.1
  pub unread : source_then ≡ source

-- They were, and both disks were empty or not.
pub record AreAsked {J D : Type 0} (i : Sources J) (g : Disks D) (source source_then : J) (old new : D × D) (limit : ℕ) (result : Result Followed FollowRefusal) : Type 0 where
  pub asked : D × D
  pub reads : IsReadOn g old.0 asked.0 × IsReadOn g old.1 asked.1
  pub same : fault_count g asked ≡ fault_count g old
  pub empty : Bool
  pub are : Told g old (AreEmpty empty)
  pub by_length : ByLength i g source source_then asked new limit result empty

-- Two disks follow a source: empty ones become a replica of its first frame, and others are opened before a byte of it is read.
abbrev pub FollowsDisks : {J D : Type 0} → Sources J → Disks D → J → J → D × D → D × D → ℕ → Result Followed FollowRefusal → Type 0
FollowsDisks i g source source_then old new limit result =
    AreAsked i g source source_then old new limit result ⊎ AreUnasked g source source_then old new result
