-- What two disks hold at the end of a source that they followed.
use Rattle.std.proofs.Common.{◌≡◌, ◌≢◌, ◌⊎◌, inl, inr, ⊎_elim, ℕ, ◌+◌, ◌^◌, ◌<◌, ◌≤◌, Bool, true, false, List, [], ◌∷◌, ◌++◌, length, Option, Some, None, IfSome, IfErr, IfOk, OnOk, Result, Ok, Err, refl, sym, ◌∙◌, ap, subst, arith}
use Rattle.hl_base.specs.Causes.{Rose}
use Rattle.hl_base.specs.declared.disk.Disk.{Ghosts as Disks}
use Rattle.hl_base.specs.declared.outside.Source.{Ghosts as Sources}
use Rattle.text_store.specs.declared.change.Change.{Change}
use Rattle.text_store.specs.declared.fault.StoreFault.{StoreFault}
use Rattle.text_store.specs.declared.fault.StoreFault.TheVariants as store_fault
use Rattle.text_store.specs.declared.image.Image.{Image}
use Rattle.text_store.specs.declared.store.Store.{Store}
use Rattle.text_store.specs.Edits.{whole_size}
use Rattle.text_store.specs.Image.{NoImage, chosen, image, image_of}
use Rattle.text_store.specs.Refusals.{CreateRefused, OpenRefused}
use Rattle.text_store.specs.Stores.{Tell, disks, fault_count, IsTornInUse, IsTornBeside}
use Rattle.text_store.proofs.HalfImages.{either_image}
use Rattle.text_store.proofs.Holding.{led as leads_shown, live_empty, of_either, whole_front}
use Rattle.text_store.proofs.Resting.{tells_still}
use Rattle.follower.specs.Accepting.{MakingRefused, OpeningRefused}
use Rattle.follower.specs.Fills.{NextRefused}
use Rattle.follower.specs.Heads.{BeginsWith}
use Rattle.follower.specs.Histories.{IsAfter}
use Rattle.follower.specs.Images.{snapshot}
use Rattle.follower.specs.Stands.{Stands}
use Rattle.follower.specs.declared.fault.FollowFault.{FollowFault}
use Rattle.follower.specs.declared.fault.FollowFault.TheVariants as fault
use Rattle.follower.specs.declared.fault.FrameFault.{FrameFault}
use Rattle.follower.specs.declared.fault.FrameFault.TheVariants as frame_fault
use Rattle.follower.specs.declared.follower.Follower.{Follower}
use Rattle.follower.specs.declared.frame.Frame.{Frame}
use Rattle.follower.proofs.Following.{begins as begins_at, snapshot_is, some_one}
use Rattle.follow_commands.specs.Genuine.{HasFrames, bytes_of_all}
use Rattle.follow_commands.specs.Walks.{Follows, IfFailed}
use Rattle.follow_commands.specs.Whole.{HasAll, IsBehind}
use Rattle.follow_commands.specs.declared.following.Stop.{Stop}
use Rattle.follow_commands.specs.declared.following.Stop.TheVariants.{Unread, Refused}
use Rattle.follow_commands.specs.declared.tally.Tally.{Tally}
use Rattle.follow_commands.proofs.CatchingUp.{Any, State, caught_up, nothing_known, records_count}
use Rattle.follow_commands.proofs.Joining.{first_of, same_frame, same_rest}
use Rattle.store_text.specs.Reading.{ReadAs}
use Rattle.store_text.specs.declared.refusal.StoreRefusal.{StoreRefusal}
use Rattle.store_text.specs.declared.refusal.StoreRefusal.TheVariants as store_refusal
use Rattle.store_text.proofs.OpeningLaws.{held_reads, placed_reads}
use Rattle.store_following.specs.Refusals.{of_fault, told_of}
use Rattle.store_following.specs.Replicas.{ByLength, FollowsDisks, IsLed, IsMade, IsOfLeading, IsOpened, IsUnmade, IsUnopened, StartsWith, Starts, first_frame, no_frame}
use Rattle.store_following.specs.declared.refusal.FollowRefusal.{FollowRefusal}
use Rattle.store_following.specs.declared.refusal.FollowRefusal.TheVariants as refusal
use Rattle.store_following.specs.declared.refusal.Followed.{Followed}
use Rattle.store_following.proofs.LedLaws.{disk_fault_of, refused_is}

abbrev pub refused : FollowRefusal → Result Followed FollowRefusal
refused r = Err r

abbrev pub found_as : Option Frame → Result (Option Frame) FrameFault
found_as o = Ok o

abbrev pub failed_as : FrameFault → Result (Option Frame) FrameFault
failed_as x = Err x

abbrev pub followed_as : Followed → Result Followed FollowRefusal
followed_as f = Ok f

-- a frame that was found isn't a failed read
pub frame_found : (o : Option Frame) → found_as o ≢ Err frame_fault.ReadFault
frame_found o e = cc

pub not_both : (f : Followed) (r : FollowRefusal) → followed_as f ≡ refused r → ⊥
not_both f r e = cc

unread_store : (a : FrameFault) (b : StoreRefusal) → refused (refusal.Unread a) ≡ refused (refusal.Store b) → ⊥
unread_store a b e = let other : refusal.Unread a ≡ refusal.Store b = refused_is (refusal.Unread a) (refusal.Store b) e in cc

snapshot_store : (b : StoreRefusal) → refused refusal.NoSnapshot ≡ refused (refusal.Store b) → ⊥
snapshot_store b e = let other : refusal.NoSnapshot ≡ refusal.Store b = refused_is refusal.NoSnapshot (refusal.Store b) e in cc

snapshot_unread : (a : FrameFault) → refused refusal.NoSnapshot ≡ refused (refusal.Unread a) → ⊥
snapshot_unread a e = let other : refusal.NoSnapshot ≡ refusal.Unread a = refused_is refusal.NoSnapshot (refusal.Unread a) e in cc

pub store_unread : (b : StoreRefusal) (a : FrameFault) → refused (refusal.Store b) ≡ refused (refusal.Unread a) → ⊥
store_unread b a e = let other : refusal.Store b ≡ refusal.Unread a = refused_is (refusal.Store b) (refusal.Unread a) e in cc

fault_unread : (e : FollowFault) (a : FrameFault) → of_fault e ≡ refusal.Unread a → ⊥
fault_unread (fault.Store cause) a is = cc
fault_unread (fault.NotASnapshot kind) a is = cc
fault_unread (fault.BadPayload revision) a is = cc
fault_unread fault.Memory a is = cc

fault_untaken : (e : FollowFault) → of_fault e ≡ refusal.Store store_refusal.ReadFault → ⊥
fault_untaken (fault.Store store_fault.DiskFault) is = cc
fault_untaken (fault.Store (store_fault.NotAStore at)) is = cc
fault_untaken (fault.Store (store_fault.Newer version)) is = cc
fault_untaken (fault.Store (store_fault.Full size limit)) is = cc
fault_untaken (fault.Store (store_fault.Exists len)) is = cc
fault_untaken (fault.Store store_fault.Memory) is = cc
fault_untaken (fault.NotASnapshot kind) is = cc
fault_untaken (fault.BadPayload revision) is = cc
fault_untaken fault.Memory is = cc

unread_is : (a b : FrameFault) → refused (refusal.Unread a) ≡ refused (refusal.Unread b) → a ≡ b
unread_is a b e = ap of (refused_is (refusal.Unread a) (refusal.Unread b) e)
  where
    of : FollowRefusal → FrameFault
    of (refusal.Unread x) = x
    of (refusal.Store r) = a
    of refusal.NoSnapshot = a
    of refusal.Payload = a

-- ---- images

collapsed : {P : Type 0} → P ⊎ P → P
collapsed (inl p) = p
collapsed (inr p) = p

pub one_image : (a b : Image) (f s : List ℕ) → image f s ≡ Ok a → image f s ≡ Ok b → a ≡ b
one_image a b f s first second = ap of (sym first ∙ second)
  where
    of : Result Image NoImage → Image
    of (Ok x) = x
    of (Err e) = a

-- nothing has no image
pub no_image : (shown : Image) (f s : List ℕ) → f ≡ [] → s ≡ [] → image f s ≡ Ok shown → ⊥
no_image shown f s first second is =
    let nothing : image_of None [] ≡ Ok shown =
    sym ((λ i. image (first i) (second i)) ∙ (λ i. image_of (chosen (live_empty i) (live_empty i)) [])) ∙ is in
    subst IsError nothing tt
  where
    IsError : Result Image NoImage → Type 0
    IsError (Ok x) = ⊥
    IsError (Err e) = Unit {0}

module _ {D : Type 0} {g : Disks D} where
  in_use_reads : (store : Store D g) (shown : Image) → IsTornInUse store shown shown → ReadAs g (disks store) (λ f s. image f s ≡ Ok shown)
  in_use_reads store shown t =
      let file = t.unsettled.stands.file in
      let is = collapsed (of_either store.in_second (t.front ++ 0 ∷ []) (t.front ++ 1 ∷ t.entry) file t.beside shown shown
      (either_image t.front t.entries t.unsettled.is_half t.entry t.beside file t.unsettled.is_record t.unsettled.stands.fits)
      (leads_shown store.in_second store.generation (t.front ++ 0 ∷ []) t.beside shown t.leads)
      (leads_shown store.in_second store.generation (t.front ++ 1 ∷ t.entry) t.beside shown t.after)) in
      placed_reads g store.in_second store.live.device store.spare file t.beside shown t.unsettled.stands.told t.rests.told is

  beside_reads : (store : Store D g) (shown : Image) → IsTornBeside store shown shown → ReadAs g (disks store) (λ f s. image f s ≡ Ok shown)
  beside_reads store shown t =
      let file = t.stands.file in
      placed_reads g store.in_second store.live.device store.spare (t.front ++ 0 ∷ []) file shown t.settled.rests.told t.stands.told
      (collapsed (whole_front store.in_second (t.front ++ 0 ∷ []) file shown shown t.stands.fits))

  -- a store that stands for an image alone reads as it
  pub stands_reads : (store : Store D g) (shown : Image) → Stands store shown None → ReadAs g (disks store) (λ f s. image f s ≡ Ok shown)
  stands_reads store shown (inl rest) = held_reads g store shown rest.1
  stands_reads store shown (inr may) = ⊎_elim (in_use_reads store shown) (beside_reads store shown) may.torn

-- ---- the end of a source

-- an image of a history that isn't earlier than that after n changes
pub record IsReached (start : Image) (changes : List Change) (end : Image) (n : ℕ) : Type 0 where
  pub count : ℕ
  pub later : n ≤ count
  pub revision : end.revision ≡ start.revision + count
  pub after : IsAfter start count changes end

-- two files are empty, or have an image of a history, or one from before it
abbrev pub IsEarlier : List ℕ → List ℕ → Image → List Change → Type 0
IsEarlier first second start changes = ((first ≡ []) × (second ≡ [])) ⊎ ((shown : Image) × (image first second ≡ Ok shown) × IsBehind start changes shown)

-- what disks hold that read as these files before and followed a source to its end or to a refusal
pub record AtEnd {J D : Type 0} (i : Sources J) (g : Disks D) (source : J) (first second : List ℕ) (old new : D × D) (result : Result Followed FollowRefusal) : Type 0 where
  pub end : Follower D g
  pub closed : new ≡ disks end.store
  pub stands : Stands end.store end.image None
  pub revision : IfOk result (λ f. end.image.revision ≡ f.revision)
  pub tells : Tell g old → Tell g new
  pub begins : first ≡ [] → second ≡ [] → (start : Image) (changes : List Change) → HasFrames (i.left source) start changes → IsReached start changes end.image 0
  pub goes_on : (start : Image) (changes : List Change) (n : ℕ) (shown : Image) → HasFrames (i.left source) start changes → image first second ≡ Ok shown
      → IsAfter start n changes shown → IsReached start changes end.image n
  pub whole : (last : Image) (all : HasAll (i.left source) last) → IsEarlier first second all.start all.changes → OnOk result (end.image ≡ last)

-- or none was followed, and they read as before
pub record StaysAs {D : Type 0} (g : Disks D) (first second : List ℕ) (new : D × D) (result : Result Followed FollowRefusal) : Type 0 where
  pub is_first : g.seen new.0 ≡ Some first
  pub is_second : g.seen new.1 ≡ Some second
  pub refused_for : (f : Followed) → result ≢ Ok f

abbrev pub Ended : {J D : Type 0} → Sources J → Disks D → J → List ℕ → List ℕ → D × D → D × D → Result Followed FollowRefusal → Type 0
Ended i g source first second old new result = StaysAs g first second new result ⊎ AtEnd i g source first second old new result

abbrev disk_fault : FollowRefusal
disk_fault = refusal.Store store_refusal.DiskFault

told_revision : (done : Result (Unit {0}) Stop) (revision : ℕ) (tally : Tally) → IfOk (told_of done revision tally) (λ f. revision ≡ f.revision)
told_revision (Ok u) revision tally = refl
told_revision (Err stop) revision tally = tt

module _ {J D : Type 0} (i : Sources J) (g : Disks D) where
  module _ (source source_then : J) (from : Follower D g) (tally : Tally) (back : D × D) (result : Result Followed FollowRefusal)
      (led : IsLed i g source source_then from tally back result) where
    led_revision : IfOk result (λ f. led.end.image.revision ≡ f.revision)
    led_revision =
        subst (λ (r : Result Followed FollowRefusal). IfOk r (λ f. led.end.image.revision ≡ f.revision)) (sym led.told) (told_revision led.done led.end.image.revision led.tally)

    led_genuine : (start : Image) (changes : List Change) (n : ℕ) → HasFrames (i.left source) start changes → IsAfter start n changes from.image
        → IsReached start changes led.end.image n
    led_genuine start changes n has after =
        let on = led.genuine start changes n has after in
        record { count = on.0; later = on.1; revision = on.2; after = on.4 }

    led_whole : (last : Image) → last.revision ≤ 2 ^ 62 → (frames : List Frame) → i.left source ≡ Some (bytes_of_all frames) → State Any last from.image frames
        → OnOk result (led.end.image ≡ last)
    led_whole last small frames left state = by_done led.done led.follows led.told
      where
        by_done : (done : Result (Unit {0}) Stop) → Follows i g source source_then from led.end tally led.tally done → result ≡ told_of done led.end.image.revision led.tally
            → OnOk result (led.end.image ≡ last)
        by_done (Ok u) follows told =
            subst (λ (r : Result Followed FollowRefusal). OnOk r (led.end.image ≡ last)) (sym told)
            (caught_up Any last small i source source_then from led.end tally led.tally u follows frames left state)
        by_done (Err stop) follows told = subst (λ (r : Result Followed FollowRefusal). OnOk r (led.end.image ≡ last)) (sym told) tt

  module _ (source source_then : J) (first second : List ℕ) (old new : D × D) (limit : ℕ) (result : Result Followed FollowRefusal) (unlike : result ≢ refused disk_fault)
      (is_first : g.seen old.0 ≡ Some first) (is_second : g.seen old.1 ≡ Some second) (telling : D × D) (tells_old : Tell g telling → Tell g old) where
    made_ends : (begun mid : J) (frame : Frame) → frame.revision < 2 ^ 64
        → IfSome (i.left begun) (λ bytes. (rest : List ℕ) × (i.left mid ≡ Some rest) × BeginsWith bytes (Some frame) rest)
        → IsMade i g frame mid source_then old new limit result → AtEnd i g begun first second telling new result
    made_ends begun mid frame small told made =
        let here = made.stands first second is_first is_second in
        record {
          end = made.leads.end;
          closed = made.leads.closed;
          stands = made.leads.rests here.2 unlike;
          revision = led_revision mid source_then made.made first_frame new result made.leads;
          tells = λ tell.
              let before = tells_old tell in
              made.leads.tells (
                tells_still (g.tells_crashes (disks made.made.store).0) (g.tells_crashes old.0) made.keeps.tells_first before.0,
                tells_still (g.tells_crashes (disks made.made.store).1) (g.tells_crashes old.1) made.keeps.tells_second before.1,
              );
          begins = λ _ _ start changes has.
              let t : (rest : List ℕ) × (i.left mid ≡ Some rest) × BeginsWith (bytes_of_all has.frames ++ has.rest) (Some frame) rest =
              subst (λ (o : Option (List ℕ)). IfSome o (λ bytes. (rest : List ℕ) × (i.left mid ≡ Some rest) × BeginsWith bytes (Some frame) rest)) has.told told in
              let b = t.2 in
              let one = first_of start changes has.rest has.ends frame t.0 has.frames small b.0 b.1 (sym b.2) has.are in
              let at = begins_at start changes frame made.made.image one.3 made.kind made.image_is in
              let reached = led_genuine mid source_then made.made first_frame new result made.leads start changes at.0
              (record { frames = one.0; rest = has.rest; told = t.1 ∙ ap (λ (l : List ℕ). Some l) one.1; ends = has.ends; are = one.2 }) at.1 in
              record { count = reached.count; later = omega arith; revision = reached.revision; after = reached.after };
          goes_on = λ start changes n shown has is after. absurd (no_image shown first second here.0 here.1 is);
          whole = λ last all earlier.
              let t : (rest : List ℕ) × (i.left mid ≡ Some rest) × BeginsWith (bytes_of_all (all.first ∷ all.others)) (Some frame) rest =
              subst (λ (o : Option (List ℕ)). IfSome o (λ bytes. (rest : List ℕ) × (i.left mid ≡ Some rest) × BeginsWith bytes (Some frame) rest)) all.told told in
              let b = t.2 in
              let within : all.start.revision ≤ 2 ^ 62 = omega (arith, records_count all.changes all.others all.start last all.are_records, all.within) in
              let small_then : all.first.revision < 2 ^ 64 = omega (arith, all.is_first.revision, within) in
              let short : length frame.payload < 2 ^ 64 = omega (arith, b.1) in
              let same : all.first ≡ frame = same_frame frame all.first t.0 (bytes_of_all all.others) (sym b.2) small small_then short all.is_first.fits in
              let rest : t.0 ≡ bytes_of_all all.others = same_rest frame all.first t.0 (bytes_of_all all.others) (sym b.2) small small_then short all.is_first.fits in
              let begun_at : made.made.image ≡ all.start =
              some_one (snapshot all.first) made.made.image all.start (ap snapshot same ∙ made.image_is)
              (snapshot_is all.start all.first all.is_first.snapshot all.is_first.revision within) in
              led_whole mid source_then made.made first_frame new result made.leads last all.within all.others (t.1 ∙ ap (λ (l : List ℕ). Some l) rest)
              (inr (record {
                from = all.start;
                changes = all.changes;
                n = 0;
                are = all.are_records;
                after = begun_at;
                known = nothing_known all.start all.changes all.others;
              }));
        }

    opened_ends : IsOpened i g source source_then old new result → AtEnd i g source first second telling new result
    opened_ends opened =
        let here = opened.stands first second is_first is_second in
        let keeps = opened.keeps first second is_first is_second in
        record {
          end = opened.leads.end;
          closed = opened.leads.closed;
          stands = opened.leads.rests here.1 unlike;
          revision = led_revision source source_then opened.opened no_frame new result opened.leads;
          tells = λ tell.
              let before = tells_old tell in
              opened.leads.tells (
                tells_still (g.tells_crashes (disks opened.opened.store).0) (g.tells_crashes old.0) keeps.tells_first before.0,
                tells_still (g.tells_crashes (disks opened.opened.store).1) (g.tells_crashes old.1) keeps.tells_second before.1,
              );
          begins = λ no_first no_second start changes has. absurd (no_image opened.opened.image first second no_first no_second here.0);
          goes_on = λ start changes n shown has is after.
              led_genuine source source_then opened.opened no_frame new result opened.leads start changes n has
              (subst (λ (x : Image). IsAfter start n changes x) (one_image shown opened.opened.image first second is here.0) after);
          whole = λ last all earlier.
              let behind = ⊎_elim (λ empty. absurd (no_image opened.opened.image first second empty.0 empty.1 here.0))
              (λ there. subst (λ (x : Image). IsBehind all.start all.changes x) (one_image there.0 opened.opened.image first second there.1 here.0) there.2) earlier in
              led_whole source source_then opened.opened no_frame new result opened.leads last all.within (all.first ∷ all.others) all.told
              (inl (record {
                start = all.start;
                changes = all.changes;
                is_first = all.is_first;
                are = all.are_records;
                behind = behind;
                known_first = tt;
                known = nothing_known all.start all.changes all.others;
              }));
        }

    -- what a refusal before the first frame leaves
    stays_as : (r : FollowRefusal) → result ≡ refused r → (g.seen new.0 ≡ Some first) × (g.seen new.1 ≡ Some second) → StaysAs g first second new result
    stays_as r told reads = record { is_first = reads.0; is_second = reads.1; refused_for = λ f e. not_both f r (sym e ∙ told) }

    same_reads : new ≡ old → (g.seen new.0 ≡ Some first) × (g.seen new.1 ≡ Some second)
    same_reads same = (ap (λ (d : D × D). g.seen d.0) same ∙ is_first, ap (λ (d : D × D). g.seen d.1) same ∙ is_second)

    not_disk : (e : FollowFault) → result ≡ refused (of_fault e) → of_fault e ≢ disk_fault
    not_disk e told is = unlike (told ∙ ap (λ (r : FollowRefusal). refused r) is)

    uncreated : (size : ℕ) (cause : StoreFault) → CreateRefused g old new size limit cause → of_fault (fault.Store cause) ≢ disk_fault
        → (g.seen new.0 ≡ Some first) × (g.seen new.1 ≡ Some second)
    uncreated size store_fault.DiskFault why other = absurd (other refl)
    uncreated size (store_fault.Full told most) why other = same_reads why.3
    uncreated size (store_fault.Exists len) why other = (why.3.0 ∙ is_first, why.3.1 ∙ is_second)
    uncreated size store_fault.Memory why other = same_reads why
    uncreated size (store_fault.NotAStore at) why other = absurd why
    uncreated size (store_fault.Newer version) why other = absurd why

    unmade_reads : (frame : Frame) (e : FollowFault) → MakingRefused g old new frame limit e → of_fault e ≢ disk_fault
        → (g.seen new.0 ≡ Some first) × (g.seen new.1 ≡ Some second)
    unmade_reads frame (fault.Store cause) why other = uncreated (whole_size why.1.0) cause why.1.2 other
    unmade_reads frame (fault.NotASnapshot kind) why other = same_reads why.2
    unmade_reads frame (fault.BadPayload revision) why other = same_reads why.3
    unmade_reads frame fault.Memory why other = same_reads why.1

    unopened_store : (cause : StoreFault) → OpenRefused g old new cause → of_fault (fault.Store cause) ≢ disk_fault
        → (g.seen new.0 ≡ Some first) × (g.seen new.1 ≡ Some second)
    unopened_store store_fault.DiskFault why other = absurd (other refl)
    unopened_store (store_fault.NotAStore at) why other = (why.1.0 ∙ is_first, why.1.1 ∙ is_second)
    unopened_store (store_fault.Newer version) why other = (why.1.0 ∙ is_first, why.1.1 ∙ is_second)
    unopened_store store_fault.Memory why other = (why.0 ∙ is_first, why.1 ∙ is_second)
    unopened_store (store_fault.Full told most) why other = absurd why
    unopened_store (store_fault.Exists len) why other = absurd why

    unopened_reads : (e : FollowFault) → OpeningRefused g old new e → of_fault e ≢ disk_fault → (g.seen new.0 ≡ Some first) × (g.seen new.1 ≡ Some second)
    unopened_reads (fault.Store cause) why other = unopened_store cause why.0 other
    unopened_reads fault.Memory why other = (why.0 ∙ is_first, why.1 ∙ is_second)
    unopened_reads (fault.NotASnapshot kind) why other = absurd why
    unopened_reads (fault.BadPayload revision) why other = absurd why

    starts_ends : (found : Result (Option Frame) FrameFault) (mid : J)
        → IfOk found (λ frame. IfSome (i.left source) (λ bytes. (rest : List ℕ) × (i.left mid ≡ Some rest) × BeginsWith bytes frame rest))
        → StartsWith i g found mid source_then old new limit result → Ended i g source first second telling new result
    starts_ends (Ok (Some frame)) mid told starts =
        ⊎_elim (λ made. inr (made_ends source mid frame starts.0 told made))
        (λ unmade. inl (stays_as (of_fault unmade.fault) unmade.told (unmade_reads frame unmade.fault unmade.refused (not_disk unmade.fault unmade.told)))) starts.1
    starts_ends (Ok None) mid told starts = inl (stays_as refusal.NoSnapshot starts.2 (same_reads starts.1))
    starts_ends (Err e) mid told starts = inl (stays_as (refusal.Unread e) starts.2 (same_reads starts.1))

    by_length_ends : (empty : Bool) → ByLength i g source source_then old new limit result empty → Ended i g source first second telling new result
    by_length_ends true starts = starts_ends starts.found starts.mid starts.first.told starts.starts
    by_length_ends false way =
        ⊎_elim (λ opened. inr (opened_ends opened))
        (λ unopened. inl (stays_as (of_fault unopened.fault) unopened.told (unopened_reads unopened.fault unopened.refused (not_disk unopened.fault unopened.told)))) way

  -- the end of a source that was followed, or a refusal, but for one of a disk
  pub follows_ends : (source source_then : J) (first second : List ℕ) (old new : D × D) (limit : ℕ) (result : Result Followed FollowRefusal) → result ≢ refused disk_fault
      → FollowsDisks i g source source_then old new limit result → g.seen old.0 ≡ Some first → g.seen old.1 ≡ Some second → Ended i g source first second old new result
  follows_ends source source_then first second old new limit result unlike (inl asked) is_first is_second =
      by_length_ends source source_then first second asked.asked new limit result unlike (asked.reads.0.seen ∙ is_first) (asked.reads.1.seen ∙ is_second) old
      (λ tell. (
        tells_still (g.tells_crashes asked.asked.0) (g.tells_crashes old.0) asked.reads.0.tells tell.0,
        tells_still (g.tells_crashes asked.asked.1) (g.tells_crashes old.1) asked.reads.1.tells tell.1,
      )) asked.empty asked.by_length
  follows_ends source source_then first second old new limit result unlike (inr unasked) is_first is_second = absurd (unlike unasked.told)

  -- ---- causes

  rose_zero : (a b : ℕ) → Rose a b → Rose 0 b
  rose_zero a b (inl less) = inl (omega (arith, less))
  rose_zero a b (inr last) = inr last

  module _ (source_then : J) (old new : D × D) (limit : ℕ) (result : Result Followed FollowRefusal) (is : result ≡ refused (refusal.Store store_refusal.DiskFault)) where
    making_rose : (frame : Frame) (mid : J) → IsUnmade g frame mid source_then old new limit result → Rose 0 (fault_count g new)
    making_rose frame mid unmade =
        let same = disk_fault_of unmade.fault (refused_is (of_fault unmade.fault) (refusal.Store store_refusal.DiskFault) (sym unmade.told ∙ is)) in
        rose_zero (fault_count g old) (fault_count g new) (subst (λ (e : FollowFault). MakingRefused g old new frame limit e) same unmade.refused).1.2.1

    opening_rose : (source : J) → IsUnopened g source source_then old new result → Rose 0 (fault_count g new)
    opening_rose source unopened =
        let same = disk_fault_of unopened.fault (refused_is (of_fault unopened.fault) (refusal.Store store_refusal.DiskFault) (sym unopened.told ∙ is)) in
        rose_zero (fault_count g old) (fault_count g new) (subst (λ (e : FollowFault). OpeningRefused g old new e) same unopened.refused).0

    starts_rose : (found : Result (Option Frame) FrameFault) (mid : J) → StartsWith i g found mid source_then old new limit result → Rose 0 (fault_count g new)
    starts_rose (Ok (Some frame)) mid starts =
        ⊎_elim (λ made. rose_zero (fault_count g (disks made.made.store)) (fault_count g new) (made.leads.rose is)) (making_rose frame mid) starts.1
    starts_rose (Ok None) mid starts = absurd (snapshot_store store_refusal.DiskFault (sym starts.2 ∙ is))
    starts_rose (Err e) mid starts = absurd (unread_store e store_refusal.DiskFault (sym starts.2 ∙ is))

    by_length_rose : (source : J) (empty : Bool) → ByLength i g source source_then old new limit result empty → Rose 0 (fault_count g new)
    by_length_rose source true starts = starts_rose starts.found starts.mid starts.starts
    by_length_rose source false way =
        ⊎_elim (λ opened. rose_zero (fault_count g (disks opened.opened.store)) (fault_count g new) (opened.leads.rose is)) (opening_rose source) way

  pub follows_rose : (source source_then : J) (old new : D × D) (limit : ℕ) (result : Result Followed FollowRefusal) → FollowsDisks i g source source_then old new limit result
      → result ≡ refused (refusal.Store store_refusal.DiskFault) → Rose 0 (fault_count g new)
  follows_rose source source_then old new limit result (inl asked) is = by_length_rose source_then asked.asked new limit result is source asked.empty asked.by_length
  follows_rose source source_then old new limit result (inr unasked) is = rose_zero (fault_count g old) (fault_count g new) unasked.rose

  module _ (source_then : J) (old new : D × D) (limit : ℕ) (result : Result Followed FollowRefusal) (is : result ≡ refused (refusal.Store store_refusal.ReadFault)) where
    led_taken : IfErr result IsOfLeading → ⊥
    led_taken kind = subst (λ (r : Result Followed FollowRefusal). IfErr r IsOfLeading) is kind

    fault_taken : (e : FollowFault) → result ≡ refused (of_fault e) → ⊥
    fault_taken e told = fault_untaken e (refused_is (of_fault e) (refusal.Store store_refusal.ReadFault) (sym told ∙ is))

    starts_taken : (found : Result (Option Frame) FrameFault) (mid : J) → StartsWith i g found mid source_then old new limit result → ⊥
    starts_taken (Ok (Some frame)) mid starts = ⊎_elim (λ made. led_taken made.leads.kind) (λ unmade. fault_taken unmade.fault unmade.told) starts.1
    starts_taken (Ok None) mid starts = snapshot_store store_refusal.ReadFault (sym starts.2 ∙ is)
    starts_taken (Err e) mid starts = unread_store e store_refusal.ReadFault (sym starts.2 ∙ is)

    by_length_taken : (source : J) (empty : Bool) → ByLength i g source source_then old new limit result empty → ⊥
    by_length_taken source true starts = starts_taken starts.found starts.mid starts.starts
    by_length_taken source false way = ⊎_elim (λ opened. led_taken opened.leads.kind) (λ unopened. fault_taken unopened.fault unopened.told) way

  -- a disk that was taken is never told as untaken
  pub follows_taken : (source source_then : J) (old new : D × D) (limit : ℕ) (result : Result Followed FollowRefusal) → FollowsDisks i g source source_then old new limit result
      → result ≢ refused (refusal.Store store_refusal.ReadFault)
  follows_taken source source_then old new limit result (inl asked) is = by_length_taken source_then asked.asked new limit result is source asked.empty asked.by_length
  follows_taken source source_then old new limit result (inr unasked) is =
      differ (refused_is (refusal.Store store_refusal.DiskFault) (refusal.Store store_refusal.ReadFault) (sym unasked.told ∙ is))
    where
      differ : refusal.Store store_refusal.DiskFault ≡ refusal.Store store_refusal.ReadFault → ⊥
      differ e = cc

  -- what a read that failed stopped
  stop_is : (done : Result (Unit {0}) Stop) (revision : ℕ) (tally : Tally) (P : Type 0) → told_of done revision tally ≡ refused (refusal.Unread frame_fault.ReadFault)
      → IfErr done (λ stop. IfFailed stop P) → P
  stop_is (Ok u) revision tally P e failing = absurd (not_both (record { revision = revision; tally = tally }) (refusal.Unread frame_fault.ReadFault) e)
  stop_is (Err (Unread a)) revision tally P e failing = subst (λ (x : FrameFault). IfFailed (Unread x) P) (unread_is a frame_fault.ReadFault e) failing
  stop_is (Err (Refused a)) revision tally P e failing = absurd (fault_unread a frame_fault.ReadFault (refused_is (of_fault a) (refusal.Unread frame_fault.ReadFault) e))

  module _ (source_then : J) (old new : D × D) (limit : ℕ) (result : Result Followed FollowRefusal) (is : result ≡ refused (refusal.Unread frame_fault.ReadFault)) where
    led_failed : (source : J) (from : Follower D g) (tally : Tally) → IsLed i g source source_then from tally new result
        → Rose (i.faults source) (i.faults source_then) × (i.IsSound source → ⊥)
    led_failed source from tally led =
        let told = sym led.told ∙ is in (
          stop_is led.done led.end.image.revision led.tally (Rose (i.faults source) (i.faults source_then)) told led.follows.rose,
          λ sound. stop_is led.done led.end.image.revision led.tally ⊥ told (led.follows.sound sound),
        )

    fault_failed : (e : FollowFault) → result ≡ refused (of_fault e) → ⊥
    fault_failed e told = fault_unread e frame_fault.ReadFault (refused_is (of_fault e) (refusal.Unread frame_fault.ReadFault) (sym told ∙ is))

    first_failed : (source : J) (starts : Starts i g source source_then old new limit result) → Rose (i.faults source) (i.faults source_then) × (i.IsSound source → ⊥)
    first_failed source starts = by_found starts.found starts.first.refused starts.first.steady (λ sound. (starts.first.sound sound).0) (λ sound. (starts.first.sound sound).1) starts.starts
      where
        by_found : (found : Result (Option Frame) FrameFault)
            → IfErr found (NextRefused (i.left source) (i.faults source) (i.faults starts.mid))
            → OnOk found (i.faults starts.mid ≡ i.faults source)
            → (i.IsSound source → found ≢ Err frame_fault.ReadFault) → (i.IsSound source → i.IsSound starts.mid)
            → StartsWith i g found starts.mid source_then old new limit result → Rose (i.faults source) (i.faults source_then) × (i.IsSound source → ⊥)
        by_found (Ok (Some frame)) refused_for steady unlike sound with_it =
            ⊎_elim
            (λ made. let failed = led_failed starts.mid made.made first_frame made.leads in
            (subst (λ (n : ℕ). Rose n (i.faults source_then)) steady failed.0, λ s. failed.1 (sound s)))
            (λ unmade. absurd (fault_failed unmade.fault unmade.told)) with_it.1
        by_found (Ok None) refused_for steady unlike sound with_it = absurd (snapshot_unread frame_fault.ReadFault (sym with_it.2 ∙ is))
        by_found (Err e) refused_for steady unlike sound with_it =
            let same = unread_is e frame_fault.ReadFault (sym with_it.2 ∙ is) in (
              subst (λ (j : J). Rose (i.faults source) (i.faults j)) (sym with_it.0)
                  (subst (λ (x : FrameFault). NextRefused (i.left source) (i.faults source) (i.faults starts.mid) x) same refused_for),
              λ s. unlike s (ap (λ (x : FrameFault). failed_as x) same),
            )

    by_length_failed : (source : J) (empty : Bool) → ByLength i g source source_then old new limit result empty → Rose (i.faults source) (i.faults source_then) × (i.IsSound source → ⊥)
    by_length_failed source true starts = first_failed source starts
    by_length_failed source false way =
        ⊎_elim (λ opened. led_failed source opened.opened no_frame opened.leads) (λ unopened. absurd (fault_failed unopened.fault unopened.told)) way

  -- a read of the source failed
  pub follows_failed : (source source_then : J) (old new : D × D) (limit : ℕ) (result : Result Followed FollowRefusal) → FollowsDisks i g source source_then old new limit result
      → result ≡ refused (refusal.Unread frame_fault.ReadFault) → Rose (i.faults source) (i.faults source_then) × (i.IsSound source → ⊥)
  follows_failed source source_then old new limit result (inl asked) is = by_length_failed source_then asked.asked new limit result is source asked.empty asked.by_length
  follows_failed source source_then old new limit result (inr unasked) is = absurd (store_unread store_refusal.DiskFault frame_fault.ReadFault (sym unasked.told ∙ is))
