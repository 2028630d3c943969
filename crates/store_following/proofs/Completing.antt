-- A source of all frames of a history is followed to its end, but for a failed call or want of memory.
use Rattle.std.proofs.Common.{◌≡◌, ◌∙◌, ◌⊎◌, inl, inr, ⊎_elim, ℕ, zero, suc, ◌+◌, ◌^◌, ◌<◌, ◌≤◌, ◌==◌, Bool, true, false, if◌then◌else◌, List, [], ◌∷◌, ◌++◌, length, drop, Option, Some, None, IfSome, IfOk, IfErr, Result, Ok, Err, refl, sym, ap, subst, arith, append_assoc, length-append}
use Rattle.std.specs.Int.{w64, to_le_bytes}
use Rattle.std.proofs.lemmas.Bool.{false≢true}
use Rattle.std.proofs.lemmas.Nat.{from_le_bytes-to_le_bytes_8}
use Rattle.hl_base.specs.declared.disk.Disk.{Ghosts as Disks}
use Rattle.hl_base.specs.declared.outside.Source.{Ghosts as Sources}
use Rattle.text_store.specs.declared.change.Change.{Change}
use Rattle.text_store.specs.declared.change.Change.TheVariants.{Splice, Whole, Import}
use Rattle.text_store.specs.declared.fault.StoreFault.{StoreFault}
use Rattle.text_store.specs.declared.fault.StoreFault.TheVariants as store_fault
use Rattle.text_store.specs.declared.image.Image.{Image}
use Rattle.text_store.specs.Changes.{kind_of}
use Rattle.text_store.specs.Edits.{whole_size}
use Rattle.text_store.specs.Entries.{body}
use Rattle.text_store.specs.Files.{opened_limit}
use Rattle.text_store.specs.Frames.{frame}
use Rattle.text_store.specs.Image.{NoImage, NotAStore as NoStore, Newer as NewerStore, image, number_8}
use Rattle.text_store.specs.Kinds.{image_kind}
use Rattle.text_store.specs.Refusals.{CreateRefused, OpenRefused}
use Rattle.text_store.specs.Stores.{limit_of, size_of}
use Rattle.follower.specs.Accepting.{BecomesOf, IsUnstored, MakingRefused, OpeningRefused, needed}
use Rattle.follower.specs.Crashes.{Runs}
use Rattle.follower.specs.Fills.{NextRefused}
use Rattle.follower.specs.Heads.{BeginsWith, FrameRefused, is_kind, most}
use Rattle.follower.specs.Histories.{IsAfter}
use Rattle.follower.specs.Images.{image_after, snapshot}
use Rattle.follower.specs.Keeping.{due_at, room_size}
use Rattle.follower.specs.Standings.{IsNext}
use Rattle.follower.specs.declared.fault.Accepted.{Accepted}
use Rattle.follower.specs.declared.fault.FollowFault.{FollowFault}
use Rattle.follower.specs.declared.fault.FollowFault.TheVariants as fault
use Rattle.follower.specs.declared.fault.FrameFault.{FrameFault}
use Rattle.follower.specs.declared.fault.FrameFault.TheVariants as frame_fault
use Rattle.follower.specs.declared.follower.Follower.{Follower}
use Rattle.follower.specs.declared.frame.Frame.{Frame}
use Rattle.follower.proofs.Following.{counted, record_is, snapshot_is, some_one}
use Rattle.follower.proofs.Rooms.{due_room, not_due_fits}
use Rattle.follower.proofs.Texts.{after_snapshot}
use Rattle.follow_commands.specs.Genuine.{bytes_of_all}
use Rattle.follow_commands.specs.Walks.{AreRead, Follows, LastRefused, bytes_of}
use Rattle.follow_commands.specs.Whole.{AreRecords, Each, HasAll, IsBehind}
use Rattle.follow_commands.specs.declared.following.Stop.{Stop}
use Rattle.follow_commands.specs.declared.following.Stop.TheVariants.{Unread, Refused}
use Rattle.follow_commands.specs.declared.tally.Tally.{Tally}
use Rattle.follow_commands.proofs.CatchingUp.{AtFirst, State, all_read, records_count, state_fits}
use Rattle.follow_commands.proofs.Joining.{Filled, same_frame, same_rest}
use Rattle.store_text.specs.declared.refusal.StoreRefusal.TheVariants as store_refusal
use Rattle.store_following.specs.Ready.{AreReady, Fits, HaveLimit, IsFailed}
use Rattle.store_following.specs.Refusals.{of_fault, of_stop, told_of}
use Rattle.store_following.specs.Replicas.{AreEmpty, ByLength, FollowsDisks, IsLed, IsMade, IsOpened, StartsWith, first_frame, no_frame}
use Rattle.store_following.specs.declared.refusal.FollowRefusal.{FollowRefusal}
use Rattle.store_following.specs.declared.refusal.FollowRefusal.TheVariants as refusal
use Rattle.store_following.specs.declared.refusal.Followed.{Followed}
use Rattle.store_following.proofs.Ending.{no_image, one_image}

-- ---- a frame at the front isn't refused

number_length : (n : ℕ) → length (to_le_bytes w64 n) ≡ 8
number_length n = refl

module _ (one : Frame) (rest : List ℕ) (short : length one.payload ≤ most) where
  abbrev bytes : List ℕ
  bytes = frame one.revision one.kind one.payload ++ rest

  behind_length : length (to_le_bytes w64 (length one.payload) ++ one.payload) ≡ 8 + length one.payload
  behind_length =
      length-append (to_le_bytes w64 (length one.payload)) one.payload ∙ ap (λ (n : ℕ). n + length one.payload) (number_length (length one.payload))

  frame_length : length (frame one.revision one.kind one.payload) ≡ 17 + length one.payload
  frame_length =
      omega (arith, length-append (to_le_bytes w64 one.revision) (body one.kind one.payload), number_length one.revision, behind_length)

  bytes_length : length bytes ≡ 17 + length one.payload + length rest
  bytes_length = length-append (frame one.revision one.kind one.payload) rest ∙ ap (λ (n : ℕ). n + length rest) frame_length

  said_is : number_8 (drop 9 bytes) ≡ length one.payload
  said_is = from_le_bytes-to_le_bytes_8 (length one.payload) (omega (arith, short))

  never_refused : (x : FrameFault) → is_kind one.kind ≡ true → FrameRefused bytes x → IsFailed (refusal.Unread x)
  never_refused frame_fault.ReadFault good why = tt
  never_refused frame_fault.Memory good why = tt
  never_refused (frame_fault.Cut had) good why =
      let long : 17 ≤ length bytes = omega (arith, bytes_length) in
      let less : length bytes < 17 + number_8 (drop 9 bytes) = why.0.short long in
      absurd (omega (arith, less, bytes_length, said_is))
  never_refused (frame_fault.BadFrame kind) good why = absurd (false≢true (sym why.2 ∙ ap (λ (k : ℕ). is_kind k) why.1 ∙ good))
  never_refused (frame_fault.TooLong said limit) good why = absurd (omega (arith, why.2, why.3, why.4, said_is, short))

  unread_failed : (x : FrameFault) (before now : ℕ) → is_kind one.kind ≡ true → NextRefused (Some bytes) before now x → IsFailed (refusal.Unread x)
  unread_failed frame_fault.ReadFault before now good why = tt
  unread_failed frame_fault.Memory before now good why = tt
  unread_failed (frame_fault.Cut had) before now good why = never_refused (frame_fault.Cut had) good why
  unread_failed (frame_fault.BadFrame kind) before now good why = never_refused (frame_fault.BadFrame kind) good why
  unread_failed (frame_fault.TooLong said limit) before now good why = never_refused (frame_fault.TooLong said limit) good why

-- the end of a source isn't either
end_refused : (x : FrameFault) → FrameRefused [] x → IsFailed (refusal.Unread x)
end_refused frame_fault.ReadFault why = tt
end_refused frame_fault.Memory why = tt
end_refused (frame_fault.Cut had) why = absurd (omega (arith, why.0.some))
end_refused (frame_fault.BadFrame kind) why = absurd (omega (arith, why.0))
end_refused (frame_fault.TooLong said limit) why = absurd (omega (arith, why.0))

-- ---- the kinds of records

kind_good : (change : Change) → is_kind (kind_of change) ≡ true
kind_good (Splice splice) = refl
kind_good (Whole text) = refl
kind_good (Import latest splice) = refl

kind_other : (change : Change) → (kind_of change == image_kind) ≡ false
kind_other (Splice splice) = refl
kind_other (Whole text) = refl
kind_other (Import latest splice) = refl

-- ---- the frame that is next

none_some : (A : Type 0) (x : A) → None ≡ Some x → ⊥
none_some A x e = cc

abbrev found_so : Image → Result Image NoImage
found_so shown = Ok shown

abbrev none_so : NoImage → Result Image NoImage
none_so none = Err none

ok_err : (shown : Image) (none : NoImage) → found_so shown ≡ none_so none → ⊥
ok_err shown none e = cc

module _ (limit : ℕ) (last shown : Image) (next : Frame) (more : List Frame) where
  record_good : (from : Image) (changes : List Change) → AreRecords from changes (next ∷ more) last → Each (Fits limit) from changes (next ∷ more)
      → (is_kind next.kind ≡ true) × (length next.payload ≤ most)
  record_good from [] are known = absurd are
  record_good from (change ∷ changes) are known = (ap (λ (k : ℕ). is_kind k) are.0.is.kind ∙ kind_good change, known.0.1)

  state_good : State (Fits limit) last shown (next ∷ more) → (is_kind next.kind ≡ true) × (length next.payload ≤ most)
  state_good (inl at) = (ap (λ (k : ℕ). is_kind k) at.is_first.snapshot.kind, at.known_first.1)
  state_good (inr place) = record_good place.from place.changes place.are place.known

left_refused : (limit : ℕ) (last shown : Image) (left : List Frame) (rest : List ℕ) (x : FrameFault) → rest ≡ bytes_of_all left → State (Fits limit) last shown left
    → FrameRefused rest x → IsFailed (refusal.Unread x)
left_refused limit last shown [] rest x is state why = end_refused x (subst (λ (l : List ℕ). FrameRefused l x) is why)
left_refused limit last shown (next ∷ more) rest x is state why =
    let good = state_good limit last shown next more state in
    never_refused next (bytes_of_all more) good.1 x good.0 (subst (λ (l : List ℕ). FrameRefused l x) is why)

-- ---- its room

room_fits : (size limit r whole : ℕ) → whole + r ≤ limit → room_size size limit r whole + r ≤ limit
room_fits size limit r whole fits = by_due (due_at size limit r whole) refl
  where
    by_due : (b : Bool) → due_at size limit r whole ≡ b → room_size size limit r whole + r ≤ limit
    by_due true due = let is = due_room size limit r whole due in omega (arith, is, fits)
    by_due false none = not_due_fits size limit r whole none

module _ {D : Type 0} {g : Disks D} (old new : Follower D g) (last : Image) (next : Frame) (more : List Frame) (small : last.revision ≤ 2 ^ 62) where
  abbrev limit : ℕ
  limit = limit_of old.store

  abbrev r : ℕ
  r = 10 + length next.payload

  abbrev behind : ℕ
  behind = room_size (size_of old.store) limit r (whole_size old.image) + r

  first_room : (start made : Image) → next.kind ≡ image_kind → made ≡ start → Fits limit start next → needed old next made ≤ limit
  first_room start made kind same fits =
      let is : (next.kind == image_kind) ≡ true = ap (λ (k : ℕ). k == image_kind) kind in
      let whole : whole_size start ≤ limit = subst (λ (b : Bool). (if b then whole_size start else whole_size start + r) ≤ limit) is fits.0 in
      subst (λ (b : Bool). (if b then whole_size made else behind) ≤ limit) (sym is) (subst (λ (i : Image). whole_size i ≤ limit) (sym same) whole)

  record_room : (made : Image) → (next.kind == image_kind) ≡ false → Fits limit old.image next → needed old next made ≤ limit
  record_room made is fits =
      let space : whole_size old.image + r ≤ limit = subst (λ (b : Bool). (if b then whole_size old.image else whole_size old.image + r) ≤ limit) is fits.0 in
      subst (λ (b : Bool). (if b then whole_size made else behind) ≤ limit) (sym is) (room_fits (size_of old.store) limit r (whole_size old.image) space)

  -- where a frame makes an image that has room, it isn't refused for itself
  refused_by : (e : FollowFault) (after : Image) → image_after old.image next ≡ Some after → ((made : Image) → made ≡ after → needed old next made ≤ limit)
      → BecomesOf old next (Err e) new → IsFailed (of_fault e)
  refused_by fault.Memory after is fits becomes = tt
  refused_by (fault.NotASnapshot kind) after is fits becomes = absurd becomes
  refused_by (fault.BadPayload revision) after is fits becomes = absurd (none_some Image after (sym becomes.2 ∙ is))
  refused_by (fault.Store cause) after is fits becomes =
      let b = becomes.1 in
      unstored cause b.0 b.2 (fits b.0 (some_one (image_after old.image next) b.0 after b.1 is))
    where
      unstored : (cause : StoreFault) (made : Image) → IsUnstored old new (needed old next made) cause → needed old next made ≤ limit → IsFailed (of_fault (fault.Store cause))
      unstored store_fault.DiskFault made why within = tt
      unstored store_fault.Memory made why within = tt
      unstored (store_fault.Full told most) made why within = absurd (omega (arith, why.0, within))
      unstored (store_fault.NotAStore at) made why within = absurd why
      unstored (store_fault.Newer version) made why within = absurd why
      unstored (store_fault.Exists len) made why within = absurd why

  first_refused : (e : FollowFault) → AtFirst (Fits limit) last old.image next more → BecomesOf old next (Err e) new → IsFailed (of_fault e)
  first_refused e at becomes =
      let within : at.start.revision ≤ 2 ^ 62 = omega (arith, records_count at.changes more at.start last at.are, small) in
      refused_by e at.start
      (after_snapshot old.image next at.is_first.snapshot.kind ∙ snapshot_is at.start next at.is_first.snapshot at.is_first.revision within)
      (λ made same. first_room at.start made at.is_first.snapshot.kind same at.known_first) becomes

  -- a frame that was refused is one that was looked at, or memory ran out
  looked_at : (e : FollowFault) → BecomesOf old next (Err e) new → IsNext old.image.revision next
  looked_at fault.Memory becomes = becomes.0
  looked_at (fault.NotASnapshot kind) becomes = absurd becomes
  looked_at (fault.BadPayload revision) becomes = becomes.0
  looked_at (fault.Store cause) becomes = becomes.0

  record_refused : (e : FollowFault) (from : Image) (changes : List Change) (n : ℕ) → AreRecords from changes (next ∷ more) last → IsAfter from n changes old.image
      → Each (Fits limit) from changes (next ∷ more) → BecomesOf old next (Err e) new → IsFailed (of_fault e)
  record_refused e from [] n are here known becomes = absurd are
  record_refused e from (change ∷ changes) zero are here known becomes =
      let after = are.1.0 in
      let rises = counted (suc zero) from (change ∷ changes) after (after, are.1.1, refl) in
      let count = records_count changes more after last are.1.2 in
      refused_by e after
      (subst (λ (i : Image). image_after i next ≡ Some after) (sym here)
      (record_is from after change next are.0.is are.1.1 are.0.revision (omega (arith, are.0.revision, rises, count, small))))
      (λ made same. record_room made (ap (λ (k : ℕ). k == image_kind) are.0.is.kind ∙ kind_other change) (subst (λ (i : Image). Fits limit i next) (sym here) known.0)) becomes
  record_refused e from (change ∷ changes) (suc n) are here known becomes =
      let ahead : old.image.revision ≡ from.revision + suc n = counted (suc n) from (change ∷ changes) old.image here in
      let is_next = looked_at e becomes in
      absurd (omega (arith, is_next.later, are.0.revision, ahead))

  next_refused : (e : FollowFault) → State (Fits limit) last old.image (next ∷ more) → BecomesOf old next (Err e) new → IsFailed (of_fault e)
  next_refused e (inl at) becomes = first_refused e at becomes
  next_refused e (inr place) becomes = record_refused e place.from place.changes place.n place.are place.after place.known becomes

-- ---- all frames

limit_stays : {D : Type 0} {g : Disks D} (old now : Follower D g) (steps : List (Frame × Result Accepted FollowFault)) → Runs old steps now → limit_of now.store ≡ limit_of old.store
limit_stays {D} {g} old now [] runs = ap (λ (f : Follower D g). limit_of f.store) runs
limit_stays old now (step ∷ earlier) runs = runs.2.limit ∙ limit_stays old runs.0 earlier runs.1

module _ {D : Type 0} {g : Disks D} (last : Image) (small : last.revision ≤ 2 ^ 62) (old new : Follower D g) where
  abbrev P : Image → Frame → Type 0
  P = Fits (limit_of old.store)

  one_refused : (mid : Follower D g) (next : Frame) (e : FollowFault) (rest : List ℕ) → limit_of mid.store ≡ limit_of old.store → BecomesOf mid next (Err e) new
      → next.revision < 2 ^ 64 → length next.payload < 2 ^ 64 → (left : List Frame) → frame next.revision next.kind next.payload ++ rest ≡ bytes_of_all left
      → State P last mid.image left → IsFailed (of_fault e)
  one_refused mid next e rest same becomes fits short [] is state = absurd (subst Filled is tt)
  one_refused mid next e rest same becomes fits short (other ∷ more) is state =
      let of_other = state_fits P last mid.image other more small state in
      let one : other ≡ next = same_frame next other rest (bytes_of_all more) is fits of_other.revision short of_other.payload in
      next_refused mid new last next more small e
      (subst (λ (l : ℕ). State (Fits l) last mid.image (next ∷ more)) (sym same) (subst (λ (f : Frame). State P last mid.image (f ∷ more)) one state)) becomes

  steps_refused : (steps : List (Frame × Result Accepted FollowFault)) (e : FollowFault) → Runs old steps new → LastRefused e steps → AreRead steps → (frames : List Frame)
      → State P last old.image frames → (rest : List ℕ) → bytes_of_all frames ≡ bytes_of steps ++ rest → IsFailed (of_fault e)
  steps_refused [] e runs refused read frames state rest is = absurd refused
  steps_refused (step ∷ earlier) e runs refused read frames state rest is =
      let next = step.0 in
      let mid = runs.0 in
      let at = all_read P last small old mid earlier runs.1 refused.1 read.1 frames state (frame next.revision next.kind next.payload ++ rest)
      (is ∙ append_assoc (bytes_of earlier) (frame next.revision next.kind next.payload) rest) in
      one_refused mid next e rest (limit_stays old mid earlier runs.1)
      (subst (λ (a : Result Accepted FollowFault). BecomesOf mid next a new) refused.0 runs.2.becomes) read.0.0 (omega (arith, read.0.2)) at.0 at.1 at.2

  module _ {J : Type 0} (i : Sources J) (source source_then : J) (tally tally_then : Tally) (frames : List Frame) (left : i.left source ≡ Some (bytes_of_all frames))
      (state : State P last old.image frames) where
    abbrev ended_at : Stop → Result (Unit {0}) Stop
    ended_at stop = Err stop

    stopped : (stop : Stop) → Follows i g source source_then old new tally tally_then (ended_at stop) → IsFailed (of_stop stop)
    stopped (Unread x) follows =
        let at : (rest : List ℕ) × (bytes_of_all frames ≡ bytes_of follows.steps ++ rest) × AreRead follows.steps × FrameRefused rest x =
        subst (λ (o : Option (List ℕ)). IfSome o (λ bytes. (rest : List ℕ) × (bytes ≡ bytes_of follows.steps ++ rest) × AreRead follows.steps × FrameRefused rest x)) left follows.told in
        let all = all_read P last small old new follows.steps follows.runs follows.ends at.2 frames state at.0 at.1 in
        left_refused (limit_of old.store) last new.image all.0 at.0 x all.1 all.2 at.3
    stopped (Refused e) follows =
        let at : (rest : List ℕ) × (bytes_of_all frames ≡ bytes_of follows.steps ++ rest) × AreRead follows.steps × (i.left source_then ≡ Some rest) =
        subst (λ (o : Option (List ℕ)). IfSome o (λ bytes. (rest : List ℕ) × (bytes ≡ bytes_of follows.steps ++ rest) × AreRead follows.steps × (i.left source_then ≡ Some rest))) left follows.told in
        ⊎_elim (λ refused. steps_refused follows.steps e follows.runs refused at.2 frames state at.0 at.1)
        (λ memory. subst (λ (x : FollowFault). IsFailed (of_fault x)) (sym memory.0) tt) follows.ends

-- ---- two disks

module _ {J D : Type 0} (i : Sources J) (g : Disks D) (result : Result Followed FollowRefusal) where
  failed_as : (r : FollowRefusal) → result ≡ Err r → IsFailed r → IfErr result IsFailed
  failed_as r is failed = subst (λ (x : Result Followed FollowRefusal). IfErr x IsFailed) (sym is) failed

  led_failed : (source source_then : J) (from : Follower D g) (tally : Tally) (back : D × D) (led : IsLed i g source source_then from tally back result) (last : Image)
      → last.revision ≤ 2 ^ 62 → (frames : List Frame) → i.left source ≡ Some (bytes_of_all frames) → State (Fits (limit_of from.store)) last from.image frames → IfErr result IsFailed
  led_failed source source_then from tally back led last small frames left state = by_done led.done led.follows led.told
    where
      by_done : (done : Result (Unit {0}) Stop) → Follows i g source source_then from led.end tally led.tally done → result ≡ told_of done led.end.image.revision led.tally
          → IfErr result IsFailed
      by_done (Ok u) follows told = subst (λ (x : Result Followed FollowRefusal). IfErr x IsFailed) (sym told) tt
      by_done (Err stop) follows told = failed_as (of_stop stop) told (stopped last small from led.end i source source_then tally led.tally frames left state stop follows)

  module _ (source source_then : J) (first second : List ℕ) (old new : D × D) (limit : ℕ) (is_first : g.seen old.0 ≡ Some first) (is_second : g.seen old.1 ≡ Some second)
      (ready : AreReady (i.left source) first second limit) where
    abbrev all : HasAll (i.left source) ready.last
    all = ready.all

    within : all.start.revision ≤ 2 ^ 62
    within = omega (arith, records_count all.changes all.others all.start ready.last all.are_records, all.within)

    first_made : snapshot all.first ≡ Some all.start
    first_made = snapshot_is all.start all.first all.is_first.snapshot all.is_first.revision within

    first_good : is_kind all.first.kind ≡ true
    first_good = ap (λ (k : ℕ). is_kind k) all.is_first.snapshot.kind

    -- ---- a new replica

    module _ (none_first : first ≡ []) (none_second : second ≡ []) (same : ready.room ≡ limit) where
      created : (shown : Image) (cause : StoreFault) → shown ≡ all.start → CreateRefused g old new (whole_size shown) limit cause → IsFailed (of_fault (fault.Store cause))
      created shown store_fault.DiskFault is why = tt
      created shown store_fault.Memory is why = tt
      created shown (store_fault.Full told most) is why =
          let size : whole_size all.start ≤ ready.room =
          subst (λ (b : Bool). (if b then whole_size all.start else whole_size all.start + (10 + length all.first.payload)) ≤ ready.room)
          (ap (λ (k : ℕ). k == image_kind) all.is_first.snapshot.kind) ready.fits.0 in
          let whole : whole_size shown ≡ whole_size all.start = ap whole_size is in
          absurd (omega (arith, why.0, size, whole, same))
      created shown (store_fault.Exists len) is why =
          let told : len ≡ 0 = why.2 first second is_first is_second ∙ (λ t. (if length (none_first t) == 0 then length (none_second t) else length (none_first t))) in
          absurd (omega (arith, why.1, told))
      created shown (store_fault.NotAStore at) is why = absurd why
      created shown (store_fault.Newer version) is why = absurd why

      unmade : (next : Frame) (e : FollowFault) → all.first ≡ next → MakingRefused g old new next limit e → IsFailed (of_fault e)
      unmade next fault.Memory one why = tt
      unmade next (fault.NotASnapshot kind) one why = absurd (why.1 (ap (λ (f : Frame). f.kind) (sym one) ∙ all.is_first.snapshot.kind))
      unmade next (fault.BadPayload revision) one why = absurd (none_some Image all.start (sym why.2 ∙ ap snapshot (sym one) ∙ first_made))
      unmade next (fault.Store cause) one why =
          created why.1.0 cause (some_one (snapshot all.first) why.1.0 all.start (ap snapshot one ∙ why.1.1) first_made) why.1.2

      made : (mid : J) (next : Frame) (rest : List ℕ) → all.first ≡ next → i.left mid ≡ Some rest → rest ≡ bytes_of_all all.others
          → IsMade i g next mid source_then old new limit result → IfErr result IsFailed
      made mid next rest one left is m =
          let at : m.made.image ≡ all.start = some_one (snapshot all.first) m.made.image all.start (ap snapshot one ∙ m.image_is) first_made in
          let has : limit_of m.made.store ≡ ready.room = m.has_limit ∙ sym same in
          led_failed mid source_then m.made first_frame new m.leads ready.last all.within all.others (left ∙ ap (λ (l : List ℕ). Some l) is)
          (inr (record {
            from = all.start;
            changes = all.changes;
            n = zero;
            are = all.are_records;
            after = at;
            known = subst (λ (l : ℕ). Each (Fits l) all.start all.changes all.others) (sym has) ready.each_fits;
          }))

      -- the first frame of the source, or why there is none
      started : (mid : J) (found : Result (Option Frame) FrameFault)
          → IfOk found (λ frame. IfSome (i.left source) (λ bytes. (rest : List ℕ) × (i.left mid ≡ Some rest) × BeginsWith bytes frame rest))
          → IfErr found (NextRefused (i.left source) (i.faults source) (i.faults mid)) → StartsWith i g found mid source_then old new limit result → IfErr result IsFailed
      started mid (Err x) told why starts =
          failed_as (refusal.Unread x) starts.2
          (unread_failed all.first (bytes_of_all all.others) ready.fits.1 x (i.faults source) (i.faults mid) first_good
          (subst (λ (o : Option (List ℕ)). NextRefused o (i.faults source) (i.faults mid) x) all.told why))
      started mid (Ok None) told why starts =
          let t : (rest : List ℕ) × (i.left mid ≡ Some rest) × BeginsWith (bytes_of_all (all.first ∷ all.others)) None rest =
          subst (λ (o : Option (List ℕ)). IfSome o (λ bytes. (rest : List ℕ) × (i.left mid ≡ Some rest) × BeginsWith bytes None rest)) all.told told in
          absurd (subst Filled t.2.0 tt)
      started mid (Ok (Some next)) told why starts =
          let t : (rest : List ℕ) × (i.left mid ≡ Some rest) × BeginsWith (bytes_of_all (all.first ∷ all.others)) (Some next) rest =
          subst (λ (o : Option (List ℕ)). IfSome o (λ bytes. (rest : List ℕ) × (i.left mid ≡ Some rest) × BeginsWith bytes (Some next) rest)) all.told told in
          let b = t.2 in
          let small_then : all.first.revision < 2 ^ 64 = omega (arith, all.is_first.revision, within) in
          let short : length next.payload < 2 ^ 64 = omega (arith, b.1) in
          let one : all.first ≡ next = same_frame next all.first t.0 (bytes_of_all all.others) (sym b.2) starts.0 small_then short all.is_first.fits in
          let rest : t.0 ≡ bytes_of_all all.others = same_rest next all.first t.0 (bytes_of_all all.others) (sym b.2) starts.0 small_then short all.is_first.fits in
          ⊎_elim (λ m. made mid next t.0 one t.1 rest m) (λ u. failed_as (of_fault u.fault) u.told (unmade next u.fault one u.refused)) starts.1

    -- ---- one that is there

    module _ (shown : Image) (is : image first second ≡ Ok shown) (at : IsBehind all.start all.changes shown) (same : ready.room ≡ opened_limit first second) where
      unopened_store : (cause : StoreFault) → OpenRefused g old new cause → IsFailed (of_fault (fault.Store cause))
      unopened_store store_fault.DiskFault why = tt
      unopened_store store_fault.Memory why = tt
      unopened_store (store_fault.NotAStore at) why = absurd (ok_err shown (NoStore at) (sym is ∙ why.0 first second is_first is_second))
      unopened_store (store_fault.Newer version) why = absurd (ok_err shown (NewerStore version) (sym is ∙ why.0 first second is_first is_second))
      unopened_store (store_fault.Full told most) why = absurd why
      unopened_store (store_fault.Exists len) why = absurd why

      unopened : (e : FollowFault) → OpeningRefused g old new e → IsFailed (of_fault e)
      unopened (fault.Store cause) why = unopened_store cause why.0
      unopened fault.Memory why = tt
      unopened (fault.NotASnapshot kind) why = absurd why
      unopened (fault.BadPayload revision) why = absurd why

      opened : IsOpened i g source source_then old new result → IfErr result IsFailed
      opened o =
          let here = o.stands first second is_first is_second in
          let has : limit_of o.opened.store ≡ ready.room = here.2 ∙ sym same in
          led_failed source source_then o.opened no_frame new o.leads ready.last all.within (all.first ∷ all.others) all.told
          (inl (record {
            start = all.start;
            changes = all.changes;
            is_first = all.is_first;
            are = all.are_records;
            behind = subst (λ (x : Image). IsBehind all.start all.changes x) (one_image shown o.opened.image first second is here.0) at;
            known_first = subst (λ (l : ℕ). Fits l all.start all.first) (sym has) ready.fits;
            known = subst (λ (l : ℕ). Each (Fits l) all.start all.changes all.others) (sym has) ready.each_fits;
          }))

    by_length : (empty : Bool) → AreEmpty empty first second → HaveLimit all first second limit ready.room → ByLength i g source source_then old new limit result empty → IfErr result IsFailed
    by_length true are (inl h) starts = started h.0.0 h.0.1 h.1 starts.mid starts.found starts.first.told starts.first.refused starts.starts
    by_length true are (inr h) starts = absurd (no_image h.0.0 first second are.0 are.1 h.0.1)
    by_length false are (inl h) way = absurd (are h.0)
    by_length false are (inr h) way =
        ⊎_elim (λ o. opened h.0.0 h.0.1 h.0.2 h.1 o) (λ u. failed_as (of_fault u.fault) u.told (unopened h.0.0 h.0.1 h.0.2 h.1 u.fault u.refused)) way

  -- a source of all frames, and a replica that has room for them: nothing is refused but for a failed call or want of memory
  pub follows_complete : (source source_then : J) (first second : List ℕ) (old new : D × D) (limit : ℕ) → FollowsDisks i g source source_then old new limit result
      → g.seen old.0 ≡ Some first → g.seen old.1 ≡ Some second → AreReady (i.left source) first second limit → IfErr result IsFailed
  follows_complete source source_then first second old new limit (inl asked) is_first is_second ready =
      by_length source source_then first second asked.asked new limit (asked.reads.0.seen ∙ is_first) (asked.reads.1.seen ∙ is_second) ready asked.empty
      (asked.are first second is_first is_second) ready.has_limit asked.by_length
  follows_complete source source_then first second old new limit (inr unasked) is_first is_second ready =
      failed_as (refusal.Store store_refusal.DiskFault) unasked.told tt
