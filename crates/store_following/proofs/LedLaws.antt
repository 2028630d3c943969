-- The images that frames lead to, and what crashes show of them.
use Rattle.std.proofs.Common.{◌≡◌, ◌≢◌, ◌⊎◌, inl, inr, ⊎_elim, ℕ, ◌+◌, ◌-◌, ◌^◌, ◌≤◌, min, List, [], ◌∷◌, Option, Some, None, IsSomeAnd, Result, Ok, Err, IfErr, refl, sym, ◌∙◌, ap, subst, arith}
use Rattle.hl_base.specs.Causes.{Rose}
use Rattle.hl_base.specs.declared.disk.Disk.{Ghosts as Disks}
use Rattle.hl_base.specs.declared.outside.Source.{Ghosts as Sources}
use Rattle.text_store.specs.declared.fault.StoreFault.TheVariants as store_fault
use Rattle.text_store.specs.declared.image.Image.{Image}
use Rattle.text_store.specs.Image.{image}
use Rattle.text_store.specs.Stores.{Leaves, Tell, Throughout, disks, fault_count}
use Rattle.text_store.proofs.Both.{less_said, stays, then_on}
use Rattle.text_store.proofs.Resting.{tells_still}
use Rattle.follower.specs.Accepting.{Accepts, BecomesOf, IsPending}
use Rattle.follower.specs.Crashes.{Runs}
use Rattle.follower.specs.Histories.{Becomes}
use Rattle.follower.specs.Images.{image_after}
use Rattle.follower.specs.Stands.{ShowsOne, Stands}
use Rattle.follower.specs.declared.fault.Accepted.{Accepted}
use Rattle.follower.specs.declared.fault.Accepted.TheVariants.{Taken, Old, Gap}
use Rattle.follower.specs.declared.fault.FollowFault.{FollowFault}
use Rattle.follower.specs.declared.fault.FollowFault.TheVariants as fault
use Rattle.follower.specs.declared.follower.Follower.{Follower}
use Rattle.follower.specs.declared.frame.Frame.{Frame}
use Rattle.follower.proofs.Following.{leads_of}
use Rattle.follower.proofs.Kept.{leaves_of}
use Rattle.follow_commands.specs.Genuine.{LeadsOn}
use Rattle.follow_commands.specs.Walks.{AreAnswered, EndsWith, Follows, IsAnswered, LastRefused}
use Rattle.follow_commands.specs.declared.following.Stop.{Stop}
use Rattle.follow_commands.specs.declared.following.Stop.TheVariants.{Unread, Refused}
use Rattle.follow_commands.specs.declared.tally.Tally.{Tally}
use Rattle.store_text.specs.declared.refusal.StoreRefusal.TheVariants as store_refusal
use Rattle.store_following.specs.Led.{ShowsOneLed, ShowsTried, after_answer, led, or_same}
use Rattle.store_following.specs.Refusals.{of_fault, told_of}
use Rattle.store_following.specs.Replicas.{IsLed, IsOfLeading}
use Rattle.store_following.specs.declared.refusal.FollowRefusal.{FollowRefusal}
use Rattle.store_following.specs.declared.refusal.FollowRefusal.TheVariants as refusal
use Rattle.store_following.specs.declared.refusal.Followed.{Followed}

-- ---- images

step_led : (shown : Image) (frame : Frame) (answer : Result Accepted FollowFault) (after : Image) → Becomes shown frame answer after → after ≡ after_answer shown frame answer
step_led shown frame (Ok (Taken revision)) after becomes = sym (ap (λ (o : Option Image). or_same shown o) becomes.1)
step_led shown frame (Ok (Old had got)) after becomes = becomes
step_led shown frame (Ok (Gap had got)) after becomes = becomes
step_led shown frame (Err e) after becomes = becomes

by_next : (before : Image) (o : Option Image) (f s : List ℕ) → image f s ≡ Ok (or_same before o) → (image f s ≡ Ok before) ⊎ IsSomeAnd o (λ other. image f s ≡ Ok other)
by_next before None f s is = inl is
by_next before (Some next) f s is = inr is

after_shows : (before : Image) (frame : Frame) (answer : Result Accepted FollowFault) (f s : List ℕ) → image f s ≡ Ok (after_answer before frame answer)
    → (image f s ≡ Ok before) ⊎ ShowsTried before frame answer f s
after_shows before frame (Ok (Taken revision)) f s is = by_next before (image_after before frame) f s is
after_shows before frame (Ok (Old had got)) f s is = inl is
after_shows before frame (Ok (Gap had got)) f s is = inl is
after_shows before frame (Err e) f s is = inl is

-- the last image is one of those
pub shows_led : (shown : Image) (steps : List (Frame × Result Accepted FollowFault)) (f s : List ℕ) → image f s ≡ Ok (led shown steps) → ShowsOneLed shown steps f s
shows_led shown [] f s is = is
shows_led shown (step ∷ earlier) f s is =
    ⊎_elim (λ same. inl (shows_led shown earlier f s same)) (λ tried. inr tried) (after_shows (led shown earlier) step.0 step.1 f s is)

joins : (shown : Image) (step : Frame × Result Accepted FollowFault) (earlier : List (Frame × Result Accepted FollowFault)) (before : Image) (f s : List ℕ) → before ≡ led shown earlier
    → (image f s ≡ Ok before) ⊎ ShowsTried before step.0 step.1 f s → ShowsOneLed shown (step ∷ earlier) f s
joins shown step earlier before f s is shows =
    ⊎_elim (λ same. inl (shows_led shown earlier f s same)) (λ tried. inr tried)
    (subst (λ (i : Image). (image f s ≡ Ok i) ⊎ ShowsTried i step.0 step.1 f s) is shows)

-- ---- what may be shown beside

pending_answered : (answer : Result Accepted FollowFault) (next after : Option Image) → IsAnswered answer → IsPending None next answer after → after ≡ None
pending_answered (Ok (Taken revision)) next after answered pends = pends
pending_answered (Ok (Old had got)) next after answered pends = pends
pending_answered (Ok (Gap had got)) next after answered pends = pends
pending_answered (Err e) next after answered pends = absurd answered

pending_refused : (e : FollowFault) (next after : Option Image) → e ≢ fault.Store store_fault.DiskFault → IsPending None next (Err e) after → after ≡ None
pending_refused (fault.Store store_fault.DiskFault) next after unlike pends = absurd (unlike refl)
pending_refused (fault.Store (store_fault.NotAStore at)) next after unlike pends = pends
pending_refused (fault.Store (store_fault.Newer version)) next after unlike pends = pends
pending_refused (fault.Store (store_fault.Full size limit)) next after unlike pends = pends
pending_refused (fault.Store (store_fault.Exists len)) next after unlike pends = pends
pending_refused (fault.Store store_fault.Memory) next after unlike pends = pends
pending_refused (fault.NotASnapshot kind) next after unlike pends = pends
pending_refused (fault.BadPayload revision) next after unlike pends = pends
pending_refused fault.Memory next after unlike pends = ⊎_elim (λ e. e) (λ e. e) pends

-- all but the last frame were answered
abbrev pub AnsweredBefore : List (Frame × Result Accepted FollowFault) → Type 0
AnsweredBefore [] = Unit {0}
AnsweredBefore (step ∷ earlier) = AreAnswered earlier

all_before : (steps : List (Frame × Result Accepted FollowFault)) → AreAnswered steps → AnsweredBefore steps
all_before [] answered = tt
all_before (step ∷ earlier) answered = answered.1

refused_before : (steps : List (Frame × Result Accepted FollowFault)) (e : FollowFault) → LastRefused e steps → AnsweredBefore steps
refused_before [] e last = absurd last
refused_before (step ∷ earlier) e last = last.1

ends_before : {T : Type 0} (done : Result T Stop) (steps : List (Frame × Result Accepted FollowFault)) → EndsWith done steps → AnsweredBefore steps
ends_before (Ok done) steps ends = all_before steps ends
ends_before (Err (Unread e)) steps ends = all_before steps ends
ends_before (Err (Refused e)) steps ends = ⊎_elim (λ last. refused_before steps e last) (λ other. all_before steps other.1) ends

rose_from : (a b c d e f : ℕ) → a ≤ c → b ≤ d → Rose (min (c + d) (2 ^ 64 - 1)) (min (e + f) (2 ^ 64 - 1)) → Rose (min (a + b) (2 ^ 64 - 1)) (min (e + f) (2 ^ 64 - 1))
rose_from a b c d e f first second (inl less) = inl (omega (arith, first, second, less))
rose_from a b c d e f first second (inr last) = inr last

module _ {D : Type 0} {g : Disks D} where
  -- the image is that of the frames that were taken
  pub run_led : (old new : Follower D g) (steps : List (Frame × Result Accepted FollowFault)) → Runs old steps new → new.image ≡ led old.image steps
  run_led old new [] runs = ap (λ (f : Follower D g). f.image) runs
  run_led old new (step ∷ earlier) runs =
      let mid = runs.0 in
      step_led mid.image step.0 step.1 new.image (leads_of mid new step.0 step.1 runs.2.becomes) ∙ ap (λ (i : Image). after_answer i step.0 step.1) (run_led old mid earlier runs.1)

  run_tells : (old new : Follower D g) (steps : List (Frame × Result Accepted FollowFault)) → Runs old steps new → Tell g (disks old.store) → Tell g (disks new.store)
  run_tells old new [] runs tell = subst (λ (f : Follower D g). Tell g (disks f.store)) (sym runs) tell
  run_tells old new (step ∷ earlier) runs tell =
      let mid = runs.0 in
      let before = run_tells old mid earlier runs.1 tell in
      let keeps = runs.2.keeps in (
        tells_still (g.tells_crashes (disks new.store).0) (g.tells_crashes (disks mid.store).0) keeps.tells_first before.0,
        tells_still (g.tells_crashes (disks new.store).1) (g.tells_crashes (disks mid.store).1) keeps.tells_second before.1,
      )

  run_later : (old new : Follower D g) (steps : List (Frame × Result Accepted FollowFault)) → Runs old steps new
      → (g.failures (disks old.store).0 ≤ g.failures (disks new.store).0) × (g.failures (disks old.store).1 ≤ g.failures (disks new.store).1)
  run_later old new [] runs =
      subst (λ (f : Follower D g). (g.failures (disks old.store).0 ≤ g.failures (disks f.store).0) × (g.failures (disks old.store).1 ≤ g.failures (disks f.store).1)) (sym runs) (omega arith, omega arith)
  run_later old new (step ∷ earlier) runs =
      let before = run_later old runs.0 earlier runs.1 in
      let keeps = runs.2.keeps in
      (omega (arith, before.0, keeps.later_first), omega (arith, before.1, keeps.later_second))

  -- a store at rest stays so
  pub run_stands : (old new : Follower D g) (steps : List (Frame × Result Accepted FollowFault)) → AreAnswered steps → Runs old steps new
      → Stands old.store old.image None → Stands new.store new.image None
  run_stands old new [] answered runs stands = subst (λ (f : Follower D g). Stands f.store f.image None) (sym runs) stands
  run_stands old new (step ∷ earlier) answered runs stands =
      let mid = runs.0 in
      let s = runs.2.stands None (run_stands old mid earlier answered.1 runs.1 stands) in
      subst (λ (o : Option Image). Stands new.store new.image o) (pending_answered step.1 (image_after mid.image step.0) s.0 answered.0 s.1) s.2

  pub one_rests : (mid : Follower D g) → Stands mid.store mid.image None → Tell g (disks mid.store) → Leaves g (disks mid.store) (λ f s. image f s ≡ Ok mid.image)
  one_rests mid stands tell f s first second =
      ⊎_elim (λ is. is) (λ more. ⊎_elim (λ none. absurd none) (λ none. absurd none) more) (leaves_of mid.store mid.image None None stands tell f s first second)

  module _ (mid new : Follower D g) (frame : Frame) (stands : Stands mid.store mid.image None) (tell : Tell g (disks mid.store)) where
    tried : (answer : Result Accepted FollowFault) → Accepts mid frame answer new
        → Throughout g (disks mid.store) (disks new.store) (λ f s. (image f s ≡ Ok mid.image) ⊎ IsSomeAnd (image_after mid.image frame) (λ other. image f s ≡ Ok other))
    tried answer accepts =
        less_said g (disks mid.store) (disks new.store) (ShowsOne mid.image None (image_after mid.image frame)) _
        (λ f s shows. ⊎_elim (λ is. inl is) (λ more. ⊎_elim (λ none. absurd none) (λ next. inr next) more) shows) (accepts.crash None stands tell)

    untried : (P : List ℕ → List ℕ → Type 0) → new ≡ mid → Throughout g (disks mid.store) (disks new.store) (λ f s. (image f s ≡ Ok mid.image) ⊎ P f s)
    untried P same =
        subst (λ (x : Follower D g). Throughout g (disks mid.store) (disks x.store) (λ f s. (image f s ≡ Ok mid.image) ⊎ P f s)) (sym same)
        (stays g (disks mid.store) _ (λ f s first second. inl (one_rests mid stands tell f s first second)))

    step_moments : (answer : Result Accepted FollowFault) → Accepts mid frame answer new
        → Throughout g (disks mid.store) (disks new.store) (λ f s. (image f s ≡ Ok mid.image) ⊎ ShowsTried mid.image frame answer f s)
    step_moments (Ok (Taken revision)) accepts = tried (Ok (Taken revision)) accepts
    step_moments (Ok (Old had got)) accepts = untried (ShowsTried mid.image frame (Ok (Old had got))) accepts.becomes.2
    step_moments (Ok (Gap had got)) accepts = untried (ShowsTried mid.image frame (Ok (Gap had got))) accepts.becomes.3
    step_moments (Err e) accepts = tried (Err e) accepts

  -- a crash at any moment shows one of the images
  pub run_moments : (old new : Follower D g) (steps : List (Frame × Result Accepted FollowFault)) → AnsweredBefore steps → Runs old steps new
      → Stands old.store old.image None → Tell g (disks old.store) → Throughout g (disks old.store) (disks new.store) (ShowsOneLed old.image steps)
  run_moments old new [] before runs stands tell =
      subst (λ (x : Follower D g). Throughout g (disks old.store) (disks x.store) (λ f s. image f s ≡ Ok old.image)) (sym runs)
      (stays g (disks old.store) _ (one_rests old stands tell))
  run_moments old new (step ∷ earlier) before runs stands tell =
      let mid = runs.0 in
      let first = run_moments old mid earlier (all_before earlier before) runs.1 stands tell in
      let next = step_moments mid new step.0 (run_stands old mid earlier before runs.1 stands) (run_tells old mid earlier runs.1 tell) step.1 runs.2 in
      then_on g (disks old.store) (disks mid.store) (disks new.store) (ShowsOneLed old.image (step ∷ earlier))
      (less_said g (disks old.store) (disks mid.store) (ShowsOneLed old.image earlier) (ShowsOneLed old.image (step ∷ earlier)) (λ f s shows. inl shows) first)
      (less_said g (disks mid.store) (disks new.store) (λ f s. (image f s ≡ Ok mid.image) ⊎ ShowsTried mid.image step.0 step.1 f s) (ShowsOneLed old.image (step ∷ earlier))
      (λ f s shows. joins old.image step earlier mid.image f s (run_led old mid earlier runs.1) shows) next)

  -- ---- refusals

  leading_of : (mid new : Follower D g) (frame : Frame) (e : FollowFault) → BecomesOf mid frame (Err e) new → IsOfLeading (of_fault e)
  leading_of mid new frame (fault.Store store_fault.DiskFault) becomes = tt
  leading_of mid new frame (fault.Store (store_fault.Full size limit)) becomes = tt
  leading_of mid new frame (fault.Store (store_fault.NotAStore at)) becomes = absurd becomes.1.2
  leading_of mid new frame (fault.Store (store_fault.Newer version)) becomes = absurd becomes.1.2
  leading_of mid new frame (fault.Store (store_fault.Exists len)) becomes = absurd becomes.1.2
  leading_of mid new frame (fault.Store store_fault.Memory) becomes = tt
  leading_of mid new frame (fault.NotASnapshot kind) becomes = absurd becomes
  leading_of mid new frame (fault.BadPayload revision) becomes = tt
  leading_of mid new frame fault.Memory becomes = tt

  refused_kind : (old new : Follower D g) (steps : List (Frame × Result Accepted FollowFault)) (e : FollowFault) → Runs old steps new → LastRefused e steps → IsOfLeading (of_fault e)
  refused_kind old new [] e runs last = absurd last
  refused_kind old new (step ∷ earlier) e runs last =
      leading_of runs.0 new step.0 e (subst (λ (r : Result Accepted FollowFault). BecomesOf runs.0 step.0 r new) last.0 runs.2.becomes)

  refused_stands : (old new : Follower D g) (steps : List (Frame × Result Accepted FollowFault)) (e : FollowFault) → Runs old steps new → LastRefused e steps
      → e ≢ fault.Store store_fault.DiskFault → Stands old.store old.image None → Stands new.store new.image None
  refused_stands old new [] e runs last unlike stands = absurd last
  refused_stands old new (step ∷ earlier) e runs last unlike stands =
      let mid = runs.0 in
      let s = runs.2.stands None (run_stands old mid earlier last.1 runs.1 stands) in
      subst (λ (o : Option Image). Stands new.store new.image o)
      (pending_refused e (image_after mid.image step.0) s.0 unlike
      (subst (λ (r : Result Accepted FollowFault). IsPending None (image_after mid.image step.0) r s.0) last.0 s.1)) s.2

  refused_rose : (old new : Follower D g) (steps : List (Frame × Result Accepted FollowFault)) (e : FollowFault) → Runs old steps new → LastRefused e steps
      → e ≡ fault.Store store_fault.DiskFault → Rose (fault_count g (disks old.store)) (fault_count g (disks new.store))
  refused_rose old new [] e runs last is = absurd last
  refused_rose old new (step ∷ earlier) e runs last is =
      let mid = runs.0 in
      let before = run_later old mid earlier runs.1 in
      let becomes = subst (λ (r : Result Accepted FollowFault). BecomesOf mid step.0 r new) (last.0 ∙ ap (λ (x : FollowFault). refusing x) is) runs.2.becomes in
      rose_from (g.failures (disks old.store).0) (g.failures (disks old.store).1) (g.failures (disks mid.store).0) (g.failures (disks mid.store).1)
      (g.failures (disks new.store).0) (g.failures (disks new.store).1) before.0 before.1 becomes.1.2.1
    where
      refusing : FollowFault → Result Accepted FollowFault
      refusing x = Err x

-- ---- what is told

abbrev refused : FollowRefusal → Result Followed FollowRefusal
refused r = Err r

abbrev followed : Followed → Result Followed FollowRefusal
followed f = Ok f

pub disk_fault_of : (e : FollowFault) → of_fault e ≡ refusal.Store store_refusal.DiskFault → e ≡ fault.Store store_fault.DiskFault
disk_fault_of (fault.Store store_fault.DiskFault) is = refl
disk_fault_of (fault.Store (store_fault.NotAStore at)) is = absurd cc
disk_fault_of (fault.Store (store_fault.Newer version)) is = absurd cc
disk_fault_of (fault.Store (store_fault.Full size limit)) is = absurd cc
disk_fault_of (fault.Store (store_fault.Exists len)) is = absurd cc
disk_fault_of (fault.Store store_fault.Memory) is = absurd cc
disk_fault_of (fault.NotASnapshot kind) is = absurd cc
disk_fault_of (fault.BadPayload revision) is = absurd cc
disk_fault_of fault.Memory is = absurd cc

pub refused_is : (a b : FollowRefusal) → refused a ≡ refused b → a ≡ b
refused_is a b e = ap of e
  where
    of : Result Followed FollowRefusal → FollowRefusal
    of (Ok f) = a
    of (Err r) = r

module _ {J D : Type 0} (i : Sources J) (g : Disks D) (source source_then : J) (from end : Follower D g) (before tally : Tally) where
  module _ (done : Result (Unit {0}) Stop) (follows : Follows i g source source_then from end before tally done) where
    kind_of : (done : Result (Unit {0}) Stop) → EndsWith done follows.steps → IfErr (told_of done end.image.revision tally) IsOfLeading
    kind_of (Ok u) ends = tt
    kind_of (Err (Unread e)) ends = tt
    kind_of (Err (Refused e)) ends =
        ⊎_elim (λ last. refused_kind from end follows.steps e follows.runs last) (λ other. subst (λ (x : FollowFault). IsOfLeading (of_fault x)) (sym other.0) tt) ends

    rests_of : (done : Result (Unit {0}) Stop) → EndsWith done follows.steps → Stands from.store from.image None
        → told_of done end.image.revision tally ≢ refused (refusal.Store store_refusal.DiskFault) → Stands end.store end.image None
    rests_of (Ok u) ends stands unlike = run_stands from end follows.steps ends follows.runs stands
    rests_of (Err (Unread e)) ends stands unlike = run_stands from end follows.steps ends follows.runs stands
    rests_of (Err (Refused e)) ends stands unlike =
        ⊎_elim (λ last. refused_stands from end follows.steps e follows.runs last (λ is. unlike (ap (λ (x : FollowFault). refused (of_fault x)) is)) stands)
        (λ other. run_stands from end follows.steps other.1 follows.runs stands) ends

    rose_of : (done : Result (Unit {0}) Stop) → EndsWith done follows.steps → told_of done end.image.revision tally ≡ refused (refusal.Store store_refusal.DiskFault)
        → Rose (fault_count g (disks from.store)) (fault_count g (disks end.store))
    rose_of (Ok u) ends is = absurd cc
    rose_of (Err (Unread e)) ends is = absurd (let other : refusal.Unread e ≡ refusal.Store store_refusal.DiskFault = refused_is (refusal.Unread e) (refusal.Store store_refusal.DiskFault) is in cc)
    rose_of (Err (Refused e)) ends is =
        let same = disk_fault_of e (refused_is (of_fault e) (refusal.Store store_refusal.DiskFault) is) in
        ⊎_elim (λ last. refused_rose from end follows.steps e follows.runs last same) (λ other. absurd (differ (sym other.0 ∙ same))) ends
      where
        differ : fault.Memory ≡ fault.Store store_fault.DiskFault → ⊥
        differ e = cc

    pub is_led : LeadsOn (i.left source) from.image end.image → (revision : ℕ) → revision ≡ end.image.revision → (new : D × D) → new ≡ disks end.store
        → (result : Result Followed FollowRefusal) → result ≡ told_of done revision tally → IsLed i g source source_then from before new result
    is_led genuine revision is new closed result told_so =
        let told : result ≡ told_of done end.image.revision tally = told_so ∙ ap (λ (r : ℕ). told_of done r tally) is in
        subst (λ (r : Result Followed FollowRefusal). IsLed i g source source_then from before new r) (sym told)
        (subst (λ (d : D × D). IsLed i g source source_then from before d (told_of done end.image.revision tally)) (sym closed) (record {
          end = end;
          tally = tally;
          done = done;
          follows = follows;
          closed = refl;
          told = refl;
          kind = kind_of done follows.ends;
          image_is = run_led from end follows.steps follows.runs;
          genuine = genuine;
          any_moment = λ stands tell. run_moments from end follows.steps (ends_before done follows.steps follows.ends) follows.runs stands tell;
          rests = λ stands unlike. rests_of done follows.ends stands unlike;
          rose = λ e. rose_of done follows.ends e;
          tells = λ tell. run_tells from end follows.steps follows.runs tell;
        }))
