-- A follower that is led by all frames of a history has its last image.
use Rattle.std.proofs.Common.{◌≡◌, ◌∙◌, ◌⊎◌, inl, inr, ℕ, zero, suc, ◌+◌, ◌^◌, ◌<◌, ◌≤◌, List, [], ◌∷◌, ◌++◌, length, Option, Some, IfSome, Result, Ok, Err, refl, sym, ap, subst, arith, append_assoc}
use Rattle.hl_base.specs.declared.disk.Disk.{Ghosts as Disks}
use Rattle.hl_base.specs.declared.outside.Source.{Ghosts as Sources}
use Rattle.text_store.specs.Edits.{edited, edited_content, content_in}
use Rattle.text_store.specs.Frames.{frame}
use Rattle.text_store.specs.declared.change.Change.{Change}
use Rattle.text_store.specs.declared.image.Image.{Image}
use Rattle.text_store.proofs.Growing.{content_edited}
use Rattle.follower.specs.Accepting.{BecomesOf}
use Rattle.follower.specs.Crashes.{Runs}
use Rattle.follower.specs.Histories.{IsAfter, IsGenuine, IsRecord, IsSnapshot}
use Rattle.follower.specs.Images.{image_after, snapshot}
use Rattle.follower.specs.Standings.{IsNext}
use Rattle.follower.specs.declared.fault.Accepted.{Accepted}
use Rattle.follower.specs.declared.fault.Accepted.TheVariants.{Taken, Old, Gap}
use Rattle.follower.specs.declared.fault.FollowFault.{FollowFault}
use Rattle.follower.specs.declared.follower.Follower.{Follower}
use Rattle.follower.specs.declared.frame.Frame.{Frame}
use Rattle.follower.proofs.Following.{counted, record_is, snapshot_is, some_one}
use Rattle.follower.proofs.Texts.{after_snapshot}
use Rattle.follow_commands.specs.Genuine.{AreOfOne, bytes_of_all}
use Rattle.follow_commands.specs.Walks.{AreAnswered, AreRead, Follows, IsAnswered, StopsAt, bytes_of}
use Rattle.follow_commands.specs.Whole.{AreRecords, CatchesUp, Each, IsBehind, IsFirst, IsNextRecord}
use Rattle.follow_commands.specs.declared.following.Stop.{Stop}
use Rattle.follow_commands.specs.declared.tally.Tally.{Tally}
use Rattle.follow_commands.proofs.Joining.{Filled, same_frame, same_rest}

-- ---- the records of changes

edited_revision : (before after : Image) (change : Change) → edited before change ≡ Some after → after.revision ≡ before.revision + 1
edited_revision before after change is = (content_edited (before.revision + 1) (edited_content (content_in before) change) after is).1

-- there are as many changes as the revision rises by
pub records_count : (changes : List Change) (frames : List Frame) (shown last : Image) → AreRecords shown changes frames last → last.revision ≡ shown.revision + length changes
records_count [] [] shown last are = let same : last.revision ≡ shown.revision = ap (λ (i : Image). i.revision) are in omega (arith, same)
records_count [] (next ∷ frames) shown last are = absurd are
records_count (change ∷ changes) [] shown last are = absurd are
records_count (change ∷ changes) (next ∷ frames) shown last are =
    let first = edited_revision shown are.1.0 change are.1.1 in
    let rest = records_count changes frames are.1.0 last are.1.2 in
    omega (arith, first, rest)

-- the last image is that after all changes
pub records_after : (changes : List Change) (frames : List Frame) (shown last : Image) → AreRecords shown changes frames last
    → (n : ℕ) × (n ≡ length changes) × IsAfter shown n changes last
records_after [] [] shown last are = (zero, omega arith, are)
records_after [] (next ∷ frames) shown last are = absurd are
records_after (change ∷ changes) [] shown last are = absurd are
records_after (change ∷ changes) (next ∷ frames) shown last are =
    let rest = records_after changes frames are.1.0 last are.1.2 in
    (suc rest.0, omega (arith, rest.1), (are.1.0, are.1.1, rest.2))

-- a frame of a history is one of a history with a change more at its front
module _ (start next : Image) (change : Change) (changes : List Change) (made : edited start change ≡ Some next) where
  earlier : (one : Frame) → IsGenuine next changes one → IsGenuine start (change ∷ changes) one
  earlier one g = record {
    count = suc g.count;
    shown = g.shown;
    after = (next, made, g.after);
    revision = g.revision;
    within = g.within;
    is = by_kind g.is;
  }
    where
      by_kind : (IsSnapshot g.shown one ⊎ ((n : ℕ) × (before : Image) × (c : Change) × (g.count ≡ suc n) × IsAfter next n changes before × (edited before c ≡ Some g.shown) × IsRecord c one))
          → IsSnapshot g.shown one ⊎ ((n : ℕ) × (before : Image) × (c : Change) × (suc g.count ≡ suc n) × IsAfter start n (change ∷ changes) before × (edited before c ≡ Some g.shown) × IsRecord c one)
      by_kind (inl is) = inl is
      by_kind (inr is) = inr (suc is.0, is.1, is.2, ap suc is.3, (next, made, is.4), is.5, is.6)

  all_earlier : (frames : List Frame) → AreOfOne next changes frames → AreOfOne start (change ∷ changes) frames
  all_earlier [] are = tt
  all_earlier (one ∷ frames) are = ((earlier one are.0.0, are.0.1), all_earlier frames are.1)

pub records_genuine : (changes : List Change) (frames : List Frame) (shown last : Image) → AreRecords shown changes frames last → last.revision ≤ 2 ^ 62 → AreOfOne shown changes frames
records_genuine [] [] shown last are small = tt
records_genuine [] (next ∷ frames) shown last are small = absurd are
records_genuine (change ∷ changes) [] shown last are small = absurd are
records_genuine (change ∷ changes) (next ∷ frames) shown last are small =
    let after = are.1.0 in
    let made = are.1.1 in
    let rises = edited_revision shown after change made in
    let within : after.revision ≤ 2 ^ 62 = omega (arith, records_count changes frames after last are.1.2, small) in (
      (
        record {
          count = suc zero;
          shown = after;
          after = (after, made, refl);
          revision = are.0.revision ∙ sym rises;
          within = within;
          is = inr (zero, shown, change, refl, refl, made, are.0.is);
        },
        are.0.fits,
      ),
      all_earlier shown after change changes made frames (records_genuine changes frames after last are.1.2 small),
    )

-- all frames of a history are of it
pub first_genuine : (start : Image) (changes : List Change) (first : Frame) → IsFirst start first → start.revision ≤ 2 ^ 62 → IsGenuine start changes first
first_genuine start changes first is small = record {
  count = zero;
  shown = start;
  after = refl;
  revision = is.revision;
  within = small;
  is = inl is.snapshot;
}

abbrev pub the_end : {T : Type 0} → T → Result T Stop
the_end done = Ok done

-- nothing is known of the records but what they are
abbrev pub Any : Image → Frame → Type 0
Any shown next = Unit {0}

pub nothing_known : (from : Image) (changes : List Change) (frames : List Frame) → Each Any from changes frames
nothing_known from [] frames = tt
nothing_known from (change ∷ changes) [] = tt
nothing_known from (change ∷ changes) (next ∷ frames) = (tt, λ after made. nothing_known after changes frames)

-- ---- one frame after the other

-- what becomes of a frame that is answered
abbrev Steps : Image → Frame → Result Accepted FollowFault → Image → Type 0
Steps shown next (Ok (Taken revision)) after = IsNext shown.revision next × (image_after shown next ≡ Some after)
Steps shown next (Ok (Old had got)) after = (next.revision ≤ shown.revision) × (after ≡ shown)
Steps shown next (Ok (Gap had got)) after = (shown.revision + 1 < next.revision) × (next.kind ≡ 67 → ⊥) × (after ≡ shown)
Steps shown next (Err fault) after = Unit {0}

steps_of : {D : Type 0} {g : Disks D} (old new : Follower D g) (next : Frame) (answer : Result Accepted FollowFault) → BecomesOf old next answer new → Steps old.image next answer new.image
steps_of old new next (Ok (Taken revision)) becomes = (becomes.0, becomes.2)
steps_of {D} {g} old new next (Ok (Old had got)) becomes = (omega (arith, becomes.0.0, becomes.0.1, becomes.1), ap (λ (f : Follower D g). f.image) becomes.2)
steps_of {D} {g} old new next (Ok (Gap had got)) becomes = (omega (arith, becomes.0.0, becomes.0.1, becomes.1), becomes.2, ap (λ (f : Follower D g). f.image) becomes.3)
steps_of old new next (Err fault) becomes = tt

-- an image is one of a history of which these frames are left: the records from an image before it on, or from it; and this is known of
-- each of them and the image before it
pub record Place (P : Image → Frame → Type 0) (last shown : Image) (frames : List Frame) : Type 0 where
  pub from : Image
  pub changes : List Change
  pub n : ℕ
  pub are : AreRecords from changes frames last
  pub after : IsAfter from n changes shown
  pub known : Each P from changes frames

-- or all are left
pub record AtFirst (P : Image → Frame → Type 0) (last shown : Image) (first : Frame) (others : List Frame) : Type 0 where
  pub start : Image
  pub changes : List Change
  pub is_first : IsFirst start first
  pub are : AreRecords start changes others last
  pub behind : IsBehind start changes shown
  pub known_first : P start first
  pub known : Each P start changes others

abbrev pub Begins : (Image → Frame → Type 0) → Image → Image → List Frame → Type 0
Begins P last shown [] = ⊥
Begins P last shown (first ∷ others) = AtFirst P last shown first others

abbrev pub State : (Image → Frame → Type 0) → Image → Image → List Frame → Type 0
State P last shown frames = Begins P last shown frames ⊎ Place P last shown frames

module _ (P : Image → Frame → Type 0) (last shown after : Image) (next : Frame) (frames : List Frame) (small : last.revision ≤ 2 ^ 62) where
  -- the record behind the image is taken
  next_made : (from first : Image) (change : Change) (answer : Result Accepted FollowFault) → IsAnswered answer → Steps shown next answer after → IsNextRecord from change next
      → edited from change ≡ Some first → shown ≡ from → first.revision ≤ 2 ^ 62 → after ≡ first
  next_made from first change (Ok (Taken revision)) answered steps is made here within =
      let rises = edited_revision from first change made in
      some_one (image_after from next) after first (ap (λ (i : Image). image_after i next) (sym here) ∙ steps.1)
      (record_is from first change next is.is made is.revision (omega (arith, is.revision, rises, within)))
  next_made from first change (Ok (Old had got)) answered steps is made here within =
      let same : shown.revision ≡ from.revision = ap (λ (i : Image). i.revision) here in
      absurd (omega (arith, steps.0, is.revision, same))
  next_made from first change (Ok (Gap had got)) answered steps is made here within =
      let same : shown.revision ≡ from.revision = ap (λ (i : Image). i.revision) here in
      absurd (omega (arith, steps.0, is.revision, same))
  next_made from first change (Err fault) answered steps is made here within = absurd answered

  -- one that isn't behind it is an old one
  stays_old : (answer : Result Accepted FollowFault) → IsAnswered answer → Steps shown next answer after → next.revision ≤ shown.revision → after ≡ shown
  stays_old (Ok (Taken revision)) answered steps old = absurd (omega (arith, steps.0.later, old))
  stays_old (Ok (Old had got)) answered steps old = steps.1
  stays_old (Ok (Gap had got)) answered steps old = steps.2
  stays_old (Err fault) answered steps old = absurd answered

  record_step : (n : ℕ) (from : Image) (changes : List Change) (answer : Result Accepted FollowFault) → IsAnswered answer → Steps shown next answer after
      → AreRecords from changes (next ∷ frames) last → IsAfter from n changes shown → Each P from changes (next ∷ frames) → Place P last after frames
  record_step n from [] answer answered steps are here known = absurd are
  record_step zero from (change ∷ changes) answer answered steps are here known =
      let first = are.1.0 in
      let within : first.revision ≤ 2 ^ 62 = omega (arith, records_count changes frames first last are.1.2, small) in
      record {
        from = first;
        changes = changes;
        n = zero;
        are = are.1.2;
        after = next_made from first change answer answered steps are.0 are.1.1 here within;
        known = known.1 first are.1.1;
      }
  record_step (suc n) from (change ∷ changes) answer answered steps are here known =
      let first = are.1.0 in
      let rises = edited_revision from here.0 change here.1 in
      let ahead = counted n here.0 changes shown here.2 in
      let same : here.0 ≡ first = some_one (edited from change) here.0 first here.1 are.1.1 in
      let stays : after ≡ shown = stays_old answer answered steps (omega (arith, are.0.revision, rises, ahead)) in
      record {
        from = first;
        changes = changes;
        n = n;
        are = are.1.2;
        after = subst (λ (i : Image). IsAfter i n changes after) same (subst (λ (i : Image). IsAfter here.0 n changes i) (sym stays) here.2);
        known = known.1 first are.1.1;
      }

  -- the C is taken by an image before it
  first_made : (start : Image) (answer : Result Accepted FollowFault) → IsAnswered answer → Steps shown next answer after → IsFirst start next → start.revision ≤ 2 ^ 62
      → shown.revision < start.revision → after ≡ start
  first_made start (Ok (Taken revision)) answered steps is within less =
      some_one (snapshot next) after start (sym (after_snapshot shown next is.snapshot.kind) ∙ steps.1) (snapshot_is start next is.snapshot is.revision within)
  first_made start (Ok (Old had got)) answered steps is within less = absurd (omega (arith, steps.0, is.revision, less))
  first_made start (Ok (Gap had got)) answered steps is within less = absurd (steps.1 is.snapshot.kind)
  first_made start (Err fault) answered steps is within less = absurd answered

  first_step : (answer : Result Accepted FollowFault) → IsAnswered answer → Steps shown next answer after → AtFirst P last shown next frames → Place P last after frames
  first_step answer answered steps at = by_place at.behind
    where
      within : at.start.revision ≤ 2 ^ 62
      within = omega (arith, records_count at.changes frames at.start last at.are, small)

      by_place : IsBehind at.start at.changes shown → Place P last after frames
      by_place (inl less) = record {
        from = at.start;
        changes = at.changes;
        n = zero;
        are = at.are;
        after = first_made at.start answer answered steps at.is_first within less;
        known = at.known;
      }
      by_place (inr here) =
          let stays : after ≡ shown = stays_old answer answered steps (omega (arith, at.is_first.revision, counted here.0 at.start at.changes shown here.1)) in
          record {
            from = at.start;
            changes = at.changes;
            n = here.0;
            are = at.are;
            after = subst (λ (i : Image). IsAfter at.start here.0 at.changes i) (sym stays) here.1;
            known = at.known;
          }

  one_step : (answer : Result Accepted FollowFault) → IsAnswered answer → Steps shown next answer after → State P last shown (next ∷ frames) → Place P last after frames
  one_step answer answered steps (inl begins) = first_step answer answered steps begins
  one_step answer answered steps (inr place) = record_step place.n place.from place.changes answer answered steps place.are place.after place.known

-- the next frame is as it is read
pub record Fits (next : Frame) : Type 0 where
  pub revision : next.revision < 2 ^ 64
  pub payload : length next.payload < 2 ^ 64

record_fits : (last from : Image) (changes : List Change) (next : Frame) (frames : List Frame) → last.revision ≤ 2 ^ 62 → AreRecords from changes (next ∷ frames) last → Fits next
record_fits last from [] next frames small are = absurd are
record_fits last from (change ∷ changes) next frames small are =
    let rises = edited_revision from are.1.0 change are.1.1 in
    let rest = records_count changes frames are.1.0 last are.1.2 in
    record { revision = omega (arith, are.0.revision, rises, rest, small); payload = are.0.fits }

pub state_fits : (P : Image → Frame → Type 0) (last shown : Image) (next : Frame) (frames : List Frame) → last.revision ≤ 2 ^ 62 → State P last shown (next ∷ frames) → Fits next
state_fits P last shown next frames small (inl at) = record {
  revision = omega (arith, at.is_first.revision, records_count at.changes frames at.start last at.are, small);
  payload = at.is_first.fits;
}
state_fits P last shown next frames small (inr place) = record_fits last place.from place.changes next frames small place.are

-- where no frame is left the image is the last
all_after : (last from shown : Image) (changes : List Change) (n : ℕ) → AreRecords from changes [] last → IsAfter from n changes shown → shown ≡ last
all_after last from shown [] zero are here = here ∙ sym are
all_after last from shown [] (suc n) are here = absurd here
all_after last from shown (change ∷ changes) n are here = absurd are

no_frames : (P : Image → Frame → Type 0) (last shown : Image) → State P last shown [] → shown ≡ last
no_frames P last shown (inl begins) = absurd begins
no_frames P last shown (inr place) = all_after last place.from shown place.changes place.n place.are place.after

ended : (P : Image → Frame → Type 0) (last now : Image) (more : List Frame) (rest : List ℕ) → rest ≡ bytes_of_all more → rest ≡ [] → State P last now more → now ≡ last
ended P last now [] rest is none state = no_frames P last now state
ended P last now (next ∷ more) rest is none state = absurd (subst Filled (sym is ∙ none) tt)

module _ (P : Image → Frame → Type 0) {D : Type 0} {g : Disks D} (last : Image) (small : last.revision ≤ 2 ^ 62) where
  one_read : (mid now : Follower D g) (next : Frame) (answer : Result Accepted FollowFault) (rest : List ℕ) → BecomesOf mid next answer now → IsAnswered answer
      → next.revision < 2 ^ 64 → length next.payload < 2 ^ 64 → (left : List Frame) → frame next.revision next.kind next.payload ++ rest ≡ bytes_of_all left → State P last mid.image left
      → (more : List Frame) × (rest ≡ bytes_of_all more) × State P last now.image more
  one_read mid now next answer rest becomes answered fits short [] is state = absurd (subst Filled is tt)
  one_read mid now next answer rest becomes answered fits short (other ∷ more) is state =
      let of_other = state_fits P last mid.image other more small state in
      let same : other ≡ next = same_frame next other rest (bytes_of_all more) is fits of_other.revision short of_other.payload in
      let here = subst (λ (f : Frame). State P last mid.image (f ∷ more)) same state in (
        more,
        same_rest next other rest (bytes_of_all more) is fits of_other.revision short of_other.payload,
        inr (one_step P last mid.image now.image next more small answer answered (steps_of mid now next answer becomes) here),
      )

  pub all_read : (old now : Follower D g) (steps : List (Frame × Result Accepted FollowFault)) → Runs old steps now → AreAnswered steps → AreRead steps
      → (frames : List Frame) → State P last old.image frames → (rest : List ℕ) → bytes_of_all frames ≡ bytes_of steps ++ rest
      → (more : List Frame) × (rest ≡ bytes_of_all more) × State P last now.image more
  all_read old now [] runs answered read frames state rest is =
      (frames, sym is, subst (λ (f : Follower D g). State P last f.image frames) (sym runs) state)
  all_read old now (step ∷ before) runs answered read frames state rest is =
      let next = step.0 in
      let mid = runs.0 in
      let at = all_read old mid before runs.1 answered.1 read.1 frames state (frame next.revision next.kind next.payload ++ rest)
      (is ∙ append_assoc (bytes_of before) (frame next.revision next.kind next.payload) rest) in
      one_read mid now next step.1 rest runs.2.becomes answered.0 read.0.0 (omega (arith, read.0.2)) at.0 at.1 at.2

  -- a source of these frames that was followed to its end leads to the last image
  pub caught_up : {J T : Type 0} (s : Sources J) (source source_then : J) (old new : Follower D g) (tally tally_then : Tally) (done : T)
      → Follows s g source source_then old new tally tally_then (the_end done) → (frames : List Frame) → s.left source ≡ Some (bytes_of_all frames) → State P last old.image frames
      → new.image ≡ last
  caught_up {J} {T} s source source_then old new tally tally_then done follows frames left state =
      let at : (rest : List ℕ) × (bytes_of_all frames ≡ bytes_of follows.steps ++ rest) × AreRead follows.steps × StopsAt (the_end done) rest (s.left source_then) =
      subst (λ (o : Option (List ℕ)). IfSome o (λ bytes. (rest : List ℕ) × (bytes ≡ bytes_of follows.steps ++ rest) × AreRead follows.steps × StopsAt (the_end done) rest (s.left source_then))) left follows.told in
      let all = all_read old new follows.steps follows.runs follows.ends at.2 frames state at.0 at.1 in
      ended P last new.image all.0 at.0 all.1 at.3.0 all.2

-- whatever came of it
pub catches_up : {J D T : Type 0} (s : Sources J) (g : Disks D) (source source_then : J) (old new : Follower D g) (tally tally_then : Tally) (result : Result T Stop)
    → Follows s g source source_then old new tally tally_then result → CatchesUp (s.left source) old.image new.image result
catches_up s g source source_then old new tally tally_then (Ok done) follows last all behind =
    caught_up Any last all.within s source source_then old new tally tally_then done follows (all.first ∷ all.others) all.told
    (inl (record {
      start = all.start;
      changes = all.changes;
      is_first = all.is_first;
      are = all.are_records;
      behind = behind;
      known_first = tt;
      known = nothing_known all.start all.changes all.others;
    }))
catches_up s g source source_then old new tally tally_then (Err stop) follows last all behind = tt
