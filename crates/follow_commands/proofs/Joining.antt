-- The frames of a source are those that it was made of.
use Rattle.std.proofs.Common.{◌≡◌, ◌∙◌, ℕ, ◌+◌, ◌^◌, ◌<◌, ◌≤◌, true, List, [], ◌∷◌, ◌++◌, length, get_or, take, drop, Option, Some, IfSome, Result, refl, sym, ap, subst, arith, append_assoc}
use Rattle.std.specs.Int.{w64, to_le_bytes, from_le_bytes}
use Rattle.std.proofs.lemmas.List.{take_at, drop_at}
use Rattle.std.proofs.lemmas.Nat.{from_le_bytes-to_le_bytes_8}
use Rattle.hl_base.specs.declared.disk.Disk.{Ghosts as Disks}
use Rattle.hl_base.specs.declared.outside.Source.{Ghosts as Sources}
use Rattle.text_store.specs.Frames.{frame}
use Rattle.text_store.specs.Image.{number_8}
use Rattle.text_store.specs.declared.change.Change.{Change}
use Rattle.text_store.specs.declared.image.Image.{Image}
use Rattle.follower.specs.Crashes.{Runs}
use Rattle.follower.specs.Heads.{BeginsWith, is_kind, most}
use Rattle.follower.specs.Histories.{IsAfter, IsGenuine, AreGenuine}
use Rattle.follower.specs.declared.fault.Accepted.{Accepted}
use Rattle.follower.specs.declared.fault.FollowFault.{FollowFault}
use Rattle.follower.specs.declared.follower.Follower.{Follower}
use Rattle.follower.specs.declared.frame.Frame.{Frame}
use Rattle.follower.proofs.Following.{leads_of, never_falls}
use Rattle.follow_commands.specs.Genuine.{bytes_of_all, AreOfOne, LeadsOn}
use Rattle.follow_commands.specs.Walks.{bytes_of, AreRead, Follows, StopsAt}
use Rattle.follow_commands.specs.declared.following.Stop.{Stop}
use Rattle.follow_commands.specs.declared.tally.Tally.{Tally}

-- two frames with the same bytes at the front are the same
module _ (one other : Frame) (rest rest_then : List ℕ) (is : frame one.revision one.kind one.payload ++ rest ≡ frame other.revision other.kind other.payload ++ rest_then) where
  number_back : (n : ℕ) → n < 2 ^ 64 → from_le_bytes w64 (to_le_bytes w64 n) ≡ n
  number_back n small = from_le_bytes-to_le_bytes_8 n small

  module _ (small : one.revision < 2 ^ 64) (small_then : other.revision < 2 ^ 64) (short : length one.payload < 2 ^ 64) (short_then : length other.payload < 2 ^ 64) where
    same_revision : one.revision ≡ other.revision
    same_revision = sym (number_back one.revision small) ∙ ap (λ (l : List ℕ). number_8 l) is ∙ number_back other.revision small_then

    same_kind : one.kind ≡ other.kind
    same_kind = ap (λ (l : List ℕ). get_or l 8 0) is

    same_length : length one.payload ≡ length other.payload
    same_length = sym (number_back (length one.payload) short) ∙ ap (λ (l : List ℕ). number_8 (drop 9 l)) is ∙ number_back (length other.payload) short_then

    same_behind : one.payload ++ rest ≡ other.payload ++ rest_then
    same_behind = ap (λ (l : List ℕ). drop 17 l) is

    same_payload : one.payload ≡ other.payload
    same_payload =
        sym (take_at one.payload rest (length one.payload) refl) ∙ ap (λ (l : List ℕ). take (length one.payload) l) same_behind
        ∙ take_at other.payload rest_then (length one.payload) (sym same_length)

    pub same_rest : rest ≡ rest_then
    same_rest =
        sym (drop_at one.payload rest (length one.payload) refl) ∙ ap (λ (l : List ℕ). drop (length one.payload) l) same_behind
        ∙ drop_at other.payload rest_then (length one.payload) (sym same_length)

    pub same_frame : other ≡ one
    same_frame = sym (λ i. record { revision = same_revision i; kind = same_kind i; payload = same_payload i })

abbrev pub Filled : List ℕ → Type 0
Filled [] = ⊥
Filled (x ∷ l) = Unit {0}

-- nothing begins with a frame
abbrev pub HasNone : List ℕ → Type 0
HasNone tail = (next : Frame) (more : List ℕ) → BeginsWith tail (Some next) more → ⊥

module _ (start : Image) (changes : List Change) (tail : List ℕ) (none : HasNone tail) where
  -- the first of such frames
  pub first_of : (one : Frame) (rest : List ℕ) (frames : List Frame) → one.revision < 2 ^ 64 → is_kind one.kind ≡ true → length one.payload ≤ most
      → frame one.revision one.kind one.payload ++ rest ≡ bytes_of_all frames ++ tail → AreOfOne start changes frames
      → (more : List Frame) × (rest ≡ bytes_of_all more ++ tail) × AreOfOne start changes more × IsGenuine start changes one
  first_of one rest [] small kind short is are = absurd (none one rest (kind, short, sym is))
  first_of one rest (other ∷ frames) small kind short is are =
      let genuine = are.0.0 in
      let small_then : other.revision < 2 ^ 64 = omega (arith, genuine.revision, genuine.within) in
      let fits : length one.payload < 2 ^ 64 = omega (arith, short) in
      let same : frame one.revision one.kind one.payload ++ rest ≡ frame other.revision other.kind other.payload ++ (bytes_of_all frames ++ tail) =
      is ∙ append_assoc (frame other.revision other.kind other.payload) (bytes_of_all frames) tail in (
        frames,
        same_rest one other rest (bytes_of_all frames ++ tail) same small small_then fits are.0.1,
        are.1,
        subst (λ (f : Frame). IsGenuine start changes f) (same_frame one other rest (bytes_of_all frames ++ tail) same small small_then fits are.0.1) genuine,
      )

  -- all that were read
  pub all_of : (frames : List Frame) → AreOfOne start changes frames → (steps : List (Frame × Result Accepted FollowFault)) (rest : List ℕ)
      → bytes_of_all frames ++ tail ≡ bytes_of steps ++ rest → AreRead steps
      → (more : List Frame) × (rest ≡ bytes_of_all more ++ tail) × AreOfOne start changes more × AreGenuine start changes steps
  all_of frames are [] rest is read = (frames, sym is, are, tt)
  all_of frames are (step ∷ earlier) rest is read =
      let next = step.0 in
      let before = all_of frames are earlier (frame next.revision next.kind next.payload ++ rest)
      (is ∙ append_assoc (bytes_of earlier) (frame next.revision next.kind next.payload) rest) read.1 in
      let here = first_of next rest before.0 read.0.0 read.0.1 read.0.2 before.1 before.2 in
      (here.0, here.1, here.2, (here.3, before.3))

module _ (start : Image) (changes : List Change) where
  module _ {D : Type 0} {g : Disks D} where
    -- whatever came of them
    pub run_on : (old now : Follower D g) (steps : List (Frame × Result Accepted FollowFault)) (n : ℕ) → Runs old steps now → AreGenuine start changes steps → IsAfter start n changes old.image
        → (m : ℕ) × (n ≤ m) × (now.image.revision ≡ start.revision + m) × (old.image.revision ≤ now.image.revision) × IsAfter start m changes now.image
    run_on old now [] n runs are here =
        never_falls start changes n old.image now.image [] here tt (ap (λ (f : Follower D g). f.image) runs)
    run_on old now (step ∷ earlier) n runs are here =
        let mid = runs.0 in
        let before = run_on old mid earlier n runs.1 are.1 here in
        let next = never_falls start changes before.0 mid.image now.image ((step.0, step.1) ∷ []) before.4 (are.0, tt) (now.image, leads_of mid now step.0 step.1 runs.2.becomes, refl) in
        (next.0, omega (arith, before.1, next.1), next.2, omega (arith, before.3, next.3), next.4)

pub leads_on : {J D T : Type 0} (s : Sources J) (g : Disks D) (source source_then : J) (old new : Follower D g) (tally tally_then : Tally) (result : Result T Stop)
    → Follows s g source source_then old new tally tally_then result → LeadsOn (s.left source) old.image new.image
leads_on s g source source_then old new tally tally_then result follows = λ start changes n has here.
    let at : (rest : List ℕ) × (bytes_of_all has.frames ++ has.rest ≡ bytes_of follows.steps ++ rest) × AreRead follows.steps × StopsAt result rest (s.left source_then) =
    subst (λ (o : Option (List ℕ)). IfSome o (λ bytes. (rest : List ℕ) × (bytes ≡ bytes_of follows.steps ++ rest) × AreRead follows.steps × StopsAt result rest (s.left source_then))) has.told follows.told in
    let all = all_of start changes has.rest has.ends has.frames has.are follows.steps at.0 at.1 at.2 in
    run_on start changes old new follows.steps n follows.runs all.3 here
