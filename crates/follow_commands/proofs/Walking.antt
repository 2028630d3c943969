-- How a follower is led by a source.
use Rattle.std.proofs.Common.{◌≡◌, ◌≢◌, ◌∙◌, inl, inr, ℕ, List, [], ◌∷◌, ◌++◌, Option, Some, None, IfSome, IfErr, Result, Ok, Err, refl, sym, ap, subst, append_assoc}
use Rattle.hl_base.specs.Causes.{Rose}
use Rattle.hl_base.specs.declared.disk.Disk.{Ghosts as Disks}
use Rattle.hl_base.specs.declared.outside.Source.{Ghosts as Sources}
use Rattle.text_store.specs.Frames.{frame}
use Rattle.follower.specs.Accepting.{Accepts}
use Rattle.follower.specs.Crashes.{Runs}
use Rattle.follower.specs.Fills.{NextRefused}
use Rattle.follower.specs.Heads.{BeginsWith, FrameRefused}
use Rattle.follower.specs.declared.fault.Accepted.{Accepted}
use Rattle.follower.specs.declared.fault.FollowFault.{FollowFault}
use Rattle.follower.specs.declared.fault.FollowFault.TheVariants as follow_fault
use Rattle.follower.specs.declared.fault.FrameFault.{FrameFault}
use Rattle.follower.specs.declared.fault.FrameFault.TheVariants as frame_fault
use Rattle.follower.specs.declared.follower.Follower.{Follower}
use Rattle.follower.specs.declared.frame.Frame.{Frame}
use Rattle.follow_commands.specs.Tallies.{tallied}
use Rattle.follow_commands.specs.Walks.{bytes_of, Reads, AreRead, IfFailed, OneIsAccepted, StepsOn, IsLedOn, Follows}
use Rattle.follow_commands.specs.declared.following.Stop.{Stop}
use Rattle.follow_commands.specs.declared.following.Stop.TheVariants.{Unread, Refused}
use Rattle.follow_commands.specs.declared.tally.Tally.{Tally}

-- ---- bytes

none_read : (left : Option (List ℕ)) → IfSome left (λ bytes. (rest : List ℕ) × (left ≡ Some rest) × (bytes ≡ [] ++ rest) × AreRead [])
none_read None = tt
none_read (Some all) = (all, refl, refl, tt)

-- a frame behind those that were read
read_on : (first now later : Option (List ℕ)) (steps : List (Frame × Result Accepted FollowFault)) (next : Frame) (answer : Result Accepted FollowFault)
    → IfSome first (λ bytes. (rest : List ℕ) × (now ≡ Some rest) × (bytes ≡ bytes_of steps ++ rest) × AreRead steps) → Reads now next later
    → IfSome first (λ bytes. (rest : List ℕ) × (later ≡ Some rest) × (bytes ≡ bytes_of ((next, answer) ∷ steps) ++ rest) × AreRead ((next, answer) ∷ steps))
read_on None now later steps next answer told reads = tt
read_on (Some all) now later steps next answer told reads =
    let on = (subst (λ (o : Option (List ℕ)). Reads o next later) told.1 reads).1 in
    let begins = on.2 in (
      on.0,
      on.1,
      told.2 ∙ ap (λ (l : List ℕ). bytes_of steps ++ l) begins.2 ∙ sym (append_assoc (bytes_of steps) (frame next.revision next.kind next.payload) on.0),
      ((reads.0, begins.0, begins.1), told.3),
    )

all_read : (first now later : Option (List ℕ)) (steps : List (Frame × Result Accepted FollowFault))
    → IfSome first (λ bytes. (rest : List ℕ) × (now ≡ Some rest) × (bytes ≡ bytes_of steps ++ rest) × AreRead steps) → IfSome now (λ bytes. (bytes ≡ []) × (later ≡ Some []))
    → IfSome first (λ bytes. (rest : List ℕ) × (bytes ≡ bytes_of steps ++ rest) × AreRead steps × ((rest ≡ []) × (later ≡ Some [])))
all_read None now later steps told ends = tt
all_read (Some all) now later steps told ends =
    (told.0, told.2, told.3, subst (λ (o : Option (List ℕ)). IfSome o (λ bytes. (bytes ≡ []) × (later ≡ Some []))) told.1 ends)

-- what isn't a frame
unread : (first now : Option (List ℕ)) (before after : ℕ) (steps : List (Frame × Result Accepted FollowFault)) (fault : FrameFault)
    → IfSome first (λ bytes. (rest : List ℕ) × (now ≡ Some rest) × (bytes ≡ bytes_of steps ++ rest) × AreRead steps) → NextRefused now before after fault
    → IfSome first (λ bytes. (rest : List ℕ) × (bytes ≡ bytes_of steps ++ rest) × AreRead steps × FrameRefused rest fault)
unread None now before after steps fault told refused = tt
unread (Some all) now before after steps fault told refused =
    (told.0, told.2, told.3, by_fault fault (subst (λ (o : Option (List ℕ)). NextRefused o before after fault) told.1 refused))
  where
    by_fault : (fault : FrameFault) → NextRefused (Some told.0) before after fault → FrameRefused told.0 fault
    by_fault frame_fault.ReadFault refused = tt
    by_fault frame_fault.Memory refused = tt
    by_fault (frame_fault.Cut had) refused = refused
    by_fault (frame_fault.BadFrame kind) refused = refused
    by_fault (frame_fault.TooLong said limit) refused = refused

untold : (first now : Option (List ℕ)) (steps : List (Frame × Result Accepted FollowFault))
    → IfSome first (λ bytes. (rest : List ℕ) × (now ≡ Some rest) × (bytes ≡ bytes_of steps ++ rest) × AreRead steps) → IfSome first (λ bytes. (rest : List ℕ) × (bytes ≡ bytes_of steps ++ rest) × AreRead steps × (now ≡ Some rest))
untold None now steps told = tt
untold (Some all) now steps told = (told.0, told.2, told.3, told.1)

rose_of : (left : Option (List ℕ)) (first before after : ℕ) (fault : FrameFault) → before ≡ first → NextRefused left before after fault → IfFailed (Unread fault) (Rose first after)
rose_of left first before after frame_fault.ReadFault same refused = subst (λ (n : ℕ). Rose n after) same refused
rose_of left first before after frame_fault.Memory same refused = tt
rose_of left first before after (frame_fault.Cut had) same refused = tt
rose_of left first before after (frame_fault.BadFrame kind) same refused = tt
rose_of left first before after (frame_fault.TooLong said limit) same refused = tt

pub not_failed : (result : Result (Option Frame) FrameFault) (fault : FrameFault) → result ≡ Err fault → result ≢ Err frame_fault.ReadFault → IfFailed (Unread fault) ⊥
not_failed result frame_fault.ReadFault is other = other is
not_failed result frame_fault.Memory is other = tt
not_failed result (frame_fault.Cut had) is other = tt
not_failed result (frame_fault.BadFrame kind) is other = tt
not_failed result (frame_fault.TooLong said limit) is other = tt

module _ {J D : Type 0} (s : Sources J) (g : Disks D) (source : J) (old : Follower D g) (tally : Tally) where
  pub led_nowhere : IsLedOn s g source source old old tally tally
  led_nowhere = record { steps = []; runs = refl; counts = refl; answered = tt; told = none_read (s.left source); steady = refl; sound = λ sound. sound }

  module _ (now later : J) (new next : Follower D g) (tally_now : Tally) (led : IsLedOn s g source now old new tally tally_now) where
    -- one frame more
    pub led_on : (accepted : Accepted) (fed : Frame) → Reads (s.left now) fed (s.left later) → Accepts new fed (Ok accepted) next → s.faults later ≡ s.faults now → (s.IsSound now → s.IsSound later)
        → (tally_then : Tally) → tally_then ≡ tallied tally_now (Ok accepted) → IsLedOn s g source later old next tally tally_then
    led_on accepted fed reads accepts steady sound tally_then counts = record {
      steps = (fed, Ok accepted) ∷ led.steps;
      runs = (new, led.runs, accepts);
      counts = counts ∙ ap (λ (t : Tally). tallied t (Ok accepted)) led.counts;
      answered = (tt, led.answered);
      told = read_on (s.left source) (s.left now) (s.left later) led.steps fed (Ok accepted) led.told reads;
      steady = steady ∙ led.steady;
      sound = λ first. sound (led.sound first);
    }

    -- the source ends
    pub led_to_end : {T : Type 0} (done : T) → next ≡ new → IfSome (s.left now) (λ bytes. (bytes ≡ []) × (s.left later ≡ Some [])) → Follows s g source later old next tally tally_now (Ok done)
    led_to_end done same ends = record {
      steps = led.steps;
      runs = subst (λ (f : Follower D g). Runs old led.steps f) (sym same) led.runs;
      counts = led.counts;
      ends = led.answered;
      told = all_read (s.left source) (s.left now) (s.left later) led.steps led.told ends;
      rose = tt;
      sound = λ _. tt;
    }

    -- no frame comes
    pub led_to_none : {T : Type 0} (fault : FrameFault) → next ≡ new → NextRefused (s.left now) (s.faults now) (s.faults later) fault
        → (s.IsSound now → IfFailed (Unread fault) ⊥) → Follows {T = T} s g source later old next tally tally_now (Err (Unread fault))
    led_to_none {T} fault same refused sound = record {
      steps = led.steps;
      runs = subst (λ (f : Follower D g). Runs old led.steps f) (sym same) led.runs;
      counts = led.counts;
      ends = led.answered;
      told = unread (s.left source) (s.left now) (s.faults now) (s.faults later) led.steps fault led.told refused;
      rose = rose_of (s.left now) (s.faults source) (s.faults now) (s.faults later) fault led.steady refused;
      sound = λ first. sound (led.sound first);
    }

    -- a frame is refused
    pub led_to_refusal : {T : Type 0} (fault : FollowFault) (fed : Frame) → Reads (s.left now) fed (s.left later) → Accepts new fed (Err fault) next
        → Follows {T = T} s g source later old next tally tally_now (Err (Refused fault))
    led_to_refusal {T} fault fed reads accepts = record {
      steps = (fed, Err fault) ∷ led.steps;
      runs = (new, led.runs, accepts);
      counts = led.counts;
      ends = inl (refl, led.answered);
      told = untold (s.left source) (s.left later) ((fed, Err fault) ∷ led.steps) (read_on (s.left source) (s.left now) (s.left later) led.steps fed (Err fault) led.told reads);
      rose = tt;
      sound = λ _. tt;
    }

  -- no more frames are counted
  pub led_too_far : {T : Type 0} (now : J) (new : Follower D g) (tally_now : Tally) → IsLedOn s g source now old new tally tally_now
      → Follows {T = T} s g source now old new tally tally_now (Err (Refused follow_fault.Memory))
  led_too_far {T} now new tally_now led = record {
    steps = led.steps;
    runs = led.runs;
    counts = led.counts;
    ends = inr (refl, led.answered);
    told = untold (s.left source) (s.left now) led.steps led.told;
    rose = tt;
    sound = λ _. tt;
  }

-- ---- one frame

pub none_left : (left later : Option (List ℕ)) → IfSome left (λ bytes. (rest : List ℕ) × (later ≡ Some rest) × BeginsWith bytes None rest) → IfSome left (λ bytes. (bytes ≡ []) × (later ≡ Some []))
none_left None later found = tt
none_left (Some all) later found = (found.2.0, found.1 ∙ ap (λ (l : List ℕ). Some l) found.2.1)

module _ {J D : Type 0} (s : Sources J) (g : Disks D) (source later : J) (old new : Follower D g) (fed : Frame) where
  pub one_more : Reads (s.left source) fed (s.left later) → s.faults later ≡ s.faults source → (result : Result (Option Accepted) Stop) → OneIsAccepted g old fed new result → StepsOn s g source later old new result
  one_more reads steady (Ok None) accepts = absurd accepts
  one_more reads steady (Ok (Some accepted)) accepts = (fed, reads, accepts, steady)
  one_more reads steady (Err (Unread fault)) accepts = absurd accepts
  one_more reads steady (Err (Refused fault)) accepts = (fed, reads, accepts, steady)

  pub not_unread : (result : Result (Option Accepted) Stop) → OneIsAccepted g old fed new result → IfErr result (λ stop. IfFailed stop ⊥)
  not_unread (Ok None) accepts = tt
  not_unread (Ok (Some accepted)) accepts = tt
  not_unread (Err (Unread fault)) accepts = absurd accepts
  not_unread (Err (Refused fault)) accepts = tt

-- ---- why it ends

module _ {J D : Type 0} (s : Sources J) (g : Disks D) (source : J) (old : Follower D g) (tally : Tally) (now later : J) (new next : Follower D g) (tally_now : Tally) (led : IsLedOn s g source now old new tally tally_now) where
  pub stopped : {T : Type 0} (stop : Stop) → StepsOn s g now later new next (Err stop) → (s.IsSound now → IfFailed stop ⊥ × s.IsSound later) → Follows {T = T} s g source later old next tally tally_now (Err stop)
  stopped {T} (Unread fault) steps sound = led_to_none s g source old tally now later new next tally_now led {T = T} fault steps.0 steps.1 (λ first. (sound first).0)
  stopped {T} (Refused fault) steps sound = led_to_refusal s g source old tally now later new next tally_now led {T = T} fault steps.0 steps.1 steps.2
