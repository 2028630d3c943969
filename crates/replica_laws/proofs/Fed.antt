-- Frames of any feeds of a store's life are those of one history.
use Rattle.std.proofs.Common.{◌≡◌, ◌∙◌, ◌⊎◌, inl, inr, ℕ, zero, suc, ◌^◌, ◌<◌, ◌≤◌, List, [], ◌∷◌, ◌++◌, length, Some, Result, refl, sym, ap, subst, arith, append_assoc}
use Rattle.std.proofs.lemmas.List.{append-nil}
use Rattle.text_store.specs.declared.change.Change.{Change}
use Rattle.text_store.specs.declared.image.Image.{Image}
use Rattle.text_store.specs.Edits.{edited}
use Rattle.follower.specs.declared.fault.Accepted.{Accepted}
use Rattle.follower.specs.declared.fault.FollowFault.{FollowFault}
use Rattle.follower.specs.declared.frame.Frame.{Frame}
use Rattle.follower.specs.Histories.{AreGenuine, IsAfter, IsGenuine, IsRecord, IsSnapshot, LeadTo}
use Rattle.follower.specs.Images.{snapshot}
use Rattle.follower.proofs.Following.{begins, never_falls}
use Rattle.follow_commands.specs.Genuine.{AreOfOne, HasFrames, LeadsOn}
use Rattle.follow_commands.proofs.CatchingUp.{first_genuine, records_count, records_genuine}
use Rattle.replica_laws.specs.Lives.{AreFed, AreMade, AreStepsFed, Event, GoesOn, HasFedFrames, IsFed, IsFeed, IsOfPrefix, LeadOver, Lives, Records, accepted, accepted_in, anew, changes_in, left, with_change, written_anew}

-- ---- changes before and behind others

-- so many changes, and those before them
abbrev shifted : List Change → ℕ → ℕ
shifted [] n = n
shifted (change ∷ changes) n = suc (shifted changes n)

shifted_suc : (earlier : List Change) (n : ℕ) → shifted earlier (suc n) ≡ suc (shifted earlier n)
shifted_suc [] n = refl
shifted_suc (change ∷ changes) n = ap suc (shifted_suc changes n)

after_joined : (earlier : List Change) (start mid : Image) (n : ℕ) (changes : List Change) (shown : Image) → LeadOver start earlier mid → IsAfter mid n changes shown
    → IsAfter start (shifted earlier n) (earlier ++ changes) shown
after_joined [] start mid n changes shown led after = subst (λ (i : Image). IsAfter i n changes shown) led after
after_joined (change ∷ earlier) start mid n changes shown led after = (led.0, led.1, after_joined earlier led.0 mid n changes shown led.2 after)

after_more : (n : ℕ) (start : Image) (changes more : List Change) (shown : Image) → IsAfter start n changes shown → IsAfter start n (changes ++ more) shown
after_more zero start changes more shown after = after
after_more (suc n) start [] more shown after = absurd after
after_more (suc n) start (change ∷ changes) more shown after = (after.0, after.1, after_more n after.0 changes more shown after.2)

led_on : (changes more : List Change) (start mid end : Image) → LeadOver start changes mid → LeadOver mid more end → LeadOver start (changes ++ more) end
led_on [] more start mid end led on = subst (λ (i : Image). LeadOver i more end) led on
led_on (change ∷ changes) more start mid end led on = (led.0, led.1, led_on changes more led.0 mid end led.2 on)

-- a frame of a history is one of a history with changes before it
module _ (start mid : Image) (earlier changes : List Change) (led : LeadOver start earlier mid) where
  genuine_behind : (one : Frame) → IsGenuine mid changes one → IsGenuine start (earlier ++ changes) one
  genuine_behind one g = record {
    count = shifted earlier g.count;
    shown = g.shown;
    after = after_joined earlier start mid g.count changes g.shown led g.after;
    revision = g.revision;
    within = g.within;
    is = by_kind g.is;
  }
    where
      by_kind : (IsSnapshot g.shown one ⊎ ((n : ℕ) × (before : Image) × (c : Change) × (g.count ≡ suc n) × IsAfter mid n changes before × (edited before c ≡ Some g.shown) × IsRecord c one))
          → IsSnapshot g.shown one ⊎ ((n : ℕ) × (before : Image) × (c : Change) × (shifted earlier g.count ≡ suc n) × IsAfter start n (earlier ++ changes) before × (edited before c ≡ Some g.shown) × IsRecord c one)
      by_kind (inl is) = inl is
      by_kind (inr is) = inr (
        shifted earlier is.0,
        is.1,
        is.2,
        ap (shifted earlier) is.3 ∙ shifted_suc earlier is.0,
        after_joined earlier start mid is.0 changes is.1 led is.4,
        is.5,
        is.6,
      )

  all_behind : (frames : List Frame) → AreOfOne mid changes frames → AreOfOne start (earlier ++ changes) frames
  all_behind [] are = tt
  all_behind (one ∷ frames) are = ((genuine_behind one are.0.0, are.0.1), all_behind frames are.1)

-- and of one with more changes
module _ (start : Image) (changes more : List Change) where
  genuine_still : (one : Frame) → IsGenuine start changes one → IsGenuine start (changes ++ more) one
  genuine_still one g = record {
    count = g.count;
    shown = g.shown;
    after = after_more g.count start changes more g.shown g.after;
    revision = g.revision;
    within = g.within;
    is = by_kind g.is;
  }
    where
      by_kind : (IsSnapshot g.shown one ⊎ ((n : ℕ) × (before : Image) × (c : Change) × (g.count ≡ suc n) × IsAfter start n changes before × (edited before c ≡ Some g.shown) × IsRecord c one))
          → IsSnapshot g.shown one ⊎ ((n : ℕ) × (before : Image) × (c : Change) × (g.count ≡ suc n) × IsAfter start n (changes ++ more) before × (edited before c ≡ Some g.shown) × IsRecord c one)
      by_kind (inl is) = inl is
      by_kind (inr is) = inr (is.0, is.1, is.2, is.3, after_more is.0 start changes more is.1 is.4, is.5, is.6)

  all_still : (frames : List Frame) → AreOfOne start changes frames → AreOfOne start (changes ++ more) frames
  all_still [] are = tt
  all_still (one ∷ frames) are = ((genuine_still one are.0.0, are.0.1), all_still frames are.1)

-- ---- the records at a moment

-- all changes so far are those before the image of the `C`, and those of the records behind it
record IsPlaced (start : Image) (all : List Change) (records : Records) : Type 0 where
  earlier : List Change
  led : LeadOver start earlier records.start
  whole : all ≡ earlier ++ records.changes
  made : AreMade records

module _ (start : Image) where
  put_behind : (all : List Change) (old : Records) (change : Change) (next : Image) → IsPlaced start all old → edited old.shown change ≡ Some next
      → IsPlaced start (all ++ change ∷ []) (with_change old change next)
  put_behind all old change next at makes = record {
    earlier = at.earlier;
    led = at.led;
    whole = ap (λ (l : List Change). l ++ change ∷ []) at.whole ∙ append_assoc at.earlier old.changes (change ∷ []);
    made = led_on old.changes (change ∷ []) old.start old.shown next at.made (next, makes, refl);
  }

  put_anew : (all : List Change) (old : Records) → IsPlaced start all old → IsPlaced start all (anew old.shown)
  put_anew all old at = record {
    earlier = at.earlier ++ old.changes;
    led = led_on at.earlier old.changes start old.start old.shown at.led at.made;
    whole = at.whole ∙ sym (append-nil (at.earlier ++ old.changes));
    made = refl;
  }

  placed : (events : List Event) (all : List Change) (old new : Records) → IsPlaced start all old → Lives old events new → IsPlaced start (all ++ accepted_in events) new
  placed [] all old new at lives =
      subst (λ (l : List Change). IsPlaced start l new) (sym (append-nil all)) (subst (λ (r : Records). IsPlaced start all r) (sym lives) at)
  placed (accepted change ∷ events) all old new at lives =
      let mid = lives.0 in
      let makes = lives.1 in
      let here : IsPlaced start (all ++ change ∷ []) mid =
      subst (λ (r : Records). IsPlaced start (all ++ change ∷ []) r) (sym makes.2) (put_behind all old change makes.0 at makes.1) in
      subst (λ (l : List Change). IsPlaced start l new) (append_assoc all (change ∷ []) (accepted_in events)) (placed events (all ++ change ∷ []) mid new here lives.2)
  placed (written_anew ∷ events) all old new at lives =
      placed events all lives.0 new (subst (λ (r : Records). IsPlaced start all r) (sym lives.1) (put_anew all old at)) lives.2
  placed (left ∷ events) all old new at lives =
      placed events all lives.0 new (subst (λ (r : Records). IsPlaced start all r) (sym lives.1) at) lives.2

accepted_all : (before after : List Event) → accepted_in (before ++ after) ≡ accepted_in before ++ accepted_in after
accepted_all [] after = refl
accepted_all (accepted change ∷ before) after = ap (λ (l : List Change). change ∷ l) (accepted_all before after)
accepted_all (written_anew ∷ before) after = accepted_all before after
accepted_all (left ∷ before) after = accepted_all before after

-- ---- a feed

module _ (opening : Records) (made : AreMade opening) where
  at_opening : IsPlaced opening.start opening.changes opening
  at_opening = record { earlier = []; led = refl; whole = refl; made = made }

  module _ (events : List Event) (feed : List Frame) (is : IsFeed opening events feed) where
    at_feed : IsPlaced opening.start (opening.changes ++ accepted_in is.before) is.records
    at_feed = placed opening.start is.before opening.changes opening is.records at_opening is.lives

    all_changes : (opening.changes ++ accepted_in is.before) ++ accepted_in is.after ≡ changes_in opening events
    all_changes =
        append_assoc opening.changes (accepted_in is.before) (accepted_in is.after)
        ∙ ap (λ (l : List Change). opening.changes ++ l) (sym (accepted_all is.before is.after) ∙ sym (ap accepted_in is.whole))

    begins_small : is.records.start.revision ≤ 2 ^ 62
    begins_small =
        let count = records_count is.records.changes is.are.others is.records.start is.records.shown is.are.are_records in
        let small = is.small in
        omega (arith, count, small)

    own : AreOfOne is.records.start is.records.changes (is.are.first ∷ is.are.others)
    own = (
      (first_genuine is.records.start is.records.changes is.are.first is.are.is_first begins_small, is.are.is_first.fits),
      records_genuine is.records.changes is.are.others is.records.start is.records.shown is.are.are_records is.small,
    )

    -- a feed is of the history of all accepted edits
    feed_genuine : AreOfOne opening.start (changes_in opening events) feed
    feed_genuine =
        let here = all_behind opening.start is.records.start at_feed.earlier is.records.changes at_feed.led (is.are.first ∷ is.are.others) own in
        let so_far = subst (λ (l : List Change). AreOfOne opening.start l (is.are.first ∷ is.are.others)) (sym at_feed.whole) here in
        let still = all_still opening.start (opening.changes ++ accepted_in is.before) (accepted_in is.after) (is.are.first ∷ is.are.others) so_far in
        subst (λ (fs : List Frame). AreOfOne opening.start (changes_in opening events) fs) (sym is.are.whole)
        (subst (λ (l : List Change). AreOfOne opening.start l (is.are.first ∷ is.are.others)) all_changes still)

  among_genuine : (events : List Event) (earlier later : List Frame) (one : Frame) → AreOfOne opening.start (changes_in opening events) (earlier ++ one ∷ later)
      → IsGenuine opening.start (changes_in opening events) one × (length one.payload < 2 ^ 64)
  among_genuine events [] later one are = are.0
  among_genuine events (other ∷ earlier) later one are = among_genuine events earlier later one are.1

  fed_genuine : (events : List Event) (one : Frame) → IsFed opening events one → IsGenuine opening.start (changes_in opening events) one × (length one.payload < 2 ^ 64)
  fed_genuine events one fed =
      among_genuine events fed.earlier fed.later one
      (subst (λ (fs : List Frame). AreOfOne opening.start (changes_in opening events) fs) fed.among (feed_genuine events fed.feed fed.is_feed))

  -- frames of any feeds are of one history
  pub all_fed_genuine : (events : List Event) (frames : List Frame) → AreFed opening events frames → AreOfOne opening.start (changes_in opening events) frames
  all_fed_genuine events [] fed = tt
  all_fed_genuine events (one ∷ frames) fed = (fed_genuine events one fed.0, all_fed_genuine events frames fed.1)

  -- ---- replicas

  pub begins_so : (events : List Event) (one : Frame) (shown : Image) → IsFed opening events one → one.kind ≡ 67 → snapshot one ≡ Some shown
      → (n : ℕ) × IsOfPrefix opening events n shown
  begins_so events one shown fed kind makes = begins opening.start (changes_in opening events) one shown (fed_genuine events one fed).0 kind makes

  steps_genuine : (events : List Event) (steps : List (Frame × Result Accepted FollowFault)) → AreStepsFed opening events steps
      → AreGenuine opening.start (changes_in opening events) steps
  steps_genuine events [] fed = tt
  steps_genuine events (step ∷ steps) fed = ((fed_genuine events step.0 fed.0).0, steps_genuine events steps fed.1)

  pub goes_on : (events : List Event) (n : ℕ) (shown end : Image) (steps : List (Frame × Result Accepted FollowFault)) → AreStepsFed opening events steps
      → IsOfPrefix opening events n shown → LeadTo shown steps end → GoesOn opening events n shown end
  goes_on events n shown end steps fed here leads =
      never_falls opening.start (changes_in opening events) n shown end steps here (steps_genuine events steps fed) leads

  pub source_leads : (events : List Event) (n : ℕ) (shown end : Image) (bytes : List ℕ) → HasFedFrames opening events bytes → IsOfPrefix opening events n shown
      → LeadsOn (Some bytes) shown end → GoesOn opening events n shown end
  source_leads events n shown end bytes has here leads =
      let all : HasFrames (Some bytes) opening.start (changes_in opening events) = record {
        frames = has.frames;
        rest = has.rest;
        told = ap (λ (l : List ℕ). Some l) has.whole;
        ends = has.ends;
        are = all_fed_genuine events has.frames has.fed;
      } in
      leads opening.start (changes_in opening events) n all here
