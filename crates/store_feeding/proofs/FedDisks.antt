-- What two disks read as once a store that was opened and fed gives them back.
use Rattle.std.proofs.Common.{◌≡◌, ◌⊎◌, inl, inr, ℕ, ◌+◌, max, List, [], ◌∷◌, ◌++◌, length, Some, Result, Ok, Err, OnOk, IfErr, IfOk, IfSome, refl, sym, ◌∙◌, ap, subst, arith}
use Rattle.std.proofs.lemmas.List.{length-append}
use Rattle.hl_base.specs.Causes.{Rose}
use Rattle.hl_base.specs.declared.disk.Disk.{Ghosts as Disks}
use Rattle.text_store.specs.declared.fault.StoreFault.{StoreFault}
use Rattle.text_store.specs.declared.fault.StoreFault.TheVariants as store_fault
use Rattle.text_store.specs.declared.image.Image.{Image}
use Rattle.text_store.specs.declared.store.Store.{Store}
use Rattle.text_store.specs.Faults.{ReadRefused}
use Rattle.text_store.specs.Files.{WhileOpened, opened_limit, opened_size, rest_of}
use Rattle.text_store.specs.Frames.{frames_of}
use Rattle.text_store.specs.Image.{NoImage, image, live}
use Rattle.text_store.specs.Refusals.{ImageStays, OpenRefused, Told}
use Rattle.text_store.specs.Stores.{Holds, Keeps, Shows, Tell, Throughout, disks, fault_count, limit_of, size_of}
use Rattle.text_store.proofs.Both.{less_said, then_on}
use Rattle.text_store.proofs.Resting.{tells_still}
use Rattle.store_text.specs.Reading.{ReadAs}
use Rattle.store_text.specs.Refusals.{IsOfOpening, cause_of, unopened}
use Rattle.store_text.specs.declared.refusal.StoreRefusal.{StoreRefusal}
use Rattle.store_text.specs.declared.refusal.StoreRefusal.TheVariants as refusal
use Rattle.store_text.proofs.OpeningLaws.{held_reads}
use Rattle.store_feeding.specs.Feeding.{Feeds, FeedsDisks, FeedsOpen, RefusedFor, WhileFed, of_fed}

abbrev pub refused : StoreRefusal → Result (List ℕ) StoreRefusal
refused r = Err r

abbrev pub fed_frames : List ℕ → Result (List ℕ) StoreRefusal
fed_frames frames = Ok frames

some_same : (a b : List ℕ) → Some a ≡ Some b → a ≡ b
some_same a b is = cc

-- a refusal that the files don't decide
without_cause : (P : StoreRefusal → Type 0) (r : StoreRefusal) → (r ≡ refusal.DiskFault) ⊎ (r ≡ refusal.Memory) → IfSome (cause_of r) P
without_cause P r (inl e) = subst (λ (x : StoreRefusal). IfSome (cause_of x) P) (sym e) tt
without_cause P r (inr e) = subst (λ (x : StoreRefusal). IfSome (cause_of x) P) (sym e) tt

of_opening : (r : StoreRefusal) → (r ≡ refusal.DiskFault) ⊎ (r ≡ refusal.Memory) → IsOfOpening r
of_opening r (inl e) = subst IsOfOpening (sym e) tt
of_opening r (inr e) = subst IsOfOpening (sym e) tt

if_opening : (result : Result (List ℕ) StoreRefusal) → IfErr result (λ r. (r ≡ refusal.DiskFault) ⊎ (r ≡ refusal.Memory)) → IfErr result IsOfOpening
if_opening (Ok frames) kind = tt
if_opening (Err r) kind = of_opening r kind

on_ok_then : (result : Result (List ℕ) StoreRefusal) (a b c : ℕ) → OnOk result (c ≡ b) → b ≡ a → OnOk result (c ≡ a)
on_ok_then (Ok frames) a b c first second = first ∙ second
on_ok_then (Err r) a b c first second = tt

module _ {D : Type 0} (g : Disks D) where
  -- one way after another
  keeps_then : (old mid new : D × D) (ends : ℕ × ℕ) → Keeps g old mid ends → Keeps g mid new (0, 0) → Keeps g old new ends
  keeps_then old mid new ends first second = record {
    tells_first = second.tells_first ∙ first.tells_first;
    tells_second = second.tells_second ∙ first.tells_second;
    unfailing_first = second.unfailing_first ∙ first.unfailing_first;
    unfailing_second = second.unfailing_second ∙ first.unfailing_second;
    reach_first = omega (arith, first.reach_first, second.reach_first);
    reach_second = omega (arith, first.reach_second, second.reach_second);
    later_first = omega (arith, first.later_first, second.later_first);
    later_second = omega (arith, first.later_second, second.later_second);
  }

  tells_on : (old new : D × D) (ends : ℕ × ℕ) → Keeps g old new ends → Tell g old → Tell g new
  tells_on old new ends keeps tell = (
    tells_still (g.tells_crashes new.0) (g.tells_crashes old.0) keeps.tells_first tell.0,
    tells_still (g.tells_crashes new.1) (g.tells_crashes old.1) keeps.tells_second tell.1,
  )

  module _ (store end : Store D g) (new : D × D) (closed : new ≡ disks end) (held : (shown : Image) → Holds store shown → Holds end shown)
      (any_moment : (shown : Image) → Holds store shown → Tell g (disks store) → Throughout g (disks store) (disks end) (Shows shown))
      (keeps : Keeps g (disks store) (disks end) (0, 0)) where
    fed_on : (fed : Result (List ℕ) StoreFault) → IfOk fed (λ frames. (shown : Image) (holds : Holds store shown) → frames ≡ frames_of (holds.front ++ 0 ∷ []))
        → IfErr fed (λ e. ReadRefused (fault_count g (disks store)) (fault_count g (disks end)) e) → OnOk fed (fault_count g (disks end) ≡ fault_count g (disks store))
        → FeedsOpen store new (of_fed fed)
    fed_on (Ok told) frames cause no_fault = record {
      end = end;
      closed = closed;
      frames = frames;
      held = held;
      any_moment = any_moment;
      kind = tt;
      rose = λ e. absurd cc;
      no_fault = no_fault;
      keeps = keeps;
    }
    fed_on (Err store_fault.DiskFault) frames cause no_fault = record {
      end = end;
      closed = closed;
      frames = tt;
      held = held;
      any_moment = any_moment;
      kind = inl refl;
      rose = λ e. cause;
      no_fault = tt;
      keeps = keeps;
    }
    fed_on (Err store_fault.Memory) frames cause no_fault = record {
      end = end;
      closed = closed;
      frames = tt;
      held = held;
      any_moment = any_moment;
      kind = inr refl;
      rose = λ e. absurd cc;
      no_fault = tt;
      keeps = keeps;
    }
    fed_on (Err (store_fault.NotAStore at)) frames cause no_fault = absurd cause
    fed_on (Err (store_fault.Newer version)) frames cause no_fault = absurd cause
    fed_on (Err (store_fault.Full size limit)) frames cause no_fault = absurd cause
    fed_on (Err (store_fault.Exists len)) frames cause no_fault = absurd cause

    pub feeds_open : (fed : Result (List ℕ) StoreFault) (result : Result (List ℕ) StoreRefusal) → result ≡ of_fed fed
        → IfOk fed (λ frames. (shown : Image) (holds : Holds store shown) → frames ≡ frames_of (holds.front ++ 0 ∷ []))
        → IfErr fed (λ e. ReadRefused (fault_count g (disks store)) (fault_count g (disks end)) e) → OnOk fed (fault_count g (disks end) ≡ fault_count g (disks store))
        → FeedsOpen store new result
    feeds_open fed result is frames cause no_fault = subst (λ (r : Result (List ℕ) StoreRefusal). FeedsOpen store new r) (sym is) (fed_on fed frames cause no_fault)

  module _ (old : D × D) where
    abbrev pub Moments : D × D → Type 0
    Moments new = Told g old (λ f s. Tell g old → Throughout g old new (WhileOpened g old f s))

    abbrev pub Bounds : D × D → Type 0
    Bounds new = Told g old (λ f s. Keeps g old new (max (opened_limit f s) (length f), max (opened_limit f s) (length s)))

    while_fed : (f s a b : List ℕ) → WhileOpened g old f s a b → WhileFed g old f s a b
    while_fed f s a b (inl same) = inl same
    while_fed f s a b (inr same) = inr same.1

    moments_fed : (new : D × D) → Moments new → Told g old (λ f s. Tell g old → Throughout g old new (WhileFed g old f s))
    moments_fed new moments f s is_first is_second tell =
        less_said g old new (WhileOpened g old f s) (WhileFed g old f s) (while_fed f s) (moments f s is_first is_second tell)

    -- a store that was opened, and then fed
    module _ (store : Store D g) (shown : Image)
        (opened : Told g old (λ f s. (image f s ≡ Ok shown) × Holds store shown × (limit_of store ≡ opened_limit f s)))
        (size : Told g old (λ f s. size_of store ≡ opened_size f s)) (used : Told g old (λ f s. g.seen store.live.device ≡ Some (rest_of f s)))
        (moments : Moments (disks store)) (bounds : Bounds (disks store))
        (same : fault_count g (disks store) ≡ fault_count g old) where
      feeds_so : (back : D × D) (result : Result (List ℕ) StoreRefusal) → FeedsOpen store back result → Told g old (λ f s. Feeds result f s)
      feeds_so back (Ok frames) fed f s is_first is_second =
          let o = opened f s is_first is_second in
          let held = o.1 in
          let file : held.front ++ 0 ∷ [] ≡ rest_of f s =
          some_same (held.front ++ 0 ∷ []) (rest_of f s) (sym held.settled.rests.told ∙ used f s is_first is_second) in
          record {
            half = held.leads.half;
            shown = shown;
            is_live = ap live (sym file) ∙ held.leads.is_live;
            gives = held.leads.gives;
            same = o.0;
            size = ap length (sym file) ∙ length-append held.front (0 ∷ []) ∙ ap (λ (n : ℕ). n + 1) held.settled.place ∙ size f s is_first is_second;
            frames_are = fed.frames shown held ∙ ap frames_of file;
          }
      feeds_so back (Err r) fed f s is_first is_second = without_cause (RefusedFor (image f s)) r fed.kind

      pub opened_fed : (back : D × D) (result : Result (List ℕ) StoreRefusal) → FeedsOpen store back result → FeedsDisks g old back result
      opened_fed back result fed = subst (λ (b : D × D). FeedsDisks g old b result) (sym fed.closed) (record {
        frames = feeds_so back result fed;
        stays = λ f s is_first is_second.
            let o = opened f s is_first is_second in
            let r = held_reads g fed.end shown (fed.held shown o.1) in
            (r.0, r.1, r.2, r.3, r.4 ∙ sym o.0);
        any_moment = λ f s is_first is_second tell.
            let o = opened f s is_first is_second in
            then_on g old (disks store) (disks fed.end) (WhileFed g old f s) (moments_fed (disks store) moments f s is_first is_second tell)
            (less_said g (disks store) (disks fed.end) (Shows shown) (WhileFed g old f s) (λ a b shows. inr (shows ∙ sym o.0))
            (fed.any_moment shown o.1 (tells_on old (disks store) _ (bounds f s is_first is_second) tell)));
        kind = if_opening result fed.kind;
        rose = λ e. subst (λ (n : ℕ). Rose n (fault_count g (disks fed.end))) same (fed.rose e);
        no_fault = on_ok_then result (fault_count g old) (fault_count g (disks store)) (fault_count g (disks fed.end)) fed.no_fault same;
        keeps = λ f s is_first is_second. keeps_then old (disks store) (disks fed.end) _ (bounds f s is_first is_second) fed.keeps;
      })

    -- where the disks read as they did, they have the same image
    stays_same : (new : D × D) → g.seen new.0 ≡ g.seen old.0 → g.seen new.1 ≡ g.seen old.1 → Told g old (λ first second. ReadAs g new (λ f s. image f s ≡ image first second))
    stays_same new first second f s is_first is_second = (f, s, first ∙ is_first, second ∙ is_second, refl)

    -- one that wasn't opened
    pub refused_fed : (new : D × D) (fault : StoreFault) → OpenRefused g old new fault → (fault ≡ store_fault.DiskFault → ImageStays g old new) → Moments new → Bounds new
        → FeedsDisks g old new (refused (unopened fault))
    refused_fed new store_fault.DiskFault rose stays moments bounds = record {
      frames = λ f s is_first is_second. tt;
      stays = stays refl;
      any_moment = moments_fed new moments;
      kind = tt;
      rose = λ e. rose;
      no_fault = tt;
      keeps = bounds;
    }
    refused_fed new (store_fault.NotAStore at) cause stays moments bounds = record {
      frames = λ f s is_first is_second. subst (λ (x : Result Image NoImage). RefusedFor x (refusal.NotAStore at)) (sym (cause.0 f s is_first is_second)) refl;
      stays = stays_same new cause.1.0 cause.1.1;
      any_moment = moments_fed new moments;
      kind = tt;
      rose = λ e. absurd cc;
      no_fault = tt;
      keeps = bounds;
    }
    refused_fed new (store_fault.Newer version) cause stays moments bounds = record {
      frames = λ f s is_first is_second. subst (λ (x : Result Image NoImage). RefusedFor x (refusal.Newer version)) (sym (cause.0 f s is_first is_second)) refl;
      stays = stays_same new cause.1.0 cause.1.1;
      any_moment = moments_fed new moments;
      kind = tt;
      rose = λ e. absurd cc;
      no_fault = tt;
      keeps = bounds;
    }
    refused_fed new store_fault.Memory cause stays moments bounds = record {
      frames = λ f s is_first is_second. tt;
      stays = stays_same new cause.0 cause.1;
      any_moment = moments_fed new moments;
      kind = tt;
      rose = λ e. absurd cc;
      no_fault = tt;
      keeps = bounds;
    }
    refused_fed new (store_fault.Full size limit) cause stays moments bounds = absurd cause
    refused_fed new (store_fault.Exists len) cause stays moments bounds = absurd cause
