-- How a store goes on while a frame is stored.
use Rattle.std.proofs.Common.{◌≡◌, inl, inr, ℕ, ◌≤◌, max, Bool, false, List, Option, Some, None, IsTrue, Result, Ok, Err, refl, ap, sym, subst, ◌∙◌, arith}
use Rattle.hl_base.specs.declared.disk.Disk.{Ghosts}
use Rattle.text_store.specs.declared.fault.StoreFault.{StoreFault}
use Rattle.text_store.specs.declared.fault.StoreFault.TheVariants as store_fault
use Rattle.text_store.specs.declared.image.Image.{Image}
use Rattle.text_store.specs.declared.store.Store.{Store}
use Rattle.text_store.specs.Refusals.{PutRefused}
use Rattle.text_store.specs.Stores.{Holds, Keeps, Leaves, MayShow, NoWider, Shows, ShowsEither, Tell, Throughout, bounds, disks, fault_count, limit_of, repair_due}
use Rattle.text_store.proofs.Both.{less_said, stays}
use Rattle.follower.specs.declared.keep.Unkept.{Unkept}
use Rattle.follower.specs.declared.keep.Unkept.TheVariants as unkept
use Rattle.follower.specs.Keeping.{GoesOn, IsCause, LeftBy, LeftPending, unkept_of}
use Rattle.follower.specs.Stands.{ShowsOne, Stands}

-- a crash now leaves what the disks stand for
pub leaves_of : {D : Type 0} {g : Ghosts D} (store : Store D g) (shown : Image) (pending next : Option Image) → Stands store shown pending → Tell g (disks store) → Leaves g (disks store) (ShowsOne shown pending next)
leaves_of store shown None next (inl rest) tell = λ f s a b. inl (rest.1.shows tell f s a b)
leaves_of store shown None next (inr torn) tell = λ f s a b. elim (torn.shows tell f s a b) [ inl x ↦ inl x | inr y ↦ inl y ]
leaves_of store shown (Some other) next torn tell = λ f s a b. elim (torn.shows tell f s a b) [ inl x ↦ inl x | inr y ↦ inr (inl y) ]

-- two disks that stay keep all that they tell
pub kept : {D : Type 0} (g : Ghosts D) (pair : D × D) (ends : ℕ × ℕ) → Keeps g pair pair ends
kept g pair ends = record {
  tells_first = refl;
  tells_second = refl;
  unfailing_first = refl;
  unfailing_second = refl;
  reach_first = omega arith;
  reach_second = omega arith;
  later_first = omega arith;
  later_second = omega arith;
}

-- files that show one of two images show one of those that may be shown
pub shows_shown : (shown : Image) (pending next : Option Image) (f s : List ℕ) → Shows shown f s → ShowsOne shown pending next f s
shows_shown shown pending next f s h = inl h

pub shows_same : (shown : Image) (pending next : Option Image) (f s : List ℕ) → ShowsEither shown shown f s → ShowsOne shown pending next f s
shows_same shown pending next f s (inl h) = inl h
shows_same shown pending next f s (inr h) = inl h

pub shows_pending : (shown other : Image) (next : Option Image) (f s : List ℕ) → ShowsEither shown other f s → ShowsOne shown (Some other) next f s
shows_pending shown other next f s (inl h) = inl h
shows_pending shown other next f s (inr h) = inr (inl h)

pub shows_next : (shown : Image) (pending : Option Image) (other : Image) (f s : List ℕ) → ShowsEither shown other f s → ShowsOne shown pending (Some other) f s
shows_next shown pending other f s (inl h) = inl h
shows_next shown pending other f s (inr h) = inr (inr h)

module _ {D : Type 0} {g : Ghosts D} (old new : Store D g) where
  -- a repair leaves the image of the state alone
  pub mended : (shown : Image) (pending : Option Image) → Stands old shown pending → (repair_due old ≡ false → new ≡ old)
      → ((s o : Image) → MayShow old s o → Holds new s) → repair_due new ≡ false → (repair_due new ≡ false) × Holds new shown
  mended shown None (inl rest) idle mends ready = (ready, subst (λ (s : Store D g). Holds s shown) (sym (idle rest.0)) rest.1)
  mended shown None (inr torn) idle mends ready = (ready, mends shown shown torn)
  mended shown (Some other) torn idle mends ready = (ready, mends shown other torn)

  -- one that failed leaves what was
  pub unmended : (shown : Image) (pending : Option Image) → Stands old shown pending → (repair_due old ≡ false → ⊥)
      → ((s o : Image) → MayShow old s o → MayShow new s o) → Stands new shown pending
  unmended shown None (inl rest) idle fails = absurd (idle rest.0)
  unmended shown None (inr torn) idle fails = inr (fails shown shown torn)
  unmended shown (Some other) torn idle fails = fails shown other torn

  pub mending : (shown : Image) (pending next : Option Image) → Stands old shown pending → Tell g (disks old) → (repair_due old ≡ false → new ≡ old)
      → ((s o : Image) → MayShow old s o → Tell g (disks old) → Throughout g (disks old) (disks new) (ShowsEither s o))
      → Throughout g (disks old) (disks new) (ShowsOne shown pending next)
  mending shown None next (inl rest) tell idle run =
      subst (λ (s : Store D g). Throughout g (disks old) (disks s) (ShowsOne shown None next)) (sym (idle rest.0)) (stays g (disks old) _ (leaves_of old shown None next (inl rest) tell))
  mending shown None next (inr torn) tell idle run =
      less_said g (disks old) (disks new) _ _ (shows_same shown None next) (run shown shown torn tell)
  mending shown (Some other) next torn tell idle run =
      less_said g (disks old) (disks new) _ _ (shows_pending shown other next) (run shown other torn tell)

  pub goes_on : limit_of new ≡ limit_of old → NoWider old new → Keeps g (disks old) (disks new) (bounds old) → GoesOn old new
  goes_on limit no_wider keeps = record { limit = limit; no_wider = no_wider; keeps = keeps }

  -- a refusal with room has its cause
  pub caused : (needed : ℕ) (e : StoreFault) → PutRefused old new needed e → needed ≤ limit_of old → IsCause (unkept_of e) (fault_count g (disks old)) (fault_count g (disks new))
  caused needed store_fault.DiskFault h room = h.1
  caused needed (store_fault.Full size limit) h room = absurd (let over = h.0 in omega arith)
  caused needed store_fault.Memory h room = ap (λ (s : Store D g). fault_count g (disks s)) h
  caused needed (store_fault.NotAStore at) h room = absurd h
  caused needed (store_fault.Newer version) h room = absurd h
  caused needed (store_fault.Exists len) h room = absurd h

  pub left : (needed : ℕ) (e : StoreFault) (shown next : Image) → PutRefused old new needed e → needed ≤ limit_of old → repair_due old ≡ false → Holds old shown
      → (e ≡ store_fault.DiskFault → MayShow new shown next) → LeftBy (unkept_of e) new shown next
  left needed store_fault.DiskFault shown next h room ready held torn = torn refl
  left needed (store_fault.Full size limit) shown next h room ready held torn = absurd (let over = h.0 in omega arith)
  left needed store_fault.Memory shown next h room ready held torn =
      (ap (λ (s : Store D g). repair_due s) h ∙ ready, subst (λ (s : Store D g). Holds s shown) (sym h) held)
  left needed (store_fault.NotAStore at) shown next h room ready held torn = absurd h
  left needed (store_fault.Newer version) shown next h room ready held torn = absurd h
  left needed (store_fault.Exists len) shown next h room ready held torn = absurd h

-- a store that stays goes on
pub goes_nowhere : {D : Type 0} {g : Ghosts D} (store : Store D g) → GoesOn store store
goes_nowhere {D} {g} store =
    record { limit = refl; no_wider = (omega arith, omega arith); keeps = kept g (disks store) (bounds store) }

-- one that goes on twice goes on
pub goes_on_then : {D : Type 0} {g : Ghosts D} (old mid new : Store D g) → GoesOn old mid → GoesOn mid new → GoesOn old new
goes_on_then {D} {g} old mid new a b =
    let a0 = a.no_wider.0 in
    let a1 = a.no_wider.1 in
    let b0 = b.no_wider.0 in
    let b1 = b.no_wider.1 in
    let x = a.keeps in
    let y = b.keeps in
    record {
      limit = b.limit ∙ a.limit;
      no_wider = (omega arith, omega arith);
      keeps = record {
        tells_first = y.tells_first ∙ x.tells_first;
        tells_second = y.tells_second ∙ x.tells_second;
        unfailing_first = y.unfailing_first ∙ x.unfailing_first;
        unfailing_second = y.unfailing_second ∙ x.unfailing_second;
        reach_first = reaches _ _ _ _ _ x.reach_first y.reach_first a0;
        reach_second = reaches _ _ _ _ _ x.reach_second y.reach_second a1;
        later_first = (let p = x.later_first in let q = y.later_first in omega arith);
        later_second = (let p = x.later_second in let q = y.later_second in omega arith);
      };
    }
  where
    reaches : (r m n e d : ℕ) → m ≤ max r e → n ≤ max m d → d ≤ e → n ≤ max r e
    reaches r m n e d p q w = omega arith

-- after a move the disks still tell
pub tells_on : {D : Type 0} {g : Ghosts D} (old new : Store D g) → GoesOn old new → Tell g (disks old) → Tell g (disks new)
tells_on {D} {g} old new on tell =
    let F : Bool → Type 0 = λ b. IsTrue b in
    (subst F (sym on.keeps.tells_first) tell.0, subst F (sym on.keeps.tells_second) tell.1)

-- no result is both
pub apart : {T E : Type 0} (r : Result T E) (t : T) (e : E) → r ≡ Ok t → r ≡ Err e → ⊥
apart (Ok x) t e a b = cc
apart (Err x) t e a b = cc

-- files that show one of two images that are the same show it
pub same_image : (shown other : Image) → other ≡ shown → (f s : List ℕ) → ShowsEither shown other f s → Shows shown f s
same_image shown other e f s (inl h) = h
same_image shown other e f s (inr h) = h ∙ ap Ok e

-- what the disks may show beside the image, after a change that wasn't kept
pub left_after : {D : Type 0} {g : Ghosts D} (e : Unkept) (new : Store D g) (shown next : Image) (pending : Option Image) → LeftBy e new shown next → (after : Option Image) × LeftPending e pending next after × Stands new shown after
left_after unkept.DiskFault new shown next pending torn = (Some next, inr (inr refl), torn)
left_after unkept.Memory new shown next pending rest = (None, inl refl, inl rest)

-- after a room that wasn't made, and after a repair that failed
pub left_same : {D : Type 0} {g : Ghosts D} (e : Unkept) (new : Store D g) (shown next : Image) (pending : Option Image) → LeftBy e new shown shown → (after : Option Image) × LeftPending e pending next after × Stands new shown after
left_same unkept.DiskFault new shown next pending torn = (None, inl refl, inr torn)
left_same unkept.Memory new shown next pending rest = (None, inl refl, inl rest)

pub left_torn : {D : Type 0} {g : Ghosts D} (e : Unkept) (new : Store D g) (shown next : Image) (pending : Option Image) → e ≡ unkept.DiskFault → Stands new shown pending → (after : Option Image) × LeftPending e pending next after × Stands new shown after
left_torn e new shown next pending is stands = (pending, by_cause e is, stands)
  where
    by_cause : (e : Unkept) → e ≡ unkept.DiskFault → LeftPending e pending next pending
    by_cause unkept.DiskFault same = inr (inl refl)
    by_cause unkept.Memory same = inr refl
