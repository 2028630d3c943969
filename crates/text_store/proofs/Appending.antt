-- A change put behind the records of a store's half in use.
use Rattle.std.proofs.Common.{◌≡◌, ◌⊎◌, inl, inr, ℕ, ◌+◌, ◌-◌, ◌^◌, ◌<◌, ◌≤◌, min, Bool, true, false, ◌||◌, IsTrue, List, [], ◌∷◌, ◌++◌, length, Option, Some, Ok, refl, sym, ◌∙◌, ap, subst, arith, append_assoc}
use Rattle.std.proofs.lemmas.Bool.{cases_lt}
use Rattle.hl_base.specs.declared.disk.Disk.{Ghosts}
use Rattle.hl_base.specs.Causes.{Rose}
use Rattle.hl_base.specs.Disk.{LeavesOnly}
use Rattle.text_store.specs.declared.change.Change.{Change}
use Rattle.text_store.specs.declared.image.Image.{Image}
use Rattle.text_store.specs.declared.store.Store.{Store}
use Rattle.text_store.specs.Changes.{kind_of, payload_of, HasShortName, IsChange}
use Rattle.text_store.specs.Edits.{edited}
use Rattle.text_store.specs.Entries.{Entry, body}
use Rattle.text_store.specs.Halves.{HasEitherImage}
use Rattle.text_store.specs.Rest.{RestsAs}
use Rattle.text_store.specs.Settled.{IsSettled, IsUnsettled}
use Rattle.text_store.specs.Stores.{disks, Tell, Throughout, ShowsEither, image_beside, Leads, Holds, MayShow}
use Rattle.text_store.specs.Stores.{placed}
use Rattle.text_store.proofs.Both.{once, moves_live, tell_live, tell_spare}
use Rattle.text_store.proofs.Growing.{leads_grow}
use Rattle.text_store.proofs.Holding.{holds, torn_in_use, led, of_either, either_at, leads_on}

module _ {D : Type 0} {g : Ghosts D} (old : Store D g) (change : Change) (shown next : Image) (held : Holds old shown) (short : HasShortName change) (is : IsChange change)
    (fits : length (payload_of change) < 2 ^ 64) (is_next : edited shown change ≡ Some next) where
  abbrev entry : List ℕ
  entry = body (kind_of change) (payload_of change) ++ 0 ∷ []

  grown : Leads old.in_second old.generation (held.front ++ 1 ∷ entry) held.beside next
  grown = leads_grow old.in_second old.generation held.front held.beside held.entries change shown next held.settled.is_half short is fits is_next held.leads

  pub putting : (after : D) → ((disk : D) (t : ℕ) (c : List ℕ) → t ≤ g.moment disk → g.may_leave disk c → g.left_since disk t c) → Tell g (disks old)
      → ((front other : List ℕ) (entries : List Entry) (kind : ℕ) (payload : List ℕ) → entry ≡ body kind payload ++ 0 ∷ [] → length payload < 2 ^ 64
      → IsSettled g.seen g.tells_crashes g.may_leave old.live front entries → IsTrue (g.tells_crashes old.live.device)
      → LeavesOnly g.moment g.left_since old.live.device after (HasEitherImage other (front ++ 0 ∷ []) (front ++ 1 ∷ (body kind payload ++ 0 ∷ []))))
      → Throughout g (disks old) (placed old.in_second after old.spare) (ShowsEither shown next)
  putting after counts_now tell run =
      let before = held.front ++ 0 ∷ [] in
      let file = held.front ++ 1 ∷ entry in
      once g counts_now (disks old) (placed old.in_second after old.spare) (ShowsEither shown next)
      (moves_live g old.in_second old.live.device after old.spare (HasEitherImage held.beside before file) (λ c. c ≡ held.beside) (ShowsEither shown next)
      (run held.front held.beside held.entries (kind_of change) (payload_of change) refl fits held.settled (tell_live g old.in_second old.live.device old.spare tell))
      (held.rests.durable (tell_spare g old.in_second old.live.device old.spare tell))
      (λ c aside either at. either_at old.in_second c aside shown next
      (subst (λ (f : List ℕ). (image_beside old.in_second c f ≡ Ok shown) ⊎ (image_beside old.in_second c f ≡ Ok next)) (sym at)
      (of_either old.in_second before file c held.beside shown next either
      (led old.in_second old.generation before held.beside shown held.leads)
      (led old.in_second old.generation file held.beside next grown)))))

  module _ (new : Store D g) (same_place : new.in_second ≡ old.in_second) (same_number : new.generation ≡ old.generation) (same_spare : new.spare ≡ old.spare) where
    rests : RestsAs g.seen g.tells_crashes g.may_leave new.spare held.beside
    rests = subst (λ (d : D). RestsAs g.seen g.tells_crashes g.may_leave d held.beside) (sym same_spare) held.rests

    pub put_on : ((front : List ℕ) (entries : List Entry) (kind : ℕ) (payload : List ℕ) → entry ≡ body kind payload ++ 0 ∷ [] → length payload < 2 ^ 64
        → IsSettled g.seen g.tells_crashes g.may_leave old.live front entries
        → IsSettled g.seen g.tells_crashes g.may_leave new.live (front ++ 1 ∷ body kind payload) (entries ++ record { at = length front; kind = kind; payload = payload } ∷ []))
        → Holds new next
    put_on settles =
        holds new (held.front ++ 1 ∷ body (kind_of change) (payload_of change)) (held.entries ++ record { at = length held.front; kind = kind_of change; payload = payload_of change } ∷ [])
        held.beside next (settles held.front held.entries (kind_of change) (payload_of change) refl fits held.settled) rests
        (leads_on old.in_second new.in_second old.generation new.generation ((held.front ++ 1 ∷ body (kind_of change) (payload_of change)) ++ 0 ∷ []) held.beside next same_place same_number
        (subst (λ (f : List ℕ). Leads old.in_second old.generation f held.beside next) (sym (append_assoc held.front (1 ∷ body (kind_of change) (payload_of change)) (0 ∷ []))) grown))

    pub put_torn : (new.live.is_torn ≡ true) × (new.is_torn ≡ false)
        → ((front : List ℕ) (entries : List Entry) (kind : ℕ) (payload : List ℕ) → entry ≡ body kind payload ++ 0 ∷ [] → length payload < 2 ^ 64
        → IsSettled g.seen g.tells_crashes g.may_leave old.live front entries
        → IsUnsettled g.seen g.tells_crashes g.may_leave new.live front entries (body kind payload ++ 0 ∷ []))
        → MayShow new shown next
    put_torn due unsettled =
        torn_in_use new held.front held.entries entry held.beside shown next due (unsettled held.front held.entries (kind_of change) (payload_of change) refl fits held.settled) rests
        (leads_on old.in_second new.in_second old.generation new.generation (held.front ++ 0 ∷ []) held.beside shown same_place same_number held.leads)
        (leads_on old.in_second new.in_second old.generation new.generation (held.front ++ 1 ∷ entry) held.beside next same_place same_number grown)

-- the capped sum of two counts rises with either
pub rose_left : (a b c : ℕ) → Rose a b → Rose (min (a + c) (2 ^ 64 - 1)) (min (b + c) (2 ^ 64 - 1))
rose_left a b c (inl more) = risen (cases_lt (a + c) (2 ^ 64 - 1))
  where
    risen : (a + c < 2 ^ 64 - 1) ⊎ (2 ^ 64 - 1 ≤ a + c) → (min (a + c) (2 ^ 64 - 1) < min (b + c) (2 ^ 64 - 1)) ⊎ (min (b + c) (2 ^ 64 - 1) ≡ 2 ^ 64 - 1)
    risen (inl less) = inl (omega arith)
    risen (inr full) = inr (omega arith)
rose_left a b c (inr full) = inr (omega arith)

pub rose_right : (a b c : ℕ) → Rose a b → Rose (min (c + a) (2 ^ 64 - 1)) (min (c + b) (2 ^ 64 - 1))
rose_right a b c rose = subst (λ (n : ℕ). Rose (min n (2 ^ 64 - 1)) (min (c + b) (2 ^ 64 - 1))) (omega arith) (subst (λ (n : ℕ). Rose (min (a + c) (2 ^ 64 - 1)) (min n (2 ^ 64 - 1))) (omega arith) (rose_left a b c rose))

pub put_bytes : (front : List ℕ) (kind : ℕ) (payload : List ℕ) (told : Option (List ℕ)) → told ≡ Some ((front ++ 1 ∷ body kind payload) ++ 0 ∷ []) → told ≡ Some (front ++ 1 ∷ (body kind payload ++ 0 ∷ []))
put_bytes front kind payload told is = is ∙ ap (λ (l : List ℕ). Some l) (append_assoc front (1 ∷ body kind payload) (0 ∷ []))

-- neither file is torn
pub none_due : (a b : Bool) → (a || b) ≡ false → a ≡ false
none_due true b none = none
none_due false b none = refl

pub live_calm : (a b : Bool) → (a || b) ≡ false → b ≡ false
live_calm true b none = absurd (impossible none)
  where
    impossible : true ≡ false → ⊥
    impossible e = cc
live_calm false b none = none

pub due_either : (a b : Bool) → a ≡ true → (a || b) ≡ true
due_either a b is = ap (λ (x : Bool). x || b) is
