-- The other file written anew as a half of an image.
use Rattle.std.proofs.Common.{◌≡◌, ◌⊎◌, inl, inr, ℕ, zero, suc, ◌+◌, ◌-◌, ◌^◌, ◌<◌, ◌≤◌, max, if◌then◌else◌, Bool, true, false, not, IsTrue, List, [], ◌∷◌, ◌++◌, length, take, Option, Some, None, Ok, refl, sym, ◌∙◌, ap, subst, arith, append_assoc, length-append, length-take}
use Rattle.std.proofs.lemmas.Bool.{cases_lt}
use Rattle.hl_base.specs.declared.disk.Disk.{Ghosts}
use Rattle.hl_base.specs.Causes.{Rose}
use Rattle.hl_base.specs.Disk.{LeavesOnly}
use Rattle.text_store.specs.declared.half.Half.{Half}
use Rattle.text_store.specs.declared.image.Image.{Image}
use Rattle.text_store.specs.declared.store.Store.{Store}
use Rattle.text_store.specs.Changes.{AreStates}
use Rattle.text_store.specs.Entries.{body}
use Rattle.text_store.specs.Files.{header, whole_payload, next_generation, IsWritable}
use Rattle.text_store.specs.Image.{Half as LiveHalf, live}
use Rattle.text_store.specs.Rest.{RestsAs, StandsIn, IsAt, IsRewritten}
use Rattle.text_store.specs.Settled.{IsSettled}
use Rattle.text_store.specs.Stores.{disks, size_of, limit_of, bounds, fault_count, Keeps, Tell, Throughout, ShowsEither, IsChosen, image_beside, Leads, Holds, MayShow, FrontsShow}
use Rattle.text_store.proofs.Appending.{rose_left, rose_right}
use Rattle.text_store.specs.Stores.{placed}
use Rattle.text_store.proofs.Both.{once, moves_spare, tell_live, tell_spare}
use Rattle.text_store.proofs.Gates.{fronts}
use Rattle.text_store.proofs.Holding.{holds, torn_beside, led, either_at, leads_on, alone}
use Rattle.text_store.proofs.Prefixes.{front_chosen}
use Rattle.text_store.proofs.Resting.{stands_more}
use Rattle.text_store.proofs.Wholes.{live_short, at_whole, live_written, whole_image, leads_next, grown, whole}

-- in either place
pub other_place : (in_second : Bool) (file beside : List ℕ) → image_beside (not in_second) file beside ≡ image_beside in_second beside file
other_place true file beside = refl
other_place false file beside = refl

pub placed_other : {D : Type 0} (in_second : Bool) (live spare : D) → placed (not in_second) live spare ≡ placed in_second spare live
placed_other true live spare = refl
placed_other false live spare = refl

take_more : (a b : List ℕ) (n : ℕ) → length a ≤ n → take n (a ++ b) ≡ a ++ take (n - length a) b
take_more [] b n le = ap (λ (k : ℕ). take k b) (let e : n ≡ n - 0 = omega arith in e)
take_more (x ∷ a) b zero le = absurd (omega arith)
take_more (x ∷ a) b (suc n) le =
    ap (λ (l : List ℕ). x ∷ l) (take_more a b n (omega arith) ∙ ap (λ (k : ℕ). a ++ take k b) (let e : n - length a ≡ suc n - suc (length a) = omega arith in e))

-- the fronts of a file that is being written anew are such files
pub rewritten_front : (old head entry c : List ℕ) (n : ℕ) → length head ≡ 32 → IsRewritten old head entry c → IsRewritten old head entry (take n c)
rewritten_front old head entry c n size (inl front) =
    let part = fronts n front.0 old in
    inl (part.0, ap (λ (l : List ℕ). take n l) front.1 ∙ part.1)
rewritten_front old head entry c n size (inr (inl short)) = inr (inl (omega (arith, length-take n c, short)))
rewritten_front old head entry c n size (inr (inr at)) = by_length (cases_lt 32 n) at
  where
    past : (gate : ℕ) (tail : List ℕ) → 32 < n → take n (head ++ gate ∷ tail) ≡ head ++ gate ∷ take (n - 33) tail
    past gate tail more =
        take_more head (gate ∷ tail) n (omega (arith, size, more))
        ∙ ap (λ (k : ℕ). head ++ take k (gate ∷ tail)) (let e : n - length head ≡ suc (n - 33) = omega (arith, size, more) in e)

    by_length : (32 < n) ⊎ (n ≤ 32) → IsAt head entry c → IsRewritten old head entry (take n c)
    by_length (inr few) at = inr (inl (omega (arith, length-take n c, few)))
    by_length (inl more) (inl shut) = inr (inr (inl (take (n - 33) shut.0, ap (λ (l : List ℕ). take n l) shut.1 ∙ past 0 shut.0 more)))
    by_length (inl more) (inr any) =
        let part = fronts (n - 33) any.1 entry in
        inr (inr (inr (any.0, part.0, ap (λ (l : List ℕ). take n l) any.2 ∙ past any.0 (take any.1 entry) more ∙ ap (λ (l : List ℕ). head ++ any.0 ∷ l) part.1)))

module _ (in_second : Bool) (generation limit : ℕ) (in_use beside : List ℕ) (shown next : Image) (leads : Leads in_second generation in_use beside shown)
    (small : limit < 2 ^ 64) (one_of_three : generation < 3) (within : next.revision ≤ 2 ^ 62) (writable : IsWritable next) (are : AreStates next.latest)
    (fits : length (whole_payload next) < 2 ^ 64) where
  abbrev pub then_next : ℕ
  then_next = next_generation generation

  pub less : then_next < 3
  less = omega arith

  abbrev pub head : List ℕ
  head = header limit then_next next.revision

  abbrev pub entry : List ℕ
  entry = body 67 (whole_payload next) ++ 0 ∷ []

  abbrev pub new_half : LiveHalf
  new_half = whole limit then_next next small less within writable are fits

  -- a file that is this half leads
  pub leads_after : (file : List ℕ) → live file ≡ Some new_half → Leads (not in_second) then_next file in_use next
  leads_after file is = record {
    half = new_half;
    is_live = is;
    is_next = refl;
    is_chosen = subst (λ (o : Option LiveHalf). IsChosen (not in_second) then_next o) (sym leads.is_live) (leads_next in_second generation leads.half leads.is_next one_of_three);
    gives = whole_image limit then_next next small less within writable are fits;
  }

  with_beside : (file : List ℕ) → IsChosen in_second generation (live file) → image_beside in_second in_use file ≡ Ok shown
  with_beside file is_chosen = led in_second generation in_use file shown (record { half = leads.half; is_live = leads.is_live; is_next = leads.is_next; is_chosen = is_chosen; gives = leads.gives })

  beside_none : (file : List ℕ) → live file ≡ None → image_beside in_second in_use file ≡ Ok shown
  beside_none file none = with_beside file (subst (λ (o : Option LiveHalf). IsChosen in_second generation o) (sym none) tt)

  pub rewritten_shows : (c : List ℕ) → IsRewritten beside head entry c → (image_beside in_second in_use c ≡ Ok shown) ⊎ (image_beside in_second in_use c ≡ Ok next)
  rewritten_shows c (inl front) =
      inl (ap (λ (f : List ℕ). image_beside in_second in_use f) front.1 ∙ with_beside (take front.0 beside) (front_chosen in_second generation beside front.0 leads.is_chosen))
  rewritten_shows c (inr (inl short)) = inl (beside_none c (live_short c short))
  rewritten_shows c (inr (inr at)) = half_or_none (at_whole limit then_next next small less within writable are fits c at)
    where
      half_or_none : (live c ≡ None) ⊎ (live c ≡ Some new_half) → (image_beside in_second in_use c ≡ Ok shown) ⊎ (image_beside in_second in_use c ≡ Ok next)
      half_or_none (inl none) = inl (beside_none c none)
      half_or_none (inr is) = inr (sym (other_place in_second c in_use) ∙ led (not in_second) then_next c in_use next (leads_after c is))

  pub rewritten_fronts : (c : List ℕ) → IsRewritten beside head entry c → FrontsShow in_second in_use shown next c
  rewritten_fronts c is n = rewritten_shows (take n c) (rewritten_front beside head entry c n refl is)

-- a store's other file
module _ {D : Type 0} {g : Ghosts D} (old : Store D g) (limit : ℕ) (shown next : Image) (held : Holds old shown)
    (small : limit < 2 ^ 64) (within : next.revision ≤ 2 ^ 62) (writable : IsWritable next) (are : AreStates next.latest) (fits : length (whole_payload next) < 2 ^ 64) where
  abbrev new_head : List ℕ
  new_head = header limit (next_generation old.generation) next.revision

  abbrev new_entry : List ℕ
  new_entry = body 67 (whole_payload next) ++ 0 ∷ []

  abbrev used : List ℕ
  used = held.front ++ 0 ∷ []

  pub rewriting : (moved : D) → ((disk : D) (t : ℕ) (c : List ℕ) → t ≤ g.moment disk → g.may_leave disk c → g.left_since disk t c) → Tell g (disks old)
      → (IsTrue (g.tells_crashes old.spare) → LeavesOnly g.moment g.left_since old.spare moved (IsRewritten held.beside new_head new_entry))
      → Throughout g (disks old) (placed old.in_second old.live.device moved) (ShowsEither shown next)
  rewriting moved counts_now tell run =
      once g counts_now (disks old) (placed old.in_second old.live.device moved) (ShowsEither shown next)
      (moves_spare g old.in_second old.live.device old.spare moved (λ c. c ≡ used) (IsRewritten held.beside new_head new_entry) (ShowsEither shown next)
      (run (tell_spare g old.in_second old.live.device old.spare tell))
      (held.settled.rests.durable (tell_live g old.in_second old.live.device old.spare tell))
      (λ c aside is rewritten. either_at old.in_second c aside shown next
      (subst (λ (f : List ℕ). (image_beside old.in_second f aside ≡ Ok shown) ⊎ (image_beside old.in_second f aside ≡ Ok next)) (sym is)
      (rewritten_shows old.in_second old.generation limit used held.beside shown next held.leads small old.one_of_three within writable are fits aside rewritten))))

  module _ (new : Store D g) where
    -- it stands half written
    pub rewrite_torn : new.in_second ≡ old.in_second → new.generation ≡ old.generation → new.live ≡ old.live → (new.live.is_torn ≡ false) × (new.is_torn ≡ true)
        → StandsIn g.seen g.tells_crashes g.may_leave new.spare (IsRewritten held.beside new_head new_entry) → MayShow new shown next
    rewrite_torn same_place same_number same_live due stands =
        torn_beside new held.front held.entries shown next due
        (subst (λ (h : Half D g). IsSettled g.seen g.tells_crashes g.may_leave h held.front held.entries) (sym same_live) held.settled)
        (subst (λ (b : Bool). StandsIn g.seen g.tells_crashes g.may_leave new.spare (FrontsShow b used shown next)) (sym same_place)
        (stands_more g.seen g.tells_crashes g.may_leave new.spare (IsRewritten held.beside new_head new_entry) (FrontsShow old.in_second used shown next)
        (rewritten_fronts old.in_second old.generation limit used held.beside shown next held.leads small old.one_of_three within writable are fits) stands))
        (leads_on old.in_second new.in_second old.generation new.generation used [] shown same_place same_number
        (alone old.in_second old.generation used held.beside shown held.leads))

    -- it is the half in use
    pub rewrite_done : new.in_second ≡ not old.in_second → new.generation ≡ next_generation old.generation → new.spare ≡ old.live.device
        → new.live.gate + 1 ≡ 33 + length new_entry
        → RestsAs g.seen g.tells_crashes g.may_leave new.live.device (new_head ++ 1 ∷ new_entry) → Holds new next
    rewrite_done other next_number same_spare place rests =
        let less : next_generation old.generation < 3 = omega arith in
        let front = new_head ++ 1 ∷ body 67 (whole_payload next) in
        let regroup : new_head ++ 1 ∷ new_entry ≡ front ++ 0 ∷ [] = sym (append_assoc new_head (1 ∷ body 67 (whole_payload next)) (0 ∷ [])) in
        let is_live = live_written limit (next_generation old.generation) next small less within writable are fits in
        holds new front (record { at = 32; kind = 67; payload = whole_payload next } ∷ []) used next
        (record {
          is_half = grown limit (next_generation old.generation) next small less within writable are fits;
          place = omega (arith, place, ap length regroup, length-append front (0 ∷ []), length-append new_head (1 ∷ new_entry));
          rests = subst (λ (f : List ℕ). RestsAs g.seen g.tells_crashes g.may_leave new.live.device f) regroup rests;
        })
        (subst (λ (d : D). RestsAs g.seen g.tells_crashes g.may_leave d used) (sym same_spare) held.settled.rests)
        (leads_on (not old.in_second) new.in_second (next_generation old.generation) new.generation (front ++ 0 ∷ []) used next other next_number
        (leads_after old.in_second old.generation limit used held.beside shown next held.leads small old.one_of_three within writable are fits (front ++ 0 ∷ [])
        (ap live (sym regroup) ∙ is_live)))

-- where the other file alone has moved
module _ {D : Type 0} {g : Ghosts D} (old new : Store D g) (same_live : new.live ≡ old.live) (same_place : new.in_second ≡ old.in_second) where
  pub disks_spare : disks new ≡ placed old.in_second old.live.device new.spare
  disks_spare =
      subst (λ (b : Bool). disks new ≡ placed b old.live.device new.spare) same_place
      (ap (λ (h : Half D g). placed new.in_second h.device new.spare) same_live)

  pub rose_spare : Rose (g.failures old.spare) (g.failures new.spare) → Rose (fault_count g (disks old)) (fault_count g (disks new))
  rose_spare rose = subst (λ (d : D × D). Rose (fault_count g (disks old)) (fault_count g d)) (sym disks_spare) (by_place old.in_second)
    where
      by_place : (b : Bool) → Rose (fault_count g (placed b old.live.device old.spare)) (fault_count g (placed b old.live.device new.spare))
      by_place true = rose_left (g.failures old.spare) (g.failures new.spare) (g.failures old.live.device) rose
      by_place false = rose_right (g.failures old.spare) (g.failures new.spare) (g.failures old.live.device) rose

  pub keeps_spare : (needed : ℕ) → needed ≤ limit_of old → g.tells_crashes new.spare ≡ g.tells_crashes old.spare → g.unfailing_to new.spare ≡ g.unfailing_to old.spare
      → g.reach new.spare ≤ max (g.reach old.spare) needed → g.failures old.spare ≤ g.failures new.spare → Keeps g (disks old) (disks new) (bounds old)
  keeps_spare needed fits tells unfailing reach later = subst (λ (d : D × D). Keeps g (disks old) d (bounds old)) (sym disks_spare) (by_place old.in_second)
    where
      by_place : (b : Bool) → Keeps g (placed b old.live.device old.spare) (placed b old.live.device new.spare) (if b then (limit_of old, max (limit_of old) (size_of old)) else (max (limit_of old) (size_of old), limit_of old))
      by_place true = record { tells_first = tells; tells_second = refl; unfailing_first = unfailing; unfailing_second = refl; reach_first = omega (arith, fits, reach); reach_second = omega arith; later_first = later; later_second = omega arith }
      by_place false = record { tells_first = refl; tells_second = tells; unfailing_first = refl; unfailing_second = unfailing; reach_first = omega arith; reach_second = omega (arith, fits, reach); later_first = omega arith; later_second = later }

-- where the files have changed their parts
pub disks_turned : {D : Type 0} {g : Ghosts D} (mid new : Store D g) → (new.live.device ≡ mid.spare) × (new.spare ≡ mid.live.device) → new.in_second ≡ not mid.in_second → disks new ≡ disks mid
disks_turned {D} mid new same other =
    subst (λ (b : Bool). disks new ≡ placed b mid.spare mid.live.device) other (λ i. placed new.in_second (same.0 i) (same.1 i)) ∙ placed_other mid.in_second mid.spare mid.live.device
