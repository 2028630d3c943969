-- A store opened in two files.
use Rattle.std.proofs.Common.{◌≡◌, ◌∙◌, ◌⊎◌, inl, inr, ℕ, ◌+◌, ◌^◌, ◌<◌, ◌≤◌, ◌==◌, ◌%◌, max, if◌then◌else◌, Bool, true, false, IsTrue, List, [], ◌∷◌, ◌++◌, length, take, Option, Some, None, Ok, refl, sym, ap, subst, arith, append_assoc, length-append, length-take}
use Rattle.std.proofs.lemmas.Bool.Decides.{nat_tests}
use Rattle.hl_base.specs.declared.disk.Disk.{Ghosts}
use Rattle.hl_base.specs.Causes.{Rose}
use Rattle.hl_base.specs.Disk.{LeavesOnly}
use Rattle.text_store.specs.declared.finding.InUse.{InUse}
use Rattle.text_store.specs.declared.image.Image.{Image}
use Rattle.text_store.specs.declared.store.Store.{Store}
use Rattle.text_store.specs.Changes.{AreStates}
use Rattle.text_store.specs.Ends.{IsShutAt}
use Rattle.text_store.specs.Entries.{body, open_entries}
use Rattle.text_store.specs.Files.{header, whole_payload, IsWritable, ShowsOf, limit_in, opened_limit}
use Rattle.text_store.specs.declared.finding.Place.{Place}
use Rattle.text_store.specs.declared.finding.Place.TheVariants.{Half as InHalf, Older}
use Rattle.text_store.specs.Edits.{whole_size}
use Rattle.text_store.specs.Found.{IsHalfInUse, half_found, IsFound}
use Rattle.text_store.specs.Image.{Half, live, chosen, image, image_of}
use Rattle.text_store.specs.Refusals.{TellImage}
use Rattle.text_store.specs.Rest.{RestsAs, StandsIn, SomeLeft, IsRewritten, IsReadOn}
use Rattle.text_store.specs.Stores.{Tell, Throughout, Shows, fault_count, image_beside, IsChosen, Leads, Holds, Keeps}
use Rattle.text_store.proofs.Appending.{rose_left, rose_right}
use Rattle.text_store.specs.Stores.{placed}
use Rattle.text_store.proofs.Both.{Beside, stays, once, then_on, less_said, moves_live, tell_live, tell_spare}
use Rattle.text_store.proofs.Ending.{shut_from, same_half}
use Rattle.text_store.proofs.Growing.{none_some}
use Rattle.text_store.proofs.Holding.{choice, holds, led, shown_at, leads_on}
use Rattle.text_store.proofs.Moments.{weakened, both_said}
use Rattle.text_store.proofs.OpenEntries.{shut_gate}
use Rattle.text_store.proofs.Prefixes.{front_chosen}
use Rattle.text_store.proofs.Resting.{rest_stands, stands_more}
use Rattle.text_store.proofs.Wholes.{live_short, at_whole, live_written, whole_image, grown, whole}

-- both files are brought to rest and read
module _ {D : Type 0} (g : Ghosts D) (counts_now : (disk : D) (t : ℕ) (c : List ℕ) → t ≤ g.moment disk → g.may_leave disk c → g.left_since disk t c) (first second first_1 : D) (reads : IsReadOn g first first_1) where
  abbrev Left : List ℕ → List ℕ → Type 0
  Left f s = g.may_leave first f × g.may_leave second s

  pub first_read : Throughout g (first, second) (first_1, second) (λ f s. g.may_leave first f × g.may_leave second s)
  first_read =
      once g counts_now (first, second) (first_1, second) Left
      (inl (refl, weakened g.moment g.left_since first first_1 (g.may_leave first) _ reads.any_moment (λ c left d beside. (left, beside))))

  pub both_read : (second_1 : D) → IsReadOn g second second_1 → Throughout g (first, second) (first_1, second_1) (λ f s. g.may_leave first f × g.may_leave second s)
  both_read second_1 more =
      then_on g (first, second) (first_1, second) (first_1, second_1) Left first_read
      (once g counts_now (first_1, second) (first_1, second_1) Left
      (inr (refl, weakened g.moment g.left_since second second_1 (g.may_leave second) _ more.any_moment (λ d left c beside. (reads.no_more c beside, left)))))

-- two files in their places, and a fact beside
beside_and : (b : Bool) (X : Type 0) (P : List ℕ → List ℕ → Type 0) (file beside : List ℕ) → X → Beside b P file beside → Beside b (λ a c. X × P a c) file beside
beside_and true X P file beside x p = (x, p)
beside_and false X P file beside x p = (x, p)

-- two files that might be left, in their order
left_in_order : {D : Type 0} (g : Ghosts D) (b : Bool) (first second : D) (f s : List ℕ) → g.may_leave (placed b first second).0 (placed b f s).0 × g.may_leave (placed b first second).1 (placed b f s).1
    → g.may_leave first f × g.may_leave second s
left_in_order g true first second f s left = (left.1, left.0)
left_in_order g false first second f s left = left

-- the half in use and the other file
pub in_place : (first second : List ℕ) (b : Bool) (u : InUse) (shown : Image) → half_found first second b u shown → IsHalfInUse (placed b first second).0 (placed b first second).1 u shown
in_place first second true u shown is = is
in_place first second false u shown is = is

pub rests_live : {D : Type 0} (g : Ghosts D) (first second : D) (f s : List ℕ) (b : Bool) → RestsAs g.seen g.tells_crashes g.may_leave first f → RestsAs g.seen g.tells_crashes g.may_leave second s
    → RestsAs g.seen g.tells_crashes g.may_leave (placed b first second).0 (placed b f s).0
rests_live g first second f s true of_first of_second = of_second
rests_live g first second f s false of_first of_second = of_first

pub rests_spare : {D : Type 0} (g : Ghosts D) (first second : D) (f s : List ℕ) (b : Bool) → RestsAs g.seen g.tells_crashes g.may_leave first f → RestsAs g.seen g.tells_crashes g.may_leave second s
    → RestsAs g.seen g.tells_crashes g.may_leave (placed b first second).1 (placed b f s).1
rests_spare g first second f s true of_first of_second = of_first
rests_spare g first second f s false of_first of_second = of_second

pub image_placed : (f s : List ℕ) (b : Bool) → image_beside b (placed b f s).0 (placed b f s).1 ≡ image f s
image_placed f s true = refl
image_placed f s false = refl

module _ (file beside : List ℕ) (u : InUse) (shown : Image) (is : IsHalfInUse file beside u shown) where
  abbrev pub front : List ℕ
  front = take u.gate file

  pub place : length front ≡ u.gate
  place = omega (arith, length-take u.gate file, is.inside)

  pub is_shut : IsShutAt front file
  is_shut = shut_from file u.gate is.inside is.shut

  pub leads_at : (c : List ℕ) → IsShutAt front c → Leads u.in_second u.generation c beside shown
  leads_at c at = record {
    half = is.half;
    is_live = same_half front (open_entries 32 file) is.is_half c at ∙ sym (same_half front (open_entries 32 file) is.is_half file is_shut) ∙ is.is_live;
    is_next = is.generation;
    is_chosen = is.is_chosen;
    gives = is.gives;
  }

  pub found_image : image_beside u.in_second file beside ≡ Ok shown
  found_image = led u.in_second u.generation file beside shown (leads_at file is_shut)

  zero_shut : IsShutAt front (front ++ 0 ∷ [])
  zero_shut = (0, [], refl, shut_gate (length {A = ℕ} (0 ∷ [])) (length front) 0 [] (omega arith))

  module _ {D : Type 0} {g : Ghosts D} (store : Store D g) where
    pub resumed : store.in_second ≡ u.in_second → store.generation ≡ u.generation → store.live.gate ≡ u.gate
        → RestsAs g.seen g.tells_crashes g.may_leave store.live.device (front ++ 0 ∷ []) → RestsAs g.seen g.tells_crashes g.may_leave store.spare beside → Holds store shown
    resumed same_place same_number gate rests aside =
        holds store front (open_entries 32 file) beside shown (record { is_half = is.is_half; place = place ∙ sym gate; rests = rests }) aside
        (leads_on u.in_second store.in_second u.generation store.generation (front ++ 0 ∷ []) beside shown same_place same_number (leads_at (front ++ 0 ∷ []) zero_shut))

  module _ {D : Type 0} (g : Ghosts D) (counts_now : (disk : D) (t : ℕ) (c : List ℕ) → t ≤ g.moment disk → g.may_leave disk c → g.left_since disk t c) (live spare next : D) where
    pub stands_shut : RestsAs g.seen g.tells_crashes g.may_leave live file → StandsIn g.seen g.tells_crashes g.may_leave live (IsShutAt front)
    stands_shut rests = stands_more g.seen g.tells_crashes g.may_leave live (λ c. c ≡ file) (IsShutAt front) (λ c same. subst (λ (l : List ℕ). IsShutAt front l) (sym same) is_shut) (rest_stands g.seen g.tells_crashes g.may_leave live file rests)

    -- the two files might have been left before
    abbrev Might_leave : Type 0
    Might_leave = g.may_leave live file × g.may_leave spare beside

    pub resuming : RestsAs g.seen g.tells_crashes g.may_leave live file → RestsAs g.seen g.tells_crashes g.may_leave spare beside → Tell g (placed u.in_second live spare)
        → (IsTrue (g.tells_crashes live) → LeavesOnly g.moment g.left_since live next (IsShutAt front)) → LeavesOnly g.moment g.left_since live next (SomeLeft (g.may_leave live))
        → Throughout g (placed u.in_second live spare) (placed u.in_second next spare) (λ a b. Might_leave × Shows shown a b)
    resuming rests aside tell run comes =
        let telling = tell_live g u.in_second live spare tell in
        let still = tell_spare g u.in_second live spare tell in
        once g counts_now (placed u.in_second live spare) (placed u.in_second next spare) (λ a b. Might_leave × Shows shown a b)
        (moves_live g u.in_second live next spare (λ c. IsShutAt front c × g.may_leave live file) (λ c. (c ≡ beside) × g.may_leave spare beside) (λ a b. Might_leave × Shows shown a b)
        (weakened g.moment g.left_since live next (λ c. IsShutAt front c × SomeLeft (g.may_leave live) c) (λ c. IsShutAt front c × g.may_leave live file)
        (both_said g.moment g.left_since live next (IsShutAt front) (SomeLeft (g.may_leave live)) (run telling) comes)
        (λ c both. (both.0, subst (λ (l : List ℕ). g.may_leave live l) (rests.durable telling both.1.0 both.1.1) both.1.1)))
        (λ c left. (aside.durable still c left, subst (λ (l : List ℕ). g.may_leave spare l) (aside.durable still c left) left))
        (λ c other at same. beside_and u.in_second Might_leave (Shows shown) c other (at.1, same.1) (shown_at u.in_second c other shown
        (ap (λ (l : List ℕ). image_beside u.in_second c l) same.0 ∙ led u.in_second u.generation c beside shown (leads_at c at.0)))))

-- the chosen half is the one that was found
pub picked : (f s : List ℕ) (u : InUse) (shown : Image) (is : half_found f s u.in_second u shown) → chosen (live f) (live s) ≡ Some (in_place f s u.in_second u shown is).half
picked f s u shown is = let at = in_place f s u.in_second u shown is in by_place u.in_second at.half at.is_live at.generation at.is_chosen
  where
    by_place : (b : Bool) (half : Half) → live (placed b f s).0 ≡ Some half → half.generation ≡ u.generation → IsChosen b u.generation (live (placed b f s).1) → chosen (live f) (live s) ≡ Some half
    by_place true half is_live number is_chosen = ap (λ (h : Option Half). chosen (live f) h) is_live ∙ choice true u.generation half (live f) number is_chosen
    by_place false half is_live number is_chosen = ap (λ (h : Option Half). chosen h (live s)) is_live ∙ choice false u.generation half (live s) number is_chosen

-- which limit a store has whose half is found
pub limit_found : (f s : List ℕ) (u : InUse) (shown : Image) → half_found f s u.in_second u shown → opened_limit f s ≡ u.limit
limit_found f s u shown is =
    let at = in_place f s u.in_second u shown is in
    let shows : image f s ≡ Ok shown = sym (image_placed f s u.in_second) ∙ found_image (placed u.in_second f s).0 (placed u.in_second f s).1 u shown at in
    (λ i. limit_in (picked f s u shown is i) f (shows i)) ∙ at.limit

-- the counts of two disks of which one has moved
pub rose_live : {D : Type 0} (g : Ghosts D) (b : Bool) (live spare next : D) → Rose (g.failures live) (g.failures next) → Rose (fault_count g (placed b live spare)) (fault_count g (placed b next spare))
rose_live g true live spare next rose = rose_right (g.failures live) (g.failures next) (g.failures spare) rose
rose_live g false live spare next rose = rose_left (g.failures live) (g.failures next) (g.failures spare) rose

pub placed_back : {D : Type 0} (b : Bool) (first second : D) → placed b (placed b first second).0 (placed b first second).1 ≡ (first, second)
placed_back true first second = refl
placed_back false first second = refl

-- two disks in their places tell a file and the one beside it
told_image : {D : Type 0} (g : Ghosts D) (b : Bool) (live spare : D) (file beside : List ℕ) (shown : Image) → g.seen live ≡ Some file → g.seen spare ≡ Some beside
    → image_beside b file beside ≡ Ok shown → TellImage g (placed b live spare) (Ok shown)
told_image g true live spare file beside shown x y is = (beside, file, y, x, is)
told_image g false live spare file beside shown x y is = (file, beside, x, y, is)

-- the half in use that was found is mended
module _ {D : Type 0} (g : Ghosts D) (first second : D) (f s : List ℕ) (u : InUse) (shown : Image) (rests_first : RestsAs g.seen g.tells_crashes g.may_leave first f)
    (rests_second : RestsAs g.seen g.tells_crashes g.may_leave second s) (found : half_found f s u.in_second u shown) (pair : D × D) (is : pair ≡ placed u.in_second first second) where
  abbrev pub file : List ℕ
  file = (placed u.in_second f s).0

  abbrev pub aside : List ℕ
  aside = (placed u.in_second f s).1

  pub at : IsHalfInUse file aside u shown
  at = in_place f s u.in_second u shown found

  pub live_rests : RestsAs g.seen g.tells_crashes g.may_leave pair.0 file
  live_rests = subst (λ (p : D × D). RestsAs g.seen g.tells_crashes g.may_leave p.0 file) (sym is) (rests_live g first second f s u.in_second rests_first rests_second)

  pub spare_rests : RestsAs g.seen g.tells_crashes g.may_leave pair.1 aside
  spare_rests = subst (λ (p : D × D). RestsAs g.seen g.tells_crashes g.may_leave p.1 aside) (sym is) (rests_spare g first second f s u.in_second rests_first rests_second)

  pub same_pair : placed u.in_second pair.0 pair.1 ≡ (first, second)
  same_pair = ap (λ (p : D × D). placed u.in_second p.0 p.1) is ∙ placed_back u.in_second first second

  pub resume_run : (next : D) → ((disk : D) (t : ℕ) (c : List ℕ) → t ≤ g.moment disk → g.may_leave disk c → g.left_since disk t c) → Tell g (first, second)
      → ((front : List ℕ) → length front ≡ u.gate → StandsIn g.seen g.tells_crashes g.may_leave pair.0 (IsShutAt front) → IsTrue (g.tells_crashes pair.0)
      → LeavesOnly g.moment g.left_since pair.0 next (IsShutAt front)) → LeavesOnly g.moment g.left_since pair.0 next (SomeLeft (g.may_leave pair.0))
      → Throughout g (first, second) (placed u.in_second next pair.1) (ShowsOf g (first, second) f s shown)
  resume_run next counts_now tell run comes =
      less_said g (first, second) (placed u.in_second next pair.1) (λ a b. (g.may_leave pair.0 file × g.may_leave pair.1 aside) × Shows shown a b) (ShowsOf g (first, second) f s shown)
      (λ a b shows. (left_in_order g u.in_second first second f s (subst (λ (p : D × D). g.may_leave p.0 file × g.may_leave p.1 aside) is shows.0), shows.1))
      (subst (λ (d : D × D). Throughout g d (placed u.in_second next pair.1) (λ a b. (g.may_leave pair.0 file × g.may_leave pair.1 aside) × Shows shown a b)) same_pair
      (resuming file aside u shown at g counts_now pair.0 pair.1 next live_rests spare_rests (subst (λ (d : D × D). Tell g d) (sym same_pair) tell)
      (λ telling. run (take u.gate file) (place file aside u shown at) (stands_shut file aside u shown at g counts_now pair.0 pair.1 next live_rests) telling) comes))

  pub resume_opened : (store : Store D g) (next : D) → store.in_second ≡ u.in_second → store.generation ≡ u.generation → store.live.gate ≡ u.gate → store.live.device ≡ next → store.spare ≡ pair.1
      → ((disk : D) (t : ℕ) (c : List ℕ) → t ≤ g.moment disk → g.may_leave disk c → g.left_since disk t c)
      → ((front : List ℕ) → length front ≡ u.gate → StandsIn g.seen g.tells_crashes g.may_leave pair.0 (IsShutAt front) → RestsAs g.seen g.tells_crashes g.may_leave next (front ++ 0 ∷ []))
      → Holds store shown
  resume_opened store next same_place same_number gate device spare counts_now shut =
      resumed file aside u shown at store same_place same_number gate
      (subst (λ (d : D). RestsAs g.seen g.tells_crashes g.may_leave d (take u.gate file ++ 0 ∷ [])) (sym device)
      (shut (take u.gate file) (place file aside u shown at) (stands_shut file aside u shown at g counts_now pair.0 pair.1 next live_rests)))
      (subst (λ (d : D). RestsAs g.seen g.tells_crashes g.may_leave d aside) (sym spare) spare_rests)

  -- and the half in use then has its bytes up to the last gate
  pub resume_bytes : (next : D) → ((disk : D) (t : ℕ) (c : List ℕ) → t ≤ g.moment disk → g.may_leave disk c → g.left_since disk t c)
      → ((front : List ℕ) → length front ≡ u.gate → StandsIn g.seen g.tells_crashes g.may_leave pair.0 (IsShutAt front) → RestsAs g.seen g.tells_crashes g.may_leave next (front ++ 0 ∷ []))
      → g.seen next ≡ Some (take u.gate file ++ 0 ∷ [])
  resume_bytes next counts_now shut =
      (shut (take u.gate file) (place file aside u shown at) (stands_shut file aside u shown at g counts_now pair.0 pair.1 next live_rests)).told

  -- and where that failed it still shows its image
  pub resume_torn : (next : D) → ((disk : D) (t : ℕ) (c : List ℕ) → t ≤ g.moment disk → g.may_leave disk c → g.left_since disk t c)
      → ((front : List ℕ) → length front ≡ u.gate → StandsIn g.seen g.tells_crashes g.may_leave pair.0 (IsShutAt front) → StandsIn g.seen g.tells_crashes g.may_leave next (IsShutAt front))
      → TellImage g (placed u.in_second next pair.1) (Ok shown)
  resume_torn next counts_now shut =
      let stands = shut (take u.gate file) (place file aside u shown at) (stands_shut file aside u shown at g counts_now pair.0 pair.1 next live_rests) in
      told_image g u.in_second next pair.1 stands.file aside shown stands.told spare_rests.told
      (led u.in_second u.generation stands.file aside shown (leads_at file aside u shown at stands.file stands.fits))

-- no half is chosen of files of which none is live
pub none_live : (a b : Option Half) → chosen a b ≡ None → (a ≡ None) × (b ≡ None)
none_live None b none = (refl, none)
none_live (Some first) None none = none_some first (sym none)
none_live (Some first) (Some second) none = by_test (second.generation == (first.generation + 1) % 3) none
  where
    by_test : (t : Bool) → (if t then Some second else Some first) ≡ None → (Some first ≡ None) × (Some second ≡ None)
    by_test true is = none_some second (sym is)
    by_test false is = none_some first (sym is)

-- a front of a file that is no half is none
pub none_front : (file : List ℕ) (n : ℕ) → live file ≡ None → live (take n file) ≡ None
none_front file n none = by_half (live (take n file)) (λ generation. front_chosen true generation file n (subst (λ (o : Option Half). IsChosen true generation o) (sym none) tt))
  where
    by_half : (o : Option Half) → ((generation : ℕ) → IsChosen true generation o) → o ≡ None
    by_half None is = refl
    by_half (Some half) is = absurd (differs half.generation (is 7))
      where
        differs : (n : ℕ) → (7 == (n + 1) % 3) ≡ true → ⊥
        differs n is = grind (arith, nat_tests)

-- an image of an older store written into the second file
module _ (limit : ℕ) (shown : Image) (small : limit < 2 ^ 64) (within : shown.revision ≤ 2 ^ 62) (writable : IsWritable shown) (are : AreStates shown.latest)
    (fits : length (whole_payload shown) < 2 ^ 64) (f s : List ℕ) (no_half : chosen (live f) (live s) ≡ None) where
  one : 1 < 3
  one = omega arith

  abbrev pub head : List ℕ
  head = header limit 1 shown.revision

  abbrev pub entry : List ℕ
  entry = body 67 (whole_payload shown) ++ 0 ∷ []

  abbrev made : Half
  made = whole limit 1 shown small one within writable are fits

  none_first : live f ≡ None
  none_first = (none_live (live f) (live s) no_half).0

  half_or_none : (c : List ℕ) → IsRewritten s head entry c → (live c ≡ None) ⊎ (live c ≡ Some made)
  half_or_none c (inl front) = inl (ap live front.1 ∙ none_front s front.0 (none_live (live f) (live s) no_half).1)
  half_or_none c (inr (inl short)) = inl (live_short c short)
  half_or_none c (inr (inr at)) = at_whole limit 1 shown small one within writable are fits c at

  pub renew_shows : image f s ≡ Ok shown → (c : List ℕ) → IsRewritten s head entry c → image f c ≡ Ok shown
  renew_shows is c at = by_half (half_or_none c at)
    where
      by_half : (live c ≡ None) ⊎ (live c ≡ Some made) → image f c ≡ Ok shown
      by_half (inl none) = ap (λ (h : Option Half). image_of (chosen (live f) h) f) (none ∙ sym (none_live (live f) (live s) no_half).1) ∙ is
      by_half (inr some) =
          (λ i. image_of (chosen (none_first i) (some i)) f) ∙ whole_image limit 1 shown small one within writable are fits

  pub renew_torn : {D : Type 0} (g : Ghosts D) (first next : D) → RestsAs g.seen g.tells_crashes g.may_leave first f → image f s ≡ Ok shown
      → StandsIn g.seen g.tells_crashes g.may_leave next (IsRewritten s head entry) → TellImage g (first, next) (Ok shown)
  renew_torn g first next rests is stands = (f, stands.file, rests.told, stands.told, renew_shows is stands.file stands.fits)

  module _ {D : Type 0} {g : Ghosts D} (store : Store D g) where
    pub renewed : store.in_second ≡ true → store.generation ≡ 1 → store.live.gate + 1 ≡ 33 + length entry
        → RestsAs g.seen g.tells_crashes g.may_leave store.live.device (head ++ 1 ∷ entry) → RestsAs g.seen g.tells_crashes g.may_leave store.spare f → Holds store shown
    renewed same_place number size rests beside =
        let front = head ++ 1 ∷ body 67 (whole_payload shown) in
        let regroup : head ++ 1 ∷ entry ≡ front ++ 0 ∷ [] = sym (append_assoc head (1 ∷ body 67 (whole_payload shown)) (0 ∷ [])) in
        holds store front (record { at = 32; kind = 67; payload = whole_payload shown } ∷ []) f shown
        (record {
          is_half = grown limit 1 shown small one within writable are fits;
          place = omega (arith, size, ap length regroup, length-append front (0 ∷ []), length-append head (1 ∷ entry));
          rests = subst (λ (l : List ℕ). RestsAs g.seen g.tells_crashes g.may_leave store.live.device l) regroup rests;
        }) beside
        (leads_on true store.in_second 1 store.generation (front ++ 0 ∷ []) f shown same_place number
        (record {
          half = made;
          is_live = ap live (sym regroup) ∙ live_written limit 1 shown small one within writable are fits;
          is_next = refl;
          is_chosen = subst (λ (o : Option Half). IsChosen true 1 o) (sym none_first) tt;
          gives = whole_image limit 1 shown small one within writable are fits;
        }))

  module _ {D : Type 0} (g : Ghosts D) (counts_now : (disk : D) (t : ℕ) (c : List ℕ) → t ≤ g.moment disk → g.may_leave disk c → g.left_since disk t c) (first second next : D) where
    pub renewing : image f s ≡ Ok shown → RestsAs g.seen g.tells_crashes g.may_leave first f → RestsAs g.seen g.tells_crashes g.may_leave second s → Tell g (first, second)
        → LeavesOnly g.moment g.left_since second next (IsRewritten s head entry) → LeavesOnly g.moment g.left_since second next (SomeLeft (g.may_leave second))
        → Throughout g (first, second) (first, next) (ShowsOf g (first, second) f s shown)
    renewing is rests aside tell run comes =
        once g counts_now (first, second) (first, next) (ShowsOf g (first, second) f s shown)
        (inr (
          refl,
          weakened g.moment g.left_since second next (λ c. IsRewritten s head entry c × SomeLeft (g.may_leave second) c) _
              (both_said g.moment g.left_since second next (IsRewritten s head entry) (SomeLeft (g.may_leave second)) run comes)
              (λ c both d left. let same = rests.durable tell.0 d left in (
                (subst (λ (l : List ℕ). g.may_leave first l) same left, subst (λ (l : List ℕ). g.may_leave second l) (aside.durable tell.1 both.1.0 both.1.1) both.1.1),
                subst (λ (l : List ℕ). image l c ≡ Ok shown) (sym same) (renew_shows is c both.0),
              )),
        ))

-- two files at rest show their image
pub both_shows : {D : Type 0} (g : Ghosts D) (first second : D) (f s : List ℕ) (shown : Image) → RestsAs g.seen g.tells_crashes g.may_leave first f → RestsAs g.seen g.tells_crashes g.may_leave second s
    → image f s ≡ Ok shown → Tell g (first, second) → Throughout g (first, second) (first, second) (ShowsOf g (first, second) f s shown)
both_shows g first second f s shown rests_first rests_second is tell =
    stays g (first, second) (ShowsOf g (first, second) f s shown)
    (λ c d of_first of_second.
    let same_first = rests_first.durable tell.0 c of_first in
    let same_second = rests_second.durable tell.1 d of_second in (
      (subst (λ (l : List ℕ). g.may_leave first l) same_first of_first, subst (λ (l : List ℕ). g.may_leave second l) same_second of_second),
      (λ i. image (same_first i) (same_second i)) ∙ is,
    ))

-- what was found, by where it stands
pub found_in_half : (f s : List ℕ) (shown : Image) (place : Place) (u : InUse) → place ≡ InHalf u → IsFound f s shown place → half_found f s u.in_second u shown
found_in_half f s shown place u is found = subst (λ (p : Place). IsFound f s shown p) is found

pub found_older : (f s : List ℕ) (shown : Image) (place : Place) (limit : ℕ) → place ≡ Older limit → IsFound f s shown place → IsFound f s shown (Older limit)
found_older f s shown place limit is found = subst (λ (p : Place). IsFound f s shown p) is found

pub half_chosen : (f s : List ℕ) (u : InUse) (shown : Image) → half_found f s u.in_second u shown → (half : Half) × (chosen (live f) (live s) ≡ Some half)
half_chosen f s u shown is = ((in_place f s u.in_second u shown is).half, picked f s u shown is)

pub keeps_half : {D : Type 0} (g : Ghosts D) (old new : D × D) (f s : List ℕ) (u : InUse) (shown : Image) (b : Bool) → half_found f s b u shown
    → Keeps g old new (if b then (0, u.gate + 1) else (u.gate + 1, 0)) → Keeps g old new (max (opened_limit f s) (length f), max (opened_limit f s) (length s))
keeps_half g old new f s u shown true is keeps = record {
  tells_first = keeps.tells_first;
  tells_second = keeps.tells_second;
  unfailing_first = keeps.unfailing_first;
  unfailing_second = keeps.unfailing_second;
  reach_first = omega (arith, keeps.reach_first);
  reach_second = omega (arith, keeps.reach_second, is.inside);
  later_first = keeps.later_first;
  later_second = keeps.later_second;
}
keeps_half g old new f s u shown false is keeps = record {
  tells_first = keeps.tells_first;
  tells_second = keeps.tells_second;
  unfailing_first = keeps.unfailing_first;
  unfailing_second = keeps.unfailing_second;
  reach_first = omega (arith, keeps.reach_first, is.inside);
  reach_second = omega (arith, keeps.reach_second);
  later_first = keeps.later_first;
  later_second = keeps.later_second;
}

pub limit_older : (f s : List ℕ) (shown : Image) (limit : ℕ) → IsFound f s shown (Older limit) → max limit (whole_size shown) ≡ opened_limit f s
limit_older f s shown limit found = ap (λ (n : ℕ). max n (whole_size shown)) found.3 ∙ sym (λ i. limit_in (found.0 i) f (found.1 i))
