-- A store made in two empty files.
use Rattle.std.proofs.Common.{◌≡◌, ◌⊎◌, inl, inr, ℕ, ◌+◌, ◌^◌, ◌<◌, ◌≤◌, ◌&&◌, ◌==◌, nat_lt, if◌then◌else◌, Bool, true, false, List, [], ◌∷◌, ◌++◌, length, take, slice_index, Option, Some, None, Result, Ok, Err, IsErr, is_err, refl, sym, ◌∙◌, ap, subst, arith, append_assoc, length-append}
use Rattle.std.specs.Str.{bytes_eq}
use Rattle.std.proofs.lemmas.Bool.Decides.{nat_tests}
use Rattle.hl_base.specs.declared.disk.Disk.{Ghosts}
use Rattle.hl_base.specs.Disk.{LeavesOnly, Only}
use Rattle.text_store.specs.declared.image.Image.{Image}
use Rattle.text_store.specs.declared.store.Store.{Store}
use Rattle.text_store.specs.Changes.{AreStates}
use Rattle.text_store.specs.Entries.{body, open_entries}
use Rattle.text_store.specs.Files.{header, whole_payload, IsWritable, WhileMade}
use Rattle.text_store.specs.Image.{Half as LiveHalf, NoImage, NotAStore, Newer, letters, live, image, image_of, chosen, other_image, old_image, old_records}
use Rattle.text_store.specs.Rest.{RestsAs, IsAt, IsBegun}
use Rattle.text_store.specs.Stores.{Throughout, Holds, Leads, IsChosen}
use Rattle.text_store.proofs.Both.{once}
use Rattle.text_store.proofs.HalfImages.{no_old_image}
use Rattle.text_store.proofs.Holding.{holds, live_empty, led, leads_on}
use Rattle.text_store.proofs.Moments.{weakened}
use Rattle.text_store.proofs.Wholes.{live_short, at_whole, live_written, whole_image, grown, whole}

-- beside an empty file, a file that is no half has the image of an older one
alone_none : (c : List ℕ) → live c ≡ None → image c [] ≡ other_image c
alone_none c none =
    ap (λ (h : Option LiveHalf). image_of (chosen h (live [])) c) none ∙ ap (λ (h : Option LiveHalf). image_of (chosen None h) c) live_empty

-- a short file has none
short_old : (c : List ℕ) → length c ≤ 8 → IsErr (other_image c)
short_old c short = by_test (bytes_eq (take 7 c) letters && nat_lt 0 (slice_index c 7)) (slice_index c 7 == 1) (nat_lt 2 (slice_index c 7))
  where
    few : (n : ℕ) → n ≤ 8 → nat_lt n 17 ≡ true
    few n le = grind (arith, nat_tests)

    none : IsErr (old_image c)
    none =
        let less : nat_lt (length c) 17 ≡ true = few (length c) short in
        ap (λ (b : Bool). is_err (if b then Err (NotAStore 0) else old_records (open_entries 16 c))) less

    by_test : (a b d : Bool) → IsErr (if a then (if b then old_image c else (if d then Err (Newer (slice_index c 7)) else Err (NotAStore 0))) else Err (NotAStore 0))
    by_test false b d = refl
    by_test true true d = none
    by_test true false true = refl
    by_test true false false = refl

err_from : (r : Result Image NoImage) (e : NoImage) → r ≡ Err e → IsErr r
err_from r e is = subst (λ (x : Result Image NoImage). IsErr x) (sym is) refl

module _ (limit : ℕ) (shown : Image) (small : limit < 2 ^ 64) (within : shown.revision ≤ 2 ^ 62) (writable : IsWritable shown) (are : AreStates shown.latest)
    (fits : length (whole_payload shown) < 2 ^ 64) where
  one : 1 < 3
  one = omega arith

  abbrev pub head : List ℕ
  head = header limit 1 shown.revision

  abbrev pub entry : List ℕ
  entry = body 67 (whole_payload shown) ++ 0 ∷ []

  leads : (file : List ℕ) → live file ≡ Some (whole limit 1 shown small one within writable are fits) → Leads false 1 file [] shown
  leads file is = record {
    half = whole limit 1 shown small one within writable are fits;
    is_live = is;
    is_next = refl;
    is_chosen = subst (λ (o : Option LiveHalf). IsChosen false 1 o) (sym live_empty) tt;
    gives = whole_image limit 1 shown small one within writable are fits;
  }

  -- what a crash leaves of the first file while it is written
  pub begun_shows : (c : List ℕ) → IsBegun head entry c → IsErr (image c []) ⊎ (image c [] ≡ Ok shown)
  begun_shows c (inl (inl short)) = inl (subst (λ (r : Result Image NoImage). IsErr r) (sym (alone_none c (live_short c (omega (arith, short))))) (short_old c short))
  begun_shows c (inl (inr begun)) = inl (err_from (image c []) (NotAStore 0) (alone_none c (live_short c begun.1) ∙ no_old_image c begun.0))
  begun_shows c (inr at) = half_or_none (at_whole limit 1 shown small one within writable are fits c at)
    where
      version : IsAt head entry c → take 8 c ≡ letters ++ 2 ∷ []
      version (inl shut) = ap (λ (l : List ℕ). take 8 l) shut.1
      version (inr any) = ap (λ (l : List ℕ). take 8 l) any.2

      half_or_none : (live c ≡ None) ⊎ (live c ≡ Some (whole limit 1 shown small one within writable are fits)) → IsErr (image c []) ⊎ (image c [] ≡ Ok shown)
      half_or_none (inl none) = inl (err_from (image c []) (NotAStore 0) (alone_none c none ∙ no_old_image c (version at)))
      half_or_none (inr is) = inr (led false 1 c [] shown (leads c is))

  module _ {D : Type 0} {g : Ghosts D} (store : Store D g) where
    pub made : store.in_second ≡ false → store.generation ≡ 1 → store.live.gate + 1 ≡ 33 + length entry
        → RestsAs g.seen g.tells_crashes g.may_leave store.live.device (head ++ 1 ∷ entry) → RestsAs g.seen g.tells_crashes g.may_leave store.spare [] → Holds store shown
    made place number size rests beside =
        let front = head ++ 1 ∷ body 67 (whole_payload shown) in
        let regroup : head ++ 1 ∷ entry ≡ front ++ 0 ∷ [] = sym (append_assoc head (1 ∷ body 67 (whole_payload shown)) (0 ∷ [])) in
        holds store front (record { at = 32; kind = 67; payload = whole_payload shown } ∷ []) [] shown
        (record {
          is_half = grown limit 1 shown small one within writable are fits;
          place = omega (arith, size, ap length regroup, length-append front (0 ∷ []), length-append head (1 ∷ entry));
          rests = subst (λ (f : List ℕ). RestsAs g.seen g.tells_crashes g.may_leave store.live.device f) regroup rests;
        }) beside
        (leads_on false store.in_second 1 store.generation (front ++ 0 ∷ []) [] shown place number
        (leads (front ++ 0 ∷ []) (ap live (sym regroup) ∙ live_written limit 1 shown small one within writable are fits)))

  -- the two files are brought to rest, and then the first is written
  module _ {D : Type 0} {g : Ghosts D} (counts_now : (disk : D) (t : ℕ) (c : List ℕ) → t ≤ g.moment disk → g.may_leave disk c → g.left_since disk t c)
      (first second : D) where
    pub first_rests : (first_1 : D) → LeavesOnly g.moment g.left_since first first_1 (g.may_leave first) → Throughout g (first, second) (first_1, second) (WhileMade g (first, second) shown)
    first_rests first_1 run =
        once g counts_now (first, second) (first_1, second) (WhileMade g (first, second) shown)
        (inl (refl, weakened g.moment g.left_since first first_1 (g.may_leave first) _ run (λ c left d beside. inl (left, beside))))

    pub second_rests : (first_1 second_1 : D) → ((c : List ℕ) → g.may_leave first_1 c → g.may_leave first c)
        → LeavesOnly g.moment g.left_since second second_1 (g.may_leave second) → Throughout g (first_1, second) (first_1, second_1) (WhileMade g (first, second) shown)
    second_rests first_1 second_1 no_more run =
        once g counts_now (first_1, second) (first_1, second_1) (WhileMade g (first, second) shown)
        (inr (refl, weakened g.moment g.left_since second second_1 (g.may_leave second) _ run (λ d left c beside. inl (no_more c beside, left))))

    pub written : (first_1 first_2 second_1 : D) → Only [] (g.may_leave second_1)
        → LeavesOnly g.moment g.left_since first_1 first_2 (IsBegun head entry) → Throughout g (first_1, second_1) (first_2, second_1) (WhileMade g (first, second) shown)
    written first_1 first_2 second_1 empty run =
        once g counts_now (first_1, second_1) (first_2, second_1) (WhileMade g (first, second) shown)
        (inl (
          refl,
          weakened g.moment g.left_since first_1 first_2 (IsBegun head entry) _ run
              (λ c begun d beside. inr (subst (λ (f : List ℕ). IsErr (image c f) ⊎ (image c f ≡ Ok shown)) (sym (empty d beside)) (begun_shows c begun))),
        ))
