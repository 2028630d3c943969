-- A walk in a book with room for the edited transactions.
use Rattle.std.proofs.Common.{◌≡◌, ℕ, ◌+◌, ◌<◌, ◌≤◌, List, [], ◌∷◌, ◌++◌, length, get_or, set, slice_get, take, Some, Result, IfOk, refl, sym, ap, subst, ◌∙◌, arith}
use Rattle.std.specs.List.{AllByRecursion}
use Rattle.std.proofs.lemmas.Bool.{false≢true}
use Rattle.std.proofs.lemmas.List.{length-set, take_all, take_more}
use Rattle.std.proofs.lemmas.Option.{same_Some, slice_get-get_or}
use Rattle.book.specs.declared.transaction.Txn.{Txn}
use Rattle.live_index.specs.declared.row.Row.{Row}
use Rattle.placed_sums.specs.Accounts.{HasSymbols}
use Rattle.placed_sums.specs.Rows.{Stand}
use Rattle.placed_sums.proofs.Besides.{replaced_symbols}
use Rattle.placed_sums.proofs.Replacing.{stand_replaced}
use Rattle.reached_walk.proofs.Lists.{all-push}
use Rattle.reached_walk.proofs.Noting.{got-at}
use Rattle.reached_walk.specs.Walks.{Walks}
use Rattle.reached_walk.specs.declared.place.Spot.{Spot}
use Rattle.reached_walk.specs.declared.walking.Reach.{Reach}
use Rattle.walked_edits.specs.Forms.{IsInside, IsSwapped, put_back, spots_of, vacant, with_room, with_vacants}
use Rattle.walked_edits.specs.Keeping.{IsKept, IsWhole}
use Rattle.walked_edits.specs.Scenes.{IsEdited, Scene, edit_in}
use Rattle.walked_edits.specs.Stepping.{HasLeft, Leaves}
use Rattle.walked_edits.specs.Walking.{AreLeft, Begins, CanLeave, IsPartly, IsReady, IsWalkedIn, Takes}
use Rattle.walked_edits.specs.declared.fault.WalkFault.{WalkFault}
use Rattle.walked_edits.specs.declared.kept.Kept.{Kept}
use Rattle.walked_edits.specs.declared.replaced.Replaced.{Replaced}
use Rattle.walked_edits.specs.declared.walking.Walked.{Walked}
use Rattle.walked_edits.specs.declared.walking.Walking.{Walking}
use Rattle.walked_edits.proofs.Begins.{partly_begins, ready_sums, room_inside, room_kept, room_symbols, vacants_push, vacants_size}
use Rattle.walked_edits.proofs.Exchanging.{back_last}
use Rattle.walked_edits.proofs.Gets.{all_got}
use Rattle.walked_edits.proofs.Turning.{told_set, vacated_fits}
use Rattle.walked_edits.proofs.Vacating.{at_spot}

-- ---- an old form is taken out

pub no_postings : (spot : Spot) (blank : Txn) → blank ≡ vacant spot.day → blank.postings ≡ []
no_postings spot blank is = ap (λ (t : Txn). t.postings) is

pub leaves : (book new : List Txn) (spot : Spot) (before after : Kept) (olds pushed more : List Replaced) (old blank : Txn) → spot.number < length book → old ≡ get_or book spot.number old → blank ≡ vacant spot.day
    → HasLeft spot.number old blank before after → pushed ≡ olds ++ at_spot spot blank ∷ []
    → ((older : List Replaced) (last : Replaced) → pushed ≡ older ++ last ∷ [] → IsSwapped older last book new more) → Leaves spot book new before after olds more
leaves book new spot before after olds pushed more old blank inside read is left push swap =
    let was : slice_get book spot.number ≡ Some old = got-at book spot.number old inside read in
    let swapped = swap olds (at_spot spot blank) push in
    let form : swapped.form ≡ old = same_Some swapped.form old (sym swapped.was ∙ was) in
    record {
      old = old;
      was = was;
      book_is = swapped.book_is ∙ ap (set book spot.number) is;
      olds_are = swapped.forms_are ∙ ap (λ (t : Txn). olds ++ at_spot spot t ∷ []) form;
      kept = subst (λ (t : Txn). HasLeft spot.number old t before after) is left;
    }

-- ---- one after another

left_more : (s : Scene) (room book new : List Txn) (kept after : Kept) (left : List Spot) (spot : Spot) (olds more : List Replaced) → AreLeft s room book kept left → Leaves spot book new kept after olds more → AreLeft s room new after (left ++ spot ∷ [])
left_more s room book new kept after left spot olds more h v =
    let held = vacant spot.day in
    subst (λ (b : List Txn). AreLeft s room b after (left ++ spot ∷ [])) (sym v.book_is) (record {
      book_is = ap (λ (b : List Txn). set b spot.number held) h.book_is ∙ sym (vacants_push left spot room);
      sums = record {
        stand = subst (λ (rows : List Row). Stand rows (set book spot.number held)) (sym v.kept.index) (stand_replaced kept.index book spot.number v.old held h.sums.stand v.was);
        turnover = v.kept.turnover book spot.number v.was h.sums.turnover;
        told = told_set book spot.number held h.sums.told refl;
        fits = vacated_fits book spot.number held refl h.sums.fits;
      };
      days = v.kept.days book h.days v.was;
      symbols = replaced_symbols s.symbols book spot.number v.old held h.symbols v.was (λ symbol named. absurd (false≢true named));
    })

pub record IsLeavingOn (s : Scene) (room book : List Txn) (kept : Kept) (olds : List Replaced) (left : List Spot) : Type 0 where
  pub are : AreLeft s room book kept left
  pub back : put_back book olds ≡ room
  pub inside : AllByRecursion (IsInside book) olds

pub leaving_begins : (s : Scene) (room : List Txn) (kept : Kept) (olds : List Replaced) → CanLeave s room kept → olds ≡ [] → IsLeavingOn s room room kept olds []
leaving_begins s room kept olds h none = record {
  are = h.left;
  back = ap (put_back room) none;
  inside = subst (λ (rs : List Replaced). AllByRecursion (IsInside room) rs) (sym none) tt;
}

pub item_inside : (s : Scene) (room book : List Txn) (kept now : Kept) (olds : List Replaced) (spots left : List Spot) (i : ℕ) (d : Spot) → CanLeave s room kept → spots ≡ s.spots → i < length spots → IsLeavingOn s room book now olds left → (get_or spots i d).number < length book
item_inside s room book kept now olds spots left i d can same less h =
    let there : (get_or spots i d).number < length room = all_got (λ (t : Spot). t.number < length room) s.spots i (get_or spots i d) can.inside (ap (λ (ps : List Spot). slice_get ps i) (sym same) ∙ slice_get-get_or spots i d less) in
    let size : length book ≡ length room = ap (λ (b : List Txn). length b) h.are.book_is ∙ vacants_size left room in
    omega (arith, there, size)

inside_sized : (book new : List Txn) (forms : List Replaced) → length new ≡ length book → AllByRecursion (IsInside book) forms → AllByRecursion (IsInside new) forms
inside_sized book new [] e h = tt
inside_sized book new (r ∷ forms) e h = (let one = h.0 in omega (arith, e, one), inside_sized book new forms e h.1)

pub leaving_more : (s : Scene) (room book new : List Txn) (kept after : Kept) (olds more : List Replaced) (spots : List Spot) (i : ℕ) (d : Spot) → i < length spots → (get_or spots i d).number < length book
    → IsLeavingOn s room book kept olds (take i spots) → Leaves (get_or spots i d) book new kept after olds more → IsLeavingOn s room new after more (take (i + 1) spots)
leaving_more s room book new kept after olds more spots i d less there h v =
    subst (λ (left : List Spot). IsLeavingOn s room new after more left) (sym (take_more spots i d less))
    (record {
      are = left_more s room book new kept after (take i spots) (get_or spots i d) olds more h.are v;
      back = (λ j. put_back (v.book_is j) (v.olds_are j)) ∙ back_last book olds (get_or spots i d) v.old (vacant (get_or spots i d).day) v.was ∙ h.back;
      inside = subst (λ (rs : List Replaced). AllByRecursion (IsInside new) rs) (sym v.olds_are)
          (all-push (IsInside new) olds (at_spot (get_or spots i d) v.old) (inside_sized book new olds size h.inside) here);
    })
  where
    size : length new ≡ length book
    size = ap (λ (b : List Txn). length b) v.book_is ∙ length-set book (get_or spots i d).number (vacant (get_or spots i d).day)

    here : (get_or spots i d).number < length new
    here = let e = size in omega (arith, e, there)

pub leaving_done : (s : Scene) (room book : List Txn) (kept : Kept) (olds : List Replaced) (spots : List Spot) (i : ℕ) → spots ≡ s.spots → length spots ≤ i → IsLeavingOn s room book kept olds (take i spots) → AreLeft s room book kept s.spots
leaving_done s room book kept olds spots i same past h = subst (λ (left : List Spot). AreLeft s room book kept left) (take_all i spots past ∙ same) h.are

-- a step that fails leaves both as they were
pub still_back : (room book new : List Txn) (olds more : List Replaced) → new ≡ book → more ≡ olds → put_back book olds ≡ room → put_back new more ≡ room
still_back room book new olds more same also h = (λ i. put_back (same i) (also i)) ∙ h

pub still_in : (book new : List Txn) (olds more : List Replaced) → new ≡ book → more ≡ olds → AllByRecursion (IsInside book) olds → AllByRecursion (IsInside new) more
still_in book new olds more same also h =
    subst (λ (b : List Txn). AllByRecursion (IsInside b) more) (sym same) (subst (λ (rs : List Replaced). AllByRecursion (IsInside book) rs) (sym also) h)

-- ---- before the first step of the walk

pub can_leave : (s : Scene) (room : List Txn) (kept : Kept) (reach : Reach) → IsReady s room kept reach → CanLeave s room kept
can_leave s room kept reach ready = record {
  left = record {
    book_is = refl;
    sums = ready_sums s room kept reach ready;
    days = ready.kept_is.days;
    symbols = ready.symbols;
  };
  inside = room_inside s ready.before room ready.edited ready.room_is;
}

pub left_takes : (s : Scene) (room new : List Txn) (kept : Kept) (w : Walking) (reach : Reach) → IsReady s room kept reach → AreLeft s room new w.kept s.spots → w.taken.items ≡ [] → Takes s new w reach
left_takes s room new kept w reach ready left none = record {
  partly = subst (λ (rs : List Replaced). IsPartly s new w.kept [] rs) (sym none) (partly_begins s room new kept w.kept reach ready left);
  walks = subst (λ (rs : List Replaced). Walks (edit_in s) (spots_of rs) (spots_of rs) reach) (sym none) ready.begins;
}

pub left_walked : (s : Scene) (room new : List Txn) (kept : Kept) (r : Result Walked WalkFault) → AreLeft s room new kept s.spots → IfOk r (IsWalkedIn s new) → IfOk r (IsWalkedIn s (with_vacants s.spots room))
left_walked s room new kept r left h = subst (λ (b : List Txn). IfOk r (IsWalkedIn s b)) left.book_is h

-- what is kept of it
pub ready_whole : (s : Scene) (room : List Txn) (kept : Kept) (reach : Reach) → IsReady s room kept reach → IsWhole room kept
ready_whole s room kept reach ready = (ready_sums s room kept reach ready, ready.kept_is.days)

pub ready_copy : (s : Scene) (room : List Txn) (kept copy : Kept) (reach : Reach) → IsReady s room kept reach → IsWhole room copy → IsReady s room copy reach
ready_copy s room kept copy reach ready whole = record {
  before = ready.before;
  edited = ready.edited;
  room_is = ready.room_is;
  kept_is = record { stand = whole.0.stand; days = whole.1; turnover = whole.0.turnover };
  symbols = ready.symbols;
  begins = ready.begins;
}

pub is_ready : (s : Scene) (before room : List Txn) (kept : Kept) (reach : Reach) → IsEdited s before → IsKept before kept → HasSymbols s.symbols before → Begins s reach → room ≡ with_room s.written before → IsReady s room kept reach
is_ready s before room kept reach edited keeps symbols begins is = record {
  before = before;
  edited = edited;
  room_is = is;
  kept_is = subst (λ (b : List Txn). IsKept b kept) (sym is) (room_kept s.written before kept keeps);
  symbols = subst (λ (b : List Txn). HasSymbols s.symbols b) (sym is) (room_symbols s.written before s.symbols symbols);
  begins = begins before edited;
}

pub cut_back : (before end last : List Txn) (count : ℕ) → count ≡ length before → take (length before) end ≡ before → last ≡ take count end → last ≡ before
cut_back before end last count size back cut = cut ∙ ap (λ (n : ℕ). take n end) size ∙ back
