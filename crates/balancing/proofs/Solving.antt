-- The book that a text is loaded to solves its transactions, and no other book does.
use Rattle.std.proofs.Common.{◌≡◌, ℕ, suc, Bool, true, false, List, [], ◌∷◌, ◌++◌, map, filter, Option, Some, None, Result, Ok, Err, refl, sym, ap, ◌∙◌, subst}
use Rattle.std.specs.List.{list_all, slice_get, AllByRecursion}
use Rattle.hl_num.specs.Decimal.{Decimal, negated}
use Rattle.book.specs.declared.amount.Assertion.{Assertion}
use Rattle.book.specs.declared.fault.Fault.{Fault}
use Rattle.book.specs.declared.transaction.Posting.{Posting}
use Rattle.book.specs.declared.transaction.Txn.{Txn}
use Rattle.book.specs.declared.item.Placed.{Placed}
use Rattle.book.specs.declared.item.Book.{Book}
use Rattle.book.specs.Mixed.{plus}
use Rattle.book.specs.Order.{each_once}
use Rattle.book.specs.Postings.{postings_of, txns_of}
use Rattle.book.specs.SumsBefore.{is_before, placed_from}
use Rattle.entry_balance.specs.Values.{Value}
use Rattle.entry_balance.specs.Tally.{turnover_fits}
use Rattle.entry_balance.specs.Entry.{settled, moved, moved_by, cause_alone, plain_amount}
use Rattle.balancing.specs.Groups.{Group, group_cmp, groups_from, groups_of}
use Rattle.assertions.specs.Assertions.{is_same, is_other, held_in}
use Rattle.balancing.specs.Assigned.{shortened, whole, is_ready, assigned, assigned_by, given_from_by}
use Rattle.balancing.specs.Load.{first_fault, loaded, book_of, carries_sum, told_if, or_told, load_txns, load}
use Rattle.balancing.specs.Solves.{are_unmarked, is_allowed, values_before, just_after, amount_at_by, IsAssignedAtBy, Holds, HoldsIf, IsAssertedAt, Solves, SolvesBy}
use Rattle.balancing.specs.Parts.{postings_of_group}
use Rattle.balancing.proofs.Given.{given_at-same_by}
use Rattle.balancing.proofs.SolvingOrders.{Reorders, joined, back, by_equal, mapped, spread, all_same}
use Rattle.balancing.proofs.SolvingSums.{total_same, sums_same, fits_same}
use Rattle.balancing.proofs.SolvingGroups.{Ascends, each_once-ascends, Covered}
use Rattle.balancing.proofs.SolvingWalk.{Entry, group_in, walk_of, walk_reorders}
use Rattle.balancing.proofs.SolvingRising.{Rising, walk_rises, before_place, through_place}
use Rattle.balancing.proofs.SolvingSeen.{EachAfter, held_before, at_places, after_fronts}
use Rattle.balancing.proofs.SolvingMade.{AssignedAfter, amount_after}
use Rattle.balancing.proofs.SolvingFixed.{Fixed, own_groups, fixed_assigned}
use Rattle.balancing.proofs.SolvingLists.{found_on, fixed_is_assigned, assigned_is_fixed, fixed_alike, fixed_given, each_number, made_equal, AreGiven, are_given, GivenAt, from_length, given_groups, given_made_txns}
use Rattle.balancing.proofs.SolvingBook.{book_covered, made_groups, walk_names, text_names, HoldsAfter, HasNone, NoFault, no_fault, none_found, all_with_none, all_allowed}
use Rattle.std.proofs.lemmas.List.{map-append}

-- ---- a place and the front of the walk before it

module _ (enter : Decimal → Decimal) (book : List Txn) (walk : List Entry) (r : Reorders (placed_from 0 book) walk) (up : Rising walk) where
  amount_there : (front : List Entry) (e : Entry) (rest : List Entry) → walk ≡ front ++ e ∷ rest → (o : Option Assertion) → amount_after enter (map (λ (e : Entry). e.1) front) e.1 o ≡ amount_at_by enter book e.0 e.1 o
  amount_there front e rest is None = refl
  amount_there front e rest is (Some w) =
      let before : filter (λ (x : Entry). is_before x.0 e.0) walk ≡ front = ap (filter (λ (x : Entry). is_before x.0 e.0)) is ∙ before_place front e rest (subst Rising is up) in
      ap (λ (d : Decimal). Some (plain_amount (w.amount.symbol, plus w.amount.value (negated (enter d)))))
      (sym (total_same w.amount.symbol (held_before book walk front e.0 e.1.account w.below r before)))

  -- an assignment after a front is one at its place
  assigned_place : (front : List Entry) (e : Entry) (rest : List Entry) → walk ≡ front ++ e ∷ rest → AssignedAfter enter (map (λ (e : Entry). e.1) front) e.1 → IsAssignedAtBy enter book e
  assigned_place front e rest is h marked = h marked ∙ amount_there front e rest is e.1.wanted

  pub assigned_front : (front : List Entry) (e : Entry) (rest : List Entry) → walk ≡ front ++ e ∷ rest → IsAssignedAtBy enter book e → AssignedAfter enter (map (λ (e : Entry). e.1) front) e.1
  assigned_front front e rest is h marked = h marked ∙ sym (amount_there front e rest is e.1.wanted)

  holds_there : (w : Assertion) (xs ys : List Value) → Reorders xs ys → Holds w ys → Holds w xs
  holds_there w xs ys s h = record {
    sum = ap (λ (d : Decimal). is_same d w.amount.value) (total_same w.amount.symbol s) ∙ h.sum;
    only = λ asked. ap (filter (is_other w.amount.symbol)) (sums_same s) ∙ h.only asked;
  }

  asserted_by : (front : List Entry) (e : Entry) (rest : List Entry) → walk ≡ front ++ e ∷ rest → (o : Option Assertion) → HoldsIf o (λ w. held_in w.below e.1.account (map (λ (e : Entry). e.1) front ++ e.1 ∷ [])) → HoldsIf o (λ w. values_before book e.1.account w.below (just_after e.0))
  asserted_by front e rest is None h = tt
  asserted_by front e rest is (Some w) h =
      let through : filter (λ (x : Entry). is_before x.0 (just_after e.0)) walk ≡ front ++ e ∷ [] = ap (filter (λ (x : Entry). is_before x.0 (just_after e.0))) is ∙ through_place front e rest (subst Rising is up) in
      let held = subst (λ (ps : List Posting). Holds w (held_in w.below e.1.account ps)) (sym (map-append (λ (e : Entry). e.1) front (e ∷ []))) h in
      holds_there w (values_before book e.1.account w.below (just_after e.0)) (held_in w.below e.1.account (map (λ (e : Entry). e.1) (front ++ e ∷ []))) (held_before book walk (front ++ e ∷ []) (just_after e.0) e.1.account w.below r through) held

  asserted_from : (front : List Entry) (e : Entry) (rest : List Entry) → walk ≡ front ++ e ∷ rest → (o : Option Assertion) → HoldsIf o (λ w. values_before book e.1.account w.below (just_after e.0)) → HoldsIf o (λ w. held_in w.below e.1.account (map (λ (e : Entry). e.1) front ++ e.1 ∷ []))
  asserted_from front e rest is None h = tt
  asserted_from front e rest is (Some w) h =
      let through : filter (λ (x : Entry). is_before x.0 (just_after e.0)) walk ≡ front ++ e ∷ [] = ap (filter (λ (x : Entry). is_before x.0 (just_after e.0))) is ∙ through_place front e rest (subst Rising is up) in
      subst (λ (ps : List Posting). Holds w (held_in w.below e.1.account ps)) (map-append (λ (e : Entry). e.1) front (e ∷ []))
      (holds_there w (held_in w.below e.1.account (map (λ (e : Entry). e.1) (front ++ e ∷ []))) (values_before book e.1.account w.below (just_after e.0)) (back (held_before book walk (front ++ e ∷ []) (just_after e.0) e.1.account w.below r through)) h)

  asserted_front : (front : List Entry) (e : Entry) (rest : List Entry) → walk ≡ front ++ e ∷ rest → IsAssertedAt book e → HoldsAfter (map (λ (e : Entry). e.1) front) e.1
  asserted_front front e rest is h = asserted_from front e rest is e.1.wanted h

  asserted_place : (front : List Entry) (e : Entry) (rest : List Entry) → walk ≡ front ++ e ∷ rest → HoldsAfter (map (λ (e : Entry). e.1) front) e.1 → IsAssertedAt book e
  asserted_place front e rest is h = asserted_by front e rest is e.1.wanted h

  pub each_assigned : EachAfter (AssignedAfter enter) [] (map (λ (e : Entry). e.1) walk) → AllByRecursion (IsAssignedAtBy enter book) (placed_from 0 book)
  each_assigned h = all_same (IsAssignedAtBy enter book) (back r) (at_places walk (AssignedAfter enter) (IsAssignedAtBy enter book) assigned_place [] walk refl h)

  pub each_asserted : EachAfter HoldsAfter [] (map (λ (e : Entry). e.1) walk) → AllByRecursion (IsAssertedAt book) (placed_from 0 book)
  each_asserted h = all_same (IsAssertedAt book) (back r) (at_places walk HoldsAfter (IsAssertedAt book) asserted_place [] walk refl h)

  pub assigned_walk : AllByRecursion (IsAssignedAtBy enter book) (placed_from 0 book) → EachAfter (AssignedAfter enter) [] (map (λ (e : Entry). e.1) walk)
  assigned_walk h = after_fronts walk (AssignedAfter enter) (IsAssignedAtBy enter book) assigned_front [] walk refl (all_same (IsAssignedAtBy enter book) r h)

  pub asserted_walk : AllByRecursion (IsAssertedAt book) (placed_from 0 book) → EachAfter HoldsAfter [] (map (λ (e : Entry). e.1) walk)
  asserted_walk h = after_fronts walk HoldsAfter (IsAssertedAt book) asserted_front [] walk refl (all_same (IsAssertedAt book) r h)

-- ---- the walk of a book

module _ (written made : List Txn) (same : groups_of made ≡ groups_of written) where
  abbrev book : List Txn
  book = map settled made

  abbrev walk : List Entry
  walk = walk_of book (groups_of written)

  ascends : Ascends (groups_of written)
  ascends = each_once-ascends (groups_from 0 written)

  reorders : Reorders (placed_from 0 book) walk
  reorders = walk_reorders book (groups_of written) ascends (subst (λ (gs : List Group). Covered group_in gs (placed_from 0 book)) same (book_covered made))

  rises : Rising walk
  rises = walk_rises book (groups_of written) ascends

  is_found_on : map (λ (e : Entry). e.1) walk ≡ found_on made (groups_of written)
  is_found_on = walk_names made (groups_of written)

  moved_order : Reorders (moved (postings_of book)) (moved (found_on made (groups_of written)))
  moved_order =
      joined (by_equal (ap moved (sym (text_names 0 book)))) (joined (spread moved_by (mapped (λ (e : Entry). e.1) reorders)) (by_equal (ap moved is_found_on)))

-- ---- assignments that are made group after group

module _ (enter : Decimal → Decimal) (written : List Txn) where
  pub are : AreGiven enter written (assigned_by enter written)
  are = are_given enter written (assigned_by enter written) (from_length enter written [] (groups_of written)) (each_number (GivenAt enter written (assigned_by enter written)) written (fixed_given enter written (assigned_by enter written) [] (groups_of written) (fixed_assigned enter written)))

  pub same_groups : groups_of (assigned_by enter written) ≡ groups_of written
  same_groups = ap (each_once group_cmp) (given_groups enter 0 written (assigned_by enter written) are)

-- ---- the book that a text is loaded to

module _ (enter : Decimal → Decimal) (written : List Txn) (unmarked : are_unmarked written ≡ true) (none : first_fault (assigned_by enter written) [] [] (groups_of (assigned_by enter written)) ≡ None) where
  abbrev made : List Txn
  made = assigned_by enter written

  facts : NoFault made [] [] (groups_of made)
  facts = no_fault made [] [] (groups_of made) refl none

  listed : (ms : List Txn) → ((n : ℕ) (t : Txn) → slice_get ms n ≡ Some t → HasNone (slice_get ms n)) → AllByRecursion (λ t. cause_alone t.postings ≡ None) ms
  listed [] h = tt
  listed (m ∷ ms) h = (h 0 m refl, listed ms (λ n t e. h (suc n) t e))

  causes : AllByRecursion (λ t. cause_alone t.postings ≡ None) made
  causes = listed made (each_number (λ n. HasNone (slice_get made n)) made facts.causes)

  allowed : list_all is_allowed written ≡ true
  allowed = all_allowed enter written made (are enter written) causes

  pub solved_by_load : SolvesBy enter written (map settled made)
  solved_by_load = record {
    unmarked = unmarked;
    allowed = allowed;
    made = made;
    kept = given_made_txns enter written made (are enter written) allowed;
    balanced = causes;
    found = refl;
    assigned = each_assigned enter (map settled made) (walk written made (same_groups enter written)) (reorders written made (same_groups enter written)) (rises written made (same_groups enter written))
        (subst (λ (ps : List Posting). EachAfter (AssignedAfter enter) [] ps) (sym (is_found_on written made (same_groups enter written)))
        (fixed_is_assigned enter written unmarked made [] (groups_of written) (own_groups written) (fixed_assigned enter written)));
    asserted = each_asserted enter (map settled made) (walk written made (same_groups enter written)) (reorders written made (same_groups enter written)) (rises written made (same_groups enter written))
        (subst (λ (ps : List Posting). EachAfter HoldsAfter [] ps) (ap (found_on made) (same_groups enter written) ∙ sym (is_found_on written made (same_groups enter written))) facts.hold);
    fits = fits_same (moved_order written made (same_groups enter written)) ∙ ap (λ (gs : List Group). turnover_fits (moved (found_on made gs))) (sym (same_groups enter written)) ∙ facts.fits;
  }

no_fault_in : (txns : List Txn) (o : Option Fault) (book : Book) → loaded txns o ≡ Ok book → (o ≡ None) × (book.txns ≡ map settled txns)
no_fault_in txns None book h = let same : record { txns = map settled txns } ≡ book = cc in (refl, ap (λ (b : Book). b.txns) (sym same))
no_fault_in txns (Some f) book h = absurd (let never : ⊥ = cc in never)

module _ (enter : Decimal → Decimal) where
  -- the book that is made of what is written solves it
  pub book_solves : (written : List Txn) (book : Book) → are_unmarked written ≡ true → book_of (assigned_by enter written) ≡ Ok book → SolvesBy enter written book.txns
  book_solves written book unmarked h =
      let parts = no_fault_in (assigned_by enter written) (first_fault (assigned_by enter written) [] [] (groups_of (assigned_by enter written))) book h in
      subst (SolvesBy enter written) (sym parts.1) (solved_by_load enter written unmarked parts.0)

  solved_fixed : (written book : List Txn) → (s : SolvesBy enter written book) → Fixed enter written s.made [] (groups_of written)
  solved_fixed written b s =
      let same = made_groups written s.made s.kept in
      let whole = map settled s.made in
      let at_places = subst (λ (x : List Txn). AllByRecursion (IsAssignedAtBy enter x) (placed_from 0 x)) s.found s.assigned in
      let each = assigned_walk enter whole (walk written s.made same) (reorders written s.made same) (rises written s.made same) at_places in
      assigned_is_fixed enter written s.unmarked s.allowed s.made s.kept [] (groups_of written) (own_groups written)
      (subst (λ (ps : List Posting). EachAfter (AssignedAfter enter) [] ps) (is_found_on written s.made same) each)

  -- what solves a text is made group after group
  solved_made : (written book : List Txn) → (s : SolvesBy enter written book) → s.made ≡ assigned_by enter written
  solved_made written b s =
      let alike = fixed_alike enter written s.made (assigned_by enter written) [] (groups_of written) (solved_fixed written b s) (fixed_assigned enter written) in
      made_equal written s.made (assigned_by enter written) s.kept (given_made_txns enter written (assigned_by enter written) (are enter written) s.allowed)
      (each_number (λ n. slice_get s.made n ≡ slice_get (assigned_by enter written) n) written alike)

  -- at most one book solves what is written
  pub solves_once_by : (written a b : List Txn) → SolvesBy enter written a → SolvesBy enter written b → a ≡ b
  solves_once_by written a b s t = s.found ∙ ap (map settled) (solved_made written a s ∙ sym (solved_made written b t)) ∙ sym t.found

  solved_facts : (written book : List Txn) → (s : SolvesBy enter written book) → NoFault s.made [] [] (groups_of s.made)
  solved_facts written b s =
      let same = made_groups written s.made s.kept in
      let whole = map settled s.made in
      let asserted = subst (λ (x : List Txn). AllByRecursion (IsAssertedAt x) (placed_from 0 x)) s.found s.asserted in
      let each = asserted_walk enter whole (walk written s.made same) (reorders written s.made same) (rises written s.made same) asserted in
      subst (NoFault s.made [] []) (sym same) (record {
        hold = subst (λ (ps : List Posting). EachAfter HoldsAfter [] ps) (is_found_on written s.made same) each;
        fits = sym (fits_same (moved_order written s.made same)) ∙ ap (λ (x : List Txn). turnover_fits (moved (postings_of x))) (sym s.found) ∙ s.fits;
        causes = all_with_none s.made (groups_of written) s.balanced;
      })

  -- what solves a text is the book that is made of it
  pub solves_book : (written : List Txn) (book : Book) → SolvesBy enter written book.txns → book_of (assigned_by enter written) ≡ Ok book
  solves_book written book s =
      let none = none_found s.made [] [] (groups_of s.made) (solved_facts written book.txns s) in
      let here : book_of s.made ≡ Ok book = ap (loaded s.made) none ∙ ap (λ (x : List Txn). let b : Book = record { txns = x } in Ok b) (sym s.found) in
      ap book_of (sym (solved_made written book.txns s)) ∙ here

-- ---- the book that a text is loaded to

pub own_book : (own other : Result Book Fault) (result : Book) → or_told own other ≡ Ok result → own ≡ Ok result
own_book (Ok x) other result h = h
own_book (Err f) other result h = absurd (let never : ⊥ = cc in never)

-- a book stays, whatever may be told in place of a fault
pub still_book : (own other : Result Book Fault) (result : Book) → own ≡ Ok result → or_told own other ≡ Ok result
still_book own other result h = ap (λ (r : Result Book Fault). or_told r other) h

-- where two ways make the same, it is told
pub told_same : (own : Result Book Fault) → or_told own own ≡ own
told_same (Ok result) = refl
told_same (Err f) = ap (λ (x : Fault). let r : Result Book Fault = Err x in r) (by (carries_sum f.cause))
  where
    by : (b : Bool) → told_if b f (Err f) ≡ f
    by true = refl
    by false = refl

given_nothing : (enter : Decimal → Decimal) (ts : List Txn) (seen : List Posting) (gs : List Group) → ((n : ℕ) → is_ready (slice_get ts n) ≡ true) → given_from_by enter ts seen gs ≡ ts
given_nothing enter ts seen [] ready = refl
given_nothing enter ts seen (g ∷ gs) ready =
    ap (λ (us : List Txn). given_from_by enter us (seen ++ postings_of_group g.0 (slice_get us g.1)) gs) (given_at-same_by enter seen g.1 ts (ready g.1))
    ∙ given_nothing enter ts (seen ++ postings_of_group g.0 (slice_get ts g.1)) gs ready

-- where no assignment is to be made, all is as it is written
pub load_ready : (ts : List Txn) → ((n : ℕ) → is_ready (slice_get ts n) ≡ true) → load_txns ts ≡ book_of ts
load_ready ts ready =
    (λ i. or_told (book_of (given_nothing shortened ts [] (groups_of ts) ready i)) (book_of (given_nothing whole ts [] (groups_of ts) ready i))) ∙ told_same (book_of ts)

-- the book that a text is loaded to solves what is written
pub load_solves : (items : List Placed) (book : Book) → are_unmarked (txns_of items) ≡ true → load items ≡ Ok book → Solves (txns_of items) book.txns
load_solves items book unmarked h =
    let written = txns_of items in
    book_solves shortened written book unmarked (own_book (book_of (assigned written)) (book_of (assigned_by whole written)) book h)

-- what solves a text is what it is loaded to
pub solves_loads : (items : List Placed) (book : Book) → Solves (txns_of items) book.txns → load items ≡ Ok book
solves_loads items book s =
    let written = txns_of items in
    still_book (book_of (assigned written)) (book_of (assigned_by whole written)) book (solves_book shortened written book s)

-- at most one book solves what is written
pub solves_once : (written a b : List Txn) → Solves written a → Solves written b → a ≡ b
solves_once written a b s t = solves_once_by shortened written a b s t
