-- The fault of the first group whose transaction doesn't balance is that of the whole, where all else is right.
use Rattle.std.proofs.Common.{◌≡◌, ℕ, Bool, true, List, [], ◌∷◌, ◌++◌, map, Option, Some, None, Err, refl, sym, ap, subst, ◌∙◌, append_assoc}
use Rattle.std.specs.List.{AllByRecursion, slice_get}
use Rattle.std.proofs.lemmas.Grind.{flat_map-append}
use Rattle.book.specs.Postings.{postings_of, txns_of}
use Rattle.book.specs.SumsBefore.{placed_from}
use Rattle.book.specs.declared.fault.Cause.{Cause}
use Rattle.book.specs.declared.fault.Cause.TheVariants as cause
use Rattle.book.specs.declared.fault.Fault.{Fault}
use Rattle.book.specs.declared.item.Placed.{Placed}
use Rattle.book.specs.declared.transaction.Posting.{Posting}
use Rattle.book.specs.declared.transaction.Txn.{Txn}
use Rattle.entry_balance.specs.Entry.{cause_alone, moved, moved_by, settled}
use Rattle.entry_balance.specs.Tally.{turnover_fits}
use Rattle.entry_balance.specs.Values.{Value}
use Rattle.entry_balance.proofs.Turnover.{fits-first}
use Rattle.assertions.specs.Assertions.{first_failure, or_else_fault}
use Rattle.balancing.specs.Assigned.{shortened}
use Rattle.balancing.specs.Groups.{Group, groups_from, groups_of}
use Rattle.balancing.specs.Load.{book_of, fault_at, fault_of_group, first_fault, group_cause, load, load_txns, loaded, moved_of_group}
use Rattle.balancing.specs.Parts.{postings_of_group}
use Rattle.balancing.specs.Solves.{AreMadeTxns, IsAssertedAt}
use Rattle.balancing.proofs.Solving.{asserted_walk, load_ready}
use Rattle.balancing.proofs.SolvingBook.{HasNone, HoldsAfter, book_covered, moved_is, none_found, none_of, text_names, walk_names}
use Rattle.balancing.proofs.SolvingGroups.{Ascends, each_once-ascends}
use Rattle.balancing.proofs.SolvingLists.{found_on}
use Rattle.balancing.proofs.SolvingOrders.{Reorders, by_equal, joined, mapped, spread}
use Rattle.balancing.proofs.SolvingRising.{Rising, walk_rises}
use Rattle.balancing.proofs.SolvingSeen.{EachAfter, each_first}
use Rattle.balancing.proofs.SolvingSums.{fits_same}
use Rattle.balancing.proofs.SolvingWalk.{Entry, walk_of, walk_reorders}
use Rattle.additions.specs.Coming.{fault_alone}
use Rattle.additions.proofs.Unassigned.{Unassigned, all_ready, made_same}

-- ---- the fault of a group

fits_cause : (c : Option Cause) → group_cause true c ≡ c
fits_cause None = refl
fits_cause (Some cause.Form) = refl
fits_cause (Some cause.Date) = refl
fits_cause (Some cause.Number) = refl
fits_cause (Some cause.Account) = refl
fits_cause (Some cause.StatusMark) = refl
fits_cause (Some cause.Directive) = refl
fits_cause (Some cause.Quote) = refl
fits_cause (Some cause.TooLong) = refl
fits_cause (Some cause.Encoding) = refl
fits_cause (Some cause.TwoMissing) = refl
fits_cause (Some cause.NotAllowed) = refl
fits_cause (Some (cause.Unbalanced symbol sum)) = refl
fits_cause (Some (cause.AssertionFailed wanted found)) = refl
fits_cause (Some cause.Range) = refl

-- in range, it is what is wrong with its transaction
group_alone : (before : List Value) (day : ℕ) (o : Option Txn) → turnover_fits (before ++ moved (postings_of_group day o)) ≡ true → fault_of_group before day o ≡ fault_alone o
group_alone before day None fits = refl
group_alone before day (Some t) fits =
    ap (fault_at t.line) (ap (λ (b : Bool). group_cause b (cause_alone t.postings)) fits ∙ fits_cause (cause_alone t.postings))

or_first : (a b : Option Fault) (f : Fault) → a ≡ Some f → or_else_fault a b ≡ Some f
or_first a b f h = ap (λ (o : Option Fault). or_else_fault o b) h

-- the first fault is that of a group behind some that have none
first_behind : (made : List Txn) (before : List Value) (seen : List Posting) (gs : List Group) (g : Group) (after : List Group) (f : Fault) → first_fault made before seen gs ≡ None
    → fault_of_group (before ++ moved (found_on made gs)) g.0 (slice_get made g.1) ≡ Some f → first_fault made before seen (gs ++ g ∷ after) ≡ Some f
first_behind made before seen [] g after f none is =
    or_first (fault_of_group before g.0 (slice_get made g.1)) _ f (ap (λ (vs : List Value). fault_of_group vs g.0 (slice_get made g.1)) (sym (nothing before)) ∙ is)
  where
    nothing : (xs : List Value) → xs ++ [] ≡ xs
    nothing [] = refl
    nothing (x ∷ xs) = ap (λ (ys : List Value). x ∷ ys) (nothing xs)
first_behind made before seen (h ∷ gs) g after f none is =
    let o = slice_get made h.1 in
    let group = postings_of_group h.0 o in
    let next = before ++ moved_of_group h.0 o in
    let parts = none_of (fault_of_group before h.0 o) (or_else_fault (first_failure seen group) (first_fault made next (seen ++ group) gs)) none in
    let more = none_of (first_failure seen group) (first_fault made next (seen ++ group) gs) parts.1 in
    let moves : before ++ moved (group ++ found_on made gs) ≡ next ++ moved (found_on made gs) =
    ap (λ (vs : List Value). before ++ vs) (flat_map-append moved_by group (found_on made gs) ∙ ap (λ (vs : List Value). vs ++ moved (found_on made gs)) (sym (moved_is h.0 o)))
    ∙ sym (append_assoc before (moved_of_group h.0 o) (moved (found_on made gs))) in
    ap (λ (x : Option Fault). or_else_fault x (or_else_fault (first_failure seen group) (first_fault made next (seen ++ group) (gs ++ g ∷ after)))) parts.0
    ∙ ap (λ (x : Option Fault). or_else_fault x (first_fault made next (seen ++ group) (gs ++ g ∷ after))) more.0
    ∙ first_behind made next (seen ++ group) gs g after f more.1 (ap (λ (vs : List Value). fault_of_group vs g.0 (slice_get made g.1)) (sym moves) ∙ is)

-- ---- the whole

module _ (ws ms : List Txn) (kept : AreMadeTxns ws ms) (none : AllByRecursion Unassigned ws) where
  abbrev book : List Txn
  book = map settled ms

  abbrev gs : List Group
  gs = groups_of ms

  abbrev walk : List Entry
  walk = walk_of book gs

  up : Ascends gs
  up = each_once-ascends (groups_from 0 ms)

  reorders : Reorders (placed_from 0 book) walk
  reorders = walk_reorders book gs up (book_covered ms)

  rises : Rising walk
  rises = walk_rises book gs up

  found : map (λ (e : Entry). e.1) walk ≡ found_on ms gs
  found = walk_names ms gs

  -- nothing is made for them
  same : ms ≡ ws
  same = made_same ws ms none kept

  module _ (claims : AllByRecursion (IsAssertedAt book) (placed_from 0 book)) (fits : turnover_fits (moved (postings_of book)) ≡ true) where
    moves : Reorders (moved (postings_of book)) (moved (found_on ms gs))
    moves =
        joined (by_equal (ap moved (sym (text_names 0 book)))) (joined (spread moved_by (mapped (λ (e : Entry). e.1) reorders)) (by_equal (ap moved found)))

    hold : EachAfter HoldsAfter [] (found_on ms gs)
    hold = subst (λ (ps : List Posting). EachAfter HoldsAfter [] ps) found (asserted_walk shortened book walk reorders rises claims)

    all_fit : turnover_fits (moved (found_on ms gs)) ≡ true
    all_fit = sym (fits_same moves) ∙ fits

    module _ (before : List Group) (g : Group) (after : List Group) (order : gs ≡ before ++ g ∷ after) (sound : AllByRecursion (λ h. HasNone (slice_get ms h.1)) before) where
      abbrev first : List Posting
      first = found_on ms before

      abbrev own : List Posting
      own = postings_of_group g.0 (slice_get ms g.1)

      abbrev rest : List Posting
      rest = found_on ms after

      parts : found_on ms gs ≡ first ++ (own ++ rest)
      parts = ap (found_on ms) order ∙ flat_map-append (λ (h : Group). postings_of_group h.0 (slice_get ms h.1)) before (g ∷ after)

      moved_parts : moved (found_on ms gs) ≡ (moved first ++ moved own) ++ moved rest
      moved_parts =
          ap moved parts ∙ flat_map-append moved_by first (own ++ rest)
          ∙ ap (λ (vs : List Value). moved first ++ vs) (flat_map-append moved_by own rest)
          ∙ sym (append_assoc (moved first) (moved own) (moved rest))

      own_fits : turnover_fits (moved first ++ moved own) ≡ true
      own_fits = fits-first (moved first ++ moved own) (moved rest) (ap turnover_fits (sym moved_parts) ∙ all_fit)

      first_fits : turnover_fits (moved first) ≡ true
      first_fits = fits-first (moved first) (moved own) own_fits

      none_before : first_fault ms [] [] before ≡ None
      none_before = none_found ms [] [] before (record {
        hold = each_first HoldsAfter [] first (own ++ rest) (subst (λ (ps : List Posting). EachAfter HoldsAfter [] ps) parts hold);
        fits = first_fits;
        causes = sound;
      })

      -- The fault of the group is that of the whole.
      pub refuses : (fault : Fault) → fault_alone (slice_get ms g.1) ≡ Some fault → (items : List Placed) → txns_of items ≡ ws → load items ≡ Err fault
      refuses fault is items written =
          let here : fault_of_group (moved first) g.0 (slice_get ms g.1) ≡ Some fault = group_alone (moved first) g.0 (slice_get ms g.1) own_fits ∙ is in
          let there : first_fault ms [] [] gs ≡ Some fault = ap (first_fault ms [] []) order ∙ first_behind ms [] [] before g after fault none_before here in
          ap load_txns written ∙ load_ready ws (all_ready ws none) ∙ ap book_of (sym same) ∙ ap (loaded ms) there
