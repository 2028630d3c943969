-- The error of a load is the fault of the text, and the fault of a text is the error of its load.
use Rattle.std.proofs.Common.{◌≡◌, ℕ, Bool, true, false, cond, ◌&&◌, ◌||◌, not, List, [], ◌∷◌, ◌++◌, map, filter, Option, Some, None, is_none, Result, Ok, Err, inl, inr, refl, sym, ap, ◌∙◌, subst}
use Rattle.std.specs.List.{slice_get, AllByRecursion}
use Rattle.std.specs.Option.{option_map}
use Rattle.std.proofs.lemmas.List.{append_assoc, append-nil, map-append}
use Rattle.std.proofs.lemmas.Grind.{flat_map-append}
use Rattle.hl_num.specs.Decimal.{Decimal}
use Rattle.book.specs.declared.fault.Fault.{Fault}
use Rattle.book.specs.declared.transaction.Posting.{Posting}
use Rattle.book.specs.declared.transaction.Txn.{Txn}
use Rattle.book.specs.declared.item.Book.{Book}
use Rattle.book.specs.declared.item.Placed.{Placed}
use Rattle.book.specs.Postings.{txns_of}
use Rattle.book.specs.SumsBefore.{placed_from}
use Rattle.entry_balance.specs.Values.{Value}
use Rattle.entry_balance.specs.Tally.{turnover_fits}
use Rattle.entry_balance.specs.Entry.{settled, moved, moved_by, cause_alone, has_assignment, assignment_fault}
use Rattle.balancing.specs.Groups.{Group, groups_of}
use Rattle.balancing.specs.Parts.{postings_of_group}
use Rattle.assertions.specs.Assertions.{first_failure, or_else_fault}
use Rattle.balancing.specs.Assigned.{shortened, whole, given_by, assigned_by}
use Rattle.balancing.specs.Load.{moved_on, moved_of_group, group_cause, fault_of_group, first_fault, loaded, book_of, carries_sum, told_if, told_by, or_told, load_txns, load}
use Rattle.balancing.specs.Solves.{are_unmarked, is_allowed, IsAssignedAtBy}
use Rattle.balancing.specs.Faults.{placed_through, fault_of, IsMadeIf, AreMadeIf, IsFaultBy, IsToldIf, IsFaultOf}
use Rattle.balancing.proofs.SolvingOrders.{all_same}
use Rattle.balancing.proofs.SolvingWalk.{Entry, walk_of}
use Rattle.balancing.proofs.SolvingRising.{all_append, all_left, all_right}
use Rattle.balancing.proofs.SolvingSeen.{EachAfter, each_first, each_second}
use Rattle.balancing.proofs.SolvingMade.{AssignedAfter}
use Rattle.balancing.proofs.SolvingTxn.{given_made, assigned_is_given}
use Rattle.balancing.proofs.SolvingFixed.{OwnDay, Fixed, given_not, own_groups, fixed_assigned}
use Rattle.balancing.proofs.SolvingLists.{unmarked_at, found_on, fixed_is_assigned, fixed_alike, AreGiven}
use Rattle.balancing.proofs.SolvingBook.{none_of, no_cause, group_ok, HasNone, moved_is, walk_names}
use Rattle.balancing.proofs.Solving.{assigned_front, each_assigned, are, same_groups, book_solves, solves_book}
use Rattle.balancing.proofs.FaultingPlaces.{is_through, walk_split}
use Rattle.balancing.proofs.FaultingGroups.{MadeBoth, made_both, ascends_here, answer_at, walk, walk_order, walk_up, own, through_order, through_names, group_answer}

-- ---- the first fault of some groups

-- after some postings nothing is answered for some groups
abbrev Passes : List Txn → List Posting → List Group → Type 0
Passes made seen [] = Unit {0}
Passes made seen (h ∷ hs) = (answer_at made seen h ≡ None) × Passes made (seen ++ postings_of_group h.0 (slice_get made h.1)) hs

moved_more : (made : List Txn) (seen : List Posting) (g : Group) → moved seen ++ moved_of_group g.0 (slice_get made g.1) ≡ moved (seen ++ postings_of_group g.0 (slice_get made g.1))
moved_more made seen g =
    ap (λ (vs : List Value). moved seen ++ vs) (moved_is g.0 (slice_get made g.1)) ∙ sym (flat_map-append moved_by seen (postings_of_group g.0 (slice_get made g.1)))

either_fault : (a b c : Option Fault) → or_else_fault a (or_else_fault b c) ≡ or_else_fault (or_else_fault a b) c
either_fault None b c = refl
either_fault (Some f) b c = refl

-- the first fault, by the answer of the first group
first_answer : (made : List Txn) (seen : List Posting) (g : Group) (gs : List Group) → first_fault made (moved seen) seen (g ∷ gs) ≡ or_else_fault (answer_at made seen g) (first_fault made (moved (seen ++ postings_of_group g.0 (slice_get made g.1))) (seen ++ postings_of_group g.0 (slice_get made g.1)) gs)
first_answer made seen g gs =
    either_fault (fault_of_group (moved seen) g.0 (slice_get made g.1)) (first_failure seen (postings_of_group g.0 (slice_get made g.1))) _
    ∙ ap (λ (vs : List Value). or_else_fault (answer_at made seen g) (first_fault made vs (seen ++ postings_of_group g.0 (slice_get made g.1)) gs)) (moved_more made seen g)

or_first : (a b : Option Fault) (f : Fault) → a ≡ Some f → or_else_fault a b ≡ Some f
or_first a b f h = ap (λ (o : Option Fault). or_else_fault o b) h

found_end : (made : List Txn) (seen : List Posting) (h : Group) (hs : List Group) → seen ++ found_on made (h ∷ hs) ≡ (seen ++ postings_of_group h.0 (slice_get made h.1)) ++ found_on made hs
found_end made seen h hs = sym (append_assoc seen (postings_of_group h.0 (slice_get made h.1)) (found_on made hs))

passed_fault : (made : List Txn) (seen : List Posting) (before : List Group) (g : Group) (after : List Group) (f : Fault) → Passes made seen before → answer_at made (seen ++ found_on made before) g ≡ Some f → first_fault made (moved seen) seen (before ++ g ∷ after) ≡ Some f
passed_fault made seen [] g after f pass is =
    first_answer made seen g after ∙ or_first (answer_at made seen g) _ f (ap (λ (ps : List Posting). answer_at made ps g) (sym (append-nil seen)) ∙ is)
passed_fault made seen (h ∷ before) g after f pass is =
    first_answer made seen h (before ++ g ∷ after)
    ∙ ap (λ (o : Option Fault). or_else_fault o (first_fault made (moved (seen ++ postings_of_group h.0 (slice_get made h.1))) (seen ++ postings_of_group h.0 (slice_get made h.1)) (before ++ g ∷ after))) pass.0
    ∙ passed_fault made (seen ++ postings_of_group h.0 (slice_get made h.1)) before g after f pass.1 (ap (λ (ps : List Posting). answer_at made ps g) (sym (found_end made seen h before)) ∙ is)

record Told (made : List Txn) (seen : List Posting) (gs : List Group) (f : Fault) : Type 0 where
  pub before : List Group
  pub group : Group
  pub after : List Group
  pub order : gs ≡ before ++ group ∷ after
  pub passes : Passes made seen before
  pub is : answer_at made (seen ++ found_on made before) group ≡ Some f

first_told : (made : List Txn) (seen : List Posting) (gs : List Group) (f : Fault) → first_fault made (moved seen) seen gs ≡ Some f → Told made seen gs f
first_told made seen [] f h = absurd (let never : ⊥ = cc in never)
first_told made seen (g ∷ gs) f h =
    let next = seen ++ postings_of_group g.0 (slice_get made g.1) in
    by (λ k. first_told made next gs f k) (answer_at made seen g) refl (sym (first_answer made seen g gs) ∙ h)
  where
    next : List Posting
    next = seen ++ postings_of_group g.0 (slice_get made g.1)

    later : Option Fault
    later = first_fault made (moved next) next gs

    more : answer_at made seen g ≡ None → Told made next gs f → Told made seen (g ∷ gs) f
    more none t = record {
      before = g ∷ t.before;
      group = t.group;
      after = t.after;
      order = ap (λ (hs : List Group). g ∷ hs) t.order;
      passes = (none, t.passes);
      is = ap (λ (ps : List Posting). answer_at made ps t.group) (found_end made seen g t.before) ∙ t.is;
    }

    by : (later ≡ Some f → Told made next gs f) → (o : Option Fault) → answer_at made seen g ≡ o → or_else_fault (answer_at made seen g) later ≡ Some f → Told made seen (g ∷ gs) f
    by again None e k = more e (again (ap (λ (o : Option Fault). or_else_fault o later) (sym e) ∙ k))
    by again (Some x) e k = record {
      before = [];
      group = g;
      after = gs;
      order = refl;
      passes = tt;
      is = ap (λ (ps : List Posting). answer_at made ps g) (append-nil seen) ∙ e ∙ ap (λ (o : Option Fault). or_else_fault o later) (sym e) ∙ k;
    }

-- ---- groups without a fault

sound_one : (before : List Value) (day : ℕ) (o : Option Txn) (rest : Option Fault) → or_else_fault (fault_of_group before day o) rest ≡ None → HasNone o
sound_one before day None rest h = tt
sound_one before day (Some t) rest h =
    (group_ok (turnover_fits (before ++ moved_on day (settled t))) (cause_alone t.postings)
    (no_cause t.line (group_cause (turnover_fits (before ++ moved_on day (settled t))) (cause_alone t.postings)) (none_of (fault_of_group before day (Some t)) rest h).0)).1

module _ (written made : List Txn) (kept : AreMadeIf written made) where
  abbrev Sound : Group → Type 0
  Sound h = HasNone (slice_get made h.1)

  abbrev Clean : Group → Type 0
  Clean h = fault_of written made h ≡ None

  found_more : (done : List Group) (h : Group) → found_on made (done ++ h ∷ []) ≡ found_on made done ++ postings_of_group h.0 (slice_get made h.1)
  found_more done h =
      flat_map-append (λ (g : Group). postings_of_group g.0 (slice_get made g.1)) done (h ∷ [])
      ∙ ap (λ (ps : List Posting). found_on made done ++ ps) (append-nil (postings_of_group h.0 (slice_get made h.1)))

  record Both (done todo : List Group) : Type 0 where
    pub passes : Passes made (found_on made done) todo
    pub clean : AllByRecursion Clean todo
    pub sound : AllByRecursion Sound (done ++ todo)

  one_more : (done : List Group) (h : Group) (todo : List Group) → (fault_of written made h ≡ answer_at made (found_on made done) h) → answer_at made (found_on made done) h ≡ None → Both (done ++ h ∷ []) todo → Both done (h ∷ todo)
  one_more done h todo is none b = record {
    passes = (none, subst (λ (ps : List Posting). Passes made ps todo) (found_more done h) b.passes);
    clean = (is ∙ none, b.clean);
    sound = subst (AllByRecursion Sound) (append_assoc done (h ∷ []) todo) b.sound;
  }

  here : (done : List Group) (h : Group) (rest : List Group) → groups_of written ≡ done ++ h ∷ rest → AllByRecursion Sound done → fault_of written made h ≡ answer_at made (found_on made done) h
  here done h rest order sound = group_answer written made kept done h rest order sound

  none_sound : (done : List Group) (h : Group) → AllByRecursion Sound done → answer_at made (found_on made done) h ≡ None → AllByRecursion Sound (done ++ h ∷ [])
  none_sound done h sound none =
      all_append Sound done (h ∷ []) sound (sound_one (moved (found_on made done)) h.0 (slice_get made h.1) (first_failure (found_on made done) (postings_of_group h.0 (slice_get made h.1))) none, tt)

  sound_end : (done : List Group) → AllByRecursion Sound done → AllByRecursion Sound (done ++ [])
  sound_end done sound = subst (AllByRecursion Sound) (sym (append-nil done)) sound

  -- groups without a fault by their places are passed
  clean_passes : (done todo rest : List Group) → groups_of written ≡ done ++ (todo ++ rest) → AllByRecursion Sound done → AllByRecursion Clean todo → Both done todo
  clean_passes done [] rest order sound clean = record { passes = tt; clean = tt; sound = sound_end done sound }
  clean_passes done (h ∷ todo) rest order sound clean =
      let is = here done h (todo ++ rest) order sound in
      let none : answer_at made (found_on made done) h ≡ None = sym is ∙ clean.0 in
      one_more done h todo is none (clean_passes (done ++ h ∷ []) todo rest (order ∙ sym (append_assoc done (h ∷ []) (todo ++ rest))) (none_sound done h sound none) clean.1)

  -- groups that are passed have no fault by their places
  passes_clean : (done todo rest : List Group) → groups_of written ≡ done ++ (todo ++ rest) → AllByRecursion Sound done → Passes made (found_on made done) todo → Both done todo
  passes_clean done [] rest order sound pass = record { passes = tt; clean = tt; sound = sound_end done sound }
  passes_clean done (h ∷ todo) rest order sound pass =
      let is = here done h (todo ++ rest) order sound in
      one_more done h todo is pass.0
      (passes_clean (done ++ h ∷ []) todo rest (order ∙ sym (append_assoc done (h ∷ []) (todo ++ rest))) (none_sound done h sound pass.0) (subst (λ (ps : List Posting). Passes made ps todo) (sym (found_more done h)) pass.1))

-- ---- the load's fault is one

module _ (enter : Decimal → Decimal) where
  kept_one : (seen : List Posting) (t : Txn) → IsMadeIf (is_allowed t) t (given_by enter seen t)
  kept_one seen t =
      elim (is_allowed t) as (λ b. is_allowed t ≡ b → IsMadeIf b t (given_by enter seen t)) [
        | true ↦ λ e. given_made enter seen t e
        | false ↦ λ e. given_not enter seen t (cannot (has_assignment t.postings) (is_none (assignment_fault t.postings)) e)
      ] refl
    where
      cannot : (h n : Bool) → (not h || n) ≡ false → (h && n) ≡ false
      cannot true n e = e
      cannot false n e = refl

  given_kept : (ws ms : List Txn) → AreGiven enter ws ms → AreMadeIf ws ms
  given_kept [] [] h = tt
  given_kept [] (m ∷ ms) h = absurd h
  given_kept (w ∷ ws) [] h = absurd h
  given_kept (w ∷ ws) (m ∷ ms) h = (subst (IsMadeIf (is_allowed w) w) (sym h.0.1) (kept_one h.0.0 w), given_kept ws ms h.1)

  kept_assigned : (written : List Txn) → AreMadeIf written (assigned_by enter written)
  kept_assigned written = given_kept written (assigned_by enter written) (are enter written)

found_walk : (written made : List Txn) (kept : AreMadeIf written made) (before : List Group) (g : Group) (after : List Group) (order : groups_of written ≡ before ++ g ∷ after) → map (λ (e : Entry). e.1) (walk_of (map settled made) before ++ own written made kept before g after order) ≡ found_on made (before ++ g ∷ [])
found_walk written made kept before g after order = through_names written made kept before g after order ∙ sym (found_more written made kept before g)

module _ (enter : Decimal → Decimal) (written : List Txn) (unmarked : are_unmarked written ≡ true) (f : Fault) where
  abbrev final : List Txn
  final = assigned_by enter written

  -- each of those up to a group has the amount that it is assigned at its place
  assigned_through : (before : List Group) (g : Group) (after : List Group) → groups_of written ≡ before ++ g ∷ after → AllByRecursion (IsAssignedAtBy enter (map settled final)) (placed_through (map settled final) g)
  assigned_through before g after order =
      let kept = kept_assigned enter written in
      let each = fixed_is_assigned enter written unmarked final [] (groups_of written) (own_groups written) (fixed_assigned enter written) in
      let all = each_assigned enter (map settled final) (walk written final kept before g after order) (walk_order written final kept before g after order) (walk_up written final kept before g after order)
      (subst (λ (ps : List Posting). EachAfter (AssignedAfter enter) [] ps) (ap (found_on final) order ∙ sym (walk_names final (before ++ g ∷ after))) each) in
      still_all (IsAssignedAtBy enter (map settled final)) (is_through g) (placed_from 0 (map settled final)) all
    where
      still_all : (P : Entry → Type 0) (p : Entry → Bool) (xs : List Entry) → AllByRecursion P xs → AllByRecursion P (filter p xs)
      still_all P p [] h = tt
      still_all P p (x ∷ xs) h =
          let rest = still_all P p xs h.1 in
          elim (p x) as (λ b. AllByRecursion P (cond b (x ∷ filter p xs) (filter p xs))) [ true ↦ (h.0, rest) | false ↦ rest ]

  told_is : Told final [] (groups_of written) f → IsFaultBy enter written f
  told_is t =
      let kept = kept_assigned enter written in
      let both = passes_clean written final kept [] t.before (t.group ∷ t.after) t.order tt t.passes in
      record {
        unmarked = unmarked;
        made = final;
        kept = kept;
        before = t.before;
        group = t.group;
        after = t.after;
        order = t.order;
        assigned = assigned_through t.before t.group t.after t.order;
        sound = both.clean;
        is = group_answer written final kept t.before t.group t.after t.order both.sound ∙ t.is;
      }

loaded_fault : (txns : List Txn) (o : Option Fault) (f : Fault) → loaded txns o ≡ Err f → o ≡ Some f
loaded_fault txns None f h = absurd (let never : ⊥ = cc in never)
loaded_fault txns (Some x) f h = let same : x ≡ f = cc in ap Some same

module _ (enter : Decimal → Decimal) where
  -- the error of a book is the fault of its transactions
  pub book_faults : (written : List Txn) (f : Fault) → are_unmarked written ≡ true → book_of (assigned_by enter written) ≡ Err f → IsFaultBy enter written f
  book_faults written f unmarked h =
      let first = loaded_fault (assigned_by enter written) (first_fault (assigned_by enter written) [] [] (groups_of (assigned_by enter written))) f h in
      told_is enter written unmarked f (first_told (assigned_by enter written) [] (groups_of written) f (ap (first_fault (assigned_by enter written) [] []) (sym (same_groups enter written)) ∙ first))

-- ---- a fault is the load's

-- where Q is of each entry of a part of the walk, P is of each after those before it
parts_after : (whole : List Entry) (P : List Posting → Posting → Type 0) (Q : Entry → Type 0) → ((front : List Entry) (e : Entry) (rest : List Entry) → whole ≡ front ++ e ∷ rest → Q e → P (map (λ (e : Entry). e.1) front) e.1) → (front es rest : List Entry) → whole ≡ front ++ (es ++ rest) → AllByRecursion Q es → EachAfter P (map (λ (e : Entry). e.1) front) (map (λ (e : Entry). e.1) es)
parts_after whole P Q f front [] rest is h = tt
parts_after whole P Q f front (e ∷ es) rest is h = (
  f front e (es ++ rest) is h.0,
  subst (λ (s : List Posting). EachAfter P s (map (λ (e : Entry). e.1) es)) (map-append (λ (e : Entry). e.1) front (e ∷ []))
      (parts_after whole P Q f (front ++ e ∷ []) es rest (is ∙ sym (append_assoc front (e ∷ []) (es ++ rest))) h.1),
)

module _ (enter : Decimal → Decimal) (written : List Txn) (unmarked : are_unmarked written ≡ true) where
  given_one : (b : Bool) (g : Group) (seen : List Posting) (t m : Txn) → is_allowed t ≡ b → slice_get written g.1 ≡ Some t → IsMadeIf b t m → OwnDay written g → EachAfter (AssignedAfter enter) seen (postings_of_group g.0 (Some m)) → m ≡ given_by enter seen t
  given_one true g seen t m e at made mine h = assigned_is_given enter g.0 seen t (unmarked_at written unmarked g.1 t at) (mine t at) m made e h
  given_one false g seen t m e at same mine h = same ∙ sym (given_not enter seen t (cannot (has_assignment t.postings) (is_none (assignment_fault t.postings)) e))
    where
      cannot : (h n : Bool) → (not h || n) ≡ false → (h && n) ≡ false
      cannot true n e = e
      cannot false n e = refl

  given_both : (g : Group) (seen : List Posting) (o p : Option Txn) → slice_get written g.1 ≡ o → MadeBoth o p → OwnDay written g → EachAfter (AssignedAfter enter) seen (postings_of_group g.0 p) → p ≡ option_map (given_by enter seen) o
  given_both g seen None None at made mine h = refl
  given_both g seen None (Some m) at made mine h = absurd made
  given_both g seen (Some t) None at made mine h = absurd made
  given_both g seen (Some t) (Some m) at made mine h = ap Some (given_one (is_allowed t) g seen t m refl at made mine h)

  fixed_by : (made : List Txn) → AreMadeIf written made → (seen : List Posting) (gs : List Group) → AllByRecursion (OwnDay written) gs → EachAfter (AssignedAfter enter) seen (found_on made gs) → Fixed enter written made seen gs
  fixed_by made kept seen [] mine h = tt
  fixed_by made kept seen (g ∷ gs) mine h =
      let group = postings_of_group g.0 (slice_get made g.1) in (
        given_both g seen (slice_get written g.1) (slice_get made g.1) refl (made_both written made kept g.1) mine.0 (each_first (AssignedAfter enter) seen group (found_on made gs) h),
        fixed_by made kept (seen ++ group) gs mine.1 (each_second (AssignedAfter enter) seen group (found_on made gs) h),
      )

module _ (enter : Decimal → Decimal) where
  fixed_first : (written made : List Txn) (seen : List Posting) (gs hs : List Group) → Fixed enter written made seen (gs ++ hs) → Fixed enter written made seen gs
  fixed_first written made seen [] hs h = tt
  fixed_first written made seen (g ∷ gs) hs h = (h.0, fixed_first written made (seen ++ postings_of_group g.0 (slice_get made g.1)) gs hs h.1)

module _ (a b : List Txn) where
  abbrev Same : Group → Type 0
  Same g = slice_get a g.1 ≡ slice_get b g.1

  same_answer : (seen : List Posting) (g : Group) → Same g → answer_at a seen g ≡ answer_at b seen g
  same_answer seen g is = ap (λ (o : Option Txn). or_else_fault (fault_of_group (moved seen) g.0 o) (first_failure seen (postings_of_group g.0 o))) is

  same_passes : (seen : List Posting) (gs : List Group) → AllByRecursion Same gs → Passes a seen gs → Passes b seen gs
  same_passes seen [] same pass = tt
  same_passes seen (g ∷ gs) same pass = (
    sym (same_answer seen g same.0) ∙ pass.0,
    subst (λ (o : Option Txn). Passes b (seen ++ postings_of_group g.0 o) gs) same.0 (same_passes (seen ++ postings_of_group g.0 (slice_get a g.1)) gs same.1 pass.1),
  )

  same_found : (gs : List Group) → AllByRecursion Same gs → found_on a gs ≡ found_on b gs
  same_found [] same = refl
  same_found (g ∷ gs) same = λ i. postings_of_group g.0 (same.0 i) ++ same_found gs same.1 i

module _ (enter : Decimal → Decimal) (written : List Txn) (f : Fault) (s : IsFaultBy enter written f) where
  abbrev order_end : groups_of written ≡ (s.before ++ s.group ∷ []) ++ s.after
  order_end = s.order ∙ sym (append_assoc s.before (s.group ∷ []) s.after)

  -- up to the group all is made group after group
  fixed_through : Fixed enter written s.made [] (s.before ++ s.group ∷ [])
  fixed_through =
      let book = map settled s.made in
      let whole = walk written s.made s.kept s.before s.group s.after s.order in
      let first = walk_of book s.before in
      let mine = own written s.made s.kept s.before s.group s.after s.order in
      let split = walk_split book s.before s.group s.after (ascends_here written s.made s.before s.group s.after s.order) ∙ sym (append_assoc first mine (walk_of book s.after)) in
      let there = all_same (IsAssignedAtBy enter book) (through_order written s.made s.kept s.before s.group s.after s.order) s.assigned in
      let each = parts_after whole (AssignedAfter enter) (IsAssignedAtBy enter book)
      (assigned_front enter book whole (walk_order written s.made s.kept s.before s.group s.after s.order) (walk_up written s.made s.kept s.before s.group s.after s.order))
      [] (first ++ mine) (walk_of book s.after) split there in
      fixed_by enter written s.unmarked s.made s.kept [] (s.before ++ s.group ∷ [])
      (all_left (OwnDay written) (s.before ++ s.group ∷ []) s.after (subst (AllByRecursion (OwnDay written)) order_end (own_groups written)))
      (subst (λ (ps : List Posting). EachAfter (AssignedAfter enter) [] ps) (found_walk written s.made s.kept s.before s.group s.after s.order) each)

  alike : AllByRecursion (Same s.made (assigned_by enter written)) (s.before ++ s.group ∷ [])
  alike =
      fixed_alike enter written s.made (assigned_by enter written) [] (s.before ++ s.group ∷ []) fixed_through
      (fixed_first enter written (assigned_by enter written) [] (s.before ++ s.group ∷ []) s.after (subst (λ (gs : List Group). Fixed enter written (assigned_by enter written) [] gs) order_end (fixed_assigned enter written)))

  first_is : first_fault (assigned_by enter written) [] [] (groups_of (assigned_by enter written)) ≡ Some f
  first_is =
      let final = assigned_by enter written in
      let same = all_left (Same s.made final) s.before (s.group ∷ []) alike in
      let last = (all_right (Same s.made final) s.before (s.group ∷ []) alike).0 in
      let both = clean_passes written s.made s.kept [] s.before (s.group ∷ s.after) s.order tt s.sound in
      let told : answer_at s.made (found_on s.made s.before) s.group ≡ Some f = sym (group_answer written s.made s.kept s.before s.group s.after s.order both.sound) ∙ s.is in
      let here : answer_at final (found_on final s.before) s.group ≡ Some f =
      ap (λ (ps : List Posting). answer_at final ps s.group) (sym (same_found s.made final s.before same))
      ∙ sym (same_answer s.made final (found_on s.made s.before) s.group last) ∙ told in
      ap (first_fault final [] []) (same_groups enter written ∙ s.order)
      ∙ passed_fault final [] s.before s.group s.after f (same_passes s.made final [] s.before same both.passes) here

module _ (enter : Decimal → Decimal) where
  -- the fault of some transactions is the error of their book
  pub faults_book : (written : List Txn) (f : Fault) → IsFaultBy enter written f → book_of (assigned_by enter written) ≡ Err f
  faults_book written f s = ap (loaded (assigned_by enter written)) (first_is enter written f s)

-- ---- the fault that is told

told_so : (written : List Txn) → are_unmarked written ≡ true → (own f : Fault) (b : Bool) (other : Result Book Fault) → book_of (assigned_by whole written) ≡ other → told_if b own other ≡ f → IsToldIf b written own f
told_so written unmarked first f false other is same = sym same
told_so written unmarked first f true (Ok book) is same = inr (book.txns, book_solves whole written book unmarked is, sym same)
told_so written unmarked first f true (Err g) is same = inl (book_faults whole written f unmarked (is ∙ ap (λ (x : Fault). let r : Result Book Fault = Err x in r) same))

told_for : (written : List Txn) → are_unmarked written ≡ true → (loads other : Result Book Fault) (f : Fault) → book_of (assigned_by shortened written) ≡ loads → book_of (assigned_by whole written) ≡ other → or_told loads other ≡ Err f → IsFaultOf written f
told_for written unmarked (Ok book) other f is is_other h = absurd (let never : ⊥ = cc in never)
told_for written unmarked (Err first) other f is is_other h =
    let same : told_by first other ≡ f = cc in
    record { own = first; lacks = book_faults shortened written first unmarked is; told = told_so written unmarked first f (carries_sum first.cause) other is_other same }

-- the error of a load is the fault of its transactions
pub load_faults : (items : List Placed) (f : Fault) → are_unmarked (txns_of items) ≡ true → load items ≡ Err f → IsFaultOf (txns_of items) f
load_faults items f unmarked h = told_for (txns_of items) unmarked _ _ f refl refl h

as_told : (written : List Txn) (first f : Fault) (b : Bool) → IsToldIf b written first f → told_if b first (book_of (assigned_by whole written)) ≡ f
as_told written first f false same = sym same
as_told written first f true (inl s) = ap (told_if true first) (faults_book whole written f s)
as_told written first f true (inr (book, s, same)) = ap (told_if true first) (solves_book whole written (record { txns = book }) s) ∙ sym same

faults_txns : (written : List Txn) (f : Fault) → IsFaultOf written f → load_txns written ≡ Err f
faults_txns written f s =
    ap (λ (r : Result Book Fault). or_told r (book_of (assigned_by whole written))) (faults_book shortened written s.own s.lacks)
    ∙ ap (λ (x : Fault). let r : Result Book Fault = Err x in r) (as_told written s.own f (carries_sum s.own.cause) s.told)

-- the fault of some transactions is the error of their load
pub faults_load : (items : List Placed) (f : Fault) → IsFaultOf (txns_of items) f → load items ≡ Err f
faults_load items f s = faults_txns (txns_of items) f s

-- transactions have at most one fault
pub one_fault : (written : List Txn) (a b : Fault) → IsFaultOf written a → IsFaultOf written b → a ≡ b
one_fault written a b s t = error_same a b (sym (faults_txns written a s) ∙ faults_txns written b t)
  where
    error_same : (a b : Fault) → (let r : Result Book Fault = Err a in r) ≡ Err b → a ≡ b
    error_same a b e = cc
