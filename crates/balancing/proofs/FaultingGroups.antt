-- What is wrong with a group by its places is what is answered for it after the groups before it.
use Rattle.std.proofs.Common.{◌≡◌, ℕ, zero, suc, ◌<◌, ◌+◌, Bool, true, false, ◌&&◌, ◌||◌, not, eqb, ltb, List, [], ◌∷◌, ◌++◌, map, Option, Some, None, refl, sym, ap, ◌∙◌, subst, arith, inl, inr}
use Rattle.std.specs.List.{list_any, slice_get, AllByRecursion}
use Rattle.std.specs.declared.cmp.Ordering.TheVariants.{Less}
use Rattle.std.proofs.lemmas.Bool.{false≢true}
use Rattle.std.proofs.lemmas.Bool.Decides.{nat_tests, Decides-eqb}
use Rattle.std.proofs.lemmas.List.{append-nil, map-append}
use Rattle.std.proofs.lemmas.Grind.{flat_map-append}
use Rattle.book.specs.declared.fault.Fault.{Fault}
use Rattle.book.specs.declared.transaction.Posting.{Posting}
use Rattle.book.specs.declared.transaction.Txn.{Txn}
use Rattle.book.specs.Order.{each_once}
use Rattle.book.specs.SumsBefore.{placed_from}
use Rattle.entry_balance.specs.Values.{Value}
use Rattle.entry_balance.specs.Tally.{turnover_fits}
use Rattle.entry_balance.specs.Entry.{settled, solved, moved, moved_by, cause_alone, is_assignable}
use Rattle.entry_balance.proofs.Named.{left_true}
use Rattle.balancing.specs.Groups.{Group, group_cmp, groups_by, groups_from, groups_of}
use Rattle.balancing.specs.Parts.{postings_of_group}
use Rattle.assertions.specs.Assertions.{first_failure, or_else_fault}
use Rattle.balancing.specs.Load.{moved_on, group_cause, fault_at, fault_of_group}
use Rattle.balancing.specs.Solves.{is_allowed, IsMadeTxn}
use Rattle.balancing.specs.Faults.{placed_through, fits_through, is_first, fails, placed_of, failure_if, failure_on, fault_on, fault_of, cause_on, IsMadeIf, AreMadeIf}
use Rattle.balancing.proofs.SolvingOrders.{Reorders, joined, by_equal, mapped, filtered, spread}
use Rattle.balancing.proofs.SolvingSums.{fits_same}
use Rattle.balancing.proofs.SolvingGroups.{Ascends, Covered, each_once-ascends, less_parts}
use Rattle.balancing.proofs.SolvingWalk.{Entry, group_in, placed_group, walk_of, walk_reorders}
use Rattle.balancing.proofs.SolvingRising.{Rising, group_rises, walk_rises}
use Rattle.balancing.proofs.SolvingFixed.{OwnDay, own_groups}
use Rattle.balancing.proofs.SolvingLists.{found_on}
use Rattle.balancing.proofs.SolvingBook.{HasNone, book_covered, walk_names, made_groups_by}
use Rattle.balancing.proofs.FaultingPlaces.{is_through, is_in_group, later_groups, walk_one, walk_split, walk_through, walk_own}
use Rattle.balancing.proofs.FaultingWalk.{first_by_place, failure_found}
use Rattle.balancing.proofs.FaultingCauses.{cause_by, cause_is, fits_in_group}

-- ---- made transactions

made_groups_one : (n : ℕ) (b : Bool) (t m : Txn) → IsMadeIf b t m → groups_by n m m.postings ≡ groups_by n t t.postings
made_groups_one n true t m h = made_groups_by n t m (ap (λ (x : Txn). x.day) h.rest) t.postings m.postings h.postings
made_groups_one n false t m h = ap (λ (x : Txn). groups_by n x x.postings) h

made_groups_all : (n : ℕ) (ws ms : List Txn) → AreMadeIf ws ms → groups_from n ms ≡ groups_from n ws
made_groups_all n [] [] h = refl
made_groups_all n [] (m ∷ ms) h = absurd h
made_groups_all n (w ∷ ws) [] h = absurd h
made_groups_all n (w ∷ ws) (m ∷ ms) h =
    let first = made_groups_one n (is_allowed w) w m h.0 in
    let rest = made_groups_all (n + 1) ws ms h.1 in
    λ i. first i ++ rest i

-- the groups of what is made are those of what is written
pub made_groups_if : (ws ms : List Txn) → AreMadeIf ws ms → groups_of ms ≡ groups_of ws
made_groups_if ws ms h = ap (each_once group_cmp) (made_groups_all 0 ws ms h)

abbrev pub MadeBoth : Option Txn → Option Txn → Type 0
MadeBoth None None = Unit {0}
MadeBoth (Some t) (Some m) = IsMadeIf (is_allowed t) t m
MadeBoth _ _ = ⊥

pub made_both : (ws ms : List Txn) → AreMadeIf ws ms → (n : ℕ) → MadeBoth (slice_get ws n) (slice_get ms n)
made_both [] [] h n = tt
made_both [] (m ∷ ms) h n = absurd h
made_both (w ∷ ws) [] h n = absurd h
made_both (w ∷ ws) (m ∷ ms) h zero = h.0
made_both (w ∷ ws) (m ∷ ms) h (suc n) = made_both ws ms h.1 n

made_line : (b : Bool) (t m : Txn) → IsMadeIf b t m → m.line ≡ t.line
made_line true t m h = ap (λ (x : Txn). x.line) h.rest
made_line false t m h = ap (λ (x : Txn). x.line) h

-- ---- the first group of a transaction

any_parts : (p : Group → Bool) (xs ys : List Group) → list_any p ys ≡ false → list_any p (xs ++ ys) ≡ list_any p xs
any_parts p [] ys h = h
any_parts p (x ∷ xs) ys h = ap (λ b. p x || b) (any_parts p xs ys h)

any_gives : (P : Group → Type 0) (p : Group → Bool) (R : Type 0) → ((h : Group) → p h ≡ true → P h → R) → (xs : List Group) → AllByRecursion P xs → list_any p xs ≡ true → R
any_gives P p R f [] all e = absurd (false≢true e)
any_gives P p R f (x ∷ xs) all e =
    elim (p x) as (λ b. p x ≡ b → (b || list_any p xs) ≡ true → R) [
      | true ↦ λ is _. f x is all.0
      | false ↦ λ _ rest. any_gives P p R f xs all.1 rest
    ] refl e

abbrev is_earlier : Group → Group → Bool
is_earlier g h = eqb h.1 g.1 && ltb h.0 g.0

not_itself : (a b : ℕ) → (eqb b b && ltb a a) ≡ false
not_itself a b = grind (arith, nat_tests)

not_earlier_day : (a b c d : ℕ) → a < c → (eqb d b && ltb c a) ≡ false
not_earlier_day a b c d h = grind (arith, nat_tests)

not_earlier_same : (a b c d : ℕ) → a ≡ c → (eqb d b && ltb c a) ≡ false
not_earlier_same a b c d h = grind (arith, nat_tests)

later_not_earlier : (g h : Group) → group_cmp g h ≡ Less → is_earlier g h ≡ false
later_not_earlier g h less = elim (less_parts g h less) [ inl k ↦ not_earlier_day g.0 g.1 h.0 h.1 k | inr k ↦ not_earlier_same g.0 g.1 h.0 h.1 k.0 ]

none_later : (g : Group) (hs : List Group) → AllByRecursion (λ h. group_cmp g h ≡ Less) hs → list_any (is_earlier g) hs ≡ false
none_later g [] all = refl
none_later g (h ∷ hs) all = λ i. later_not_earlier g h all.0 i || none_later g hs all.1 i

is_not : (b : Bool) → not b ≡ false → b ≡ true
is_not true h = refl
is_not false h = absurd (false≢true (sym h))

module _ (written made : List Txn) (before : List Group) (g : Group) (after : List Group) (order : groups_of written ≡ before ++ g ∷ after) where
  abbrev pub Sound : Group → Type 0
  Sound h = HasNone (slice_get made h.1)

  pub ascends_here : Ascends (before ++ g ∷ after)
  ascends_here = subst Ascends order (each_once-ascends (groups_from 0 written))

  -- at a later group nothing is wrong with its transaction, if nothing was at the first one
  later_sound : AllByRecursion Sound before → is_first written g ≡ false → Sound g
  later_sound sound later =
      let rest : list_any (is_earlier g) (g ∷ after) ≡ false = λ i. not_itself g.0 g.1 i || none_later g after (later_groups before g after ascends_here) i in
      let there : list_any (is_earlier g) before ≡ true =
      sym (any_parts (is_earlier g) before (g ∷ after) rest) ∙ ap (list_any (is_earlier g)) (sym order) ∙ is_not (list_any (is_earlier g) (groups_of written)) later in
      any_gives Sound (is_earlier g) (Sound g) (λ h is none. subst (λ (n : ℕ). HasNone (slice_get made n)) ((Decides-eqb h.1 g.1).0 (left_true (eqb h.1 g.1) (ltb h.0 g.0) is)) none) before sound there

-- ---- a group by its places

-- what is answered for a group after some postings
abbrev pub answer_at : List Txn → List Posting → Group → Option Fault
answer_at made seen g =
    or_else_fault (fault_of_group (moved seen) g.0 (slice_get made g.1)) (first_failure seen (postings_of_group g.0 (slice_get made g.1)))

own_day_at : (P : Group → Type 0) (xs : List Group) (g : Group) (ys : List Group) → AllByRecursion P (xs ++ g ∷ ys) → P g
own_day_at P [] g ys all = all.0
own_day_at P (x ∷ xs) g ys all = own_day_at P xs g ys all.1

module _ (written made : List Txn) (kept : AreMadeIf written made) (before : List Group) (g : Group) (after : List Group) (order : groups_of written ≡ before ++ g ∷ after) where
  abbrev pub book : List Txn
  book = map settled made

  abbrev pub walk : List Entry
  walk = walk_of book (before ++ g ∷ after)

  up : Ascends (before ++ g ∷ after)
  up = ascends_here written made before g after order

  pub walk_order : Reorders (placed_from 0 book) walk
  walk_order = walk_reorders book (before ++ g ∷ after) up (subst (λ (gs : List Group). Covered group_in gs (placed_from 0 book)) (made_groups_if written made kept ∙ order) (book_covered made))

  pub walk_up : Rising walk
  walk_up = walk_rises book (before ++ g ∷ after) up

  abbrev pub own : List Entry
  own = placed_group g (slice_get book g.1)

  pub through_order : Reorders (placed_through book g) (walk_of book before ++ own)
  through_order = joined (filtered (is_through g) walk_order) (by_equal (walk_through book before g after up))

  own_order : Reorders (placed_of book g) own
  own_order = joined (filtered (is_in_group g) walk_order) (by_equal (walk_own book before g after up))

  abbrev pub seen : List Posting
  seen = found_on made before

  abbrev pub group : List Posting
  group = postings_of_group g.0 (slice_get made g.1)

  own_names : map (λ (e : Entry). e.1) own ≡ group
  own_names = ap (map (λ (e : Entry). e.1)) (sym (walk_one book g)) ∙ walk_names made (g ∷ []) ∙ append-nil group

  pub through_names : map (λ (e : Entry). e.1) (walk_of book before ++ own) ≡ seen ++ group
  through_names = map-append (λ (e : Entry). e.1) (walk_of book before) own ∙ (λ i. walk_names made before i ++ own_names i)

  -- the first failing assertion by place is that of the walk
  failure_is : failure_on book g ≡ first_failure seen group
  failure_is =
      ap (failure_if book) (first_by_place (fails book) (placed_of book g) own own_order (group_rises g (slice_get book g.1)))
      ∙ sym (failure_found book walk walk_order walk_up (walk_of book before) own (walk_of book after) (walk_split book before g after up))
      ∙ (λ i. first_failure (walk_names made before i) (own_names i))

  moved_through : Reorders (moved (map (λ (e : Entry). e.1) (placed_through book g))) (moved seen ++ moved group)
  moved_through =
      joined (spread moved_by (mapped (λ (e : Entry). e.1) through_order))
      (by_equal (ap moved through_names ∙ flat_map-append moved_by seen group))

  fits_is : fits_through book g ≡ turnover_fits (moved seen ++ moved group)
  fits_is = fits_same moved_through

  own_day : (t : Txn) → slice_get written g.1 ≡ Some t → is_assignable t.postings ≡ true → g.0 ≡ t.day.0
  own_day = own_day_at (OwnDay written) before g after (subst (AllByRecursion (OwnDay written)) order (own_groups written))

  -- what is wrong with a group by its places is what is answered after the groups before it
  pub group_answer : AllByRecursion (λ h. HasNone (slice_get made h.1)) before → fault_of written made g ≡ answer_at made seen g
  group_answer sound = by (slice_get written g.1) (slice_get made g.1) refl refl (made_both written made kept g.1)
    where
      by : (o p : Option Txn) → slice_get written g.1 ≡ o → slice_get made g.1 ≡ p → MadeBoth o p → fault_on written made g o p ≡ or_else_fault (fault_of_group (moved seen) g.0 p) (first_failure seen (postings_of_group g.0 p))
      by None None e f h = refl
      by None (Some m) e f h = absurd h
      by (Some t) None e f h = absurd h
      by (Some t) (Some m) e f h =
          let moves : moved group ≡ moved_on g.0 (settled m) = ap (λ (o : Option Txn). moved (postings_of_group g.0 o)) f in
          let fits : fits_through book g ≡ turnover_fits (moved seen ++ moved_on g.0 (settled m)) = fits_is ∙ ap (λ (vs : List Value). turnover_fits (moved seen ++ vs)) moves in
          let later : is_first written g ≡ false → cause_alone m.postings ≡ None = λ no_first. subst HasNone f (later_sound written made before g after order sound no_first) in
          let told : cause_on written made g t m ≡ group_cause (turnover_fits (moved seen ++ moved_on g.0 (settled m))) (cause_alone m.postings) =
          ap (λ (b : Bool). cause_by (is_first written g) b t m) fits
          ∙ cause_is t m (is_first written g) (turnover_fits (moved seen ++ moved_on g.0 (settled m))) h
          (λ can made_txn is. alone t m made_txn can (own_day t e can) is) later in
          (λ i. or_else_fault (fault_at (sym (made_line (is_allowed t) t m h) i) (told i)) (failure_is i))
          ∙ ap (λ (o : Option Txn). or_else_fault (fault_at m.line (group_cause (turnover_fits (moved seen ++ moved_on g.0 (settled m))) (cause_alone m.postings))) (first_failure seen (postings_of_group g.0 o))) f
        where
          alone : (t m : Txn) → IsMadeTxn t m → is_assignable t.postings ≡ true → g.0 ≡ t.day.0 → turnover_fits (moved seen ++ moved_on g.0 (settled m)) ≡ true → turnover_fits (moved (solved m.postings)) ≡ true
          alone t m made_txn can own is = fits_in_group (moved seen) g.0 t m made_txn can own is
