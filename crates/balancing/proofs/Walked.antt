-- The walk over groups, by transactions as they are written.
use Rattle.std.proofs.Common.{◌≡◌, ℕ, zero, suc, ◌+◌, ◌<◌, ◌≤◌, Bool, true, false, cond, List, [], ◌∷◌, ◌++◌, length, get_or, drop, Option, Some, None, is_some, is_none, not, ◌&&◌, refl, sym, ap, ◌∙◌, subst, arith, drop-cons, add-one}
use Rattle.std.specs.List.{slice_get, list_any, AllByRecursion}
use Rattle.std.proofs.lemmas.Grind.{flat_map-append}
use Rattle.std.proofs.lemmas.Bool.{false≢true}
use Rattle.std.proofs.lemmas.List.{append_assoc, append-nil}
use Rattle.book.specs.declared.fault.Cause.{Cause}
use Rattle.book.specs.declared.fault.Cause.TheVariants as cause
use Rattle.book.specs.declared.fault.Fault.{Fault}
use Rattle.book.specs.declared.transaction.Posting.{Posting}
use Rattle.book.specs.declared.transaction.Txn.{Txn}
use Rattle.book.specs.Order.{each_once}
use Rattle.entry_balance.specs.Values.{Value}
use Rattle.entry_balance.specs.Tally.{turnover_fits}
use Rattle.entry_balance.specs.Turnover.{IsTurnover}
use Rattle.entry_balance.specs.Entry.{assignment_fault, cause_alone, has_assignment, has_two_missing, is_assignable, is_dated, lacks_two, costs_fit, moved_by, moved}
use Rattle.balancing.specs.Groups.{Group, group_cmp, groups_by, groups_from}
use Rattle.assertions.specs.Assertions.{or_else_fault, first_failure}
use Rattle.balancing.specs.Parts.{postings_on, postings_of_group}
use Rattle.balancing.specs.Assigned.{is_ready}
use Rattle.balancing.specs.Claims.{AreClaimed}
use Rattle.assertions.specs.Kept.{Keeping, IsBalance}
use Rattle.balancing.specs.Load.{moved_on, moved_of_group, group_cause, fault_at, fault_of_group, first_fault}
use Rattle.entry_balance.specs.Entry.{settled}
use Rattle.entry_balance.specs.Settled.{lacks_sums, IsSettled, AreSettled}
use Rattle.balancing.specs.Walk.{IsRead, IsJudged, IsVisited, IsPassed, IsWalked, IsTold, moved_before, answer_of_group, group_in}
use Rattle.entry_balance.proofs.Adding.{turnover_none, turnover_within}
use Rattle.entry_balance.proofs.Causes.{cause_assigned, cause_two, cause_costs}
use Rattle.entry_balance.proofs.Covers.{solved_costs_fit}

-- ---- settled transactions by their numbers

pub settled-lengths : (ws ts : List Txn) (cs : List (Option Cause)) → AreSettled ws ts cs → (length ts ≡ length ws) × (length cs ≡ length ws)
settled-lengths [] [] [] h = (refl, refl)
settled-lengths [] [] (c ∷ cs) h = absurd h
settled-lengths [] (t ∷ ts) cs h = absurd h
settled-lengths (w ∷ ws) [] cs h = absurd h
settled-lengths (w ∷ ws) (t ∷ ts) [] h = absurd h
settled-lengths (w ∷ ws) (t ∷ ts) (c ∷ cs) h = let rest = settled-lengths ws ts cs h.1 in (ap suc rest.0, ap suc rest.1)

pub settled-at : (ws ts : List Txn) (cs : List (Option Cause)) → AreSettled ws ts cs → (n : ℕ) (d : Txn) (e : Option Cause) → n < length ts → (w : Txn) × (slice_get ws n ≡ Some w) × IsSettled w (get_or ts n d) (get_or cs n e)
settled-at [] [] [] h n d e less = absurd (omega arith)
settled-at [] [] (c ∷ cs) h n d e less = absurd h
settled-at [] (t ∷ ts) cs h n d e less = absurd h
settled-at (w ∷ ws) [] cs h n d e less = absurd h
settled-at (w ∷ ws) (t ∷ ts) [] h n d e less = absurd h
settled-at (w ∷ ws) (t ∷ ts) (c ∷ cs) h zero d e less = (w, refl, h.0)
settled-at (w ∷ ws) (t ∷ ts) (c ∷ cs) h (suc n) d e less = settled-at ws ts cs h.1 n d e (omega arith)

none-past : {X : Type 0} (xs : List X) (n : ℕ) → length xs ≤ n → slice_get xs n ≡ None
none-past [] n h = refl
none-past (x ∷ xs) zero h = absurd (omega arith)
none-past (x ∷ xs) (suc n) h = none-past xs n (omega arith)

pub settled-push : (ws ts : List Txn) (cs : List (Option Cause)) (w t : Txn) (c : Option Cause) → AreSettled ws ts cs → IsSettled w t c → AreSettled (ws ++ w ∷ []) (ts ++ t ∷ []) (cs ++ c ∷ [])
settled-push [] [] [] w t c h k = (k, tt)
settled-push [] [] (y ∷ cs) w t c h k = absurd h
settled-push [] (x ∷ ts) cs w t c h k = absurd h
settled-push (z ∷ ws) [] cs w t c h k = absurd h
settled-push (z ∷ ws) (x ∷ ts) [] w t c h k = absurd h
settled-push (z ∷ ws) (x ∷ ts) (y ∷ cs) w t c h k = (h.0, settled-push ws ts cs w t c h.1 k)

-- ---- one group

pub not_true : (b : Bool) → not b ≡ true → b ≡ false
not_true true h = absurd (false≢true h)
not_true false h = refl

-- a transaction that has sums, none of whose assignments is still to be made, has no assignment
pub none_left : (ps : List Posting) → is_assignable ps ≡ false → lacks_sums (cause_alone ps) ≡ false → has_assignment ps ≡ false
none_left ps ready sums =
    elim (has_assignment ps) as (λ b. has_assignment ps ≡ b → b ≡ false) [
      | false ↦ λ e. refl
      | true ↦ λ e. absurd (by (lacks_two ps) (list_any is_dated ps)
          (ap (λ (b : Bool). b && is_none (assignment_fault ps)) (sym e) ∙ ready)
          (ap lacks_sums (sym (cause_assigned ps e)) ∙ sums))
    ] refl
  where
    by : (two dated : Bool) → is_none (cond two (Some cause.TwoMissing) (cond dated (Some cause.NotAllowed) None)) ≡ false → lacks_sums (cond two (Some cause.TwoMissing) (cond dated (Some cause.NotAllowed) None)) ≡ false → ⊥
    by true dated none sums = false≢true (sym sums)
    by false true none sums = false≢true (sym sums)
    by false false none sums = false≢true (sym none)

-- a transaction that has sums has costs that can be told
costs-from_sums : (ps : List Posting) → has_assignment ps ≡ false → lacks_sums (cause_alone ps) ≡ false → costs_fit ps ≡ true
costs-from_sums ps none h =
    elim (has_two_missing ps) as (λ a. has_two_missing ps ≡ a → costs_fit ps ≡ true) [
      | true ↦ λ two. absurd (false≢true (sym h ∙ ap lacks_sums (cause_two ps none two)))
      | false ↦ λ two. elim (costs_fit ps) as (λ b. costs_fit ps ≡ b → b ≡ true) [
        | true ↦ λ costs. refl
        | false ↦ λ costs. absurd (false≢true (sym h ∙ ap lacks_sums (cause_costs ps none two costs)))
      ] refl
    ] refl

pub solved_here : (w t : Txn) (c : Option Cause) → is_assignable w.postings ≡ false → IsSettled w t c → lacks_sums c ≡ false → t ≡ settled w
solved_here w t c ready h sums = h.sums (none_left w.postings ready (ap lacks_sums (sym h.cause) ∙ sums)) sums

pub costs_known : (w t : Txn) (c : Option Cause) → is_assignable w.postings ≡ false → IsSettled w t c → lacks_sums c ≡ false → costs_fit t.postings ≡ true
costs_known w t c ready h sums =
    let has : lacks_sums (cause_alone w.postings) ≡ false = ap lacks_sums (sym h.cause) ∙ sums in
    ap (λ (x : Txn). costs_fit x.postings) (solved_here w t c ready h sums) ∙ solved_costs_fit w.postings (costs-from_sums w.postings (none_left w.postings ready has) has)

-- what a transaction without sums is told doesn't rest on turnover
lacks_alike : (c : Option Cause) (a b : Bool) → lacks_sums c ≡ true → group_cause a c ≡ group_cause b c
lacks_alike (Some cause.TwoMissing) a b h = refl
lacks_alike (Some cause.NotAllowed) a b h = refl
lacks_alike (Some cause.Range) true true h = refl
lacks_alike (Some cause.Range) true false h = refl
lacks_alike (Some cause.Range) false true h = refl
lacks_alike (Some cause.Range) false false h = refl
lacks_alike _ a b h = absurd (false≢true h)

pub lacks_told : (line : ℕ) (c : Option Cause) (a : Bool) → lacks_sums c ≡ true → fault_at line (group_cause a c) ≡ None → ⊥
lacks_told line (Some cause.TwoMissing) a h e = let never : ⊥ = cc in never
lacks_told line (Some cause.NotAllowed) a h e = let never : ⊥ = cc in never
lacks_told line (Some cause.Range) true h e = let never : ⊥ = cc in never
lacks_told line (Some cause.Range) false h e = let never : ⊥ = cc in never
lacks_told line _ a h e = absurd (false≢true h)

module _ (w t : Txn) (c : Option Cause) (ready : is_assignable w.postings ≡ false) (h : IsSettled w t c) (before : List Value) (day : ℕ) where
  judged-same : (b : Bool) → lacks_sums c ≡ b → group_cause (turnover_fits (before ++ moved_on day t)) c ≡ group_cause (turnover_fits (before ++ moved_on day (settled w))) c
  judged-same true lacks = lacks_alike c _ _ lacks
  judged-same false sums = ap (λ (x : Txn). group_cause (turnover_fits (before ++ moved_on day x)) c) (solved_here w t c ready h sums)

  pub sums-there : (line : ℕ) (a b : Bool) → lacks_sums c ≡ b → fault_at line (group_cause a c) ≡ None → t ≡ settled w
  sums-there line a true lacks none = absurd (lacks_told line c a lacks none)
  sums-there line a false sums none = solved_here w t c ready h sums

  pub visited : (written : List Txn) (n : ℕ) (sums : List Value) (fault : Option Fault) → slice_get written n ≡ Some w → IsJudged before day t c sums fault → IsVisited written before (day, n) sums fault
  visited written n sums fault there j = record {
    is = j.is ∙ ap (fault_at t.line) (judged-same _ refl)
        ∙ (λ i. fault_at (h.line i) (group_cause (turnover_fits (before ++ moved_on day (settled w))) (h.cause i)))
        ∙ ap (fault_of_group before day) (sym there);
    more = λ none. subst (λ (vs : List Value). IsTurnover (before ++ vs) sums)
        (ap (moved_on day) (sums-there t.line _ _ refl (sym j.is ∙ none)) ∙ ap (moved_of_group day) (sym there)) (j.more none);
  }

-- a group of no transaction
pub visited_none : (written : List Txn) (before : List Value) (g : Group) (sums : List Value) → length written ≤ g.1 → IsTurnover before sums → IsVisited written before g sums None
visited_none written before g sums h turnover =
    let none = none-past written g.1 h in
    record {
      is = ap (fault_of_group before g.0) (sym none);
      more = λ e. subst (λ (vs : List Value). IsTurnover vs sums) (sym (append-nil before) ∙ ap (λ (o : Option Txn). before ++ moved_of_group g.0 o) (sym none)) turnover;
    }

-- ---- the postings of groups

pub moved_postings : (day : ℕ) (o : Option Txn) → moved_of_group day o ≡ moved (postings_of_group day o)
moved_postings day None = refl
moved_postings day (Some t) = refl

-- the group of a settled transaction without a fault
pub same_group_postings : (ws ts : List Txn) (cs : List (Option Cause)) (before : List Value) (day n : ℕ) → AreSettled ws ts cs → is_ready (slice_get ws n) ≡ true → None ≡ fault_of_group before day (slice_get ws n) → group_in day (slice_get ts n) ≡ postings_of_group day (slice_get ws n)
same_group_postings [] [] [] before day n h ready none = refl
same_group_postings [] [] (c ∷ cs) before day n h ready none = absurd h
same_group_postings [] (t ∷ ts) cs before day n h ready none = absurd h
same_group_postings (w ∷ ws) [] cs before day n h ready none = absurd h
same_group_postings (w ∷ ws) (t ∷ ts) [] before day n h ready none = absurd h
same_group_postings (w ∷ ws) (t ∷ ts) (c ∷ cs) before day zero h ready none =
    let fits = turnover_fits (before ++ moved_on day (settled w)) in
    ap (postings_on day) (sums-there w t c (not_true (is_assignable w.postings) ready) h.0 before day w.line fits (lacks_sums c) refl (ap (λ (x : Option Cause). fault_at w.line (group_cause fits x)) h.0.cause ∙ sym none))
same_group_postings (w ∷ ws) (t ∷ ts) (c ∷ cs) before day (suc n) h ready none = same_group_postings ws ts cs before day n h.1 ready none

pub passed_fault : (written : List Txn) (before : List Value) (seen : List Posting) (g : Group) (sums : List Value) (own below : Keeping) (fault : Option Fault) → is_some fault ≡ true → IsVisited written before g sums fault → IsPassed written before seen g sums own below fault
passed_fault written before seen g sums own below None some v = absurd (false≢true some)
passed_fault written before seen g sums own below (Some f) some v = record {
  is = ap (λ (o : Option Fault). or_else_fault o (first_failure seen (postings_of_group g.0 (slice_get written g.1)))) v.is;
  more = λ none. absurd (let never : ⊥ = cc in never);
  kept = λ none. absurd (let never : ⊥ = cc in never);
}

module _ (ws ts : List Txn) (cs : List (Option Cause)) (settled_all : AreSettled ws ts cs) (g : Group) (ready : is_ready (slice_get ws g.1) ≡ true) (before : List Value) (seen : List Posting) (moves : before ≡ moved seen) (sums : List Value) (v : IsVisited ws before g sums None) where
  same_here : group_in g.0 (slice_get ts g.1) ≡ postings_of_group g.0 (slice_get ws g.1)
  same_here = same_group_postings ws ts cs before g.0 g.1 settled_all ready v.is

  -- what the group moves fits
  pub fits_here : turnover_fits (moved (seen ++ group_in g.0 (slice_get ts g.1))) ≡ true
  fits_here =
      ap turnover_fits (ap (λ (ps : List Posting). moved (seen ++ ps)) same_here ∙ flat_map-append moved_by seen (postings_of_group g.0 (slice_get ws g.1))
      ∙ sym (λ i. moves i ++ moved_postings g.0 (slice_get ws g.1) i))
      ∙ turnover_within _ sums (v.more refl)

  pub passed_claims : (own below : Keeping) (fault : Option Fault) → AreClaimed seen (group_in g.0 (slice_get ts g.1)) own below fault → IsPassed ws before seen g sums own below fault
  passed_claims own below fault a = record {
    is = a.is ∙ ap (first_failure seen) same_here ∙ ap (λ (o : Option Fault). or_else_fault o (first_failure seen (postings_of_group g.0 (slice_get ws g.1)))) v.is;
    more = λ none. v.more refl;
    kept = λ none. subst (λ (ps : List Posting). IsBalance (seen ++ ps) own below) same_here (a.kept none);
  }

-- ---- one group after another

pub walk_none : (written : List Txn) (groups : List Group) (own below : Keeping) → IsBalance [] own below → IsWalked written groups groups [] [] [] own below
walk_none written groups own below h = record { rest = refl; all = refl; moves = refl; turnover = turnover_none; balance = h }

or_else_both : (a b c : Option Fault) → or_else_fault a (or_else_fault b c) ≡ or_else_fault (or_else_fault a b) c
or_else_both None b c = refl
or_else_both (Some f) b c = refl

module _ (written : List Txn) (groups : List Group) (before : List Value) (seen : List Posting) (sums : List Value) (own below : Keeping) (i : ℕ) (g : Group) (within : i < length groups) (is : g ≡ get_or groups i g)
    (walked : IsWalked written groups (drop i groups) before seen sums own below) where
  pub left_here : drop i groups ≡ g ∷ drop (i + 1) groups
  left_here = let cut : drop i groups ≡ get_or groups i g ∷ drop (i + 1) groups = rw (add-one, drop-cons groups i g) refl in cut ∙ ap (λ (x : Group). x ∷ drop (i + 1) groups) (sym is)

  abbrev next : List Value
  next = before ++ moved_of_group g.0 (slice_get written g.1)

  abbrev next_seen : List Posting
  next_seen = seen ++ postings_of_group g.0 (slice_get written g.1)

  rest_here : first_fault written [] [] groups ≡ or_else_fault (answer_of_group written before seen g) (first_fault written next next_seen (drop (i + 1) groups))
  rest_here = walked.rest ∙ ap (first_fault written before seen) left_here ∙ or_else_both (fault_of_group before g.0 (slice_get written g.1)) (first_failure seen (postings_of_group g.0 (slice_get written g.1))) (first_fault written next next_seen (drop (i + 1) groups))

  pub walk_more : (new : List Value) (own' below' : Keeping) (fault : Option Fault) → IsPassed written before seen g new own' below' fault → fault ≡ None → IsWalked written groups (drop (i + 1) groups) next next_seen new own' below'
  walk_more new own' below' fault v none = record {
    rest = rest_here ∙ ap (λ (f : Option Fault). or_else_fault f (first_fault written next next_seen (drop (i + 1) groups))) (sym v.is ∙ none);
    all = walked.all ∙ ap (moved_before written before) left_here;
    moves = ap (λ (vs : List Value). vs ++ moved_of_group g.0 (slice_get written g.1)) walked.moves ∙ ap (λ (vs : List Value). moved seen ++ vs) (moved_postings g.0 (slice_get written g.1))
        ∙ sym (flat_map-append moved_by seen (postings_of_group g.0 (slice_get written g.1)));
    turnover = v.more none;
    balance = v.kept none;
  }

  pub walk_stop : (new : List Value) (own' below' : Keeping) (fault : Option Fault) → IsPassed written before seen g new own' below' fault → is_some fault ≡ true → (ts : List Txn) (cs : List (Option Cause)) → IsTold written ts cs groups fault
  walk_stop new own' below' None v some ts cs = absurd (false≢true some)
  walk_stop new own' below' (Some f) v some ts cs = record {
    settled = λ none. absurd (let never : ⊥ = cc in never);
    is = sym (rest_here ∙ ap (λ (f : Option Fault). or_else_fault f (first_fault written next next_seen (drop (i + 1) groups))) (sym v.is));
    within = λ none. absurd (let never : ⊥ = cc in never);
    few = λ none. absurd (let never : ⊥ = cc in never);
  }

pub walk_end : (written : List Txn) (groups left : List Group) (before : List Value) (seen : List Posting) (sums : List Value) (own below : Keeping) → left ≡ [] → IsWalked written groups left before seen sums own below → (ts : List Txn) (cs : List (Option Cause)) → AreSettled written ts cs → IsTold written ts cs groups None
walk_end written groups left before seen sums own below empty walked ts cs h = record {
  settled = λ none. h;
  is = sym (walked.rest ∙ ap (first_fault written before seen) empty);
  within = λ none. ap turnover_fits (walked.all ∙ ap (moved_before written before) empty) ∙ turnover_within before sums walked.turnover;
  few = λ none. subst (AllByRecursion (λ v. v.1.places ≤ 36)) (sym (walked.all ∙ ap (moved_before written before) empty)) walked.turnover.few;
}

pub none-from : (fault : Option Fault) → is_some fault ≡ false → fault ≡ None
none-from None h = refl
none-from (Some f) h = absurd (false≢true (sym h))

-- ---- reading

groups-push : (n : ℕ) (ws : List Txn) (w : Txn) → groups_from n (ws ++ w ∷ []) ≡ groups_from n ws ++ groups_by (n + length ws) w w.postings
groups-push n [] w = append-nil (groups_by n w w.postings) ∙ ap (λ k. groups_by k w w.postings) (omega arith)
groups-push n (x ∷ ws) w =
    ap (λ (gs : List Group). groups_by n x x.postings ++ gs) (groups-push (n + 1) ws w ∙ ap (λ k. groups_from (n + 1) ws ++ groups_by k w w.postings) (omega arith))
    ∙ sym (append_assoc (groups_by n x x.postings) (groups_from (n + 1) ws) _)

pub read_none : IsRead [] [] [] []
read_none = record { settled = tt; groups = λ rest. refl }

pub read_more : (ws ts : List Txn) (cs : List (Option Cause)) (noted new : List Group) (w t : Txn) (c : Option Cause) (number : ℕ) → IsRead ws ts cs noted → number ≡ length ts → IsSettled w t c
    → ((rest : List Group) → each_once group_cmp (new ++ rest) ≡ each_once group_cmp (noted ++ (groups_by number w w.postings ++ rest)))
    → IsRead (ws ++ w ∷ []) (ts ++ t ∷ []) (cs ++ c ∷ []) new
read_more ws ts cs noted new w t c number h is s more = record {
  settled = settled-push ws ts cs w t c h.settled s;
  groups = λ rest.
      more rest ∙ h.groups (groups_by number w w.postings ++ rest)
      ∙ ap (each_once group_cmp)
      (ap (λ k. groups_from 0 ws ++ (groups_by k w w.postings ++ rest)) (is ∙ (settled-lengths ws ts cs h.settled).0 ∙ omega arith)
      ∙ sym (append_assoc (groups_from 0 ws) (groups_by (0 + length ws) w w.postings) rest) ∙ ap (λ (gs : List Group). gs ++ rest) (sym (groups-push 0 ws w)));
}
