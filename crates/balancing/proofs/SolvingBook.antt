-- The book of made transactions: its groups, what it moves, and what it means that no group has a fault.
use Rattle.std.proofs.Common.{◌≡◌, ℕ, zero, suc, ◌+◌, Bool, true, false, cond, ◌&&◌, ◌||◌, not, List, [], ◌∷◌, ◌++◌, map, filter, Option, Some, None, is_none, refl, sym, ap, ◌∙◌, subst, arith}
use Rattle.std.specs.Prelude.{unwrap_or}
use Rattle.std.specs.List.{list_all, slice_get, AllByRecursion}
use Rattle.std.specs.Option.{option_map}
use Rattle.std.proofs.lemmas.Bool.{false≢true}
use Rattle.std.proofs.lemmas.List.{append_assoc, append-nil, map-append}
use Rattle.std.proofs.lemmas.Grind.{flat_map-append}
use Rattle.hl_num.specs.Decimal.{Decimal}
use Rattle.hl_time.specs.declared.day.Day.{Day}
use Rattle.book.specs.declared.amount.Amount.{Amount}
use Rattle.book.specs.declared.amount.Assertion.{Assertion}
use Rattle.book.specs.declared.fault.Cause.{Cause}
use Rattle.book.specs.declared.fault.Cause.TheVariants as cause
use Rattle.book.specs.declared.fault.Fault.{Fault}
use Rattle.book.specs.declared.transaction.Posting.{Posting}
use Rattle.book.specs.declared.transaction.Txn.{Txn}
use Rattle.book.specs.Order.{each_once}
use Rattle.book.specs.Postings.{postings_of}
use Rattle.book.specs.SumsBefore.{placed_in, placed_from}
use Rattle.entry_balance.specs.Values.{Value}
use Rattle.entry_balance.specs.Tally.{total_of, sums_of, turnover_fits}
use Rattle.entry_balance.specs.Entry.{settled, solved_posting, found_posting, found_values, recorded_cost, moved, moved_by, cause_alone, has_two_missing, fits_alone, unbalanced_by, unbalanced_sums, has_assignment, assignment_fault, is_assignable, with_postings}
use Rattle.entry_balance.proofs.Turnover.{fits-first}
use Rattle.balancing.specs.Groups.{Group, group_cmp, groups_by, groups_from, groups_of, day_of}
use Rattle.assertions.specs.Assertions.{is_same, is_other, first_of, found_instead, failure_at, failure_of, first_failure, or_else_fault, held_in}
use Rattle.balancing.specs.Parts.{postings_of_group}
use Rattle.balancing.specs.Assigned.{given_by, given_postings_by}
use Rattle.balancing.specs.Load.{moved_on, moved_of_group, group_cause, fault_at, fault_of_group, first_fault}
use Rattle.balancing.specs.Solves.{is_allowed, Holds, HoldsIf, AreMade, AreMadeTxns}
use Rattle.balancing.proofs.SolvingRising.{all_append, all_by}
use Rattle.balancing.proofs.SolvingGroups.{Covered, has_group, has-each_once}
use Rattle.balancing.proofs.SolvingWalk.{Entry, group_in, placed_group, walk_of, unplaced_on}
use Rattle.balancing.proofs.SolvingSeen.{EachAfter, each_append, each_first, each_second}
use Rattle.balancing.proofs.SolvingMade.{costed_alike, solved_by}
use Rattle.balancing.proofs.SolvingTxn.{made_day}
use Rattle.balancing.proofs.SolvingLists.{has-left, has-right, has-first, found_on, AreGiven}

-- ---- every posting is of a group

abbrev HasDay : List Group → ℕ → Txn → Posting → Type 0
HasDay G n T q = has_group (day_of T q, n) G ≡ true

found_days : (G : List Group) (n : ℕ) (m : Txn) (p : Posting) (vs : List Value) → HasDay G n m p → AllByRecursion (HasDay G n (settled m)) (map (found_posting p) vs)
found_days G n m p [] h = tt
found_days G n m p (v ∷ vs) h = (h, found_days G n m p vs h)

solved_day : (G : List Group) (n : ℕ) (m : Txn) (ps0 : List Posting) (p : Posting) (a : Option Amount) → HasDay G n m p → AllByRecursion (HasDay G n (settled m)) (solved_posting ps0 p a)
solved_day G n m ps0 p None h = found_days G n m p (found_values p.side ps0) h
solved_day G n m ps0 p (Some a) h =
    (ap (λ (o : Option Day). has_group ((unwrap_or o m.day).0, n) G) (costed_alike (recorded_cost ps0) p).day ∙ h, tt)

solved_days : (G : List Group) (n : ℕ) (m : Txn) (ps0 ps : List Posting) → AllByRecursion (HasDay G n m) ps → AllByRecursion (HasDay G n (settled m)) (solved_by ps0 ps)
solved_days G n m ps0 [] h = tt
solved_days G n m ps0 (p ∷ ps) h = all_append (HasDay G n (settled m)) (solved_posting ps0 p p.amount) (solved_by ps0 ps) (solved_day G n m ps0 p p.amount h.0) (solved_days G n m ps0 ps h.1)

own_days : (n : ℕ) (m : Txn) (ps : List Posting) → AllByRecursion (HasDay (map (λ q. (day_of m q, n)) ps) n m) ps
own_days n m [] = tt
own_days n m (p ∷ ps) =
    let gs : List Group = map (λ q. (day_of m q, n)) ps in (
      has-first (day_of m p, n) gs,
      all_by (HasDay gs n m) (HasDay ((day_of m p, n) ∷ gs) n m) (λ q h. has-right (day_of m q, n) ((day_of m p, n) ∷ []) gs h) ps (own_days n m ps),
    )

by_days : (n : ℕ) (m : Txn) (ps : List Posting) → AllByRecursion (HasDay (groups_by n m ps) n m) ps
by_days n m [] = tt
by_days n m (p ∷ ps) = own_days n m (p ∷ ps)

placed_days : (G : List Group) (n k : ℕ) (T : Txn) (qs : List Posting) → AllByRecursion (HasDay G n T) qs → Covered group_in G (placed_in T n k qs)
placed_days G n k T [] h = tt
placed_days G n k T (q ∷ qs) h = (h.0, placed_days G n (suc k) T qs h.1)

covered_from : (G : List Group) (n : ℕ) (ms : List Txn) → ((g : Group) → has_group g (groups_from n ms) ≡ true → has_group g G ≡ true) → Covered group_in G (placed_from n (map settled ms))
covered_from G n [] h = tt
covered_from G n (m ∷ ms) h =
    let T = settled m in
    let own = all_by (HasDay (groups_by n m m.postings) n m) (HasDay G n m) (λ q e. h (day_of m q, n) (has-left (day_of m q, n) (groups_by n m m.postings) (groups_from (n + 1) ms) e)) m.postings (by_days n m m.postings) in
    let next : suc n ≡ n + 1 = omega arith in
    all_append (λ e. has_group (group_in e) G ≡ true) (placed_in T n 0 T.postings) (placed_from (suc n) (map settled ms))
    (placed_days G n 0 T T.postings (solved_days G n m m.postings m.postings own))
    (covered_from G (suc n) ms (λ g e. h g (has-right g (groups_by n m m.postings) (groups_from (n + 1) ms) (subst (λ (k : ℕ). has_group g (groups_from k ms) ≡ true) next e))))

-- each posting of the book is of one of the groups of what is made
pub book_covered : (made : List Txn) → Covered group_in (groups_of made) (placed_from 0 (map settled made))
book_covered made = covered_from (groups_of made) 0 made (λ g e. has-each_once (groups_from 0 made) g e)

-- the groups of what is made are those of what is written
made_days : (n : ℕ) (t u : Txn) → u.day ≡ t.day → (ws qs : List Posting) → AreMade ws qs → map {B = Group} (λ q. (day_of u q, n)) qs ≡ map (λ q. (day_of t q, n)) ws
made_days n t u e [] [] h = refl
made_days n t u e [] (q ∷ qs) h = absurd h
made_days n t u e (w ∷ ws) [] h = absurd h
made_days n t u e (w ∷ ws) (q ∷ qs) h =
    λ i. ((unwrap_or (made_day w.amount w.wanted w q h.0 i) (e i)).0, n) ∷ made_days n t u e ws qs h.1 i

pub made_groups_by : (n : ℕ) (t u : Txn) → u.day ≡ t.day → (ws qs : List Posting) → AreMade ws qs → groups_by n u qs ≡ groups_by n t ws
made_groups_by n t u e [] [] h = ap (λ (d : Day). (d.0, n) ∷ []) e
made_groups_by n t u e [] (q ∷ qs) h = absurd h
made_groups_by n t u e (w ∷ ws) [] h = absurd h
made_groups_by n t u e (w ∷ ws) (q ∷ qs) h = made_days n t u e (w ∷ ws) (q ∷ qs) h

made_groups_from : (n : ℕ) (ws ms : List Txn) → AreMadeTxns ws ms → groups_from n ms ≡ groups_from n ws
made_groups_from n [] [] h = refl
made_groups_from n [] (m ∷ ms) h = absurd h
made_groups_from n (w ∷ ws) [] h = absurd h
made_groups_from n (w ∷ ws) (m ∷ ms) h =
    let first = made_groups_by n w m (ap (λ (x : Txn). x.day) h.0.rest) w.postings m.postings h.0.postings in
    let rest = made_groups_from (n + 1) ws ms h.1 in
    λ i. first i ++ rest i

pub made_groups : (ws ms : List Txn) → AreMadeTxns ws ms → groups_of ms ≡ groups_of ws
made_groups ws ms h = ap (each_once group_cmp) (made_groups_from 0 ws ms h)

-- ---- the walk without places

pub settled_at : (ms : List Txn) (n : ℕ) → slice_get (map settled ms) n ≡ option_map settled (slice_get ms n)
settled_at [] n = refl
settled_at (m ∷ ms) zero = refl
settled_at (m ∷ ms) (suc n) = settled_at ms n

group_names : (g : Group) (o : Option Txn) → map (λ (e : Entry). e.1) (placed_group g (option_map settled o)) ≡ postings_of_group g.0 o
group_names g None = refl
group_names g (Some t) = unplaced_on g.0 g.1 (settled t)

pub walk_names : (made : List Txn) (gs : List Group) → map (λ (e : Entry). e.1) (walk_of (map settled made) gs) ≡ found_on made gs
walk_names made [] = refl
walk_names made (g ∷ gs) =
    map-append (λ (e : Entry). e.1) (placed_group g (slice_get (map settled made) g.1)) (walk_of (map settled made) gs)
    ∙ (λ i. (ap (λ (o : Option Txn). map (λ (e : Entry). e.1) (placed_group g o)) (settled_at made g.1) ∙ group_names g (slice_get made g.1)) i ++ walk_names made gs i)

placed_names : (t : Txn) (n k : ℕ) (ps : List Posting) → map (λ (e : Entry). e.1) (placed_in t n k ps) ≡ ps
placed_names t n k [] = refl
placed_names t n k (p ∷ ps) = ap (λ (qs : List Posting). p ∷ qs) (placed_names t n (suc k) ps)

pub text_names : (n : ℕ) (book : List Txn) → map (λ (e : Entry). e.1) (placed_from n book) ≡ postings_of book
text_names n [] = refl
text_names n (t ∷ ts) =
    map-append (λ (e : Entry). e.1) (placed_in t n 0 t.postings) (placed_from (suc n) ts)
    ∙ (λ i. placed_names t n 0 t.postings i ++ text_names (suc n) ts i)

-- ---- no group has a fault

-- an assertion holds just after its posting
abbrev pub HoldsAfter : List Posting → Posting → Type 0
HoldsAfter seen p = HoldsIf p.wanted (λ w. held_in w.below p.account (seen ++ p ∷ []))

pub none_of : (a b : Option Fault) → or_else_fault a b ≡ None → (a ≡ None) × (b ≡ None)
none_of None b h = (refl, h)
none_of (Some f) b h = absurd (let never : ⊥ = cc in never)

first_none : (vs : List Value) → first_of vs ≡ None → vs ≡ []
first_none [] h = refl
first_none (v ∷ vs) h = absurd (let never : ⊥ = cc in never)

not_failed : (line : ℕ) (w : Assertion) (o : Option Value) → failure_at line w o ≡ None → o ≡ None
not_failed line w None h = refl
not_failed line w (Some v) h = absurd (let never : ⊥ = cc in never)

found_none : (w : Assertion) (values : List Value) → found_instead w values ≡ None → Holds w values
found_none w values h = by (is_same (total_of w.amount.symbol values) w.amount.value) w.only refl refl h
  where
    by : (a b : Bool) → is_same (total_of w.amount.symbol values) w.amount.value ≡ a → w.only ≡ b → cond {A = Option Value} a (cond {A = Option Value} b (first_of (filter (is_other w.amount.symbol) (sums_of values))) None) (Some (w.amount.symbol, total_of w.amount.symbol values)) ≡ None → Holds w values
    by true true e f k = record { sum = e; only = λ _. first_none _ k }
    by true false e f k = record { sum = e; only = λ only. absurd (false≢true (sym f ∙ only)) }
    by false b e f k = absurd (let never : ⊥ = cc in never)

holds_by : (seen : List Posting) (p : Posting) (o : Option Assertion) → failure_of (seen ++ p ∷ []) p o ≡ None → HoldsIf o (λ w. held_in w.below p.account (seen ++ p ∷ []))
holds_by seen p None h = tt
holds_by seen p (Some w) h = found_none w (held_in w.below p.account (seen ++ p ∷ [])) (not_failed p.line w (found_instead w (held_in w.below p.account (seen ++ p ∷ []))) h)

all_hold : (seen ps : List Posting) → first_failure seen ps ≡ None → EachAfter HoldsAfter seen ps
all_hold seen [] h = tt
all_hold seen (p ∷ ps) h =
    let parts = none_of (failure_of (seen ++ p ∷ []) p p.wanted) (first_failure (seen ++ p ∷ []) ps) h in
    (holds_by seen p p.wanted parts.0, all_hold (seen ++ p ∷ []) ps parts.1)

pub no_cause : (line : ℕ) (c : Option Cause) → fault_at line c ≡ None → c ≡ None
no_cause line None h = refl
no_cause line (Some c) h = absurd (let never : ⊥ = cc in never)

pub group_ok : (fits : Bool) (c : Option Cause) → group_cause fits c ≡ None → (fits ≡ true) × (c ≡ None)
group_ok true None h = (refl, refl)
group_ok false None h = absurd (let never : ⊥ = cc in never)
group_ok true (Some cause.TwoMissing) h = absurd (let never : ⊥ = cc in never)
group_ok true (Some _) h = absurd (let never : ⊥ = cc in never)
group_ok false (Some cause.TwoMissing) h = absurd (let never : ⊥ = cc in never)
group_ok false (Some _) h = absurd (let never : ⊥ = cc in never)

-- what is moved by a group stays in range, and its transaction has no cause
abbrev pub HasNone : Option Txn → Type 0
HasNone None = Unit {0}
HasNone (Some t) = cause_alone t.postings ≡ None

group_facts : (before : List Value) (day : ℕ) (o : Option Txn) → fault_of_group before day o ≡ None → turnover_fits before ≡ true → (turnover_fits (before ++ moved (postings_of_group day o)) ≡ true) × HasNone o
group_facts before day None h fits = (ap turnover_fits (append-nil before) ∙ fits, tt)
group_facts before day (Some t) h fits = group_ok (turnover_fits (before ++ moved_on day (settled t))) (cause_alone t.postings) (no_cause t.line (group_cause (turnover_fits (before ++ moved_on day (settled t))) (cause_alone t.postings)) h)

pub moved_is : (day : ℕ) (o : Option Txn) → moved_of_group day o ≡ moved (postings_of_group day o)
moved_is day None = refl
moved_is day (Some t) = refl

pub record NoFault (made : List Txn) (before : List Value) (seen : List Posting) (gs : List Group) : Type 0 where
  pub hold : EachAfter HoldsAfter seen (found_on made gs)
  pub fits : turnover_fits (before ++ moved (found_on made gs)) ≡ true
  pub causes : AllByRecursion (λ g. HasNone (slice_get made g.1)) gs

pub no_fault : (made : List Txn) (before : List Value) (seen : List Posting) (gs : List Group) → turnover_fits before ≡ true → first_fault made before seen gs ≡ None → NoFault made before seen gs
no_fault made before seen [] fits h = record { hold = tt; fits = ap turnover_fits (append-nil before) ∙ fits; causes = tt }
no_fault made before seen (g ∷ gs) fits h =
    let o = slice_get made g.1 in
    let group = postings_of_group g.0 o in
    let parts = none_of (fault_of_group before g.0 o) (or_else_fault (first_failure seen group) (first_fault made (before ++ moved_of_group g.0 o) (seen ++ group) gs)) h in
    let more = none_of (first_failure seen group) (first_fault made (before ++ moved_of_group g.0 o) (seen ++ group) gs) parts.1 in
    let here = group_facts before g.0 o parts.0 fits in
    let next = ap (λ (vs : List Value). first_fault made (before ++ vs) (seen ++ group) gs) (sym (moved_is g.0 o)) ∙ more.1 in
    let rest = no_fault made (before ++ moved group) (seen ++ group) gs here.0 next in
    record {
      hold = each_append HoldsAfter seen group (found_on made gs) (all_hold seen group more.0) rest.hold;
      fits = ap (λ (vs : List Value). turnover_fits (before ++ vs)) (flat_map-append moved_by group (found_on made gs)) ∙ ap turnover_fits (sym (append_assoc before (moved group) (moved (found_on made gs)))) ∙ rest.fits;
      causes = (here.1, rest.causes);
    }

pub with_assignment : (ps : List Posting) → has_assignment ps ≡ true → cause_alone ps ≡ assignment_fault ps
with_assignment ps e = ap (λ (b : Bool). cond b (assignment_fault ps) (cond (has_two_missing ps) (Some cause.TwoMissing) (cond (fits_alone ps) (unbalanced_by (unbalanced_sums ps)) (Some cause.Range)))) e

-- ---- where nothing is wrong, no group has a fault

holds_not_failed : (line : ℕ) (w : Assertion) (values : List Value) → Holds w values → failure_at line w (found_instead w values) ≡ None
holds_not_failed line w values h = ap (failure_at line w) (ap (λ (b : Bool). cond {A = Option Value} b (cond {A = Option Value} w.only (first_of (filter (is_other w.amount.symbol) (sums_of values))) None) (Some (w.amount.symbol, total_of w.amount.symbol values))) h.sum ∙ others w.only refl)
  where
    others : (b : Bool) → w.only ≡ b → cond {A = Option Value} b (first_of (filter (is_other w.amount.symbol) (sums_of values))) None ≡ None
    others true e = ap first_of (h.only e)
    others false e = refl

not_failing : (seen : List Posting) (p : Posting) (o : Option Assertion) → HoldsIf o (λ w. held_in w.below p.account (seen ++ p ∷ [])) → failure_of (seen ++ p ∷ []) p o ≡ None
not_failing seen p None h = refl
not_failing seen p (Some w) h = holds_not_failed p.line w (held_in w.below p.account (seen ++ p ∷ [])) h

none_fail : (seen ps : List Posting) → EachAfter HoldsAfter seen ps → first_failure seen ps ≡ None
none_fail seen [] h = refl
none_fail seen (p ∷ ps) h = ap (λ (o : Option Fault). or_else_fault o (first_failure (seen ++ p ∷ []) ps)) (not_failing seen p p.wanted h.0) ∙ none_fail (seen ++ p ∷ []) ps h.1

no_group_fault : (before : List Value) (day : ℕ) (o : Option Txn) → turnover_fits (before ++ moved (postings_of_group day o)) ≡ true → HasNone o → fault_of_group before day o ≡ None
no_group_fault before day None fits none = refl
no_group_fault before day (Some t) fits none = λ i. fault_at t.line (group_cause (fits i) (none i))

pub none_found : (made : List Txn) (before : List Value) (seen : List Posting) (gs : List Group) → NoFault made before seen gs → first_fault made before seen gs ≡ None
none_found made before seen [] h = refl
none_found made before seen (g ∷ gs) h =
    let o = slice_get made g.1 in
    let group = postings_of_group g.0 o in
    let all : turnover_fits ((before ++ moved group) ++ moved (found_on made gs)) ≡ true =
    ap turnover_fits (append_assoc before (moved group) (moved (found_on made gs))) ∙ ap (λ (vs : List Value). turnover_fits (before ++ vs)) (sym (flat_map-append moved_by group (found_on made gs))) ∙ h.fits in
    let rest : NoFault made (before ++ moved group) (seen ++ group) gs = record { hold = each_second HoldsAfter seen group (found_on made gs) h.hold; fits = all; causes = h.causes.1 } in
    let later = ap (λ (vs : List Value). first_fault made (before ++ vs) (seen ++ group) gs) (moved_is g.0 o) ∙ none_found made (before ++ moved group) (seen ++ group) gs rest in
    ap (λ (f : Option Fault). or_else_fault f (or_else_fault (first_failure seen group) (first_fault made (before ++ moved_of_group g.0 o) (seen ++ group) gs))) (no_group_fault before g.0 o (fits-first (before ++ moved group) (moved (found_on made gs)) all) h.causes.0)
    ∙ ap (λ (f : Option Fault). or_else_fault f (first_fault made (before ++ moved_of_group g.0 o) (seen ++ group) gs)) (none_fail seen group (each_first HoldsAfter seen group (found_on made gs) h.hold))
    ∙ later

with_none : (ms : List Txn) → AllByRecursion (λ t. cause_alone t.postings ≡ None) ms → (n : ℕ) → HasNone (slice_get ms n)
with_none [] h n = tt
with_none (m ∷ ms) h zero = h.0
with_none (m ∷ ms) h (suc n) = with_none ms h.1 n

pub all_with_none : (ms : List Txn) (gs : List Group) → AllByRecursion (λ t. cause_alone t.postings ≡ None) ms → AllByRecursion (λ g. HasNone (slice_get ms g.1)) gs
all_with_none ms [] h = tt
all_with_none ms (g ∷ gs) h = (with_none ms h g.1, all_with_none ms gs h)

module _ (enter : Decimal → Decimal) where
  -- a transaction that was given without a cause may have its assignments
  allowed_one : (seen : List Posting) (t : Txn) → cause_alone (given_by enter seen t).postings ≡ None → is_allowed t ≡ true
  allowed_one seen t h = by (has_assignment t.postings) (assignment_fault t.postings) refl refl
    where
      by : (a : Bool) (c : Option Cause) → has_assignment t.postings ≡ a → assignment_fault t.postings ≡ c → (not a || is_none c) ≡ true
      by false c e f = refl
      by true None e f = refl
      by true (Some c) e f =
          let cannot : is_assignable t.postings ≡ false = λ i. e i && is_none (f i) in
          let same : given_by enter seen t ≡ t = ap (λ (b : Bool). cond b (with_postings t (given_postings_by enter seen t.postings)) t) cannot in
          let none : cause_alone t.postings ≡ None = ap (λ (x : Txn). cause_alone x.postings) (sym same) ∙ h in
          let told : cause_alone t.postings ≡ Some c = with_assignment t.postings e ∙ f in
          absurd (let never : ⊥ = cc in never)

  pub all_allowed : (ws ms : List Txn) → AreGiven enter ws ms → AllByRecursion (λ t. cause_alone t.postings ≡ None) ms → list_all is_allowed ws ≡ true
  all_allowed [] [] h causes = refl
  all_allowed [] (m ∷ ms) h causes = absurd h
  all_allowed (w ∷ ws) [] h causes = absurd h
  all_allowed (w ∷ ws) (m ∷ ms) h causes =
      let first = allowed_one h.0.0 w (subst (λ (x : Txn). cause_alone x.postings ≡ None) h.0.1 causes.0) in
      λ i. first i && all_allowed ws ms h.1 causes.1 i
