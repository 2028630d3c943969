-- A text without a fault: each of its transactions has what was found.
use Rattle.std.proofs.Common.{◌≡◌, ℕ, zero, suc, ◌+◌, Bool, true, false, ◌||◌, List, [], ◌∷◌, ◌++◌, map, Option, Some, None, Ok, Err, refl, sym, ap, ◌∙◌, subst, arith}
use Rattle.std.specs.declared.cmp.Ordering.TheVariants.{Less, Equal, Greater}
use Rattle.std.specs.declared.cmp.Ordering.{Ordering}
use Rattle.std.specs.List.{slice_get, list_any}
use Rattle.std.specs.Ordering.{eq_by_cmp, is_eq, nat_cmp, ordering_then}
use Rattle.std.specs.FinMap.{IsAntisymmetric, nat_cmp-IsAntisymmetric}
use Rattle.std.proofs.lemmas.Bool.{false≢true}
use Rattle.book.specs.declared.fault.Cause.{Cause}
use Rattle.book.specs.declared.fault.Fault.{Fault}
use Rattle.book.specs.declared.transaction.Posting.{Posting}
use Rattle.book.specs.declared.transaction.Txn.{Txn}
use Rattle.book.specs.Order.{each_once}
use Rattle.book.proofs.Order.{contains-each_once, is_equal}
use Rattle.entry_balance.specs.Values.{Value}
use Rattle.entry_balance.specs.Tally.{turnover_fits}
use Rattle.entry_balance.specs.Entry.{cause_alone, is_assignable}
use Rattle.balancing.specs.Groups.{Group, group_cmp, groups_by, groups_from, groups_of, day_of}
use Rattle.balancing.specs.Load.{moved_on, moved_of_group, group_cause, fault_at, fault_of_group, first_fault, loaded, book_of}
use Rattle.assertions.specs.Assertions.{or_else_fault, first_failure}
use Rattle.balancing.specs.Parts.{postings_of_group}
use Rattle.balancing.specs.Assigned.{is_ready}
use Rattle.entry_balance.specs.Entry.{settled}
use Rattle.entry_balance.specs.Settled.{lacks_sums, AreSettled}
use Rattle.std.proofs.lemmas.List.{append-nil}
use Rattle.balancing.specs.Walk.{IsRead}
use Rattle.balancing.proofs.Ordered.{same_group}
use Rattle.balancing.proofs.Walked.{lacks_told, not_true, solved_here}

then_equal : (a b : Ordering) → ordering_then a b ≡ Equal → (a ≡ Equal) × (b ≡ Equal)
then_equal Less b h = absurd (let never : ⊥ = cc in never)
then_equal Equal b h = (refl, h)
then_equal Greater b h = absurd (let never : ⊥ = cc in never)

pub group_ties : IsAntisymmetric group_cmp
group_ties g h e =
    let parts = then_equal (nat_cmp g.0 h.0) (nat_cmp g.1 h.1) e in
    λ i. (nat_cmp-IsAntisymmetric g.0 h.0 parts.0 i, nat_cmp-IsAntisymmetric g.1 h.1 parts.1 i)

abbrev pub has_group : Group → List Group → Bool
has_group g gs = list_any (eq_by_cmp group_cmp g) gs

pub has-left : (g : Group) (gs hs : List Group) → has_group g gs ≡ true → has_group g (gs ++ hs) ≡ true
has-left g [] hs h = absurd (false≢true h)
has-left g (x ∷ gs) hs h =
    elim (eq_by_cmp group_cmp g x) as (λ b. (b || has_group g gs) ≡ true → (b || has_group g (gs ++ hs)) ≡ true) [ true ↦ λ e. refl | false ↦ λ e. has-left g gs hs e ] h

pub has-right : (g : Group) (gs hs : List Group) → has_group g hs ≡ true → has_group g (gs ++ hs) ≡ true
has-right g [] hs h = h
has-right g (x ∷ gs) hs h =
    elim (eq_by_cmp group_cmp g x) as (λ b. (b || has_group g (gs ++ hs)) ≡ true) [ true ↦ refl | false ↦ has-right g gs hs h ]

pub has-first : (g : Group) (gs : List Group) → has_group g (g ∷ gs) ≡ true
has-first g gs = ap (λ (o : Ordering). is_eq o || has_group g gs) (same_group g)

-- a transaction has a group
some_group : (n : ℕ) (t : Txn) (ps : List Posting) → (day : ℕ) × (has_group (day, n) (groups_by n t ps) ≡ true)
some_group n t [] = (t.day.0, has-first (t.day.0, n) [])
some_group n t (p ∷ ps) = (day_of t p, has-first (day_of t p, n) (map (λ q. (day_of t q, n)) ps))

group_at : (m : ℕ) (ws : List Txn) (k : ℕ) (w : Txn) → slice_get ws k ≡ Some w → (day : ℕ) × (has_group (day, m + k) (groups_from m ws) ≡ true)
group_at m [] k w h = absurd (let never : ⊥ = cc in never)
group_at m (x ∷ ws) zero w h =
    let here = some_group m x x.postings in
    let number : m ≡ m + 0 = omega arith in
    (here.0, subst (λ n. has_group (here.0, n) (groups_by m x x.postings ++ groups_from (m + 1) ws) ≡ true) number (has-left (here.0, m) (groups_by m x x.postings) (groups_from (m + 1) ws) here.1))
group_at m (x ∷ ws) (suc k) w h =
    let there = group_at (m + 1) ws k w h in
    let number : (m + 1) + k ≡ m + suc k = omega arith in
    (there.0, subst (λ n. has_group (there.0, n) (groups_by m x x.postings ++ groups_from (m + 1) ws) ≡ true) number (has-right (there.0, (m + 1) + k) (groups_by m x x.postings) (groups_from (m + 1) ws) there.1))

none_of : (a b : Option Fault) → or_else_fault a b ≡ None → (a ≡ None) × (b ≡ None)
none_of None b h = (refl, h)
none_of (Some f) b h = absurd (let never : ⊥ = cc in never)

-- where no group has a fault, this one has none
no_fault_of : (written : List Txn) (before : List Value) (seen : List Posting) (gs : List Group) (g : Group) → first_fault written before seen gs ≡ None → has_group g gs ≡ true → (others : List Value) × (fault_of_group others g.0 (slice_get written g.1) ≡ None)
no_fault_of written before seen [] g h has = absurd (false≢true has)
no_fault_of written before seen (x ∷ gs) g h has =
    let parts = none_of (fault_of_group before x.0 (slice_get written x.1)) _ h in
    elim (eq_by_cmp group_cmp g x) as (λ b. eq_by_cmp group_cmp g x ≡ b → (b || has_group g gs) ≡ true → (others : List Value) × (fault_of_group others g.0 (slice_get written g.1) ≡ None)) [
      | true ↦ λ e _. (before, subst (λ (y : Group). fault_of_group before y.0 (slice_get written y.1) ≡ None) (sym (group_ties g x (is_equal _ e))) parts.0)
      | false ↦ λ e rest. no_fault_of written (before ++ moved_of_group x.0 (slice_get written x.1)) (seen ++ postings_of_group x.0 (slice_get written x.1)) gs g (none_of (first_failure seen (postings_of_group x.0 (slice_get written x.1))) _ parts.1).1 rest
    ] refl has

has_sums : (c : Option Cause) (line : ℕ) (a b : Bool) → lacks_sums c ≡ b → fault_at line (group_cause a c) ≡ None → b ≡ false
has_sums c line a true e none = absurd (lacks_told line c a e none)
has_sums c line a false e none = refl

-- each transaction of a text without a fault has sums
each_has_sums : (written : List Txn) → first_fault written [] [] (groups_of written) ≡ None → (k : ℕ) (w : Txn) → slice_get written k ≡ Some w → lacks_sums (cause_alone w.postings) ≡ false
each_has_sums written h k w at =
    let group = group_at 0 written k w at in
    let there : has_group (group.0, 0 + k) (groups_of written) ≡ true = contains-each_once group_ties (groups_from 0 written) (group.0, 0 + k) ∙ group.1 in
    let none = no_fault_of written [] [] (groups_of written) (group.0, 0 + k) h there in
    let number : 0 + k ≡ k = omega arith in
    let told : fault_of_group none.0 group.0 (Some w) ≡ None = ap (fault_of_group none.0 group.0) (sym (ap (slice_get written) number ∙ at)) ∙ none.1 in
    has_sums (cause_alone w.postings) w.line (turnover_fits (none.0 ++ moved_on group.0 (settled w))) _ refl told

all_settled : (ws ts : List Txn) (cs : List (Option Cause)) → AreSettled ws ts cs → ((k : ℕ) (w : Txn) → slice_get ws k ≡ Some w → (is_assignable w.postings ≡ false) × (lacks_sums (cause_alone w.postings) ≡ false)) → ts ≡ map settled ws
all_settled [] [] [] h sums = refl
all_settled [] [] (c ∷ cs) h sums = absurd h
all_settled [] (t ∷ ts) cs h sums = absurd h
all_settled (w ∷ ws) [] cs h sums = absurd h
all_settled (w ∷ ws) (t ∷ ts) [] h sums = absurd h
all_settled (w ∷ ws) (t ∷ ts) (c ∷ cs) h sums =
    let here = sums 0 w refl in
    let first : t ≡ settled w = solved_here w t c here.0 h.0 (ap lacks_sums h.0.cause ∙ here.1) in
    let rest = all_settled ws ts cs h.1 (λ k v e. sums (suc k) v e) in
    λ i. first i ∷ rest i

-- the book of a text without a fault, whose assignments are made
pub whole_book : (all ts : List Txn) (cs : List (Option Cause)) → ((k : ℕ) → is_ready (slice_get all k) ≡ true) → AreSettled all ts cs → None ≡ first_fault all [] [] (groups_of all) → ts ≡ map settled all
whole_book all ts cs ready h none = all_settled all ts cs h (λ k w at. (not_true (is_assignable w.postings) (ap is_ready (sym at) ∙ ready k), each_has_sums all (sym none) k w at))

pub book_ok : (all ts : List Txn) (cs : List (Option Cause)) → ((k : ℕ) → is_ready (slice_get all k) ≡ true) → AreSettled all ts cs → None ≡ first_fault all [] [] (groups_of all) → book_of all ≡ Ok (record { txns = ts })
book_ok all ts cs ready h none = ap (loaded all) (sym none) ∙ ap (λ (xs : List Txn). Ok (record { txns = xs })) (sym (whole_book all ts cs ready h none))

pub book_fault : (all : List Txn) (fault : Fault) → Some fault ≡ first_fault all [] [] (groups_of all) → book_of all ≡ Err fault
book_fault all fault is = ap (loaded all) (sym is)

-- the groups that were noted, in their order
pub groups_noted : (written ts : List Txn) (cs : List (Option Cause)) (noted ordered : List Group) → IsRead written ts cs noted → ordered ≡ each_once group_cmp noted → ordered ≡ groups_of written
groups_noted written ts cs noted ordered read order =
    order ∙ ap (each_once group_cmp) (sym (append-nil noted)) ∙ read.groups [] ∙ ap (each_once group_cmp) (append-nil (groups_from 0 written))
