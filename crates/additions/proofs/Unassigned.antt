-- Transactions without assignments, by the book that they stand in.
use Rattle.std.proofs.Common.{◌≡◌, ℕ, zero, suc, Bool, true, false, not, ◌&&◌, ◌||◌, List, [], ◌∷◌, ◌++◌, map, Option, Some, None, is_none, is_some, refl, sym, ap, subst, ◌∙◌}
use Rattle.std.specs.List.{AllByRecursion, flat_map, list_any, slice_get}
use Rattle.std.proofs.lemmas.Bool.{false≢true}
use Rattle.std.proofs.lemmas.Grind.{flat_map-append}
use Rattle.book.specs.Postings.{postings_of}
use Rattle.book.specs.SumsBefore.{is_assigned}
use Rattle.book.specs.declared.amount.Amount.{Amount}
use Rattle.book.specs.declared.amount.Assertion.{Assertion}
use Rattle.book.specs.declared.transaction.Posting.{Posting}
use Rattle.book.specs.declared.transaction.Txn.{Txn}
use Rattle.entry_balance.specs.Entry.{assignment_fault, costed_posting, has_assignment, is_assignment, recorded_cost, settled, solved_posting, with_postings}
use Rattle.balancing.specs.Assigned.{assigned_posting, is_ready}
use Rattle.balancing.specs.Solves.{AreMade, AreMadeTxns, IsMadeBy, IsMadeTxn}
use Rattle.balancing.proofs.SolvingMade.{alike_assigned, costed_alike}
use Rattle.additions.specs.Asked.{has_assigned}
use Rattle.additions.specs.Coming.{are_quiet, is_quiet}
use Rattle.additions.proofs.Handing.{AskNothing}
use Rattle.additions.proofs.Lists.{and_none}
use Rattle.additions.proofs.Quietly.{quiet_unassigned}
use Rattle.entry_balance.proofs.Named.{left_true, right_true}

-- ---- tests of one of two

any_parts : {X : Type 0} (p : X → Bool) (xs ys : List X) → list_any p (xs ++ ys) ≡ (list_any p xs || list_any p ys)
any_parts p [] ys = refl
any_parts p (x ∷ xs) ys = ap (λ (b : Bool). p x || b) (any_parts p xs ys) ∙ assoc (p x) (list_any p xs) (list_any p ys)
  where
    assoc : (a b c : Bool) → (a || (b || c)) ≡ ((a || b) || c)
    assoc true b c = refl
    assoc false b c = refl

pub any_flat : (ts : List Txn) → list_any (λ t. list_any is_assigned t.postings) ts ≡ has_assigned ts
any_flat [] = refl
any_flat (t ∷ ts) = ap (λ (b : Bool). list_any is_assigned t.postings || b) (any_flat ts) ∙ sym (any_parts is_assigned t.postings (postings_of ts))

or_left : (a b : Bool) → (a || b) ≡ false → a ≡ false
or_left true b h = h
or_left false b h = refl

or_right : (a b : Bool) → (a || b) ≡ false → b ≡ false
or_right true b h = absurd (false≢true (sym h))
or_right false b h = h

or_none : (a : Bool) → (a || false) ≡ a
or_none true = refl
or_none false = refl

-- ---- what is written, by what stands in the book

abbrev pub Unassigned : Txn → Type 0
Unassigned t = has_assignment t.postings ≡ false

own_none : (all : List Posting) (a : Option Amount) (w : Option Assertion) (p q : Posting) → p.wanted ≡ w → IsMadeBy a w p q
    → list_any is_assigned (solved_posting all q q.amount) ≡ false → (is_none a && is_some w) ≡ false
own_none all (Some a) w p q e h k = refl
own_none all None None p q e h k = refl
own_none all None (Some w) p q e h k =
    let made = assigned_posting p h.0 in
    let stands = costed_posting (recorded_cost all) made in
    let alike : is_assigned stands ≡ is_assigned made = alike_assigned stands made (costed_alike (recorded_cost all) made) in
    let assigned : is_assigned made ≡ true = ap (λ (o : Option Assertion). is_some o) e in
    let one : list_any is_assigned (solved_posting all made made.amount) ≡ true = ap (λ (b : Bool). b || false) (alike ∙ assigned) in
    let none : list_any is_assigned (solved_posting all made made.amount) ≡ false =
    subst (λ (x : Posting). list_any is_assigned (solved_posting all x x.amount) ≡ false) h.1 k in
    absurd (false≢true (sym none ∙ one))

none_written : (all ps qs : List Posting) → AreMade ps qs → list_any is_assigned (flat_map (λ p. solved_posting all p p.amount) qs) ≡ false → has_assignment ps ≡ false
none_written all [] [] h k = refl
none_written all [] (q ∷ qs) h k = absurd h
none_written all (p ∷ ps) [] h k = absurd h
none_written all (p ∷ ps) (q ∷ qs) h k =
    let own = list_any is_assigned (solved_posting all q q.amount) in
    let rest = list_any is_assigned (flat_map (λ p. solved_posting all p p.amount) qs) in
    let both : (own || rest) ≡ false = sym (any_parts is_assigned (solved_posting all q q.amount) (flat_map (λ p. solved_posting all p p.amount) qs)) ∙ k in
    let here : is_assignment p ≡ false = own_none all p.amount p.wanted p q refl h.0 (or_left own rest both) in
    λ i. here i || none_written all ps qs h.1 (or_right own rest both) i

made_unassigned : (ws ms : List Txn) → AreMadeTxns ws ms → has_assigned (map settled ms) ≡ false → AllByRecursion Unassigned ws
made_unassigned [] [] h k = tt
made_unassigned [] (m ∷ ms) h k = absurd h
made_unassigned (w ∷ ws) [] h k = absurd h
made_unassigned (w ∷ ws) (m ∷ ms) h k =
    let own = list_any is_assigned (settled m).postings in
    let rest = has_assigned (map settled ms) in
    let both : (own || rest) ≡ false = sym (any_parts is_assigned (settled m).postings (postings_of (map settled ms))) ∙ k in
    (none_written m.postings w.postings m.postings (h.0).postings (or_left own rest both), made_unassigned ws ms h.1 (or_right own rest both))

-- where the book has no assignments, none is written
pub unassigned : (ws ms book : List Txn) → AreMadeTxns ws ms → book ≡ map settled ms → has_assigned book ≡ false → AllByRecursion Unassigned ws
unassigned ws ms book h is k = made_unassigned ws ms h (ap has_assigned (sym is) ∙ k)

pub all_unassigned : (day : ℕ) (us : List Txn) → are_quiet day us ≡ true → AllByRecursion Unassigned us
all_unassigned day [] h = tt
all_unassigned day (u ∷ us) h =
    (quiet_unassigned day u (left_true (is_quiet day u) (are_quiet day us) h), all_unassigned day us (right_true (is_quiet day u) (are_quiet day us) h))

-- ---- what is made of such transactions

same_posting : (a : Option Amount) (w : Option Assertion) (p q : Posting) → (is_none a && is_some w) ≡ false → IsMadeBy a w p q → q ≡ p
same_posting (Some a) w p q e h = h
same_posting None None p q e h = h
same_posting None (Some w) p q e h = absurd (false≢true (sym e))

same_postings : (ps qs : List Posting) → has_assignment ps ≡ false → AreMade ps qs → qs ≡ ps
same_postings [] [] e h = refl
same_postings [] (q ∷ qs) e h = absurd h
same_postings (p ∷ ps) [] e h = absurd h
same_postings (p ∷ ps) (q ∷ qs) e h =
    let here = same_posting p.amount p.wanted p q (or_left (is_assignment p) (has_assignment ps) e) h.0 in
    let rest = same_postings ps qs (or_right (is_assignment p) (has_assignment ps) e) h.1 in
    λ i. here i ∷ rest i

same_txn : (w m : Txn) → Unassigned w → IsMadeTxn w m → m ≡ w
same_txn w m e h = h.rest ∙ ap (with_postings w) (same_postings w.postings m.postings e h.postings)

-- they are as they are written
pub made_same : (ws ms : List Txn) → AllByRecursion Unassigned ws → AreMadeTxns ws ms → ms ≡ ws
made_same [] [] e h = refl
made_same [] (m ∷ ms) e h = absurd h
made_same (w ∷ ws) [] e h = absurd h
made_same (w ∷ ws) (m ∷ ms) e h = let here = same_txn w m e.0 h.0 in let rest = made_same ws ms e.1 h.1 in λ i. here i ∷ rest i

pub all_ready : (ws : List Txn) → AllByRecursion Unassigned ws → (n : ℕ) → is_ready (slice_get ws n) ≡ true
all_ready [] h n = refl
all_ready (w ∷ ws) h zero = ap (λ (b : Bool). not (b && is_none (assignment_fault w.postings))) h.0
all_ready (w ∷ ws) h (suc n) = all_ready ws h.1 n

-- ---- with transactions behind the book that ask for nothing

none_in : (ps : List Posting) → AllByRecursion (λ p. p.wanted ≡ None) ps → list_any is_assigned ps ≡ false
none_in [] h = refl
none_in (p ∷ ps) h =
    let here : is_assigned p ≡ false = (λ i. p.filled && is_some (h.0 i)) ∙ and_none p.filled in
    λ i. here i || none_in ps h.1 i

none_assigned : (vs : List Txn) → AllByRecursion AskNothing vs → has_assigned vs ≡ false
none_assigned [] h = refl
none_assigned (v ∷ vs) h = any_parts is_assigned v.postings (postings_of vs) ∙ (λ i. none_in v.postings h.0 i || none_assigned vs h.1 i)

pub same_assigned : (ts vs : List Txn) → AllByRecursion AskNothing vs → has_assigned (ts ++ vs) ≡ has_assigned ts
same_assigned ts vs h =
    ap (list_any is_assigned) (flat_map-append (λ (t : Txn). t.postings) ts vs)
    ∙ any_parts is_assigned (postings_of ts) (postings_of vs)
    ∙ ap (λ (b : Bool). has_assigned ts || b) (none_assigned vs h)
    ∙ or_none (has_assigned ts)
