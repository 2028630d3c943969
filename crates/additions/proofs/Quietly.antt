-- Transactions that ask for nothing, as balancing leaves them.
use Rattle.std.proofs.Common.{◌≡◌, ℕ, ◌≤◌, true, false, not, ltb, ◌&&◌, ◌||◌, List, [], ◌∷◌, map, Option, Some, None, is_none, is_some, refl, sym, subst, ◌∙◌, arith}
use Rattle.std.specs.Prelude.{unwrap_or}
use Rattle.std.specs.List.{AllByRecursion, flat_map, list_all}
use Rattle.std.proofs.lemmas.Bool.{false≢true}
use Rattle.std.proofs.lemmas.Bool.Decides.{nat_tests}
use Rattle.hl_time.specs.declared.day.Day.{Day}
use Rattle.book.specs.declared.amount.Amount.{Amount}
use Rattle.book.specs.declared.amount.Assertion.{Assertion}
use Rattle.book.specs.declared.transaction.Posting.{Posting}
use Rattle.book.specs.declared.transaction.Txn.{Txn}
use Rattle.entry_balance.specs.Entry.{assignment_fault, costed_posting, found_posting, found_values, has_assignment, is_assignment, recorded_cost, settled, solved_posting}
use Rattle.entry_balance.specs.Values.{Value}
use Rattle.entry_balance.proofs.Named.{left_true, right_true}
use Rattle.balancing.specs.Groups.{day_of}
use Rattle.balancing.specs.Solves.{AreMade, AreMadeTxns, IsMade, IsMadeBy, is_allowed}
use Rattle.balancing.proofs.SolvingMade.{costed_alike}
use Rattle.additions.specs.Coming.{are_quiet, is_quiet, is_quiet_posting}
use Rattle.additions.proofs.Handing.{AreLate, AskNothing}
use Rattle.additions.proofs.Lists.{all_append, all_map, and_none}

-- ---- a posting

-- it asks for nothing, and stands on a day or after it
abbrev pub Late : ℕ → Txn → Posting → Type 0
Late day t q = (q.wanted ≡ None) × (day ≤ day_of t q)

none_is : (o : Option Assertion) → is_none o ≡ true → o ≡ None
none_is None h = refl
none_is (Some w) h = absurd (false≢true h)

not_less : (a b : ℕ) → not (ltb a b) ≡ true → b ≤ a
not_less a b h = grind (arith, nat_tests)

posting_quiet : (day : ℕ) (t : Txn) (p : Posting) → is_quiet_posting day t p ≡ true → Late day t p
posting_quiet day t p h =
    (none_is p.wanted (left_true (is_none p.wanted) (not (ltb (day_of t p) day)) h), not_less (day_of t p) day (right_true (is_none p.wanted) (not (ltb (day_of t p) day)) h))

postings_quiet : (day : ℕ) (t : Txn) (ps : List Posting) → list_all (is_quiet_posting day t) ps ≡ true → AllByRecursion (Late day t) ps
postings_quiet day t [] h = tt
postings_quiet day t (p ∷ ps) h =
    (posting_quiet day t p (left_true (is_quiet_posting day t p) (list_all (is_quiet_posting day t) ps) h), postings_quiet day t ps (right_true (is_quiet_posting day t p) (list_all (is_quiet_posting day t) ps) h))

wanted_none : (day : ℕ) (t : Txn) (q : Posting) → Late day t q → q.wanted ≡ None
wanted_none day t q h = h.0

late_day : (day : ℕ) (t : Txn) (q : Posting) → Late day t q → day ≤ day_of t q
late_day day t q h = h.1

-- ---- a transaction

none_assigned : (ps : List Posting) → AllByRecursion (λ p. p.wanted ≡ None) ps → has_assignment ps ≡ false
none_assigned [] h = refl
none_assigned (p ∷ ps) h =
    let here : is_assignment p ≡ false = (λ i. is_none p.amount && is_some (h.0 i)) ∙ and_none (is_none p.amount) in
    λ i. here i || none_assigned ps h.1 i

quiet_none : (day : ℕ) (t : Txn) → is_quiet day t ≡ true → AllByRecursion (λ p. p.wanted ≡ None) t.postings
quiet_none day t h = all_map (Late day t) (λ p. p.wanted ≡ None) (wanted_none day t) t.postings (postings_quiet day t t.postings h)

pub quiet_unassigned : (day : ℕ) (t : Txn) → is_quiet day t ≡ true → has_assignment t.postings ≡ false
quiet_unassigned day t h = none_assigned t.postings (quiet_none day t h)

-- as written
made_itself : (p : Posting) → p.wanted ≡ None → IsMade p p
made_itself p h = by p.amount p.wanted h
  where
    by : (a : Option Amount) (w : Option Assertion) → w ≡ None → IsMadeBy a w p p
    by (Some a) w e = refl
    by None None e = refl
    by None (Some w) e = absurd (let never : ⊥ = cc in never)

made_same : (ps : List Posting) → AllByRecursion (λ p. p.wanted ≡ None) ps → AreMade ps ps
made_same [] h = tt
made_same (p ∷ ps) h = (made_itself p h.0, made_same ps h.1)

-- ---- as balancing leaves it

found_late : (day : ℕ) (t : Txn) (p : Posting) (vs : List Value) → day ≤ day_of t p → AllByRecursion (Late day t) (map (found_posting p) vs)
found_late day t p [] h = tt
found_late day t p (v ∷ vs) h = ((refl, h), found_late day t p vs h)

posting_late : (day : ℕ) (t : Txn) (all : List Posting) (p : Posting) (a : Option Amount) → Late day t p → AllByRecursion (Late day t) (solved_posting all p a)
posting_late day t all p None h = found_late day t p (found_values p.side all) h.1
posting_late day t all p (Some a) h =
    let alike = costed_alike (recorded_cost all) p in
    let on : day ≤ day_of t (costed_posting (recorded_cost all) p) = subst (λ (d : Option Day). day ≤ (unwrap_or d t.day).0) (sym alike.day) h.1 in
    ((alike.wanted ∙ h.0, on), tt)

solved_late : (day : ℕ) (t : Txn) (all ps : List Posting) → AllByRecursion (Late day t) ps → AllByRecursion (Late day t) (flat_map (λ p. solved_posting all p p.amount) ps)
solved_late day t all [] h = tt
solved_late day t all (p ∷ ps) h =
    all_append (Late day t) (solved_posting all p p.amount) (flat_map (λ q. solved_posting all q q.amount) ps) (posting_late day t all p p.amount h.0) (solved_late day t all ps h.1)

-- all its postings are so
settled_late : (day : ℕ) (t : Txn) → is_quiet day t ≡ true → AllByRecursion (Late day t) (settled t).postings
settled_late day t h = solved_late day t t.postings t.postings (postings_quiet day t t.postings h)

-- ---- all of them

pub all_none : (day : ℕ) (us : List Txn) → are_quiet day us ≡ true → AllByRecursion AskNothing (map settled us)
all_none day [] h = tt
all_none day (u ∷ us) h =
    let here = left_true (is_quiet day u) (are_quiet day us) h in
    (all_map (Late day u) (λ q. q.wanted ≡ None) (wanted_none day u) (settled u).postings (settled_late day u here), all_none day us (right_true (is_quiet day u) (are_quiet day us) h))

pub all_late : (day : ℕ) (us : List Txn) → are_quiet day us ≡ true → AllByRecursion (AreLate day) (map settled us)
all_late day [] h = tt
all_late day (u ∷ us) h =
    let here = left_true (is_quiet day u) (are_quiet day us) h in
    (all_map (Late day u) (λ q. day ≤ day_of u q) (late_day day u) (settled u).postings (settled_late day u here), all_late day us (right_true (is_quiet day u) (are_quiet day us) h))

pub all_made : (day : ℕ) (us : List Txn) → are_quiet day us ≡ true → AreMadeTxns us us
all_made day [] h = tt
all_made day (u ∷ us) h =
    let here = left_true (is_quiet day u) (are_quiet day us) h in
    (record { postings = made_same u.postings (quiet_none day u here); rest = refl }, all_made day us (right_true (is_quiet day u) (are_quiet day us) h))

pub all_allowed : (day : ℕ) (us : List Txn) → are_quiet day us ≡ true → list_all is_allowed us ≡ true
all_allowed day [] h = refl
all_allowed day (u ∷ us) h =
    let here = quiet_unassigned day u (left_true (is_quiet day u) (are_quiet day us) h) in
    λ i. (not (here i) || is_none (assignment_fault u.postings)) && all_allowed day us (right_true (is_quiet day u) (are_quiet day us) h) i
