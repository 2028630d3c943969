-- Transactions in which each posting has its amount stay as they are where assignments are made.
use Rattle.std.proofs.Common.{◌≡◌, ℕ, zero, suc, Bool, true, false, not, ◌&&◌, ◌||◌, cond, List, [], ◌∷◌, ◌++◌, map, Option, Some, None, is_some, is_none, refl, sym, ap, ◌∙◌}
use Rattle.std.specs.List.{flat_map, list_all, list_any, slice_get}
use Rattle.std.proofs.lemmas.Bool.{false≢true}
use Rattle.book.specs.declared.amount.Amount.{Amount}
use Rattle.book.specs.declared.rules.RulePosting.{RulePosting}
use Rattle.book.specs.declared.transaction.Posting.{Posting}
use Rattle.book.specs.declared.transaction.Txn.{Txn}
use Rattle.entry_balance.specs.Entry.{assignment_fault, has_assignment, is_assignable, is_assignment}
use Rattle.balancing.specs.Assigned.{is_ready}
use Rattle.balancing.specs.Load.{book_of}
use Rattle.balancing.proofs.Solving.{load_ready}
use Rattle.query.specs.Matching.{Own}
use Rattle.query.specs.Words.{terms_mean}
use Rattle.rule_entries.specs.Added.{made_posting}
use Rattle.generated.specs.Added.{added, added_by, with_added}
use Rattle.generated.specs.Judged.{has_amounts, judged}
use Rattle.generated.specs.Rules.{Asked}

-- no posting of a transaction is an assignment
abbrev unassigned : Txn → Bool
unassigned t = not (has_assignment t.postings)

both : (a b : Bool) → (a && b) ≡ true → (a ≡ true) × (b ≡ true)
both true b h = (refl, h)
both false b h = absurd (false≢true h)

ready_one : (ps : List Posting) (b : Bool) → has_assignment ps ≡ b → not b ≡ true → not (is_assignable ps) ≡ true
ready_one ps true e h = absurd (false≢true h)
ready_one ps false e h = ap (λ (b : Bool). not (b && is_none (assignment_fault ps))) e

all_ready : (ts : List Txn) → list_all unassigned ts ≡ true → (n : ℕ) → is_ready (slice_get ts n) ≡ true
all_ready [] h n = refl
all_ready (t ∷ ts) h zero = ready_one t.postings (has_assignment t.postings) refl (both (unassigned t) (list_all unassigned ts) h).0
all_ready (t ∷ ts) h (suc n) = all_ready ts (both (unassigned t) (list_all unassigned ts) h).1 n

pub kept : (ts : List Txn) → list_all unassigned ts ≡ true → judged ts ≡ book_of ts
kept ts h = load_ready ts (all_ready ts h)

-- ---- what rules add is no assignment

append_any : (ps qs : List Posting) → list_any is_assignment (ps ++ qs) ≡ (list_any is_assignment ps || list_any is_assignment qs)
append_any [] qs = refl
append_any (p ∷ ps) qs = at_first (is_assignment p) (list_any is_assignment ps) (list_any is_assignment qs) (list_any is_assignment (ps ++ qs)) (append_any ps qs) where
  at_first : (a b c d : Bool) → d ≡ (b || c) → (a || d) ≡ ((a || b) || c)
  at_first true b c d e = refl
  at_first false b c d e = e

neither : (a b : Bool) → a ≡ false → b ≡ false → (a || b) ≡ false
neither true b h k = absurd (false≢true (sym h))
neither false b h k = k

none_wanted : (b : Bool) → (b && false) ≡ false
none_wanted true = refl
none_wanted false = refl

made_none : (p : Posting) (rs : List RulePosting) → list_any is_assignment (map (made_posting p) rs) ≡ false
made_none p [] = refl
made_none p (r ∷ rs) = neither (is_assignment (made_posting p r)) _ (none_wanted (is_none (made_posting p r).amount)) (made_none p rs)

added_none_by : (b : Bool) (p : Posting) (rs : List RulePosting) → list_any is_assignment (cond b (map (made_posting p) rs) []) ≡ false
added_none_by true p rs = made_none p rs
added_none_by false p rs = refl

added_none : (own : Own) (rules : List Asked) (t : Txn) (p : Posting) → list_any is_assignment (added own rules t p) ≡ false
added_none own [] t p = refl
added_none own (r ∷ rules) t p =
    append_any (added_by own t p r) (added own rules t p)
    ∙ neither _ _ (added_none_by (terms_mean r.terms own p t) p r.postings) (added_none own rules t p)

amount_no : (amount : Option Amount) (wanted : Bool) → is_some amount ≡ true → (is_none amount && wanted) ≡ false
amount_no None wanted h = absurd (false≢true h)
amount_no (Some a) wanted h = refl

postings_none : (own : Own) (rules : List Asked) (t : Txn) (ps : List Posting) → list_all (λ (p : Posting). is_some p.amount) ps ≡ true
    → list_any is_assignment (flat_map (λ p. p ∷ added own rules t p) ps) ≡ false
postings_none own rules t [] h = refl
postings_none own rules t (p ∷ ps) h =
    let parts = both (is_some p.amount) _ h in
    append_any (p ∷ added own rules t p) (flat_map (λ p. p ∷ added own rules t p) ps)
    ∙ neither _ _ (neither (is_assignment p) _ (amount_no p.amount (is_some p.wanted) parts.0) (added_none own rules t p))
    (postings_none own rules t ps parts.1)

turned : (b : Bool) → b ≡ false → not b ≡ true
turned true h = sym h
turned false h = refl

together : (a b : Bool) → a ≡ true → b ≡ true → (a && b) ≡ true
together true b h k = k
together false b h k = h

all_unassigned : (own : Own) (rules : List Asked) (ts : List Txn) → list_all has_amounts ts ≡ true
    → list_all unassigned (map (with_added own rules) ts) ≡ true
all_unassigned own rules [] h = refl
all_unassigned own rules (t ∷ ts) h =
    let parts = both (has_amounts t) _ h in
    together _ _ (turned _ (postings_none own rules t t.postings parts.0)) (all_unassigned own rules ts parts.1)

pub kept_with : (own : Own) (rules : List Asked) (ts : List Txn) → list_all has_amounts ts ≡ true
    → judged (map (with_added own rules) ts) ≡ book_of (map (with_added own rules) ts)
kept_with own rules ts h = kept (map (with_added own rules) ts) (all_unassigned own rules ts h)
