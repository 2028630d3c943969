-- The amounts and assertions of a book with transactions behind it that ask for nothing.
use Rattle.std.proofs.Common.{◌≡◌, ℕ, suc, ◌+◌, true, false, ◌&&◌, List, [], ◌∷◌, ◌++◌, length, map, Option, Some, None, is_some, sym, ap, subst, ◌∙◌}
use Rattle.std.specs.List.{AllByRecursion, list_all}
use Rattle.std.proofs.lemmas.Bool.{false≢true}
use Rattle.std.proofs.lemmas.List.{map-append}
use Rattle.book.specs.Postings.{postings_of}
use Rattle.book.specs.SumsBefore.{Place, is_assigned, number_in, placed_from, placed_in}
use Rattle.book.specs.declared.amount.Assertion.{Assertion}
use Rattle.book.specs.declared.transaction.Posting.{Posting}
use Rattle.book.specs.declared.transaction.Txn.{Txn}
use Rattle.entry_balance.specs.Entry.{cause_alone, moved, settled}
use Rattle.entry_balance.specs.Tally.{turnover_fits}
use Rattle.entry_balance.specs.Values.{Value}
use Rattle.balancing.specs.Groups.{day_of}
use Rattle.balancing.specs.Solves.{AreMadeTxns, HoldsIf, IsAssertedAt, IsAssignedAt, Solves, are_unmarked, is_allowed, just_after, values_before}
use Rattle.reached_entries.proofs.Quiet.{all-asserted, all-assigned}
use Rattle.additions.specs.Asked.{last_asked}
use Rattle.additions.specs.Coming.{are_quiet}
use Rattle.additions.proofs.Handing.{AreLate, AskNothing, still_sums, whole}
use Rattle.additions.proofs.Lists.{all_append, and_none, list_all-append}
use Rattle.additions.proofs.Quietly.{all_allowed, all_late, all_made, all_none}

-- ---- what asks for nothing is right in any book

assigned_none : (book : List Txn) (t : Txn) (n k : ℕ) (ps : List Posting) → AllByRecursion (λ q. q.wanted ≡ None) ps → AllByRecursion (IsAssignedAt book) (placed_in t n k ps)
assigned_none book t n k [] h = tt
assigned_none book t n k (p ∷ ps) h =
    let none : is_assigned p ≡ false = (λ i. p.filled && is_some (h.0 i)) ∙ and_none p.filled in
    ((λ is. absurd (false≢true (sym none ∙ is))), assigned_none book t n (suc k) ps h.1)

held_none : (w : Option Assertion) (values : Assertion → List Value) → w ≡ None → HoldsIf w values
held_none None values e = tt
held_none (Some w) values e = absurd (let never : ⊥ = cc in never)

asserted_none : (book : List Txn) (t : Txn) (n k : ℕ) (ps : List Posting) → AllByRecursion (λ q. q.wanted ≡ None) ps → AllByRecursion (IsAssertedAt book) (placed_in t n k ps)
asserted_none book t n k [] h = tt
asserted_none book t n k (p ∷ ps) h =
    let place : Place = record { day = day_of t p; txn = n; posting = number_in t k p } in
    (held_none p.wanted (λ w. values_before book p.account w.below (just_after place)) h.0, asserted_none book t n (suc k) ps h.1)

assigned_all : (book : List Txn) (n : ℕ) (vs : List Txn) → AllByRecursion AskNothing vs → AllByRecursion (IsAssignedAt book) (placed_from n vs)
assigned_all book n [] h = tt
assigned_all book n (v ∷ vs) h =
    all_append (IsAssignedAt book) (placed_in v n 0 v.postings) (placed_from (suc n) vs) (assigned_none book v n 0 v.postings h.0) (assigned_all book (suc n) vs h.1)

asserted_all : (book : List Txn) (n : ℕ) (vs : List Txn) → AllByRecursion AskNothing vs → AllByRecursion (IsAssertedAt book) (placed_from n vs)
asserted_all book n [] h = tt
asserted_all book n (v ∷ vs) h =
    all_append (IsAssertedAt book) (placed_in v n 0 v.postings) (placed_from (suc n) vs) (asserted_none book v n 0 v.postings h.0) (asserted_all book (suc n) vs h.1)

-- ---- with them behind a book

made_both : (ws ms us ns : List Txn) → AreMadeTxns ws ms → AreMadeTxns us ns → AreMadeTxns (ws ++ us) (ms ++ ns)
made_both [] [] us ns h k = k
made_both [] (m ∷ ms) us ns h k = absurd h
made_both (w ∷ ws) [] us ns h k = absurd h
made_both (w ∷ ws) (m ∷ ms) us ns h k = (h.0, made_both ws ms us ns h.1 k)

module _ (ws us ts : List Txn) (s : Solves ws ts) (quiet : are_quiet (last_asked ts) us ≡ true) where
  abbrev pub vs : List Txn
  vs = map settled us

  -- the transactions, with some amount for each assignment
  abbrev pub ms : List Txn
  ms = s.made ++ us

  pub book_is : map settled ms ≡ ts ++ vs
  book_is = map-append settled s.made us ∙ ap (λ (xs : List Txn). xs ++ vs) (sym s.found)

  late : AllByRecursion (AreLate (last_asked ts)) vs
  late = all_late (last_asked ts) us quiet

  none : AllByRecursion AskNothing vs
  none = all_none (last_asked ts) us quiet

  pub kept : AreMadeTxns (ws ++ us) ms
  kept = made_both ws s.made us us s.kept (all_made (last_asked ts) us quiet)

  pub allowed : list_all is_allowed (ws ++ us) ≡ true
  allowed = list_all-append is_allowed ws us s.allowed (all_allowed (last_asked ts) us quiet)

  there : AllByRecursion (IsAssignedAt (ts ++ vs)) (placed_from 0 (ts ++ vs))
  there =
      subst (AllByRecursion (IsAssignedAt (ts ++ vs))) (sym (whole ts vs late))
      (all_append (IsAssignedAt (ts ++ vs)) (placed_from 0 ts) (placed_from (0 + length ts) vs)
      (all-assigned ts (ts ++ vs) (placed_from 0 ts) (still_sums ts vs late) s.assigned)
      (assigned_all (ts ++ vs) (0 + length ts) vs none))

  right : AllByRecursion (IsAssertedAt (ts ++ vs)) (placed_from 0 (ts ++ vs))
  right =
      subst (AllByRecursion (IsAssertedAt (ts ++ vs))) (sym (whole ts vs late))
      (all_append (IsAssertedAt (ts ++ vs)) (placed_from 0 ts) (placed_from (0 + length ts) vs)
      (all-asserted ts (ts ++ vs) (placed_from 0 ts) (still_sums ts vs late) s.asserted)
      (asserted_all (ts ++ vs) (0 + length ts) vs none))

  -- each assertion holds
  pub asserted_there : AllByRecursion (IsAssertedAt (map settled ms)) (placed_from 0 (map settled ms))
  asserted_there = subst (λ (b : List Txn). AllByRecursion (IsAssertedAt b) (placed_from 0 b)) (sym book_is) right

  -- Where each is balanced and the whole stays in range, the book with them solves what is written.
  pub solves_on : are_unmarked (ws ++ us) ≡ true → AllByRecursion (λ t. cause_alone t.postings ≡ None) us → turnover_fits (moved (postings_of (ts ++ vs))) ≡ true → Solves (ws ++ us) (ts ++ vs)
  solves_on unmarked balanced fits = record {
    unmarked = unmarked;
    allowed = allowed;
    made = ms;
    kept = kept;
    balanced = all_append (λ t. cause_alone t.postings ≡ None) s.made us s.balanced balanced;
    found = sym book_is;
    assigned = there;
    asserted = right;
    fits = fits;
  }
