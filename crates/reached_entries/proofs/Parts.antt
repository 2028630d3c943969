-- A book that solves a text, transaction by transaction.
use Rattle.std.proofs.Common.{◌≡◌, ℕ, suc, Bool, true, false, ◌&&◌, List, [], ◌∷◌, ◌++◌, map, None, refl, sym, ap, subst, ◌∙◌}
use Rattle.std.specs.List.{list_all, AllByRecursion}
use Rattle.std.proofs.lemmas.Bool.{false≢true}
use Rattle.book.specs.declared.transaction.Posting.{Posting}
use Rattle.book.specs.declared.transaction.Txn.{Txn}
use Rattle.book.specs.Postings.{postings_of}
use Rattle.book.specs.SumsBefore.{placed_in, placed_from}
use Rattle.entry_balance.specs.Entry.{cause_alone, settled, moved}
use Rattle.entry_balance.specs.Tally.{turnover_fits}
use Rattle.balancing.specs.Solves.{is_unmarked, are_unmarked, is_allowed, AreMadeTxns, IsAssignedAt, IsAssertedAt, Solves}
use Rattle.reached_entries.specs.Reached.{IsSolved}
use Rattle.reached_entries.proofs.Quiet.{Entry, all-both, all-first, all-rest}

and-both : (a b : Bool) → a ≡ true → b ≡ true → (a && b) ≡ true
and-both true b p q = q
and-both false b p q = absurd (false≢true p)

and-first : (a b : Bool) → (a && b) ≡ true → a ≡ true
and-first true b h = refl
and-first false b h = h

and-second : (a b : Bool) → (a && b) ≡ true → b ≡ true
and-second true b h = h
and-second false b h = absurd (false≢true h)

-- each transaction is solved in a book, counted from a number
abbrev pub AreSolved : List Txn → ℕ → List Txn → List Txn → Type 0
AreSolved book n [] [] = Unit {0}
AreSolved book n (w ∷ ws) (t ∷ ts) = IsSolved book n w t × AreSolved book (suc n) ws ts
AreSolved book n _ _ = ⊥

split : (book : List Txn) (n : ℕ) (ws ms : List Txn) → are_unmarked ws ≡ true → list_all is_allowed ws ≡ true → AreMadeTxns ws ms → AllByRecursion (λ t. cause_alone t.postings ≡ None) ms → AllByRecursion (IsAssignedAt book) (placed_from n (map settled ms)) → AllByRecursion (IsAssertedAt book) (placed_from n (map settled ms)) → AreSolved book n ws (map settled ms)
split book n [] [] u a k b h c = tt
split book n [] (m ∷ ms) u a k b h c = absurd k
split book n (w ∷ ws) [] u a k b h c = absurd k
split book n (w ∷ ws) (m ∷ ms) u a k b h c = (
  record {
    unmarked = and-first (list_all is_unmarked w.postings) (are_unmarked ws) u;
    allowed = and-first (is_allowed w) (list_all is_allowed ws) a;
    made = m;
    kept = k.0;
    balanced = b.0;
    found = refl;
    assigned = all-first (IsAssignedAt book) (placed_in (settled m) n 0 (settled m).postings) (placed_from (suc n) (map settled ms)) h;
    asserted = all-first (IsAssertedAt book) (placed_in (settled m) n 0 (settled m).postings) (placed_from (suc n) (map settled ms)) c;
  },
  split book (suc n) ws ms (and-second (list_all is_unmarked w.postings) (are_unmarked ws) u) (and-second (is_allowed w) (list_all is_allowed ws) a) k.1 b.1
      (all-rest (IsAssignedAt book) (placed_in (settled m) n 0 (settled m).postings) (placed_from (suc n) (map settled ms)) h)
      (all-rest (IsAssertedAt book) (placed_in (settled m) n 0 (settled m).postings) (placed_from (suc n) (map settled ms)) c),
)

pub are-solved : (written book : List Txn) → Solves written book → AreSolved book 0 written book
are-solved written book s =
    let P : List Txn → Type 0 = λ b. AllByRecursion (IsAssignedAt book) (placed_from 0 b) in
    let Q : List Txn → Type 0 = λ b. AllByRecursion (IsAssertedAt book) (placed_from 0 b) in
    let R : List Txn → Type 0 = λ b. AreSolved book 0 written b in
    subst R (sym s.found) (split book 0 written s.made s.unmarked s.allowed s.kept s.balanced (subst P s.found s.assigned) (subst Q s.found s.asserted))

-- the parts of the relation that don't speak of the range
record Joined (book : List Txn) (n : ℕ) (ws ts : List Txn) : Type 0 where
  unmarked : are_unmarked ws ≡ true
  allowed : list_all is_allowed ws ≡ true
  made : List Txn
  kept : AreMadeTxns ws made
  balanced : AllByRecursion (λ t. cause_alone t.postings ≡ None) made
  found : ts ≡ map settled made
  assigned : AllByRecursion (IsAssignedAt book) (placed_from n ts)
  asserted : AllByRecursion (IsAssertedAt book) (placed_from n ts)

joined : (book : List Txn) (n : ℕ) (ws ts : List Txn) → AreSolved book n ws ts → Joined book n ws ts
joined book n [] [] h = record { unmarked = refl; allowed = refl; made = []; kept = tt; balanced = tt; found = refl; assigned = tt; asserted = tt }
joined book n [] (t ∷ ts) h = absurd h
joined book n (w ∷ ws) [] h = absurd h
joined book n (w ∷ ws) (t ∷ ts) h =
    let rest = joined book (suc n) ws ts h.1 in
    record {
      unmarked = and-both (list_all is_unmarked w.postings) (are_unmarked ws) h.0.unmarked rest.unmarked;
      allowed = and-both (is_allowed w) (list_all is_allowed ws) h.0.allowed rest.allowed;
      made = h.0.made ∷ rest.made;
      kept = (h.0.kept, rest.kept);
      balanced = (h.0.balanced, rest.balanced);
      found = λ i. h.0.found i ∷ rest.found i;
      assigned = all-both (IsAssignedAt book) (placed_in t n 0 t.postings) (placed_from (suc n) ts) h.0.assigned rest.assigned;
      asserted = all-both (IsAssertedAt book) (placed_in t n 0 t.postings) (placed_from (suc n) ts) h.0.asserted rest.asserted;
    }

pub solves-from : (written book : List Txn) → AreSolved book 0 written book → turnover_fits (moved (postings_of book)) ≡ true → Solves written book
solves-from written book h fits =
    let all = joined book 0 written book h in
    record {
      unmarked = all.unmarked;
      allowed = all.allowed;
      made = all.made;
      kept = all.kept;
      balanced = all.balanced;
      found = all.found;
      assigned = all.assigned;
      asserted = all.asserted;
      fits = fits;
    }
