-- What an edit reaches: the transactions that are edited, and with each every other one that asks for a balance to
-- which an earlier posting of it counts.
use Rattle.std.specs.Prelude.{◌≡◌, ℕ, suc, Bool, true, false, ◌&&◌, List, [], ◌∷◌, Option, Some, None}
use Rattle.std.specs.List.{list_all, list_any, AllByRecursion}
use Rattle.book.specs.declared.amount.Assertion.{Assertion}
use Rattle.book.specs.declared.transaction.Posting.{Posting}
use Rattle.book.specs.declared.transaction.Txn.{Txn}
use Rattle.book.specs.SumsBefore.{Place, is_before, is_of, placed_in, placed_from}
use Rattle.entry_balance.specs.Entry.{cause_alone, settled}
use Rattle.balancing.specs.Solves.{is_unmarked, is_allowed, IsMadeTxn, IsAssignedAt, IsAssertedAt}

-- an account counts for the balance that an assertion on an account asks for
abbrev pub counts_for : Option Assertion → List ℕ → List ℕ → Bool
counts_for None account name = false
counts_for (Some w) account name = is_of account w.below name

-- a posting asks for a balance to which an earlier posting counts
abbrev pub asks_for : Place × Posting → Place × Posting → Bool
asks_for e f = is_before f.0 e.0 && counts_for e.1.wanted e.1.account f.1.account

-- a posting of a transaction that isn't reached asks for no balance to which an earlier posting of a reached one counts
abbrev pub IsLeft : (ℕ → Bool) → List Txn → Place × Posting → Type 0
IsLeft reached book e =
    reached e.0.txn ≡ false → list_any (λ f. reached f.0.txn && asks_for e f) (placed_from 0 book) ≡ false

-- Whatever asks for a balance to which an earlier posting of a reached transaction counts is reached too.
abbrev pub HandsOn : (ℕ → Bool) → List Txn → Type 0
HandsOn reached book = AllByRecursion (IsLeft reached book) (placed_from 0 book)

-- two lists of transactions, counted from a number, are the same but for the reached ones
abbrev pub AreSame : (ℕ → Bool) → ℕ → List Txn → List Txn → Type 0
AreSame reached n [] [] = Unit {0}
AreSame reached n [] (u ∷ us) = (reached n ≡ true) × AreSame reached (suc n) [] us
AreSame reached n (t ∷ ts) [] = (reached n ≡ true) × AreSame reached (suc n) ts []
AreSame reached n (t ∷ ts) (u ∷ us) = (reached n ≡ false → t ≡ u) × AreSame reached (suc n) ts us

-- A written transaction is solved under a number in a book: it has amounts for its assignments, is balanced, and its
-- assignments and assertions are right by the sums of the book at their places.
pub record IsSolved (book : List Txn) (n : ℕ) (written solved : Txn) : Type 0 where
  pub unmarked : list_all is_unmarked written.postings ≡ true
  pub allowed : is_allowed written ≡ true
  pub made : Txn
  pub kept : IsMadeTxn written made
  pub balanced : cause_alone made.postings ≡ None
  pub found : solved ≡ settled made
  pub assigned : AllByRecursion (IsAssignedAt book) (placed_in solved n 0 solved.postings)
  pub asserted : AllByRecursion (IsAssertedAt book) (placed_in solved n 0 solved.postings)

-- each reached transaction is
abbrev pub AreSolvedAnew : (ℕ → Bool) → List Txn → ℕ → List Txn → List Txn → Type 0
AreSolvedAnew reached book n [] [] = Unit {0}
AreSolvedAnew reached book n (w ∷ ws) (t ∷ ts) =
    (reached n ≡ true → IsSolved book n w t) × AreSolvedAnew reached book (suc n) ws ts
AreSolvedAnew reached book n _ _ = ⊥
