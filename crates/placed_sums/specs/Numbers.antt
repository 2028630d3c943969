-- Transactions by their numbers in the text and by the days of their postings.
use Rattle.std.specs.Prelude.{ℕ, suc, nat_lt, ◌==◌, Bool, List, [], ◌∷◌, map, filter, unwrap_or}
use Rattle.std.specs.List.{list_any}
use Rattle.book.specs.declared.transaction.Posting.{Posting}
use Rattle.book.specs.declared.transaction.Txn.{Txn}

-- a posting of a transaction is on a day, its own or else that of the transaction
abbrev pub is_on : ℕ → Txn → Posting → Bool
is_on day t p = (unwrap_or p.day t.day).0 == day

-- a transaction has a posting on a day
abbrev pub has_on : ℕ → Txn → Bool
has_on day t = list_any (is_on day t) t.postings

-- some transactions, each with its number, counted from one
abbrev pub numbered_from : ℕ → List Txn → List (ℕ × Txn)
numbered_from n [] = []
numbered_from n (t ∷ ts) = (n, t) ∷ numbered_from (suc n) ts

-- the numbers of those with a posting on a day, in order
abbrev pub numbers_from : ℕ → ℕ → List Txn → List ℕ
numbers_from day n ts = map (λ e. e.0) (filter (λ e. has_on day e.1) (numbered_from n ts))

abbrev pub numbers_on : ℕ → List Txn → List ℕ
numbers_on day book = numbers_from day 0 book

-- those with a number below one
abbrev pub earlier_on : ℕ → ℕ → List Txn → List ℕ
earlier_on day number book = filter (λ n. nat_lt n number) (numbers_on day book)
