-- The postings of a book before a day.
use Rattle.std.specs.Prelude.{ℕ, nat_lt, Bool, ◌&&◌, List, filter, unwrap_or}
use Rattle.std.specs.List.{flat_map}
use Rattle.book.specs.SumsBefore.{is_of}
use Rattle.book.specs.declared.transaction.Posting.{Posting}
use Rattle.book.specs.declared.transaction.Txn.{Txn}

-- a posting of a transaction is before a day, and on an account or with `below` on one under it
abbrev pub is_earlier : List ℕ → Bool → ℕ → Txn → Posting → Bool
is_earlier account below end t p = nat_lt (unwrap_or p.day t.day).0 end && is_of account below p.account

-- the postings of a transaction that are so
abbrev pub earlier_in : List ℕ → Bool → ℕ → Txn → List Posting
earlier_in account below end t = filter (is_earlier account below end t) t.postings

-- those of all transactions of a book
abbrev pub earlier_of : List ℕ → Bool → ℕ → List Txn → List Posting
earlier_of account below end book = flat_map (earlier_in account below end) book
