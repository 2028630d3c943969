-- Transactions that are put behind a book and leave all others as they are.
use Rattle.std.specs.Prelude.{◌≡◌, ℕ, ◌≤◌, None}
use Rattle.std.specs.List.{AllByRecursion}
use Rattle.book.specs.declared.transaction.Posting.{Posting}
use Rattle.book.specs.declared.transaction.Txn.{Txn}
use Rattle.entry_balance.specs.Entry.{cause_alone}
use Rattle.balancing.specs.Groups.{day_of}

-- It has no assertion and is no assignment, and its day isn't before the last one on which the book has one.
pub record IsQuietPosting (asked : ℕ) (t : Txn) (p : Posting) : Type 0 where
  pub no_balance : p.wanted ≡ None
  pub late : asked ≤ day_of t p

-- All its postings are so, and it is balanced.
pub record IsQuietEntry (asked : ℕ) (t : Txn) : Type 0 where
  pub postings : AllByRecursion (IsQuietPosting asked t) t.postings
  pub balanced : cause_alone t.postings ≡ None
