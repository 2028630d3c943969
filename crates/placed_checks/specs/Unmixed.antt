-- Transactions that can be checked alone, by what accounts hold before them.
use Rattle.std.specs.Prelude.{ℕ, ◌==◌, Bool, true, not, ◌&&◌, ◌||◌, List, Option, Some, None}
use Rattle.std.specs.List.{list_all}
use Rattle.book.specs.SumsBefore.{is_of}
use Rattle.book.specs.declared.amount.Assertion.{Assertion}
use Rattle.book.specs.declared.transaction.Posting.{Posting}
use Rattle.book.specs.declared.transaction.Txn.{Txn}
use Rattle.entry_balance.specs.Entry as amounts
use Rattle.balancing.specs.Groups.{day_of}

-- a posting doesn't count for what an account is asked for, or its amount is of the symbol that is wanted there
abbrev pub is_alike : List ℕ → Assertion → Posting → Bool
is_alike account w q = not (is_of account w.below q.account) || amounts.is_of w.amount.symbol q.amount

-- where an assertion or assignment of an account wants its symbol only, each of some postings is so
abbrev pub are_alike : List Posting → List ℕ → Option Assertion → Bool
are_alike ps account None = true
are_alike ps account (Some w) = not w.only || list_all (is_alike account w) ps

-- a posting of a transaction is of its day, and what it asks for is of one symbol in the transaction if it has to be
abbrev pub is_single : Txn → Posting → Bool
is_single t p = (day_of t p == t.day.0) && are_alike t.postings p.account p.wanted

-- A solved transaction isn't mixed: none of its postings is of another day; and where one wants its symbol only, none
-- posts another symbol to that account or, where subaccounts count, to one below it.
abbrev pub is_unmixed : Txn → Bool
is_unmixed t = list_all (is_single t) t.postings
