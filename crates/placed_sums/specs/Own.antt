-- What the transactions of one day have on an account.
use Rattle.std.specs.Prelude.{◌≡◌, ◌≤◌, ℕ, ℤ, Bool, ◌&&◌, List, [], filter, Option, Some, None, slice_get}
use Rattle.std.specs.List.{flat_map}
use Rattle.hl_num.specs.Decimal.{Decimal, units_of}
use Rattle.book.specs.Bounds.{places_of}
use Rattle.book.specs.SumsBefore.{is_of}
use Rattle.book.specs.declared.transaction.Posting.{Posting}
use Rattle.book.specs.declared.transaction.Txn.{Txn}
use Rattle.placed_sums.specs.Numbers.{is_on}

-- a posting of a transaction is on a day and on an account, or with `below` on one under it
abbrev pub is_posted : List ℕ → Bool → ℕ → Txn → Posting → Bool
is_posted account below day t p = is_on day t p && is_of account below p.account

-- the postings of a transaction that are so
abbrev pub own_postings : List ℕ → Bool → ℕ → Txn → List Posting
own_postings account below day t = filter (is_posted account below day t) t.postings

-- the same where there is a transaction
abbrev pub own_at : List ℕ → Bool → ℕ → Option Txn → List Posting
own_at account below day None = []
own_at account below day (Some t) = own_postings account below day t

-- the same of the transactions with some numbers
abbrev pub own_under : List Txn → List ℕ → Bool → ℕ → List ℕ → List Posting
own_under book account below day numbers =
    flat_map (λ n. own_at account below day (slice_get book n)) numbers

-- a sum in a symbol of some postings: its exact value, with no more decimals than they have
pub record IsSumIn (ps : List Posting) (symbol : List ℕ) (sum : ℤ) (answer : Decimal) : Type 0 where
  pub value : units_of answer ≡ sum
  pub places : answer.places ≤ places_of symbol ps
