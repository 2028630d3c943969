-- The lines of a closing entry.
use Rattle.std.specs.Prelude.{ℕ, ℤ, neg_ℤ, List, ◌++◌, map}
use Rattle.std.specs.List.{flat_map}
use Rattle.hl_num.specs.Decimal.{Decimal, negated}
unfoldable pub use Rattle.hl_num.specs.Shortest.{shortest}
use Rattle.book.specs.Accounts.{accounts_of}
use Rattle.book.specs.Sums.{of_account, mixed_of}
use Rattle.book.specs.declared.transaction.Posting.{Posting}
use Rattle.book_care.specs.Asked.{Asked, named_postings}

-- an account, and a value in a symbol
pub record Moved : Type 0 where
  pub account : List ℕ
  pub symbol : List ℕ
  pub value : Decimal

abbrev pub line_of : List ℕ → List ℕ × ℤ → Moved
line_of account sum = record { account = account; symbol = sum.0; value = shortest sum.1 }

-- a sum with the other sign
abbrev pub turned : List ℕ × ℤ → List ℕ × ℤ
turned sum = (sum.0, neg_ℤ sum.1)

-- a line for each symbol in which an account has a balance that isn't zero, which takes it away
abbrev pub closed : List Posting → List ℕ → List Moved
closed ps account = map (λ sum. line_of account (turned sum)) (mixed_of (of_account account ps))

-- those of all accounts, in their order
abbrev pub all_closed : List Posting → List Moved
all_closed ps = flat_map (closed ps) (accounts_of ps)

-- the lines that take the sums of all into an account
abbrev pub taken_into : List ℕ → List Posting → List Moved
taken_into into ps = map (line_of into) (mixed_of ps)

-- the lines of the closing entry: those of the named accounts, and then those of the account that takes the balances
abbrev pub closing_lines : Asked → List Moved
closing_lines asked = all_closed (named_postings asked) ++ taken_into asked.into (named_postings asked)

-- a line with the other sign
abbrev pub opposite : Moved → Moved
opposite moved = record moved { value = negated moved.value }

-- the lines of the opening entry
abbrev pub opening_lines : Asked → List Moved
opening_lines asked = map opposite (closing_lines asked)
