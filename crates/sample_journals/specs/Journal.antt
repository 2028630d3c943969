-- The journal that the text of a sample is.
use Rattle.std.specs.Prelude.{◌≡◌, ◌≤◌, ℕ, zero, suc, ℤ, pos, neg_ℤ, ◌+◌, ◌*◌, ◌/◌, ◌%◌, ◌==◌, Bool, true, false, List, [], ◌∷◌, ◌++◌, length, codes, Option, Some, None, Ok}
use Rattle.std.specs.Fmt.{decimal}
use Rattle.hl_base.specs.Ascii.{dot}
use Rattle.hl_base.specs.Items.{items_of}
use Rattle.hl_num.specs.Decimal.{Decimal}
use Rattle.book.specs.declared.amount.Amount.{Amount}
use Rattle.book.specs.declared.amount.Assertion.{Assertion}
use Rattle.book.specs.declared.amount.Written.{Written}
use Rattle.book.specs.declared.transaction.Mark.TheVariants.{Unmarked}
use Rattle.book.specs.declared.transaction.Posting.{Posting}
use Rattle.book.specs.declared.transaction.Side.TheVariants.{Real}
use Rattle.book.specs.declared.transaction.Txn.{Txn}
use Rattle.book.specs.Accounts.{accounts_of}
use Rattle.book.specs.Postings.{plain_posting, postings_of}
use Rattle.entry_balance.specs.Entry.{found_posting}
use Rattle.entry_balance.specs.Tally.{total_of}
use Rattle.assertions.specs.Assertions.{held_in}
use Rattle.live_journal.specs.Loading.{book_of, fault_of}
use Rattle.sample_text.specs.Sample.{cents_of, kind_of, kinds_used, number_of, sample_text, spent_by}

-- ---- amounts

abbrev pub euros : ℤ → Decimal
euros cents = record { mantissa = cents; places = 2 }

-- two decimals behind a point, and the symbol behind a space
abbrev pub with_point : Written
with_point = record { left = false; spaced = true; mark = Some dot; group = None; first = 3; rest = 3 }

abbrev pub amount_of : ℤ → Amount
amount_of cents = record { symbol = codes "EUR"; value = euros cents; shape = with_point }

-- what is paid
abbrev pub owed : ℕ → ℤ
owed cents = neg_ℤ (pos cents)

-- ---- postings

abbrev pub bank : List ℕ
bank = codes "assets:bank"

abbrev pub expense : ℕ → List ℕ
expense kind = codes "expenses:e" ++ decimal kind

-- so many cents for a kind of expense
abbrev pub spending : ℕ → ℕ → ℕ → Posting
spending line kind cents = record (plain_posting line Real (expense kind)) { amount = Some (amount_of (pos cents)) }

-- the account holds just that
abbrev pub holding : ℤ → Assertion
holding cents = record { amount = amount_of cents; only = false; below = false }

-- what the bank pays, as it is written: nothing, or the amount and what was spent so far
abbrev pub paying : Bool → ℕ → ℕ → ℕ → Posting
paying true line cents spent = record (plain_posting line Real bank) { amount = Some (amount_of (owed cents)); wanted = Some (holding (owed spent)) }
paying false line cents spent = plain_posting line Real bank

-- and as it is found
abbrev pub paid : Bool → ℕ → ℕ → ℕ → Posting
paid true line cents spent = paying true line cents spent
paid false line cents spent = found_posting (paying false line cents spent) (codes "EUR", euros (owed cents))

-- ---- transactions

-- the day of an entry: fifty a day, from 2024-01-01 on
abbrev pub day_of : ℕ → ℕ
day_of i = 738886 + i / 50

abbrev pub title : ℕ → List ℕ
title i = codes "sample " ++ decimal i

-- each hundredth entry says what the bank holds
abbrev pub tells : ℕ → Bool
tells i = i % 100 == 99

-- an entry in a line of the text
abbrev pub entry_at : ℕ → ℕ → Posting → Posting → Txn
entry_at line i first second = record {
  line = line;
  day = record { 0 = day_of i };
  mark = Unmarked;
  code = [];
  description = title i;
  comment = [];
  tags = [];
  postings = first ∷ second ∷ [];
}

abbrev pub cents_in : ℕ → ℕ → ℕ
cents_in count i = cents_of (number_of count i)

-- the posting of its expense
abbrev pub spending_in : ℕ → ℕ → Posting
spending_in count i = spending (3 * i + 2) (kind_of (number_of count i)) (cents_in count i)

-- an entry as it is written, and as balancing finds it
abbrev pub written : ℕ → ℕ → Txn
written count i = entry_at (3 * i + 1) i (spending_in count i) (paying (tells i) (3 * i + 3) (cents_in count i) (spent_by count (suc i)))

abbrev pub found : ℕ → ℕ → Txn
found count i = entry_at (3 * i + 1) i (spending_in count i) (paid (tells i) (3 * i + 3) (cents_in count i) (spent_by count (suc i)))

-- so many entries from one on
abbrev pub written_from : ℕ → ℕ → ℕ → List Txn
written_from count i zero = []
written_from count i (suc more) = written count i ∷ written_from count (suc i) more

abbrev pub found_from : ℕ → ℕ → ℕ → List Txn
found_from count i zero = []
found_from count i (suc more) = found count i ∷ found_from count (suc i) more

-- ---- the journal

-- What the line of a sample says is so of its book: how many transactions and accounts it has, and what the bank holds.
pub record IsTold (count : ℕ) : Type 0 where
  pub transactions : length (found_from count 0 count) ≡ count
  pub accounts : length (accounts_of (postings_of (found_from count 0 count))) ≡ 1 + kinds_used count 10
  pub bank : total_of (codes "EUR") (held_in false bank (postings_of (found_from count 0 count))) ≡ euros (owed (spent_by count count))

-- The text of a sample is within the limits of a journal, has an item for each entry, and loads to its entries: in each an
-- expense that the bank pays.
pub record Loads (year : Option ℕ) (count : ℕ) : Type 0 where
  pub bytes : length (sample_text count) ≤ 120 * count
  pub items : length (items_of (sample_text count)) ≡ count
  pub book : book_of year (sample_text count) ≡ Ok (record { txns = found_from count 0 count })
  pub sound : fault_of year (sample_text count) ≡ None
