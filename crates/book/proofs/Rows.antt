-- Sums before a place, worked out by hand over a book of three transactions.
use Rattle.std.proofs.Common.{◌≡◌, ℕ, ℤ, pos, negsuc, true, false, List, [], ◌∷◌, Option, Some, None, refl}
use Rattle.std.specs.Prelude.{codes}
use Rattle.hl_num.specs.Decimal.{Decimal, units_of}
use Rattle.hl_time.specs.declared.day.Day.{Day}
use Rattle.book.specs.declared.amount.Amount.{Amount}
use Rattle.book.specs.declared.transaction.Posting.{Posting}
use Rattle.book.specs.declared.transaction.Txn.{Txn}
use Rattle.book.specs.declared.transaction.Mark.TheVariants.{Unmarked}
use Rattle.book.specs.declared.transaction.Side.TheVariants.{Real}
use Rattle.book.specs.Postings.{plain_posting}
use Rattle.book.specs.Style.{default_style}
use Rattle.book.specs.SumsBefore.{start_of, sum_before, other_before}

abbrev whole : ℤ → Decimal
whole mantissa = record { mantissa = mantissa; places = 0 }

abbrev on : ℕ → Day
on day = record { 0 = day }

abbrev moves : List ℕ → ℤ → Option Day → Posting
moves account mantissa day =
    let amount : Amount = record { symbol = codes "E"; value = whole mantissa; shape = default_style.shape } in
    record (plain_posting 1 Real account) { amount = Some amount; day = day }

abbrev entry : ℕ → List Posting → Txn
entry day postings = record { line = 1; day = on day; mark = Unmarked; code = []; description = []; comment = []; tags = []; postings = postings }

-- the second transaction stands later in the text and has an earlier day; the last one has a posting of its own day
abbrev book : List Txn
book =
    entry 5 (moves (codes "a:b") (pos 3) None ∷ moves (codes "c") (negsuc 2) None ∷ [])
    ∷ entry 4 (moves (codes "a") (pos 10) None ∷ moves (codes "c") (negsuc 9) None ∷ [])
    ∷ entry 5 (moves (codes "ab") (pos 7) None ∷ moves (codes "c") (negsuc 6) (Some (on 8)) ∷ [])
    ∷ []

-- `ab` doesn't lie under `a`
of_the_account : sum_before book (codes "a") (codes "E") false (start_of (on 6)) ≡ units_of (whole (pos 10))
of_the_account = refl

with_subaccounts : sum_before book (codes "a") (codes "E") true (start_of (on 6)) ≡ units_of (whole (pos 13))
with_subaccounts = refl

before_the_day : sum_before book (codes "a") (codes "E") true (start_of (on 5)) ≡ units_of (whole (pos 10))
before_the_day = refl

-- the posting with a day of its own comes after
before_an_own_day : sum_before book (codes "c") (codes "E") false (start_of (on 8)) ≡ units_of (whole (negsuc 12))
before_an_own_day = refl

before_the_transaction : sum_before book (codes "c") (codes "E") false (record { day = 5; txn = 0; posting = 0 }) ≡ units_of (whole (negsuc 9))
before_the_transaction = refl

another_symbol : other_before book (codes "a") (codes "F") true (start_of (on 6)) ≡ Some (codes "E")
another_symbol = refl

no_other_symbol : other_before book (codes "a") (codes "E") true (start_of (on 6)) ≡ None
no_other_symbol = refl
