-- What it is for a book to solve a text, on small texts.
use Rattle.std.proofs.Common.{◌≡◌, ℕ, ℤ, pos, negsuc, true, false, List, [], ◌∷◌, Some, refl, codes}
use Rattle.std.proofs.lemmas.Bool.{false≢true}
use Rattle.book.specs.declared.amount.Assertion.{Assertion}
use Rattle.book.specs.declared.transaction.Posting.{Posting}
use Rattle.book.specs.declared.transaction.Txn.{Txn}
use Rattle.book.specs.declared.transaction.Side.TheVariants.{Real}
use Rattle.book.specs.declared.transaction.Mark.TheVariants.{Unmarked}
use Rattle.book.specs.Postings.{plain_posting}
use Rattle.book.specs.SumsBefore.{Place}
use Rattle.entry_balance.specs.Values.{Value}
use Rattle.entry_balance.specs.Entry.{plain_amount}
use Rattle.balancing.specs.Assigned.{assigned}
use Rattle.balancing.specs.Solves.{values_before, difference_at, just_after, Holds, Solves}

abbrev euros : ℤ → Value
euros m = (codes "EUR", record { mantissa = m; places = 0 })

abbrev missing : List ℕ → Posting
missing account = plain_posting 0 Real account

abbrev of : List ℕ → ℤ → Posting
of account m = record (missing account) { amount = Some (plain_amount (euros m)) }

abbrev wanting : ℤ → Assertion
wanting m = record { amount = plain_amount (euros m); only = false; below = false }

abbrev assignment : List ℕ → ℤ → Posting
assignment account m = record (missing account) { wanted = Some (wanting m) }

-- an assignment that came to an amount, and a missing amount that was found
abbrev made : List ℕ → ℤ → ℤ → Posting
made account m v = record (assignment account m) { amount = Some (plain_amount (euros v)); filled = true }

abbrev found : List ℕ → ℤ → Posting
found account m = record (of account m) { filled = true }

abbrev on : ℕ → List Posting → Txn
on day ps = record { line = 1; day = record { 0 = day }; mark = Unmarked; code = []; description = []; comment = []; tags = []; postings = ps }

abbrev at : ℕ → ℕ → ℕ → Place
at day n k = record { day = day; txn = n; posting = k }

-- ---- a gift before the day on which cash is set

-- `cash  = 100 EUR` on a day, and after it in the text `cash  30 EUR` on an earlier day
abbrev written : List Txn
written = on 10 (assignment (codes "cash") (pos 100) ∷ missing (codes "start") ∷ []) ∷ on 5 (of (codes "cash") (pos 30) ∷ of (codes "gifts") (negsuc 29) ∷ []) ∷ []

-- the assignment comes to 70 EUR
abbrev book : List Txn
book = on 10 (made (codes "cash") (pos 100) (pos 70) ∷ found (codes "start") (negsuc 69) ∷ []) ∷ on 5 (of (codes "cash") (pos 30) ∷ of (codes "gifts") (negsuc 29) ∷ []) ∷ []

cash_before : values_before book (codes "cash") false (at 10 0 0) ≡ euros (pos 30) ∷ []
cash_before = refl

comes_to : difference_at book (at 10 0 0) (assignment (codes "cash") (pos 100)) (wanting (pos 100)) ≡ euros (pos 70)
comes_to = refl

not_assigned : {A : Type 0} → false ≡ true → A
not_assigned h = absurd (false≢true h)

a_gift : Solves written book
a_gift = record {
  unmarked = refl;
  allowed = refl;
  made = on 10 (made (codes "cash") (pos 100) (pos 70) ∷ missing (codes "start") ∷ []) ∷ on 5 (of (codes "cash") (pos 30) ∷ of (codes "gifts") (negsuc 29) ∷ []) ∷ [];
  kept = (record { postings = ((euros (pos 70), refl), (refl, tt)); rest = refl }, (record { postings = (refl, (refl, tt)); rest = refl }, tt));
  balanced = (refl, (refl, tt));
  found = refl;
  assigned = ((λ _. refl), (not_assigned, (not_assigned, (not_assigned, tt))));
  asserted = (record { sum = refl; only = not_assigned }, (tt, (tt, (tt, tt))));
  fits = refl;
}

-- ---- the decimals that are wanted, or more where the amount needs them

abbrev with_cents : ℤ → List Txn
with_cents m = on 5 (record (missing (codes "cash")) { amount = Some (plain_amount (codes "EUR", record { mantissa = m; places = 2 })) } ∷ []) ∷ []

-- 100 less 30.00, and less 30.50
as_wanted : difference_at (with_cents (pos 3000)) (at 10 1 0) (assignment (codes "cash") (pos 100)) (wanting (pos 100)) ≡ euros (pos 70)
as_wanted = refl

as_needed : difference_at (with_cents (pos 3050)) (at 10 1 0) (assignment (codes "cash") (pos 100)) (wanting (pos 100)) ≡ (codes "EUR", record { mantissa = pos 695; places = 1 })
as_needed = refl

-- ---- what is missing comes after all others

-- `a` without an amount, `a  5 EUR`, `c  1 EUR` and `a  = 8 EUR`: 3 EUR are assigned, and -9 EUR were missing
abbrev late : List Txn
late = on 1 (found (codes "a") (negsuc 8) ∷ of (codes "a") (pos 5) ∷ of (codes "c") (pos 1) ∷ made (codes "a") (pos 8) (pos 3) ∷ []) ∷ []

missing_last : values_before late (codes "a") false (at 1 0 3) ≡ euros (pos 5) ∷ []
missing_last = refl

holds_then : Holds (wanting (pos 8)) (values_before late (codes "a") false (just_after (at 1 0 3)))
holds_then = record { sum = refl; only = not_assigned }

a_late_one : Solves (on 1 (missing (codes "a") ∷ of (codes "a") (pos 5) ∷ of (codes "c") (pos 1) ∷ assignment (codes "a") (pos 8) ∷ []) ∷ []) late
a_late_one = record {
  unmarked = refl;
  allowed = refl;
  made = on 1 (missing (codes "a") ∷ of (codes "a") (pos 5) ∷ of (codes "c") (pos 1) ∷ made (codes "a") (pos 8) (pos 3) ∷ []) ∷ [];
  kept = (record { postings = (refl, (refl, (refl, ((euros (pos 3), refl), tt)))); rest = refl }, tt);
  balanced = (refl, tt);
  found = refl;
  assigned = (not_assigned, (not_assigned, (not_assigned, ((λ _. refl), tt))));
  asserted = (tt, (tt, (tt, (record { sum = refl; only = not_assigned }, tt))));
  fits = refl;
}

-- ---- accounts under another one

abbrev under : List Txn
under = on 1 (of (codes "a:b") (pos 2) ∷ of (codes "ab") (pos 4) ∷ of (codes "a") (pos 1) ∷ []) ∷ []

with_those_under : values_before under (codes "a") true (at 2 0 0) ≡ euros (pos 2) ∷ euros (pos 1) ∷ []
with_those_under = refl

alone : values_before under (codes "a") false (at 2 0 0) ≡ euros (pos 1) ∷ []
alone = refl

-- ---- why nothing may be marked in what is written

-- a written `a  5 EUR` that is marked as found counts for `a  = 7 EUR` after it where assignments are made, and by its
-- place it comes later
abbrev marked : List Txn
marked = on 1 (found (codes "a") (pos 5) ∷ assignment (codes "a") (pos 7) ∷ of (codes "b") (negsuc 6) ∷ []) ∷ []

abbrev marked_book : List Txn
marked_book = on 1 (found (codes "a") (pos 5) ∷ made (codes "a") (pos 7) (pos 2) ∷ of (codes "b") (negsuc 6) ∷ []) ∷ []

counted_before : assigned marked ≡ marked_book
counted_before = refl

placed_later : values_before marked_book (codes "a") false (at 1 0 1) ≡ []
placed_later = refl
