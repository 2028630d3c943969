-- What the fault of a text is, on small texts.
use Rattle.std.proofs.Common.{◌≡◌, ℕ, ℤ, pos, negsuc, ◌^◌, true, false, List, [], ◌∷◌, Some, Err, refl, codes}
use Rattle.std.proofs.lemmas.Bool.{false≢true}
use Rattle.book.specs.declared.amount.Assertion.{Assertion}
use Rattle.book.specs.declared.fault.Cause.TheVariants.{TwoMissing, NotAllowed, Unbalanced, AssertionFailed, Range}
use Rattle.book.specs.declared.transaction.Posting.{Posting}
use Rattle.book.specs.declared.transaction.Txn.{Txn}
use Rattle.book.specs.declared.transaction.Side.TheVariants.{Real}
use Rattle.book.specs.declared.transaction.Mark.TheVariants.{Unmarked}
use Rattle.book.specs.Postings.{plain_posting}
use Rattle.entry_balance.specs.Values.{Value}
use Rattle.entry_balance.specs.Entry.{plain_amount}
use Rattle.balancing.specs.Assigned.{shortened, whole, assigned_posting, assigned_by}
use Rattle.balancing.specs.Groups.{groups_of}
use Rattle.balancing.specs.Load.{book_of, load_txns}
use Rattle.balancing.specs.Faults.{is_first, fits_through, fault_of, IsFaultBy}

abbrev euros : ℤ → Value
euros m = (codes "EUR", record { mantissa = m; places = 0 })

abbrev missing : ℕ → List ℕ → Posting
missing line account = plain_posting line Real account

abbrev of : ℕ → List ℕ → ℤ → Posting
of line account m = record (missing line account) { amount = Some (plain_amount (euros m)) }

abbrev wanting : ℤ → Assertion
wanting m = record { amount = plain_amount (euros m); only = false; below = false }

-- with an assertion, and an assertion alone
abbrev proved : ℕ → List ℕ → ℤ → ℤ → Posting
proved line account m w = record (of line account m) { wanted = Some (wanting w) }

abbrev assignment : ℕ → List ℕ → ℤ → Posting
assignment line account w = record (missing line account) { wanted = Some (wanting w) }

-- on a day of its own
abbrev on_day : ℕ → Posting → Posting
on_day day p = record p { day = Some (record { 0 = day }) }

abbrev on : ℕ → ℕ → List Posting → Txn
on line day ps = record { line = line; day = record { 0 = day }; mark = Unmarked; code = []; description = []; comment = []; tags = []; postings = ps }

not_assigned : {A : Type 0} → false ≡ true → A
not_assigned h = absurd (false≢true h)

-- ---- the order of days, not of the text

-- two assertions fail, the first of the text on day 10, the second on day 5: `a  1 EUR = 4 EUR` and `a  2 EUR = 9 EUR`
abbrev two_days : List Txn
two_days = on 1 10 (proved 2 (codes "a") (pos 1) (pos 4) ∷ missing 3 (codes "b") ∷ []) ∷ on 5 5 (proved 6 (codes "a") (pos 2) (pos 9) ∷ missing 7 (codes "b") ∷ []) ∷ []

earlier_day : IsFaultBy whole two_days (record { line = 6; cause = AssertionFailed (plain_amount (euros (pos 9))) (plain_amount (euros (pos 2))) })
earlier_day = record {
  unmarked = refl;
  made = two_days;
  kept = ((record { postings = (refl, (refl, tt)); rest = refl }), ((record { postings = (refl, (refl, tt)); rest = refl }), tt));
  before = [];
  group = (5, 1);
  after = (10, 0) ∷ [];
  order = refl;
  assigned = (not_assigned, (not_assigned, tt));
  sound = tt;
  is = refl;
}

-- ---- the sum just after a place

-- `a  1 EUR  ; on day 9` and `a  2 EUR = 3 EUR` on day 8: what is dated later doesn't count, and `b` makes up for both
abbrev dated : List Txn
dated = on 1 8 (on_day 9 (of 2 (codes "a") (pos 1)) ∷ proved 3 (codes "a") (pos 2) (pos 3) ∷ missing 4 (codes "b") ∷ []) ∷ []

two_groups : groups_of dated ≡ (8, 0) ∷ (9, 0) ∷ []
two_groups = refl

only_one_first : is_first dated (9, 0) ≡ false
only_one_first = refl

later_not_counted : fault_of dated dated (8, 0) ≡ Some (record { line = 3; cause = AssertionFailed (plain_amount (euros (pos 3))) (plain_amount (euros (pos 2))) })
later_not_counted = refl

-- ---- assigned amounts count

-- `a  = 5 EUR` after `a  2 EUR` comes to 3 EUR; then `a  1 EUR = 7 EUR` finds 6 EUR. What is assigned after the fault
-- may have any amount
abbrev after_assigned : List Txn
after_assigned =
    on 1 1 (of 2 (codes "a") (pos 2) ∷ missing 3 (codes "b") ∷ [])
    ∷ on 4 2 (assignment 5 (codes "a") (pos 5) ∷ missing 6 (codes "b") ∷ [])
    ∷ on 7 3 (proved 8 (codes "a") (pos 1) (pos 7) ∷ missing 9 (codes "b") ∷ [])
    ∷ on 10 4 (assignment 11 (codes "c") (pos 1) ∷ missing 12 (codes "b") ∷ [])
    ∷ []

abbrev with_amounts : List Txn
with_amounts =
    on 1 1 (of 2 (codes "a") (pos 2) ∷ missing 3 (codes "b") ∷ [])
    ∷ on 4 2 (assigned_posting (assignment 5 (codes "a") (pos 5)) (euros (pos 3)) ∷ missing 6 (codes "b") ∷ [])
    ∷ on 7 3 (proved 8 (codes "a") (pos 1) (pos 7) ∷ missing 9 (codes "b") ∷ [])
    ∷ on 10 4 (assigned_posting (assignment 11 (codes "c") (pos 1)) (euros (pos 99)) ∷ missing 12 (codes "b") ∷ [])
    ∷ []

as_assigned : IsFaultBy whole after_assigned (record { line = 8; cause = AssertionFailed (plain_amount (euros (pos 7))) (plain_amount (euros (pos 6))) })
as_assigned = record {
  unmarked = refl;
  made = with_amounts;
  kept = ((record { postings = (refl, (refl, tt)); rest = refl }), ((record { postings = ((euros (pos 3), refl), (refl, tt)); rest = refl }), ((record { postings = (refl, (refl, tt)); rest = refl }), ((record { postings = ((euros (pos 99), refl), (refl, tt)); rest = refl }), tt))));
  before = (1, 0) ∷ (2, 1) ∷ [];
  group = (3, 2);
  after = (4, 3) ∷ [];
  order = refl;
  assigned = (not_assigned, (not_assigned, ((λ _. refl), (not_assigned, (not_assigned, (not_assigned, tt))))));
  sound = (refl, (refl, tt));
  is = refl;
}

-- ---- causes of a transaction

-- two missing amounts come before a turnover that is out of range, with the line of the head
abbrev too_much : List Txn
too_much =
    on 1 1 (of 2 (codes "a") (pos (2 ^ 126)) ∷ of 3 (codes "b") (negsuc 0) ∷ missing 4 (codes "c") ∷ missing 5 (codes "d") ∷ []) ∷ []

missing_first : fault_of too_much too_much (1, 0) ≡ Some (record { line = 1; cause = TwoMissing })
missing_first = refl

-- each transaction fits alone, and both together don't
abbrev together : List Txn
together = on 1 1 (of 2 (codes "a") (pos (2 ^ 125)) ∷ missing 3 (codes "b") ∷ []) ∷ on 4 2 (of 5 (codes "a") (pos (2 ^ 125)) ∷ missing 6 (codes "b") ∷ []) ∷ []

fits_first : fits_through together (1, 0) ≡ true
fits_first = refl

second_out : fault_of together together (2, 1) ≡ Some (record { line = 4; cause = Range })
second_out = refl

-- an assignment beside a posting with a day of its own can't be made
not_allowed : fault_of (on 1 1 (assignment 2 (codes "a") (pos 5) ∷ on_day 2 (missing 3 (codes "b")) ∷ []) ∷ []) (on 1 1 (assignment 2 (codes "a") (pos 5) ∷ on_day 2 (missing 3 (codes "b")) ∷ []) ∷ []) (1, 0) ≡ Some (record { line = 1; cause = NotAllowed })
not_allowed = refl

-- sums that aren't zero come before an assertion that fails
abbrev uneven : List Txn
uneven = on 1 1 (proved 2 (codes "a") (pos 5) (pos 6) ∷ of 3 (codes "b") (negsuc 1) ∷ []) ∷ []

sum_before_assertion : fault_of uneven uneven (1, 0) ≡ Some (record { line = 1; cause = Unbalanced (codes "EUR") (record { mantissa = pos 3; places = 0 }) })
sum_before_assertion = refl

-- ---- the decimals that a fault tells

abbrev cents : ℕ → List ℕ → ℤ → Posting
cents line account m = record (missing line account) { amount = Some (plain_amount (codes "EUR", record { mantissa = m; places = 2 })) }

-- `a  0.10 EUR` and `b  -0.10 EUR`, and then `a  = 5 EUR` beside `c  -1 EUR`: 0.1 EUR are there in a book, and 0.10 EUR in
-- the sum that is told
abbrev before_assigned : Txn
before_assigned = on 1 1 (cents 2 (codes "a") (pos 10) ∷ cents 3 (codes "b") (negsuc 9) ∷ [])

abbrev beside_one : List Txn
beside_one = before_assigned ∷ on 5 2 (assignment 6 (codes "a") (pos 5) ∷ of 7 (codes "c") (negsuc 0) ∷ []) ∷ []

in_books : book_of (assigned_by shortened beside_one) ≡ Err (record { line = 5; cause = Unbalanced (codes "EUR") (record { mantissa = pos 39; places = 1 }) })
in_books = refl

told_unbalanced : load_txns beside_one ≡ Err (record { line = 5; cause = Unbalanced (codes "EUR") (record { mantissa = pos 390; places = 2 }) })
told_unbalanced = refl

-- the same where `c` has no amount, and `c  0 EUR = 1 EUR` finds what makes up for the assigned amount
abbrev beside_missing : List Txn
beside_missing =
    before_assigned
    ∷ on 5 2 (assignment 6 (codes "a") (pos 5) ∷ missing 7 (codes "c") ∷ [])
    ∷ on 9 3 (proved 10 (codes "c") (pos 0) (pos 1) ∷ of 11 (codes "d") (pos 0) ∷ [])
    ∷ []

told_found : load_txns beside_missing ≡ Err (record { line = 10; cause = AssertionFailed (plain_amount (euros (pos 1))) (plain_amount (codes "EUR", record { mantissa = negsuc 489; places = 2 })) })
told_found = refl
