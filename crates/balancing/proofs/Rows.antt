-- The definitions, run on small texts.
use Rattle.std.proofs.Common.{◌≡◌, ℕ, ℤ, pos, negsuc, neg_ℤ, Bool, true, false, List, [], ◌∷◌, map, Option, Some, None, Result, Err, refl, codes}
use Rattle.book.specs.declared.amount.Amount.{Amount}
use Rattle.book.specs.declared.amount.Cost.{Cost}
use Rattle.book.specs.declared.amount.Cost.TheVariants.{Unit, Total}
use Rattle.book.specs.declared.transaction.Posting.{Posting}
use Rattle.book.specs.declared.transaction.Txn.{Txn}
use Rattle.book.specs.declared.transaction.Side.{Side}
use Rattle.book.specs.declared.transaction.Side.TheVariants.{Real, Free}
use Rattle.book.specs.declared.transaction.Mark.TheVariants.{Unmarked}
use Rattle.book.specs.declared.fault.Fault.{Fault}
use Rattle.book.specs.declared.fault.Cause.TheVariants as cause
use Rattle.book.specs.declared.item.Book.{Book}
use Rattle.book.specs.Postings.{plain_posting}
use Rattle.entry_balance.specs.Entry.{plain_amount, solved, cause_alone}
use Rattle.balancing.specs.Groups.{groups_of}
use Rattle.balancing.specs.Load.{book_of, first_fault}

abbrev amount : ℤ → ℕ → List ℕ → Amount
amount m places symbol = plain_amount (symbol, record { mantissa = m; places = places })

abbrev with : Side → List ℕ → Option Amount → Option Cost → Posting
with side account a cost = record (plain_posting 0 side account) { amount = a; cost = cost }

abbrev real : List ℕ → Amount → Posting
real account a = with Real account (Some a) None

abbrev txn : ℕ → ℕ → List Posting → Txn
txn line day ps = record { line = line; day = record { 0 = day }; mark = Unmarked; code = []; description = []; comment = []; tags = []; postings = ps }

abbrev quantities : List Posting → List (Option Amount)
quantities ps = map (λ p. p.amount) ps

abbrev shares : Posting
shares = with Real (codes "a") (Some (amount (pos 10) 0 (codes "A"))) (Some (Unit (amount (pos 3335) 4 (codes "EUR"))))

-- `a  10 A @ 0.3335 EUR` against `b  -3.33 EUR`: the sum 0.005 EUR is zero at two decimals
half_a_cent : cause_alone (shares ∷ real (codes "b") (amount (negsuc 332) 2 (codes "EUR")) ∷ []) ≡ None
half_a_cent = refl

-- against `b  -3.32 EUR`: unbalanced 0.015 EUR
too_much : cause_alone (shares ∷ real (codes "b") (amount (negsuc 331) 2 (codes "EUR")) ∷ []) ≡ Some (cause.Unbalanced (codes "EUR") (record { mantissa = pos 15; places = 3 }))
too_much = refl

-- `a  1 C`, `a  2 B`, `a  3 A` and `b` without an amount: one posting for each symbol, in the order of their bytes
three_symbols : quantities (solved (real (codes "a") (amount (pos 1) 0 (codes "C")) ∷ real (codes "a") (amount (pos 2) 0 (codes "B")) ∷ real (codes "a") (amount (pos 3) 0 (codes "A")) ∷ with Real (codes "b") None None ∷ []))
    ≡ Some (amount (pos 1) 0 (codes "C")) ∷ Some (amount (pos 2) 0 (codes "B")) ∷ Some (amount (pos 3) 0 (codes "A"))
    ∷ Some (amount (negsuc 2) 0 (codes "A")) ∷ Some (amount (negsuc 1) 0 (codes "B")) ∷ Some (amount (negsuc 0) 0 (codes "C")) ∷ []
three_symbols = refl

two_missing : cause_alone (real (codes "a") (amount (pos 1) 0 (codes "C")) ∷ with Real (codes "b") None None ∷ with Real (codes "c") None None ∷ []) ≡ Some cause.TwoMissing
two_missing = refl

-- nothing is missing: `0` without a symbol
nothing_missing : quantities (solved (with Real (codes "b") None None ∷ [])) ≡ Some (amount (pos 0) 0 []) ∷ []
nothing_missing = refl

abbrev free : ℤ → Posting
free m = with Free (codes "a") (Some (amount m 0 (codes "EUR"))) None

-- free amounts that move 2^127 - 1, and one more
abbrev half : ℕ
half = 85070591730234615865843651857942052863

at_the_bound : cause_alone (free (pos half) ∷ free (neg_ℤ (pos half)) ∷ free (pos 1) ∷ []) ≡ None
at_the_bound = refl

past_the_bound : cause_alone (free (pos half) ∷ free (neg_ℤ (pos half)) ∷ free (pos 2) ∷ []) ≡ Some cause.Range
past_the_bound = refl

-- `a  10 A` against `b  -5 EUR`: the cost is recorded at the one posting of the first symbol
an_exchange : solved (real (codes "a") (amount (pos 10) 0 (codes "A")) ∷ real (codes "b") (amount (negsuc 4) 0 (codes "EUR")) ∷ [])
    ≡ record (real (codes "a") (amount (pos 10) 0 (codes "A"))) { cost = Some (Total (amount (pos 5) 0 (codes "EUR"))); costed = true } ∷ real (codes "b") (amount (negsuc 4) 0 (codes "EUR")) ∷ []
an_exchange = refl

-- two texts whose transactions are faulty: of one day the first of the text, and an earlier day before all
abbrev loose : ℕ → ℕ → ℤ → Txn
loose line day m = txn line day (real (codes "a") (amount m 0 (codes "EUR")) ∷ [])

abbrev unbalanced_at : ℕ → ℤ → Result Book Fault
unbalanced_at line m = Err (record { line = line; cause = cause.Unbalanced (codes "EUR") (record { mantissa = m; places = 0 }) })

first_of_one_day : book_of (loose 1 10 (pos 1) ∷ loose 4 10 (pos 2) ∷ []) ≡ unbalanced_at 1 (pos 1)
first_of_one_day = refl

earlier_day : book_of (loose 1 20 (pos 1) ∷ loose 4 10 (pos 2) ∷ []) ≡ unbalanced_at 4 (pos 2)
earlier_day = refl

-- a turnover that two transactions reach together
moving : ℕ → ℕ → Txn
moving line day = txn line day (free (pos half) ∷ free (neg_ℤ (pos half)) ∷ [])

together : book_of (moving 1 10 ∷ moving 4 9 ∷ []) ≡ Err (record { line = 1; cause = cause.Range })
unfolding moving
together = refl

-- ---- assertions

abbrev asserted : Bool → Bool → Amount → Posting → Posting
asserted only below a p = record p { wanted = Some (record { amount = a; only = only; below = below }) }

abbrev euros : ℤ → Amount
euros m = amount m 0 (codes "EUR")

abbrev other_side : Posting
other_side = with Real (codes "b") None None

abbrev fault_of : List Txn → Option Fault
fault_of txns = first_fault txns [] [] (groups_of txns)

-- `a  1 EUR = 6 EUR` is written before, and happens after `a  5 EUR`
later_day : fault_of (txn 1 20 (asserted false false (euros (pos 6)) (real (codes "a") (euros (pos 1))) ∷ other_side ∷ []) ∷ txn 3 10 (real (codes "a") (euros (pos 5)) ∷ other_side ∷ []) ∷ []) ≡ None
later_day = refl

-- `== 5 EUR` where there are 5 EUR and 0 USD, and where there is 1 USD, which `= 5 EUR` bears
abbrev with_dollars : Bool → ℤ → List Txn
with_dollars only m = txn 1 10 (with Free (codes "a") (Some (amount m 0 (codes "USD"))) None ∷ asserted only false (euros (pos 5)) (with Free (codes "a") (Some (euros (pos 5))) None) ∷ []) ∷ []

no_dollars : fault_of (with_dollars true (pos 0)) ≡ None
no_dollars = refl

a_dollar : fault_of (with_dollars true (pos 1)) ≡ Some (record { line = 0; cause = cause.AssertionFailed (euros (pos 5)) (amount (pos 1) 0 (codes "USD")) })
a_dollar = refl

a_dollar_beside : fault_of (with_dollars false (pos 1)) ≡ None
a_dollar_beside = refl

-- `=*` counts the accounts below, and not those whose name only begins alike
abbrev below_of : List ℕ → Bool → List Txn
below_of account below = txn 1 10 (with Free account (Some (euros (pos 2))) None ∷ asserted false below (euros (pos 3)) (with Free (codes "a") (Some (euros (pos 1))) None) ∷ []) ∷ []

below_it : fault_of (below_of (codes "a:b") true) ≡ None
below_it = refl

not_below_it : fault_of (below_of (codes "ab") true) ≡ Some (record { line = 0; cause = cause.AssertionFailed (euros (pos 3)) (euros (pos 1)) })
not_below_it = refl

it_alone : fault_of (below_of (codes "a:b") false) ≡ Some (record { line = 0; cause = cause.AssertionFailed (euros (pos 3)) (euros (pos 1)) })
it_alone = refl

-- ---- assignments

abbrev assignment : Posting
assignment = asserted false false (euros (pos 100)) (with Real (codes "a") None None)

-- an assignment beside two missing amounts, and beside a posting that has a tag named date
two_beside : cause_alone (assignment ∷ other_side ∷ other_side ∷ []) ≡ Some cause.TwoMissing
two_beside = refl

beside_a_date : cause_alone (assignment ∷ record other_side { tags = record { name = codes "date"; value = [] } ∷ [] } ∷ []) ≡ Some cause.NotAllowed
beside_a_date = refl
