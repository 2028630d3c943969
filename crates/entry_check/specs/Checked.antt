-- One transaction by the sums of the accounts before it: its assignments, its assertions, and what is wrong with it.
use Rattle.std.specs.Prelude.{◌≡◌, ℕ, Bool, true, false, List, [], ◌∷◌, ◌++◌, filter, Option, Some, None, Result, Ok, Err, ◌⊎◌, if◌then◌else◌}
use Rattle.std.specs.List.{list_all, list_any}
use Rattle.std.specs.Option.{option_map}
use Rattle.hl_num.specs.Decimal.{Decimal}
use Rattle.book.specs.declared.amount.Amount.{Amount}
use Rattle.book.specs.declared.amount.Assertion.{Assertion}
use Rattle.book.specs.declared.transaction.Posting.{Posting}
use Rattle.book.specs.declared.transaction.Txn.{Txn}
use Rattle.book.specs.declared.fault.Cause.{Cause}
use Rattle.book.specs.declared.fault.Cause.TheVariants as cause
use Rattle.book.specs.declared.fault.Fault.{Fault}
use Rattle.book.specs.SumsBefore.{Place, sum_before, other_before, is_assigned}
use Rattle.entry_balance.specs.Values.{Value, trimmed}
use Rattle.entry_balance.specs.Tally.{total_of, turnover_fits}
use Rattle.entry_balance.specs.Entry.{cause_alone, is_assignable, moved, settled, with_postings}
use Rattle.assertions.specs.Assertions.{held_in, is_same, failure_at, or_else_fault}
use Rattle.balancing.specs.Assigned.{assigned_posting}
use Rattle.balancing.specs.Giving.{value_after}
use Rattle.balancing.specs.Parts.{is_in}
use Rattle.balancing.specs.declared.groups.Part.TheVariants as part
use Rattle.balancing.specs.declared.fault.CheckFault.{CheckFault}
use Rattle.balancing.specs.declared.fault.CheckFault.TheVariants as check

-- ---- what accounts hold

-- what each account holds in each symbol before the transaction, alone or with the accounts under it
abbrev pub Told : Type 0
Told = Bool → List ℕ → List ℕ → Decimal

-- the least other symbol of which it holds something
abbrev pub Others : Type 0
Others = Bool → List ℕ → List ℕ → Option (List ℕ)

-- the sums of a book before a place, each with as few decimals as it needs
abbrev pub told_before : List Txn → Place → Told
told_before txns place below account symbol = trimmed (sum_before txns account symbol below place) 36

abbrev pub others_before : List Txn → Place → Others
others_before txns place below account symbol = other_before txns account symbol below place

-- what an account holds in a symbol after some postings of the transaction: what it held before, and their amounts
abbrev pub held_after : Told → Bool → List ℕ → List ℕ → List Posting → List Value
held_after told below account symbol ps = (symbol, told below account symbol) ∷ held_in below account ps

-- ---- assignments

-- what an assignment comes to after other postings: what is wanted, less what its account holds
abbrev pub assigned_after : Told → List Posting → Posting → Assertion → Value
assigned_after told done p w = (w.amount.symbol, value_after (held_after told w.below p.account w.amount.symbol done) w.amount)

-- a posting after others, its assignment made if it is one
abbrev pub made_posting : Told → List Posting → Posting → Option Amount → Option Assertion → Posting
made_posting told done p (Some a) wanted = p
made_posting told done p None None = p
made_posting told done p None (Some w) = assigned_posting p (assigned_after told done p w)

-- some postings after others, each assignment made just after those before it
abbrev pub made_postings : Told → List Posting → List Posting → List Posting
made_postings told done [] = []
made_postings told done (p ∷ ps) =
    let q = made_posting told done p p.amount p.wanted in
    q ∷ made_postings told (done ++ q ∷ []) ps

-- a transaction, its assignments made where they can be made
abbrev pub made : Told → Txn → Txn
made told t = if is_assignable t.postings then with_postings t (made_postings told [] t.postings) else t

-- ---- assertions

-- what is found in place of what is wanted: another sum of its symbol; or, where nothing else may be there, what was
-- there before the transaction of the least other symbol
abbrev pub found_after : Told → Others → Assertion → List ℕ → List Posting → Option Value
found_after told others w account ps =
    let total = total_of w.amount.symbol (held_after told w.below account w.amount.symbol ps) in
    if is_same total w.amount.value
    then (if w.only then option_map (λ s. (s, told w.below account s)) (others w.below account w.amount.symbol) else None)
    else Some (w.amount.symbol, total)

-- the fault of a posting's assertion, by the transaction's postings through this one
abbrev pub failure_after : Told → Others → List Posting → Posting → Option Assertion → Option Fault
failure_after told others through p None = None
failure_after told others through p (Some w) = failure_at p.line w (found_after told others w p.account through)

-- the fault of the first posting whose assertion fails, each judged just after its posting, after other postings
abbrev pub first_failing : Told → Others → List Posting → List Posting → Option Fault
first_failing told others done [] = None
first_failing told others done (p ∷ ps) =
    or_else_fault (failure_after told others (done ++ p ∷ []) p p.wanted) (first_failing told others (done ++ p ∷ []) ps)

-- the postings of a transaction on one day: where amounts were assigned, those that were missing come last
abbrev pub in_order : List Posting → List Posting
in_order ps = if list_any is_assigned ps then filter (is_in part.ButFound) ps ++ filter (is_in part.Found) ps else ps

-- ---- the transaction

abbrev pub judged : Txn → Option Cause → Option Fault → Result Txn Fault
judged t (Some cause) failure = Err (record { line = t.line; cause = cause })
judged t None (Some fault) = Err fault
judged t None None = Ok t

-- the transaction with its assignments and all that balancing finds; or what is wrong with it; or the fault of the
-- first assertion that fails
abbrev pub checked : Told → Others → Txn → Result Txn Fault
checked told others t =
    judged (settled (made told t)) (cause_alone (made told t).postings) (first_failing told others [] (in_order (settled (made told t)).postings))

-- ---- the bound

-- what an assertion of an account asks for before the transaction, and all that some postings move, stay within the
-- bound together
abbrev pub wanted_fits : Told → List ℕ → Option Assertion → List Posting → Bool
wanted_fits told account None ps = true
wanted_fits told account (Some w) ps = turnover_fits ((w.amount.symbol, told w.below account w.amount.symbol) ∷ moved ps)

-- the same of each assertion and assignment of some postings
abbrev pub asked_fit : Told → List Posting → List Posting → Bool
asked_fit told ps asking = list_all (λ p. wanted_fits told p.account p.wanted ps) asking

-- two missing amounts, or a day where an amount is assigned, are looked for before sums are
abbrev pub comes_first : Option Cause → Bool
comes_first (Some cause.TwoMissing) = true
comes_first (Some cause.NotAllowed) = true
comes_first _ = false

-- A sum that one of a transaction's assertions or assignments asks for before it is out of range together with all that
-- it moves; and nothing is wrong with it that comes first.
pub record IsBeyond (told : Told) (t : Txn) : Type 0 where
  pub first : comes_first (cause_alone (made told t).postings) ≡ false
  pub range : asked_fit told (settled (made told t)).postings (settled (made told t)).postings ≡ false

-- What the answer to a check says: the transaction or its fault; or that sums are out of range, which then are.
abbrev pub IsChecked : Told → Others → Txn → Result Txn CheckFault → Type 0
IsChecked told others t (Ok txn) = checked told others t ≡ Ok txn
IsChecked told others t (Err (check.Journal fault)) =
    (checked told others t ≡ Err fault)
    ⊎ ((fault ≡ record { line = t.line; cause = cause.Range }) × IsBeyond told t)
IsChecked told others t (Err check.Memory) = Unit {0}

-- the answer that sums are out of range
abbrev pub out_of_range : Txn → Result Txn CheckFault
out_of_range t = Err (check.Journal (record { line = t.line; cause = cause.Range }))
