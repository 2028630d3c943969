-- Assertions: what accounts hold, and which assertion fails.
use Rattle.std.specs.Prelude.{ℕ, ◌==◌, Bool, true, false, not, ◌&&◌, List, [], ◌∷◌, ◌++◌, filter, Option, Some, None, if◌then◌else◌}
use Rattle.std.specs.List.{flat_map}
use Rattle.std.specs.Str.{bytes_eq}
use Rattle.std.specs.Ordering.{is_eq, int_cmp}
use Rattle.hl_base.specs.Ascii.{colon}
use Rattle.hl_num.specs.Decimal.{Decimal, units_of}
use Rattle.book.specs.declared.amount.Assertion.{Assertion}
use Rattle.book.specs.declared.transaction.Posting.{Posting}
use Rattle.book.specs.declared.fault.Fault.{Fault}
use Rattle.book.specs.declared.fault.Cause.TheVariants as cause
use Rattle.entry_balance.specs.Values.{Value, value_of}
use Rattle.entry_balance.specs.Tally.{total_of, sums_of}
use Rattle.entry_balance.specs.Entry.{from_amount, is_nothing, plain_amount}

-- ---- what accounts hold

-- an account is another one, or lies under it: its name goes on with a colon
abbrev pub lies_under : List ℕ → List ℕ → Bool
lies_under [] [] = true
lies_under [] (r ∷ root) = false
lies_under (b ∷ account) [] = b == colon
lies_under (b ∷ account) (r ∷ root) = if b == r then lies_under account root else false

-- an account counts for another one alone, or for all that lies under that
abbrev pub counts_for : Bool → List ℕ → List ℕ → Bool
counts_for below root account = if below then lies_under account root else bytes_eq root account

-- what a posting adds to an account: its amount without its cost
abbrev pub held_by : Bool → List ℕ → Posting → List Value
held_by below root p = if counts_for below root p.account then from_amount (λ a. value_of a ∷ []) p.amount else []

-- the amounts of an account, with or without those of the accounts under it, among some postings
abbrev pub held_in : Bool → List ℕ → List Posting → List Value
held_in below root ps = flat_map (held_by below root) ps

-- ---- one assertion

-- two numbers are one, however many decimals they have
abbrev pub is_same : Decimal → Decimal → Bool
is_same a b = is_eq (int_cmp (units_of a) (units_of b))

-- a sum of another symbol that isn't zero
abbrev pub is_other : List ℕ → Value → Bool
is_other symbol sum = not (bytes_eq sum.0 symbol) && not (is_nothing sum.1)

abbrev pub first_of : List Value → Option Value
first_of [] = None
first_of (v ∷ vs) = Some v

-- what is found among some amounts in place of what is wanted: another sum of its symbol; or, where nothing else may
-- be there, the sum of the least other symbol that isn't zero
abbrev pub found_instead : Assertion → List Value → Option Value
found_instead w values =
    if is_same (total_of w.amount.symbol values) w.amount.value
    then (if w.only then first_of (filter (is_other w.amount.symbol) (sums_of values)) else None)
    else Some (w.amount.symbol, total_of w.amount.symbol values)

-- the fault that an assertion in a line has failed
abbrev pub failure_at : ℕ → Assertion → Option Value → Option Fault
failure_at line w None = None
failure_at line w (Some found) = Some (record { line = line; cause = cause.AssertionFailed w.amount (plain_amount found) })

-- the fault of a posting's assertion, by all postings through this one
abbrev pub failure_of : List Posting → Posting → Option Assertion → Option Fault
failure_of through p None = None
failure_of through p (Some w) = failure_at p.line w (found_instead w (held_in w.below p.account through))

abbrev pub or_else_fault : Option Fault → Option Fault → Option Fault
or_else_fault None later = later
or_else_fault (Some fault) later = Some fault

-- the fault of the first posting whose assertion fails, each judged just after its posting, after other postings
abbrev pub first_failure : List Posting → List Posting → Option Fault
first_failure before [] = None
first_failure before (p ∷ ps) = or_else_fault (failure_of (before ++ p ∷ []) p p.wanted) (first_failure (before ++ p ∷ []) ps)
