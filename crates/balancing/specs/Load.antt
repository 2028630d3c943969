-- The book of a text's items, or the fault that they have.
use Rattle.std.specs.Prelude.{ℕ, Bool, true, false, List, [], ◌∷◌, ◌++◌, map, Option, Some, None, Result, Ok, Err}
use Rattle.std.specs.List.{slice_get}
use Rattle.book.specs.declared.transaction.Posting.{Posting}
use Rattle.book.specs.declared.transaction.Txn.{Txn}
use Rattle.book.specs.declared.item.Placed.{Placed}
use Rattle.book.specs.declared.item.Book.{Book}
use Rattle.book.specs.declared.fault.Fault.{Fault}
use Rattle.book.specs.declared.fault.Cause.{Cause}
use Rattle.book.specs.declared.fault.Cause.TheVariants as cause
use Rattle.book.specs.Postings.{txns_of}
use Rattle.entry_balance.specs.Values.{Value}
use Rattle.entry_balance.specs.Tally.{turnover_fits}
use Rattle.entry_balance.specs.Entry.{settled, moved, cause_alone}
use Rattle.balancing.specs.Parts.{postings_on, postings_of_group}
use Rattle.assertions.specs.Assertions.{first_failure, or_else_fault}
use Rattle.balancing.specs.Assigned.{whole, assigned, assigned_by}
use Rattle.balancing.specs.Groups.{Group, groups_of}

-- what a transaction's group on a day moves
abbrev pub moved_on : ℕ → Txn → List Value
moved_on day t = moved (postings_on day t)

-- what is wrong with a group after others that moved so much: two missing amounts and assignments that can't be made
-- before all; then a turnover that is out of range; then what is wrong with its transaction
abbrev pub group_cause : Bool → Option Cause → Option Cause
group_cause fits (Some cause.TwoMissing) = Some cause.TwoMissing
group_cause fits (Some cause.NotAllowed) = Some cause.NotAllowed
group_cause true alone = alone
group_cause false alone = Some cause.Range

abbrev pub fault_at : ℕ → Option Cause → Option Fault
fault_at line None = None
fault_at line (Some fault) = Some (record { line = line; cause = fault })

-- the fault of a transaction's group on a day. The first group of a transaction is the first to tell its faults
abbrev pub group_fault : List Value → ℕ → Txn → Option Fault
group_fault before day t = fault_at t.line (group_cause (turnover_fits (before ++ moved_on day (settled t))) (cause_alone t.postings))

abbrev pub fault_of_group : List Value → ℕ → Option Txn → Option Fault
fault_of_group before day None = None
fault_of_group before day (Some t) = group_fault before day t

abbrev pub moved_of_group : ℕ → Option Txn → List Value
moved_of_group day None = []
moved_of_group day (Some t) = moved_on day (settled t)

-- the fault of the first group that has one, after others that have these postings and moved so much. Assertions come
-- last in a group
abbrev pub first_fault : List Txn → List Value → List Posting → List Group → Option Fault
first_fault txns before seen [] = None
first_fault txns before seen (g ∷ gs) =
    let moved = moved_of_group g.0 (slice_get txns g.1) in
    let postings = postings_of_group g.0 (slice_get txns g.1) in
    or_else_fault (fault_of_group before g.0 (slice_get txns g.1))
    (or_else_fault (first_failure seen postings) (first_fault txns (before ++ moved) (seen ++ postings) gs))

abbrev pub loaded : List Txn → Option Fault → Result Book Fault
loaded txns None = Ok (record { txns = map settled txns })
loaded txns (Some fault) = Err fault

-- the book of some transactions whose assignments are made, or their fault
abbrev pub book_of : List Txn → Result Book Fault
book_of txns = loaded txns (first_fault txns [] [] (groups_of txns))

-- a cause that carries a sum
abbrev pub carries_sum : Cause → Bool
carries_sum (cause.Unbalanced symbol sum) = true
carries_sum (cause.AssertionFailed wanted found) = true
carries_sum _ = false

abbrev pub told_if : Bool → Fault → Result Book Fault → Fault
told_if false own other = own
told_if true own (Err told) = told
told_if true own (Ok book) = own

-- the fault that is told in place of one: where it carries a sum, that of another result, if it has one
abbrev pub told_by : Fault → Result Book Fault → Fault
told_by own other = told_if (carries_sum own.cause) own other

-- a book, or the fault that is told in place of its own
abbrev pub or_told : Result Book Fault → Result Book Fault → Result Book Fault
or_told (Ok book) other = Ok book
or_told (Err fault) other = Err (told_by fault other)

-- the book of some transactions, in which sums enter assigned amounts shortened; or their fault, whose sum is that of
-- the walk in which they enter whole
abbrev pub load_txns : List Txn → Result Book Fault
load_txns txns = or_told (book_of (assigned txns)) (book_of (assigned_by whole txns))

-- the book of the items of a text: its transactions in their order, with what balancing found; or the fault of the
-- first group, by day and then by transaction, that has one
abbrev pub load : List Placed → Result Book Fault
load items = load_txns (txns_of items)
