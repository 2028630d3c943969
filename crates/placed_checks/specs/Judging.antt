-- What the check of a transaction at its place came to.
use Rattle.std.specs.Prelude.{◌≡◌, ℕ, Bool, true, false, List, Some, Result, Ok, Err}
use Rattle.std.specs.List.{slice_get}
use Rattle.book.specs.declared.transaction.Txn.{Txn}
use Rattle.book.specs.SumsBefore.{Place}
use Rattle.balancing.specs.Solves.{HaveFew}
use Rattle.balancing.specs.declared.fault.CheckFault.{CheckFault}
use Rattle.balancing.specs.declared.fault.CheckFault.TheVariants as check
use Rattle.reached_entries.specs.Reached.{IsSolved}
use Rattle.placed_checks.specs.declared.judge.Judged.{Judged}
use Rattle.placed_checks.specs.declared.judge.Judged.TheVariants.{Solved, Mixed}
use Rattle.placed_checks.specs.Placed.{SameBefore, place_of}

-- What was checked by the sums of a book before its place is solved in each book that has it under its number as it was
-- answered, and has the same postings before the place, and no amount with more than 36 decimals.
abbrev pub IsSolvedWhere : List Txn → Place → Txn → Txn → Type 0
IsSolvedWhere book place written solved =
    (after : List Txn) (n : ℕ) → place ≡ place_of n written.day
    → HaveFew after → slice_get after n ≡ Some solved → SameBefore book after place → IsSolved after n written solved

abbrev pub IsJudged : List Txn → Place → Txn → Judged → Type 0
IsJudged book place written (Solved solved) = IsSolvedWhere book place written solved
IsJudged book place written (Mixed answer) = Unit {0}

abbrev pub judged_as : Bool → Txn → Judged
judged_as true answer = Solved answer
judged_as false answer = Mixed answer

-- the answer to a check is this transaction, or that memory is wanting
abbrev pub IsThis : Txn → Result Txn CheckFault → Type 0
IsThis solved (Ok answer) = answer ≡ solved
IsThis solved (Err check.Memory) = Unit {0}
IsThis solved (Err (check.Journal fault)) = ⊥

-- the transaction that the check answered, whatever is known of it
abbrev pub answered : Judged → Txn
answered (Solved answer) = answer
answered (Mixed answer) = answer

abbrev pub as_checked : Result Judged CheckFault → Result Txn CheckFault
as_checked (Ok judged) = Ok (answered judged)
as_checked (Err fault) = Err fault
