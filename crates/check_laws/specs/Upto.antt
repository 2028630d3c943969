-- A journal up to the group of one of its transactions, and the check of this one.
use Rattle.std.specs.Prelude.{◌≡◌, ℕ, true, List, map, Some, Result}
use Rattle.std.specs.List.{slice_get, AllByRecursion, list_all}
use Rattle.book.specs.declared.transaction.Txn.{Txn}
use Rattle.entry_balance.specs.Entry.{settled}
use Rattle.balancing.specs.Faults.{AreMadeIf, fits_through, placed_through}
use Rattle.balancing.specs.Solves.{HaveFew, IsAssignedAt, is_unmarked}
use Rattle.balancing.specs.declared.fault.CheckFault.{CheckFault}
use Rattle.entry_check.specs.Checked.{IsChecked, others_before, told_before}
use Rattle.placed_checks.specs.Placed.{SameBefore, place_of}
use Rattle.placed_checks.specs.Unmixed.{is_unmixed}

-- A transaction stands under a number among those that are written, and another one among those that have some amount for
-- each assignment, which up to the transaction's group is its wanted amount less the sum at its place. The transaction isn't
-- mixed and nothing of it is marked as found; all that is moved up to its group stays in range, and no amount has more
-- than 36 decimals.
pub record IsUpto (written made : List Txn) (n : ℕ) (t m : Txn) : Type 0 where
  pub there : slice_get written n ≡ Some t
  pub made_there : slice_get made n ≡ Some m
  pub kept : AreMadeIf written made
  pub unmarked : list_all is_unmarked t.postings ≡ true
  pub unmixed : is_unmixed (settled m) ≡ true
  pub assigned : AllByRecursion (IsAssignedAt (map settled made)) (placed_through (map settled made) (t.day.0, n))
  pub fits : fits_through (map settled made) (t.day.0, n) ≡ true
  pub few : HaveFew (map settled made)

-- The check of a transaction under a number answers this, by the sums of one book that has the same postings before the
-- transaction's place as another book.
pub record IsCheckedIn (one book : List Txn) (n : ℕ) (t : Txn) (answer : Result Txn CheckFault) : Type 0 where
  pub same : SameBefore one book (place_of n t.day)
  pub is : IsChecked (told_before one (place_of n t.day)) (others_before one (place_of n t.day)) t answer
