-- What is known while groups are judged one after another.
use Rattle.std.specs.Prelude.{◌≡◌, ◌≤◌, ℕ, true, List, [], ◌∷◌, ◌++◌, Option, Some, None, is_some, if◌then◌else◌}
use Rattle.std.specs.List.{slice_get, AllByRecursion}
use Rattle.hl_num.specs.Decimal.{Decimal}
use Rattle.book.specs.declared.fault.Cause.{Cause}
use Rattle.book.specs.declared.fault.Fault.{Fault}
use Rattle.book.specs.declared.transaction.Txn.{Txn}
use Rattle.book.specs.Order.{each_once}
use Rattle.entry_balance.specs.Values.{Value}
use Rattle.entry_balance.specs.Tally.{turnover_fits}
use Rattle.entry_balance.specs.Turnover.{IsTurnover}
use Rattle.balancing.specs.Groups.{Group, groups_from, group_cmp}
use Rattle.book.specs.declared.transaction.Posting.{Posting}
use Rattle.entry_balance.specs.Entry.{is_assignable, moved, moved_by}
use Rattle.assertions.specs.Assertions.{first_failure, or_else_fault}
use Rattle.balancing.specs.Parts.{is_chosen, postings_on, postings_of_group}
use Rattle.assertions.specs.Kept.{Keeping, IsBalance, are_asked}
use Rattle.balancing.specs.Assigned.{given_at_by, given_from_by}
use Rattle.balancing.specs.declared.groups.Part.{Part}
use Rattle.balancing.specs.Load.{moved_on, moved_of_group, group_cause, fault_at, fault_of_group, first_fault}
use Rattle.entry_balance.specs.Settled.{AreSettled}

-- The transactions that were read are settled, and their groups were noted.
pub record IsRead (written txns : List Txn) (causes : List (Option Cause)) (noted : List Group) : Type 0 where
  pub settled : AreSettled written txns causes
  pub groups : (rest : List Group) → each_once group_cmp (noted ++ rest) ≡ each_once group_cmp (groups_from 0 written ++ rest)

-- The fault of a group by its transaction's cause and the turnover; without a fault it was added to the turnover.
pub record IsJudged (before : List Value) (day : ℕ) (txn : Txn) (cause : Option Cause) (sums : List Value) (fault : Option Fault) : Type 0 where
  pub is : fault ≡ fault_at txn.line (group_cause (turnover_fits (before ++ moved_on day txn)) cause)
  pub more : fault ≡ None → IsTurnover (before ++ moved_on day txn) sums

-- the same, by the transactions as they are written
pub record IsVisited (written : List Txn) (before : List Value) (group : Group) (sums : List Value) (fault : Option Fault) : Type 0 where
  pub is : fault ≡ fault_of_group before group.0 (slice_get written group.1)
  pub more : fault ≡ None → IsTurnover (before ++ moved_of_group group.0 (slice_get written group.1)) sums

-- what a posting moves, if it is of a day and a part
abbrev pub moved_when : Part → ℕ → Txn → Posting → List Value
moved_when part day t p = if is_chosen part day t p then moved_by p else []

-- The assignments of a group's transaction were made after other postings, or what is moved through it is out of range.
pub record IsGiven (enter : Decimal → Decimal) (written : List Txn) (seen : List Posting) (g : Group) (own below : Keeping) (txns : List Txn) (causes : List (Option Cause)) (fault : Option Fault) : Type 0 where
  pub settled : fault ≡ None → AreSettled (given_at_by enter seen g.1 written) txns causes
  pub asked : fault ≡ None → are_asked own below txns ≡ true
  pub range : is_some fault ≡ true → fault ≡ fault_of_group (moved seen) g.0 (slice_get (given_at_by enter seen g.1 written) g.1)

-- what some groups move, one after another
abbrev pub moved_before : List Txn → List Value → List Group → List Value
moved_before written before [] = before
moved_before written before (g ∷ gs) = moved_before written (before ++ moved_of_group g.0 (slice_get written g.1)) gs

-- the postings of a group of transactions that are settled
abbrev pub group_in : ℕ → Option Txn → List Posting
group_in day None = []
group_in day (Some t) = postings_on day t

-- What a group answers after others: its own fault, or that of its first assertion which fails.
abbrev pub answer_of_group : List Txn → List Value → List Posting → Group → Option Fault
answer_of_group written before seen g =
    or_else_fault (fault_of_group before g.0 (slice_get written g.1)) (first_failure seen (postings_of_group g.0 (slice_get written g.1)))

-- The answer of a group; without a fault it was added to the turnover and to the balances.
pub record IsPassed (written : List Txn) (before : List Value) (seen : List Posting) (g : Group) (sums : List Value) (own below : Keeping) (fault : Option Fault) : Type 0 where
  pub is : fault ≡ answer_of_group written before seen g
  pub more : fault ≡ None → IsTurnover (before ++ moved_of_group g.0 (slice_get written g.1)) sums
  pub kept : fault ≡ None → IsBalance (seen ++ postings_of_group g.0 (slice_get written g.1)) own below

-- What is known after some groups without a fault: the first fault is one of the others, and the turnover and the
-- balances are theirs.
pub record IsWalked (written : List Txn) (groups left : List Group) (before : List Value) (seen : List Posting) (sums : List Value) (own below : Keeping) : Type 0 where
  pub rest : first_fault written [] [] groups ≡ first_fault written before seen left
  pub all : moved_before written [] groups ≡ moved_before written before left
  pub moves : before ≡ moved seen
  pub turnover : IsTurnover before sums
  pub balance : IsBalance seen own below

-- A transaction whose assignments are still to be made is of the day.
abbrev pub IsOwn : ℕ → Option Txn → Type 0
IsOwn day None = Unit {0}
IsOwn day (Some t) = is_assignable t.postings ≡ true → t.day.0 ≡ day

-- The same of each group.
abbrev pub AreOwn : List Txn → List Group → Type 0
AreOwn txns groups = AllByRecursion (λ g. IsOwn g.0 (slice_get txns g.1)) groups

-- The assignments are made up to some groups: those that are left lead to the transactions with all of them.
pub record AreGiven (enter : Decimal → Decimal) (all now txns : List Txn) (causes : List (Option Cause)) (seen : List Posting) (left : List Group) (own below : Keeping) : Type 0 where
  pub rest : given_from_by enter now seen left ≡ all
  pub owned : AreOwn now left
  pub settled : AreSettled now txns causes
  pub asked : are_asked own below txns ≡ true

-- What is known after one more group: its answer, and without a fault the assignments are made through it, and the
-- turnover and the balances have it.
pub record IsAfter (enter : Decimal → Decimal) (all now txns : List Txn) (causes : List (Option Cause)) (seen : List Posting) (g : Group) (left : List Group) (sums : List Value) (own below : Keeping) (fault : Option Fault) : Type 0 where
  pub passed : IsPassed all (moved seen) seen g sums own below fault
  pub given : fault ≡ None → AreGiven enter all (given_at_by enter seen g.1 now) txns causes (seen ++ postings_of_group g.0 (slice_get all g.1)) left own below

-- The fault of the first group that has one; without a fault the transactions are settled, and all that is moved is
-- within the bound.
pub record IsTold (all txns : List Txn) (causes : List (Option Cause)) (groups : List Group) (fault : Option Fault) : Type 0 where
  pub is : fault ≡ first_fault all [] [] groups
  pub settled : fault ≡ None → AreSettled all txns causes
  pub within : fault ≡ None → turnover_fits (moved_before all [] groups) ≡ true
  pub few : fault ≡ None → AllByRecursion (λ v. v.1.places ≤ 36) (moved_before all [] groups)
