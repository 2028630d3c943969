-- What the fault of a text is. Nothing here says how it is found.
use Rattle.std.specs.Prelude.{◌≡◌, ◌⊎◌, suc, ◌==◌, nat_lt, Bool, true, false, not, ◌&&◌, ◌||◌, List, ◌∷◌, ◌++◌, [], map, filter, Option, Some, None, is_some, if◌then◌else◌}
use Rattle.std.specs.List.{list_any, find, slice_get, AllByRecursion}
use Rattle.hl_num.specs.Decimal.{Decimal}
use Rattle.book.specs.declared.amount.Assertion.{Assertion}
use Rattle.book.specs.declared.fault.Fault.{Fault}
use Rattle.book.specs.declared.fault.Cause.{Cause}
use Rattle.book.specs.declared.fault.Cause.TheVariants as cause
use Rattle.book.specs.declared.transaction.Posting.{Posting}
use Rattle.book.specs.declared.transaction.Txn.{Txn}
use Rattle.book.specs.SumsBefore.{Place, is_before, placed_from}
use Rattle.entry_balance.specs.Tally.{turnover_fits}
use Rattle.entry_balance.specs.Entry.{lacks_two, has_assignment, is_dated, costs_fit, fits_alone, unbalanced_by, unbalanced_sums, settled, moved, or_else}
use Rattle.balancing.specs.Groups.{Group, groups_of}
use Rattle.assertions.specs.Assertions.{found_instead, failure_at, or_else_fault}
use Rattle.balancing.specs.Assigned.{shortened, whole}
use Rattle.balancing.specs.Load.{fault_at, carries_sum}
use Rattle.balancing.specs.Solves.{are_unmarked, is_allowed, IsMadeTxn, values_before, just_after, IsAssignedAtBy, SolvesBy}

-- ---- up to a group

-- just after all postings of a group
abbrev pub after_group : Group → Place
after_group g = record { day = g.0; txn = suc g.1; posting = 0 }

-- the postings of a book up to the last of a group, each with its place
abbrev pub placed_through : List Txn → Group → List (Place × Posting)
placed_through book g = filter (λ e. is_before e.0 (after_group g)) (placed_from 0 book)

-- all that they move stays in range
abbrev pub fits_through : List Txn → Group → Bool
fits_through book g = turnover_fits (moved (map (λ e. e.1) (placed_through book g)))

-- the first group of its transaction: none of the others has an earlier day
abbrev pub is_first : List Txn → Group → Bool
is_first written g = not (list_any (λ h. (h.1 == g.1) && nat_lt h.0 g.0) (groups_of written))

-- ---- assertions

-- the fault of an assertion by the sums just after the place of its posting
abbrev pub failure_by : List Txn → Place → Posting → Option Assertion → Option Fault
failure_by book place p None = None
failure_by book place p (Some w) = failure_at p.line w (found_instead w (values_before book p.account w.below (just_after place)))

abbrev pub failure_in : List Txn → Place × Posting → Option Fault
failure_in book e = failure_by book e.0 e.1 e.1.wanted

abbrev pub fails : List Txn → Place × Posting → Bool
fails book e = is_some (failure_in book e)

-- it fails, and none of some others fails at an earlier place
abbrev pub fails_first : List Txn → List (Place × Posting) → Place × Posting → Bool
fails_first book es e = fails book e && not (list_any (λ o. fails book o && is_before o.0 e.0) es)

-- the postings of a group, each with its place
abbrev pub placed_of : List Txn → Group → List (Place × Posting)
placed_of book g = filter (λ e. (e.0.day == g.0) && (e.0.txn == g.1)) (placed_from 0 book)

abbrev pub failure_if : List Txn → Option (Place × Posting) → Option Fault
failure_if book None = None
failure_if book (Some e) = failure_in book e

-- the fault of a group's assertion that fails at the first place
abbrev pub failure_on : List Txn → Group → Option Fault
failure_on book g = failure_if book (find (fails_first book (placed_of book g)) (placed_of book g))

-- ---- the causes of a group

-- too many amounts are missing; or there is an assignment, and a posting with a day of its own
abbrev pub cause_of_missing : List Posting → Option Cause
cause_of_missing ps =
    if lacks_two ps then Some cause.TwoMissing
    else (if has_assignment ps && list_any is_dated ps then Some cause.NotAllowed else None)

-- What is moved up to the group's last posting, or a cost of its transaction, is out of range; or the group is the
-- first one of a transaction without assignments that would be out of range alone.
abbrev pub is_out_of_range : List Txn → List Txn → Group → Txn → Txn → Bool
is_out_of_range written made g t m =
    not (fits_through (map settled made) g && costs_fit m.postings)
    || (is_first written g && (not (has_assignment t.postings) && not (fits_alone t.postings)))

abbrev pub cause_if : Bool → Option Cause → Option Cause
cause_if true c = c
cause_if false c = None

-- The first cause that a group has, of a transaction as it is written and with amounts for its assignments: missing
-- amounts and assignments that can't be made at its first group; then the range; then sums that aren't zero at its
-- first group.
abbrev pub cause_on : List Txn → List Txn → Group → Txn → Txn → Option Cause
cause_on written made g t m =
    or_else (cause_if (is_first written g) (cause_of_missing t.postings))
    (or_else (cause_if (is_out_of_range written made g t m) (Some cause.Range))
    (cause_if (is_first written g) (unbalanced_by (unbalanced_sums m.postings))))

-- with the line of the transaction's head; and last an assertion that fails, with its posting's line
abbrev pub fault_on : List Txn → List Txn → Group → Option Txn → Option Txn → Option Fault
fault_on written made g (Some t) (Some m) =
    or_else_fault (fault_at t.line (cause_on written made g t m)) (failure_on (map settled made) g)
fault_on _ _ _ _ _ = None

-- the fault of a group among written transactions, by the amounts that are made for their assignments
abbrev pub fault_of : List Txn → List Txn → Group → Option Fault
fault_of written made g = fault_on written made g (slice_get written g.1) (slice_get made g.1)

-- ---- the fault of a text

-- a transaction that may have assignments has some amount for each; another one is as written
abbrev pub IsMadeIf : Bool → Txn → Txn → Type 0
IsMadeIf true written made = IsMadeTxn written made
IsMadeIf false written made = made ≡ written

abbrev pub AreMadeIf : List Txn → List Txn → Type 0
AreMadeIf [] [] = Unit {0}
AreMadeIf (w ∷ ws) (m ∷ ms) = IsMadeIf (is_allowed w) w m × AreMadeIf ws ms
AreMadeIf _ _ = ⊥

-- It is the fault of the first group that has one, where sums enter assigned amounts in some way.
pub record IsFaultBy (enter : Decimal → Decimal) (written : List Txn) (fault : Fault) : Type 0 where
  -- nothing that is written is marked as found
  pub unmarked : are_unmarked written ≡ true
  -- the written transactions, with some amount for each assignment that may be there
  pub made : List Txn
  pub kept : AreMadeIf written made
  -- a group, those before it and those after it
  pub before : List Group
  pub group : Group
  pub after : List Group
  pub order : groups_of written ≡ before ++ group ∷ after
  -- up to this group an assignment's amount is its wanted amount less the sum at its place
  pub assigned : AllByRecursion (IsAssignedAtBy enter (map settled made)) (placed_through (map settled made) group)
  -- those before it have no fault
  pub sound : AllByRecursion (λ g. fault_of written made g ≡ None) before
  -- it has this one
  pub is : fault_of written made group ≡ Some fault

-- The fault that is told in place of one. Where that carries a sum it is the fault of the first group by sums with all
-- their decimals, if these have one; and else it is told itself.
abbrev pub IsToldIf : Bool → List Txn → Fault → Fault → Type 0
IsToldIf false written own fault = fault ≡ own
IsToldIf true written own fault = IsFaultBy whole written fault ⊎ ((book : List Txn) × SolvesBy whole written book × (fault ≡ own))

abbrev pub IsToldFor : List Txn → Fault → Fault → Type 0
IsToldFor written own fault = IsToldIf (carries_sum own.cause) written own fault

-- It is the fault that what is written has in place of a book.
pub record IsFaultOf (written : List Txn) (fault : Fault) : Type 0 where
  -- where sums enter shortened, as in books, some group has a fault
  pub own : Fault
  pub lacks : IsFaultBy shortened written own
  -- this is the one that is told, with all the decimals of its sum
  pub told : IsToldFor written own fault

-- the fault that an answer tells, if it tells one
abbrev pub IsFaultIf : List Txn → Option Fault → Type 0
IsFaultIf written None = Unit {0}
IsFaultIf written (Some fault) = IsFaultOf written fault
