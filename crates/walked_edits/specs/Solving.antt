-- Which forms can be put into a book.
use Rattle.std.specs.Prelude.{◌≡◌, ℕ, nat_lt, ◌==◌, Bool, true, not, ◌&&◌, List, Some, Result, Ok, Err}
use Rattle.std.specs.List.{slice_get}
use Rattle.book.specs.Postings.{postings_of}
use Rattle.book.specs.SumsBefore.{Place}
use Rattle.book.specs.declared.transaction.Txn.{Txn}
use Rattle.balancing.specs.Solves.{HaveFew}
use Rattle.balancing.specs.declared.fault.CheckFault.{CheckFault}
use Rattle.balancing.specs.declared.fault.CheckFault.TheVariants as check
use Rattle.entry_balance.specs.Entry.{moved}
use Rattle.entry_balance.specs.Tally.{turnover_fits}
use Rattle.placed_checks.specs.Placed.{SameBefore}
use Rattle.placed_checks.specs.Unmixed.{is_unmixed}
use Rattle.placed_checks.specs.declared.judge.Judged.{Judged}
use Rattle.placed_checks.specs.declared.judge.Judged.TheVariants.{Solved}
use Rattle.reached_entries.specs.Reached.{IsSolved}
use Rattle.reached_walk.specs.Apart.{is_dated}
use Rattle.reached_walk.specs.declared.place.Spot.{Spot}
use Rattle.walked_edits.specs.Symbols.{are_known}

-- a form stands at a place with all its postings
abbrev pub is_at : Spot → Txn → Bool
is_at spot t = (t.day.0 == spot.day.0) && not (is_dated t)

-- and its symbols are known
abbrev pub is_fit : List (List ℕ) → Spot → Txn → Bool
is_fit symbols spot t = is_at spot t && are_known symbols t.postings

-- a written transaction stands at a place, on a day that sums reach
abbrev pub is_near : Spot → Txn → Bool
is_near spot t = (t.day.0 == spot.day.0) && nat_lt spot.day.0 4194304

-- before the first posting of a transaction
abbrev pub place_at : Spot → Place
place_at spot = record { day = spot.day.0; txn = spot.number; posting = 0 }

-- A book solves a written transaction at a place, where it isn't mixed, and has the same before it as another one.
pub record IsFormOf (book after : List Txn) (spot : Spot) (written solved : Txn) : Type 0 where
  pub day : written.day.0 ≡ spot.day.0
  pub there : slice_get after spot.number ≡ Some solved
  pub few : HaveFew after
  pub same : SameBefore book after (place_at spot)
  pub unmixed : is_unmixed solved ≡ true
  pub is_solved : IsSolved after spot.number written solved
  pub fits : turnover_fits (moved (postings_of after)) ≡ true

-- the check of a transaction comes to this form, or memory is wanting
abbrev pub ComesTo : Txn → Result Judged CheckFault → Type 0
ComesTo solved (Ok judged) = judged ≡ Solved solved
ComesTo solved (Err check.Memory) = Unit {0}
ComesTo solved (Err (check.Journal fault)) = ⊥
