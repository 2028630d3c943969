-- What a walk counts.
use Rattle.std.specs.Prelude.{◌≡◌, ◌≤◌, ◌+◌, ℕ, Bool, List, sum_by, Option, None, Some}
use Rattle.std.specs.List.{slice_get}
use Rattle.hl_base.specs.Counts.{Counts}
use Rattle.book.specs.declared.transaction.Txn.{Txn}
use Rattle.entry_check.specs.Asking.{nodes_asked}
use Rattle.placed_sums.specs.Accounts.{nodes_beside}
use Rattle.reached_walk.specs.declared.place.Spot.{Spot}
use Rattle.reached_walk.specs.Closed.{IsClosed, size_in}
use Rattle.walked_edits.specs.Scenes.{Scene, edit_in}

-- so many transactions were checked, and nothing was read
pub record AreChecked (n : ℕ) (before after : Counts) : Type 0 where
  pub bytes_read : after.bytes_read ≡ before.bytes_read
  pub checked : after.checked ≡ before.checked + n

-- Whatever set is closed under what its members hand on, no more transactions were checked than it holds.
abbrev pub ChecksFew : Scene → Counts → Counts → Type 0
ChecksFew s before after =
    (set : ℕ → Bool) → IsClosed (edit_in s) set → after.checked ≤ before.checked + size_in set s.written

abbrev pub IsCounted : Counts → Counts → Type 0
IsCounted before after = AreChecked 1 before after

-- The nodes of the index that the check of a written transaction asks at most: for each of its assertions and assignments
-- 22 for the sum of its own symbol, and where nothing else may be there, 22 for that of each other one of some symbols.
abbrev pub nodes_of : List (List ℕ) → Txn → ℕ
nodes_of symbols t = nodes_asked (λ account symbol below. 22) (λ account symbol below. nodes_beside symbol symbols) t.postings

abbrev pub nodes_at : List (List ℕ) → Option Txn → ℕ
nodes_at symbols None = 0
nodes_at symbols (Some t) = nodes_of symbols t

-- those of the transactions that are written at some places
abbrev pub nodes_on : Scene → List Spot → ℕ
nodes_on s spots = sum_by (λ spot. nodes_at s.symbols (slice_get s.written spot.number)) spots
