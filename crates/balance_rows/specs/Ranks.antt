-- Rows with what they stand by.
use Rattle.std.specs.Prelude.{ℕ, ◌-◌, List, [], length, slice_index_or, Option, Some, None}
use Rattle.std.specs.declared.cmp.Ordering.{Ordering}
use Rattle.std.specs.Ordering.{ordering_then}
use Rattle.book.specs.Accounts.{account_cmp}
use Rattle.report_cells.specs.Report.{seen}
use Rattle.report_cells.specs.declared.cells.CellRow.{CellRow}
use Rattle.balance_rows.specs.Kept.{KeptSums}
use Rattle.balance_rows.specs.Orders.{amount_cmp}

-- the total, where there is one, and the last cell otherwise
abbrev pub standing_by : Option KeptSums → List KeptSums → KeptSums
standing_by None cells = slice_index_or cells (length cells - 1) []
standing_by (Some total) cells = total

-- a row with what it stands by
abbrev pub Rank : Type 0
Rank = KeptSums × CellRow

-- by these amounts, and then by the accounts
abbrev pub rank_cmp : Rank → Rank → Ordering
rank_cmp a b = ordering_then (amount_cmp (seen a.0) (seen b.0)) (account_cmp a.1.account b.1.account)
