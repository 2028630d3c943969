use Rattle.std.proofs.Common.{◌≡◌}
use Rattle.report_cells.specs.Report.{seen}
use Rattle.balance_rows.specs.Walks.{walked}
use Rattle.balance_rows.proofs.Walking.{walked_from}
use Rattle.balance_rows.proofs.compared.compare_entries.Given as goal

abbrev pub invariant-loop-at : goal.invariant-loop-at
invariant-loop-at l = walked (seen l.left) (seen l.right) ≡ walked_from l.at l.left l.right
