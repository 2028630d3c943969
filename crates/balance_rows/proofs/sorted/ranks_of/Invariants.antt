use Rattle.std.proofs.Common.{◌≡◌, map}
use Rattle.std.specs.List.{AllByRecursion}
use Rattle.report_cells.specs.Report.{row_seen}
use Rattle.balance_rows.specs.Standing.{StandsBy, ranked_row}
use Rattle.balance_rows.proofs.sorted.ranks_of.Given as goal

abbrev pub invariant-loop-row : goal.invariant-loop-row
invariant-loop-row l = record {
  rows : map ranked_row l.ranks.items ≡ map row_seen l.yielded;
  each : AllByRecursion (StandsBy l.basis) l.ranks.items;
}
