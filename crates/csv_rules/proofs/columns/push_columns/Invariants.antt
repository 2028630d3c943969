use Rattle.std.proofs.Common.{◌≡◌, ◌+◌, ◌++◌, drop}
use Rattle.csv_rules.specs.Columns.{columns_from}
use Rattle.csv_rules.proofs.columns.push_columns.Given as goal

abbrev pub invariant-loop-name : goal.invariant-loop-name
invariant-loop-name l = record {
  so_far : l.fn.assignments.items ++ columns_from 1 l.names ≡ l.assignments.items ++ columns_from l.number (drop l.name-index l.names);
  counted : l.number ≡ l.name-index + 1;
}
