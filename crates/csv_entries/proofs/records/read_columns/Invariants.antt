use Rattle.std.proofs.Common.{◌≡◌, ◌++◌, drop, map}
use Rattle.csv.specs.Records.{fields_of}
use Rattle.csv_entries.specs.Spaces.{stripped}
use Rattle.csv_entries.proofs.records.read_columns.Given as goal

abbrev pub invariant-loop-i : goal.invariant-loop-i
invariant-loop-i l = map stripped (fields_of l.row) ≡ l.columns.items ++ map stripped (drop l.i (fields_of l.row))
