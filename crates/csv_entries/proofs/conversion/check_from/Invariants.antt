use Rattle.std.proofs.Common.{◌≡◌, ◌+◌, drop, map}
use Rattle.csv.specs.Records.{fields_of}
use Rattle.csv_entries.specs.Numbered.{none_from}
use Rattle.csv_entries.proofs.conversion.check_from.Given as goal

abbrev pub invariant-loop-i : goal.invariant-loop-i
invariant-loop-i l = none_from (l.start + 1) (drop l.start (map fields_of l.rows)) ≡ none_from (l.i + 1) (drop l.i (map fields_of l.rows))
