use Rattle.std.proofs.Common.{◌≡◌, ◌++◌, true, length}
use Rattle.std.specs.Str.{is_utf8}
use Rattle.csv_rules.specs.Columns.{names_of}
use Rattle.csv_rules.proofs.columns.read_names.Given as goal

abbrev pub invariant-loop-names : goal.invariant-loop-names
invariant-loop-names l = record {
  so_far : names_of l.text ≡ l.names.items ++ names_of l.rest;
  utf8 : is_utf8 l.rest ≡ true;
}

abbrev pub decreases-loop-names : goal.decreases-loop-names
decreases-loop-names l = length l.rest
