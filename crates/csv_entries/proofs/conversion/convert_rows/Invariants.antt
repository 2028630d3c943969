use Rattle.std.proofs.Common.{◌≡◌, ◌+◌, drop, map}
use Rattle.csv.specs.Records.{fields_of}
use Rattle.query_terms.specs.Finders.{known_in}
use Rattle.csv_entries.specs.Numbered.{behind, entries_from}
use Rattle.csv_entries.proofs.conversion.convert_rows.Given as goal

abbrev pub invariant-loop-i : goal.invariant-loop-i
invariant-loop-i l = record {
  same : known_in l.finder ≡ known_in l.fn.finder;
  so_far : entries_from (known_in l.fn.finder) l.sheet 1 (map fields_of l.rows)
      ≡ behind l.txns.items (entries_from (known_in l.fn.finder) l.sheet (l.i + 1) (drop l.i (map fields_of l.rows)));
}
