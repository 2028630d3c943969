use Rattle.std.proofs.Common.{◌≡◌, ◌||◌, drop}
use Rattle.query_terms.specs.Finders.{known_in}
use Rattle.csv_entries.specs.Blocks.{holds, some_from}
use Rattle.csv_entries.proofs.blocks.some_hold.Given as goal

abbrev pub invariant-loop-condition : goal.invariant-loop-condition
invariant-loop-condition l = record {
  same : known_in l.finder ≡ known_in l.fn.finder;
  so_far : some_from (holds (known_in l.fn.finder) l.row.names.now l.row.columns.now) l.fn.all l.conditions
      ≡ (l.some || some_from (holds (known_in l.fn.finder) l.row.names.now l.row.columns.now) l.all (drop l.condition-index l.conditions));
}
