use Rattle.std.proofs.Common.{◌≡◌, ◌++◌, drop, filter, map}
use Rattle.query_terms.specs.Finders.{known_in}
use Rattle.csv_entries.specs.Blocks.{applies}
use Rattle.csv_entries.proofs.blocks.applying.Given as goal

abbrev pub invariant-loop-block : goal.invariant-loop-block
invariant-loop-block l = record {
  same : known_in l.finder ≡ known_in l.fn.finder;
  so_far : filter (applies (known_in l.fn.finder) l.row.names.now l.row.columns.now) l.blocks
      ≡ map (λ b. b.now) l.found.items ++ filter (applies (known_in l.fn.finder) l.row.names.now l.row.columns.now) (drop l.block-index l.blocks);
}
