use Rattle.std.proofs.Common.{[], map, take, drop}
use Rattle.balance_rows.specs.Kept.{all_entries, kept_at}
use Rattle.balance_rows.proofs.KeptLaws.{IsAdding}
use Rattle.balance_rows.proofs.tree.column_sum.Given as goal

abbrev pub invariant-loop-given : goal.invariant-loop-given
invariant-loop-given l =
    IsAdding [] l.sums (all_entries (take l.given-index (map (kept_at l.at) l.rows))) (all_entries (drop l.given-index (map (kept_at l.at) l.rows)))
