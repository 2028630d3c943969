use Rattle.std.proofs.Common.{◌≡◌, [], map}
use Rattle.std.specs.List.{range_with_len}
use Rattle.balance_rows.specs.Kept.{added_all, all_entries, kept_at}
use Rattle.balance_rows.proofs.tree.sums_of.Given as goal

abbrev pub invariant-loop-at : goal.invariant-loop-at
invariant-loop-at l =
    l.cells.items ≡ map (λ at. added_all [] (all_entries (map (kept_at at) l.rows))) (range_with_len 0 l.at)
