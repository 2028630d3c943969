use Rattle.std.proofs.Common.{◌≡◌, map}
use Rattle.balance_rows.specs.Ranks.{Rank}
use Rattle.balance_rows.proofs.sorted.rows_of.Given as goal

abbrev pub invariant-loop-rank : goal.invariant-loop-rank
invariant-loop-rank l = l.rows.items ≡ map (λ (rank : Rank). rank.1) l.yielded
