use Rattle.std.proofs.Common.{◌≡◌}
use Rattle.balance_rows.proofs.groups.named_groups.Given as goal

abbrev pub invariant-loop-key : goal.invariant-loop-key
invariant-loop-key l = l.named.items ≡ l.yielded
