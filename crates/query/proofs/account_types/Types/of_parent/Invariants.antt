use Rattle.std.proofs.Common.{◌≡◌, ◌≤◌, length}
use Rattle.query.specs.OwnLetters.{own_in}
use Rattle.query.specs.Types.{nearest, parents_below, parents_of}
use Rattle.query.proofs.account_types.Types.of_parent.Given as goal

abbrev pub invariant-loop-end : goal.invariant-loop-end
invariant-loop-end l = record {
  so_far : nearest (own_in l.self) (parents_of l.account) ≡ nearest (own_in l.self) (parents_below l.account l.end);
  within : l.end ≤ length l.account;
}

abbrev pub decreases-loop-end : goal.decreases-loop-end
decreases-loop-end l = l.end
