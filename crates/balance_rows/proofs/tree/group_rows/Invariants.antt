use Rattle.std.proofs.Common.{◌≡◌, map, take}
use Rattle.balance_rows.specs.Groups.{group_row}
use Rattle.balance_rows.proofs.tree.group_rows.Given as goal

abbrev pub invariant-loop-group : goal.invariant-loop-group
invariant-loop-group l = l.made.items ≡ map (group_row l.columns) (take l.group-index l.groups)
