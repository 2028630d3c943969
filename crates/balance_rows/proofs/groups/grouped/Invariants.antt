use Rattle.std.proofs.Common.{◌≡◌, take}
use Rattle.std.specs.List.{flat_map}
use Rattle.balance_rows.specs.Groups.{AreOrdered, grouped, kept_given}
use Rattle.balance_rows.proofs.groups.grouped.Given as goal

abbrev pub invariant-loop-row : goal.invariant-loop-row
invariant-loop-row l = record {
  is : l.groups.entries ≡ grouped (flat_map kept_given (take l.row-index l.rows));
  ordered : AreOrdered l.groups.entries;
}
