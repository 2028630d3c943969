use Rattle.std.proofs.Common.{◌≡◌, map, filter, take}
use Rattle.std.specs.List.{fold, range_with_len}
use Rattle.balance_rows.specs.Groups.{AreOrdered, group_with}
use Rattle.balance_rows.specs.Trees.{is_colon_at}
use Rattle.balance_rows.proofs.groups.add_parents.Given as goal

-- the cells were added to the accounts whose names end before a place
abbrev pub invariant-loop-at : goal.invariant-loop-at
invariant-loop-at l = record {
  is : l.groups.entries ≡ fold group_with l.initial.groups.entries (map (λ name. (name, l.cells)) (map (λ at. take at l.account) (filter (is_colon_at l.account) (range_with_len 0 l.at))));
  ordered : AreOrdered l.groups.entries;
}
