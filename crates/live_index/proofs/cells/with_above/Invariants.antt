use Rattle.std.proofs.Common.{◌&&◌, nat_lt, length, map}
use Rattle.std.specs.Arc.{arc_value}
use Rattle.live_index.specs.Cells.{is_above, HasAdded}
use Rattle.live_index.proofs.cells.with_above.Given as goal

-- the sums were added to the accounts above whose names are shorter
abbrev pub invariant-loop-end : goal.invariant-loop-end
invariant-loop-end l = HasAdded (λ key. is_above l.account l.symbol key && nat_lt (length key.account) l.end) (arc_value l.sums) (map arc_value l.initial.cells.items) (map arc_value l.cells.items)
