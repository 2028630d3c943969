use Rattle.std.proofs.Common.{◌≡◌, true, take}
use Rattle.index_cells.specs.Staying.{are_replaced}
use Rattle.index_cells.proofs.staying.are_replaced.Given as goal

abbrev pub invariant-loop-at : goal.invariant-loop-at
invariant-loop-at l = are_replaced (take l.at l.gone) l.more ≡ true
