use Rattle.std.proofs.Common.{◌≡◌, ◌++◌, map, take, drop}
use Rattle.moved_lines.specs.Moving.{moved_placed}
use Rattle.moved_lines.proofs.items.move_all.Given as goal

abbrev pub invariant-loop-placed : goal.invariant-loop-placed
invariant-loop-placed l = l.items ≡ map (moved_placed l.by) (take l.placed-index l.fn.items) ++ drop l.placed-index l.fn.items
