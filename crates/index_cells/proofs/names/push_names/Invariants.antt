use Rattle.std.proofs.Common.{◌≡◌, ◌++◌, map, take}
use Rattle.index_cells.specs.Named.{only}
use Rattle.index_cells.proofs.names.push_names.Given as goal

abbrev pub invariant-loop-name : goal.invariant-loop-name
invariant-loop-name l = l.others.items ≡ l.initial.others.items ++ map only (take l.name-index l.names)
