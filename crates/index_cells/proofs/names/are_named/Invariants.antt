use Rattle.std.proofs.Common.{◌≡◌, true, take}
use Rattle.std.specs.List.{list_all}
use Rattle.index_cells.specs.Keys.{is_in}
use Rattle.index_cells.proofs.names.are_named.Given as goal

abbrev pub invariant-loop-name : goal.invariant-loop-name
invariant-loop-name l = list_all (λ name. is_in name l.names) (take l.name-index l.more) ≡ true
