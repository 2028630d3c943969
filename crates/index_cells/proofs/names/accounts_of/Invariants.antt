use Rattle.std.proofs.Common.{◌≡◌, map, take}
use Rattle.index_cells.specs.Named.{named}
use Rattle.index_cells.proofs.names.accounts_of.Given as goal

abbrev pub invariant-loop-taking : goal.invariant-loop-taking
invariant-loop-taking l = l.others.items ≡ map named (take l.taking-index l.takings)
