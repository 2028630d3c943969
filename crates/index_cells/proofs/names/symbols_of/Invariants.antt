use Rattle.std.proofs.Common.{◌≡◌, take}
use Rattle.index_cells.specs.Named.{by_symbols}
use Rattle.index_cells.proofs.names.symbols_of.Given as goal

abbrev pub invariant-loop-taking : goal.invariant-loop-taking
invariant-loop-taking l = l.others.items ≡ by_symbols (take l.taking-index l.takings)
