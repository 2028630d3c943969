use Rattle.std.proofs.Common.{◌≡◌, ◌++◌, take}
use Rattle.index_cells.specs.Rowed.{rowed_all}
use Rattle.index_cells.proofs.amounts.push_amounts.Given as goal

abbrev pub invariant-loop-taking : goal.invariant-loop-taking
invariant-loop-taking l = l.rows.items ≡ l.initial.rows.items ++ rowed_all (take l.taking-index l.takings)
