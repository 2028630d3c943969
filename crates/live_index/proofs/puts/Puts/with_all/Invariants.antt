use Rattle.std.proofs.Common.{◌≡◌, ◌++◌, take}
use Rattle.live_index.specs.Puts.{rows_put}
use Rattle.live_index.proofs.puts.Puts.with_all.Given as goal

-- the rows so far stand behind those before
abbrev pub invariant-loop-row : goal.invariant-loop-row
invariant-loop-row l = rows_put l.puts ≡ rows_put l.self ++ take l.row-index l.rows
