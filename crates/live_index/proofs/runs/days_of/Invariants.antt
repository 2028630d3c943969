use Rattle.std.proofs.Common.{◌≡◌, ◌++◌, pos, map, drop}
use Rattle.live_index.proofs.SeriesLaws.{days_from}
use Rattle.live_index.proofs.runs.days_of.Given as goal

-- what is done and what is left make up the whole
abbrev pub invariant-loop-at : goal.invariant-loop-at
invariant-loop-at l = l.runs.items ++ days_from l.earlier l.sum (map (λ r. r.now) (drop l.at l.rows)) ≡ days_from (pos 0) (pos 0) (map (λ r. r.now) l.rows)
