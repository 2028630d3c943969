use Rattle.std.proofs.Common.{◌≡◌, take, drop}
use Rattle.report_options.specs.Conflicts.{clash_among, pairs_after, pairs}
use Rattle.report_options.proofs.conflicts.refuse_conflicts.Given as goal

abbrev pub invariant-loop-place : goal.invariant-loop-place
invariant-loop-place l = clash_among (pairs l.items) ≡ clash_among (pairs_after (take l.place l.items) (drop l.place l.items))
