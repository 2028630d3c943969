use Rattle.std.proofs.Common.{◌≡◌, filter, take}
use Rattle.report_values.specs.Cells.{fits_in}
use Rattle.report_values.proofs.fitting.fitting.Given as goal

abbrev pub invariant-loop-taking : goal.invariant-loop-taking
invariant-loop-taking l = l.kept.items ≡ filter (λ t. fits_in l.takings t.amount) (take l.taking-index l.takings)
