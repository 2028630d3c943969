use Rattle.std.proofs.Common.{◌≡◌, [], drop}
use Rattle.register_report.specs.Summed.{SumsFit, summed}
use Rattle.register_report.proofs.register.sums_of.Given as goal

abbrev pub invariant-loop-taking : goal.invariant-loop-taking
invariant-loop-taking l = record {
  left : summed [] l.takings ≡ summed l.sums (drop l.taking-index l.takings);
  fits : SumsFit l.sums (drop l.taking-index l.takings);
}
