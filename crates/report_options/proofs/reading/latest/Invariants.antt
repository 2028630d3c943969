use Rattle.std.proofs.Common.{◌≡◌, length, All}
use Rattle.report_options.specs.Items.{IsDated}
use Rattle.report_options.specs.Options.{latest}
use Rattle.report_options.proofs.reading.latest.Given as goal

abbrev pub invariant-loop-last : goal.invariant-loop-last
invariant-loop-last l = record {
  value : latest l.rest l.names ≡ latest l.items l.names;
  days : All IsDated l.items → All IsDated l.rest;
}

abbrev pub decreases-loop-last : goal.decreases-loop-last
decreases-loop-last l = length l.rest
