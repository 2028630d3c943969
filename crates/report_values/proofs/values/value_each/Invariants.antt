use Rattle.std.proofs.Common.{take}
use Rattle.std.specs.Option.{option_copied}
use Rattle.report_values.specs.ValueDays.{day_by}
use Rattle.report_values.specs.Worth.{priced_of}
use Rattle.report_values.proofs.Valuing.{Valuing}
use Rattle.report_values.proofs.values.value_each.Given as goal

abbrev pub invariant-loop-taking : goal.invariant-loop-taking
invariant-loop-taking l = Valuing (priced_of l.market) (day_by l.dates) l.known l.values.items (option_copied l.least) (take l.taking-index l.takings)
