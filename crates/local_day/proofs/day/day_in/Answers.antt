use Rattle.std.proofs.Common.{rules, ap, ◌∙◌, FitsSigned, w64}
use Rattle.std.specs.Int.{w128}
use Rattle.std.proofs.lemmas.Int.{to_z-of_z}
use Rattle.local_day.specs.LocalDay as spec
use Rattle.local_day.proofs.day.day_in.Goals as goal

pub returns-clause-day : goal.returns-clause-day
returns-clause-day c =
    let fits : FitsSigned w64 c.args.seconds = c.ranges.seconds in
    let clock : FitsSigned w128 c.clock_at.result = search rules in
    c.day_shown.ensures.day
    ∙ ap spec.day_shown
    (to_z-of_z w128 c.clock_at.result clock ∙ c.clock_at.ensures.value ∙ ap (spec.clock_at c.args.zone.now) (to_z-of_z w64 c.args.seconds fits))
