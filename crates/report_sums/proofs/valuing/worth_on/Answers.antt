use Rattle.std.proofs.Common.{subst}
use Rattle.hl_base.specs.Gives.{Gives}
use Rattle.report_values.specs.Refusals.{first_refused, values_of}
use Rattle.report_values.specs.ValueDays.{day_by}
use Rattle.report_values.specs.Worth.{Priced, priced_of}
use Rattle.report_sums.specs.Celled.{cause}
use Rattle.report_sums.specs.Worths.{worth_on}
use Rattle.report_sums.proofs.Told.{told_unless}
use Rattle.report_sums.proofs.valuing.worth_on.Goals as goal

pub returns : goal.returns
returns c =
    let days = c.args.days.now in
    let ts = c.args.takings.now in
    let market = priced_of c.market_of.result in
    subst (λ (m : Priced). Gives (λ values. values.items) cause c.value_takings.result (worth_on m days ts)) c.market_of.ensures
    (told_unless (λ values. values.items) (first_refused market (day_by days) ts) (values_of market (day_by days) ts) c.value_takings.result
    c.value_takings.ensures.values c.value_takings.ensures.within c.value_takings.ensures.fault)
