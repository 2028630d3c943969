use Rattle.std.proofs.Common.{◌≡◌, ◌+◌, ◌<◌, ◌≤◌, List, [], length, take, take_all, None, sym, ap, subst, ◌∙◌, arith}
use Rattle.std.specs.Option.{option_copied}
use Rattle.prices.proofs.Both.{take_more}
use Rattle.report_cells.specs.Taken.{Taken}
use Rattle.report_values.specs.ValueDays.{day_by}
use Rattle.report_values.specs.Refusals.{lesser, lost, first_lost, values_of}
use Rattle.report_values.specs.Worth.{priced_of}
use Rattle.report_values.proofs.Valuing.{Valuing, valuing_more, valuing_none}
use Rattle.report_values.proofs.values.value_each.Goals as goal

pub loop-taking-init : goal.loop-taking-init
loop-taking-init c =
    subst (λ (vs : List Taken). Valuing (priced_of c.args.market.now) (day_by c.args.dates.now) c.new-known.result vs None []) (sym c.in_ok-values.ensures.items)
    (valuing_none (priced_of c.args.market.now) (day_by c.args.dates.now) c.new-known.result (c.new-known.ensures (priced_of c.args.market.now)))

pub loop-taking-preserved : goal.loop-taking-preserved
loop-taking-preserved c =
    let within : c.loop-taking.taking-index < length c.args.takings.now = omega arith in
    let t = c.taking-item.result in
    let when = day_by c.args.dates.now in
    subst (λ (vs : List Taken). Valuing (priced_of c.args.market.now) when c.prepare.new.known vs (option_copied c.lesser-least.result) (take (c.loop-taking.taking-index + 1) c.args.takings.now)) (sym c.in_ok-push.ensures.items)
    (valuing_more (priced_of c.args.market.now) when c.loop-taking.known c.prepare.new.known c.loop-taking.values.items (option_copied c.loop-taking.least) (option_copied c.lesser-least.result)
    (take c.loop-taking.taking-index c.args.takings.now) (take (c.loop-taking.taking-index + 1) c.args.takings.now) t c.value_one-value.result
    c.loop-taking.invariant c.in_ok-prepare.ensures.right
    (take_more c.args.takings.now c.loop-taking.taking-index t within c.taking-item.is) c.value_one-value.ensures (c.lesser-least.ensures ∙ ap (lesser (option_copied c.loop-taking.least)) c.lost_of.ensures))

pub returns-clause-values : goal.returns-clause-values
returns-clause-values c =
    let past : length c.args.takings.now ≤ c.loop-taking.taking-index = omega arith in
    c.loop-taking.invariant.made ∙ ap (values_of (priced_of c.args.market.now) (day_by c.args.dates.now)) (take_all c.loop-taking.taking-index c.args.takings.now past)

pub returns-clause-lost : goal.returns-clause-lost
returns-clause-lost c =
    let past : length c.args.takings.now ≤ c.loop-taking.taking-index = omega arith in
    c.loop-taking.invariant.first ∙ ap (first_lost (priced_of c.args.market.now) (day_by c.args.dates.now)) (take_all c.loop-taking.taking-index c.args.takings.now past)
