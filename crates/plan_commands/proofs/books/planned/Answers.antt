use Rattle.std.proofs.Common.{None, Some, refl}
use Rattle.plan_commands.proofs.Stages.{forecast_tells, planned_as, some_period}
use Rattle.plan_commands.proofs.books.planned.Goals as goal

pub with_forecast-requires-clause-asked : goal.with_forecast-requires-clause-asked
with_forecast-requires-clause-asked g c =
    some_period c.args.plan.now.asked.now.options.forecast c.in-Some.asked c.in-Some.is c.requires.valid.forecast

pub returns-in-Some : goal.returns-in-Some
returns-in-Some g c =
    planned_as c.args.plan.now c.args.book.now (Some c.in-Some.asked)
    (g.M.Maker.refusals c.args.maker.now) (g.M.Maker.refusals c.with_forecast.new.maker)
    (g.M.Maker.last_refused c.args.maker.now) (g.M.Maker.last_refused c.with_forecast.new.maker) c.with_forecast.result c.in-Some.is c.with_forecast.ensures

pub returns-in-None : goal.returns-in-None
returns-in-None g c =
    let plan = c.args.plan.now in
    let book = c.args.book.now in
    let before = g.M.Maker.refusals c.args.maker.now in
    let now = g.M.Maker.refusals c.after_forecast.new.maker in
    let last_before = g.M.Maker.last_refused c.args.maker.now in
    let last_now = g.M.Maker.last_refused c.after_forecast.new.maker in
    planned_as plan book None before now last_before last_now c.after_forecast.result c.in-None.is
    (forecast_tells plan book before now last_before last_now None book c.after_forecast.result refl c.after_forecast.ensures)
