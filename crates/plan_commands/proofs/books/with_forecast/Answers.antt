use Rattle.std.proofs.Common.{Some, Ok, Err, sym, subst}
use Rattle.plan_commands.specs.Telling.{TellsPlanned}
use Rattle.plan_commands.specs.declared.fault.PlanFault.{PlanFault}
use Rattle.plan_commands.proofs.Stages.{forecast_stops, forecast_tells, window_forecast}
use Rattle.plan_commands.proofs.books.with_forecast.Goals as goal

pub returns-in-Ok : goal.returns-in-Ok
returns-in-Ok g c =
    let plan = c.args.plan.now in
    forecast_tells plan c.args.book.now
    (g.M.Maker.refusals c.args.maker.now) (g.M.Maker.refusals c.after_forecast.new.maker)
    (g.M.Maker.last_refused c.args.maker.now) (g.M.Maker.last_refused c.after_forecast.new.maker) (Some c.args.asked) c.in-Ok.made c.after_forecast.result
    (window_forecast plan c.args.asked c.window_in-window.result c.args.book.now (Ok c.in-Ok.made) c.window_in-window.ensures.window c.in-Ok.ensures)
    c.after_forecast.ensures

pub returns-in-Err : goal.returns-in-Err
returns-in-Err g c =
    let plan = c.args.plan.now in
    let book = c.args.book.now in
    let count = g.M.Maker.refusals c.args.maker.now in
    let last = g.M.Maker.last_refused c.args.maker.now in
    subst (λ (e : PlanFault). TellsPlanned plan (Some c.args.asked) book count count last last (Err e)) (sym c.from.ensures)
    (forecast_stops plan c.args.asked c.window_in-window.result book count last c.in-Err.fault c.window_in-window.ensures.window c.in-Err.ensures)
