use Rattle.std.proofs.Common.{true, false}
use Rattle.plan_commands.proofs.Stages.{ruled_as, unruled}
use Rattle.plan_commands.proofs.books.after_forecast.Goals as goal

pub returns-then-plan : goal.returns-then-plan
returns-then-plan g c =
    ruled_as c.args.plan.now c.args.book.now true
    (g.M.Maker.refusals c.args.maker.now) (g.M.Maker.refusals c.with_rules.new.maker)
    (g.M.Maker.last_refused c.args.maker.now) (g.M.Maker.last_refused c.with_rules.new.maker) c.with_rules.result c.if-plan.true c.with_rules.ensures

pub returns-else-plan : goal.returns-else-plan
returns-else-plan g c =
    let before = g.M.Maker.refusals c.args.maker.now in
    let now = g.M.Maker.refusals c.report_over.new.maker in
    let last_before = g.M.Maker.last_refused c.args.maker.now in
    let last_now = g.M.Maker.last_refused c.report_over.new.maker in
    ruled_as c.args.plan.now c.args.book.now false before now last_before last_now c.report_over.result c.if-plan.false
    (unruled c.args.plan.now c.args.book.now before now last_before last_now c.report_over.result c.report_over.ensures)
