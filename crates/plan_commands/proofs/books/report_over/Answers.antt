use Rattle.plan_commands.specs.Plans.{terms_in}
use Rattle.plan_commands.proofs.Stages.{budget_tells, plain_so}
use Rattle.plan_commands.proofs.books.report_over.Goals as goal

pub returns-then-plan : goal.returns-then-plan
returns-then-plan g c =
    let plan = c.args.plan.now in
    budget_tells plan.asked.now.options plan.day.0 plan.items.now (terms_in plan) c.args.book.now plan.asked.now.words
    (g.M.Maker.refusals c.args.maker.now) (g.M.Maker.last_refused c.args.maker.now) c.budget_over.result c.if-plan.true c.budget_over.ensures

pub returns-else-plan : goal.returns-else-plan
returns-else-plan g c =
    let plan = c.args.plan.now in
    plain_so plan.asked.now.options plan.day.0 plan.items.now (terms_in plan) c.args.book.now plan.asked.now.words
    (g.M.Maker.refusals c.args.maker.now) (g.M.Maker.refusals c.plain_over.new.maker)
    (g.M.Maker.last_refused c.args.maker.now) (g.M.Maker.last_refused c.plain_over.new.maker) c.plain_over.result c.if-plan.false c.plain_over.ensures
