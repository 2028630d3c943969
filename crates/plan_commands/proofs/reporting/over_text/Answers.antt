use Rattle.plan_commands.proofs.Stages.{planned_answers}
use Rattle.plan_commands.proofs.reporting.over_text.Goals as goal

pub returns : goal.returns
returns g c =
    planned_answers c.args.plan.now c.args.book.now
    (g.M.Maker.refusals c.args.maker.now) (g.M.Maker.refusals c.planned.new.maker)
    (g.M.Maker.last_refused c.args.maker.now) (g.M.Maker.last_refused c.planned.new.maker) c.planned.result c.requires.query.read c.planned.ensures
