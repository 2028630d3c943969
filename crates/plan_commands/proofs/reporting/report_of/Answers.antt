use Rattle.std.proofs.Common.{sym, ◌∙◌}
use Rattle.plan_commands.proofs.Stages.{plain_answers}
use Rattle.plan_commands.proofs.reporting.report_of.Goals as goal

pub returns-else-asks_rules : goal.returns-else-asks_rules
returns-else-asks_rules g c =
    let material = c.args.material.now in
    plain_answers c.args.asked.now material.day.0 c.args.items.now material.book.now
    (g.M.Maker.refusals c.args.maker.now) (g.M.Maker.refusals c.without_rules.new.maker)
    (g.M.Maker.last_refused c.args.maker.now) (g.M.Maker.last_refused c.without_rules.new.maker) c.without_rules.result
    (sym c.asks_rules.ensures ∙ c.if-asks_rules.false) (c.without_rules.ensures c.args.items.now c.requires.made)
