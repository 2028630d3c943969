use Rattle.std.proofs.Common.{Ok, Err, sym, subst}
use Rattle.report_commands.specs.Reports.{answer_over}
use Rattle.plan_commands.specs.Faults.{widened}
use Rattle.plan_commands.specs.Telling.{Never, Tells}
use Rattle.plan_commands.specs.declared.fault.PlanFault.{PlanFault}
use Rattle.plan_commands.proofs.Telling.{plain_tells}
use Rattle.plan_commands.proofs.books.without_rules.Goals as goal

pub returns-in-Ok : goal.returns-in-Ok
returns-in-Ok g c = λ items is.
    plain_tells c.args.asked.now c.args.material.now.day.0 items c.args.material.now.book.now
    (g.M.Maker.refusals c.args.maker.now) (g.M.Maker.refusals c.report_of.new.maker)
    (g.M.Maker.last_refused c.args.maker.now) (g.M.Maker.last_refused c.report_of.new.maker) Never (Ok c.in-Ok.text) (c.in-Ok.ensures items is)

pub returns-in-Err : goal.returns-in-Err
returns-in-Err g c = λ items is.
    let asked = c.args.asked.now in
    let material = c.args.material.now in
    let before = g.M.Maker.refusals c.args.maker.now in
    let now = g.M.Maker.refusals c.report_of.new.maker in
    let last_before = g.M.Maker.last_refused c.args.maker.now in
    let last_now = g.M.Maker.last_refused c.report_of.new.maker in
    let made = widened (answer_over asked material.day.0 items material.book.now) in
    subst (λ (e : PlanFault). Tells material.day.0 asked.words before now last_before last_now made Never (Err e)) (sym c.from.ensures)
    (plain_tells asked material.day.0 items material.book.now before now last_before last_now Never (Err c.in-Err.fault) (c.in-Err.ensures items is))
