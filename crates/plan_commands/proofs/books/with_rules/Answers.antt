use Rattle.std.proofs.Common.{true, Err, sym, subst}
use Rattle.plan_commands.specs.Telling.{TellsRuled}
use Rattle.plan_commands.specs.declared.fault.PlanFault.{PlanFault}
use Rattle.plan_commands.proofs.Stages.{ruled, rules_stop}
use Rattle.plan_commands.proofs.books.with_rules.Goals as goal

pub with_auto-requires : goal.with_auto-requires
with_auto-requires g c = c.requires.day

pub returns-in-Ok : goal.returns-in-Ok
returns-in-Ok g c =
    ruled c.args.plan.now c.args.book.now c.in-Ok.made
    (g.M.Maker.refusals c.args.maker.now) (g.M.Maker.refusals c.with_auto.new.maker) (g.M.Maker.refusals c.report_over.new.maker)
    (g.M.Maker.last_refused c.args.maker.now) (g.M.Maker.last_refused c.with_auto.new.maker) (g.M.Maker.last_refused c.report_over.new.maker)
    c.report_over.result c.in-Ok.ensures.0 c.in-Ok.ensures.1 c.report_over.ensures

pub returns-in-Err : goal.returns-in-Err
returns-in-Err g c =
    let plan = c.args.plan.now in
    let book = c.args.book.now in
    let before = g.M.Maker.refusals c.args.maker.now in
    let now = g.M.Maker.refusals c.with_auto.new.maker in
    let last_before = g.M.Maker.last_refused c.args.maker.now in
    let last_now = g.M.Maker.last_refused c.with_auto.new.maker in
    subst (λ (e : PlanFault). TellsRuled plan true book before now last_before last_now (Err e)) (sym c.from.ensures)
    (rules_stop plan book before now last_before last_now c.in-Err.fault c.in-Err.ensures)
