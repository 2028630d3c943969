use Rattle.std.proofs.Common.{Ok, Err, sym, subst}
use Rattle.plan_commands.specs.Faults.{of_words}
use Rattle.plan_commands.specs.Telling.{Answers, Never}
use Rattle.plan_commands.specs.declared.fault.PlanFault.{PlanFault}
use Rattle.plan_commands.proofs.Stages.{plain_answers}
use Rattle.plan_commands.proofs.Telling.{plain_tells}
use Rattle.kept_reports.proofs.Serving.{served}
use Rattle.kept_reports.proofs.reporting.widened.Goals as goal

pub returns-in-Ok-clause-answers : goal.returns-in-Ok-clause-answers
returns-in-Ok-clause-answers g c =
    let asked = c.args.asked.now in
    let loaded = c.args.loaded.now in
    let before = g.M.Maker.refusals c.args.maker.now in
    let now = g.M.Maker.refusals c.from_kept.new.maker in
    let last_before = g.M.Maker.last_refused c.args.maker.now in
    let last_now = g.M.Maker.last_refused c.from_kept.new.maker in
    plain_answers asked loaded.day.0 loaded.items.now loaded.book.now before now last_before last_now (Ok c.in-Ok.text) (served asked c.requires.served).alone
    (plain_tells asked loaded.day.0 loaded.items.now loaded.book.now before now last_before last_now Never (Ok c.in-Ok.text) c.in-Ok.ensures.answers)

pub returns-in-Err-clause-answers : goal.returns-in-Err-clause-answers
returns-in-Err-clause-answers g c =
    let asked = c.args.asked.now in
    let loaded = c.args.loaded.now in
    let before = g.M.Maker.refusals c.args.maker.now in
    let now = g.M.Maker.refusals c.from_kept.new.maker in
    let last_before = g.M.Maker.last_refused c.args.maker.now in
    let last_now = g.M.Maker.last_refused c.from_kept.new.maker in
    subst (λ (e : PlanFault). Answers asked loaded.day.0 loaded.items.now loaded.book.now before now last_before last_now (Err e)) (sym c.from.ensures)
    (plain_answers asked loaded.day.0 loaded.items.now loaded.book.now before now last_before last_now (Err (of_words c.in-Err.fault)) (served asked c.requires.served).alone
    (plain_tells asked loaded.day.0 loaded.items.now loaded.book.now before now last_before last_now Never (Err c.in-Err.fault) c.in-Err.ensures.answers))
