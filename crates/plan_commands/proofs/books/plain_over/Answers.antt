use Rattle.plan_commands.specs.Faults.{widened}
use Rattle.report_commands.specs.Reports.{answer_over}
use Rattle.plan_commands.specs.Plans.{terms_in}
use Rattle.plan_commands.specs.Reports.{plain_over}
use Rattle.plan_commands.specs.Telling.{Never}
use Rattle.plan_commands.proofs.Plain.{plain_is}
use Rattle.plan_commands.proofs.Telling.{defined_so}
use Rattle.plan_commands.proofs.books.plain_over.Goals as goal

pub without_rules-requires-clause-day : goal.without_rules-requires-clause-day
without_rules-requires-clause-day g c = c.requires.day

pub without_rules-requires-clause-valid : goal.without_rules-requires-clause-valid
without_rules-requires-clause-valid g c = c.requires.valid

pub returns : goal.returns
returns g c =
    let plan = c.args.plan.now in
    let asked = plan.asked.now in
    let book = c.args.book.now in
    defined_so plan.day.0 asked.words (g.M.Maker.refusals c.args.maker.now) (g.M.Maker.refusals c.without_rules.new.maker)
    (g.M.Maker.last_refused c.args.maker.now) (g.M.Maker.last_refused c.without_rules.new.maker)
    (widened (answer_over asked plan.day.0 plan.items.now book))
    (plain_over asked.options plan.day.0 plan.items.now (terms_in plan) book) Never c.without_rules.result
    (plain_is asked plan.day.0 plan.items.now book (terms_in plan) c.requires.query.read)
    (c.without_rules.ensures plan.items.now (record { letters = c.requires.letters; styles = c.requires.styles; quotes = c.requires.quotes }))
