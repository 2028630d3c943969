use Rattle.book_commands.specs.Answers.{ReportRule, told_by}
use Rattle.book_commands.specs.Works.{report_made}
use Rattle.book_commands.proofs.Answering.{fault_found, fault_maker, report_tells, report_told}
use Rattle.book_commands.proofs.planned.planned_whole.Goals as goal

pub report_of-requires-clause-made : goal.report_of-requires-clause-made
report_of-requires-clause-made g c =
    let is = c.requires.made in
    record { letters = is.letters; styles = is.styles; quotes = is.quotes }

pub returns-in-Ok-clause-found : goal.returns-in-Ok-clause-found
returns-in-Ok-clause-found g c =
    let whole = c.args.whole.now in
    let asked = c.args.asked.now in
    let day = c.args.day.0 in
    let t = told_by g.M.Maker c.args.maker.now c.report_of.new.maker in
    report_told asked day whole.items whole.journal.book t (ReportRule asked day whole.items whole.journal.book t) c.in-Ok.text c.in-Ok.ensures

pub returns-in-Ok-clause-maker : goal.returns-in-Ok-clause-maker
returns-in-Ok-clause-maker g c = c.in-Ok.ensures.1

pub returns-in-Err-clause-found : goal.returns-in-Err-clause-found
returns-in-Err-clause-found g c =
    let whole = c.args.whole.now in
    let asked = c.args.asked.now in
    let day = c.args.day.0 in
    let t = told_by g.M.Maker c.args.maker.now c.report_of.new.maker in
    let rule = ReportRule asked day whole.items whole.journal.book t in
    fault_found day asked.words rule t (report_made asked day whole.items whole.journal.book) c.in-Err.fault c.refuse_plan.result
    (report_tells asked day whole.items whole.journal.book t rule c.in-Err.fault c.in-Err.ensures) c.refuse_plan.ensures.cause

pub returns-in-Err-clause-maker : goal.returns-in-Err-clause-maker
returns-in-Err-clause-maker g c =
    let whole = c.args.whole.now in
    let asked = c.args.asked.now in
    let day = c.args.day.0 in
    let t = told_by g.M.Maker c.args.maker.now c.report_of.new.maker in
    let rule = ReportRule asked day whole.items whole.journal.book t in
    fault_maker day asked.words rule t (report_made asked day whole.items whole.journal.book) c.in-Err.fault c.refuse_plan.result
    (report_tells asked day whole.items whole.journal.book t rule c.in-Err.fault c.in-Err.ensures) c.refuse_plan.ensures.cause
