use Rattle.std.proofs.Common.{Ok, Err}
use Rattle.plan_commands.specs.Faults.{of_words}
use Rattle.plan_commands.specs.Telling.{Never}
use Rattle.book_commands.specs.Answers.{told_by}
use Rattle.book_commands.specs.Works.{report_made}
use Rattle.book_commands.proofs.Answering.{fault_found, fault_maker, plain_says, report_tells, report_told, words_refused}
use Rattle.book_commands.proofs.report.report_journal.Goals as goal

pub returns-in-Ok-clause-found : goal.returns-in-Ok-clause-found
returns-in-Ok-clause-found g c = λ items is.
    let journal = c.args.journal.now in
    let asked = c.args.asked.now in
    let t = told_by g.M.Maker c.args.maker.now c.report_of.new.maker in
    report_told asked c.args.day.0 items journal.book t Never c.in-Ok.text
    (plain_says asked c.args.day.0 items journal.book t (Ok c.in-Ok.text) c.requires.plain
    (c.in-Ok.ensures items (record { letters = is.letters; styles = is.styles; quotes = is.quotes })))

pub returns-in-Ok-clause-maker : goal.returns-in-Ok-clause-maker
returns-in-Ok-clause-maker g c = λ items is.
    (c.in-Ok.ensures items (record { letters = is.letters; styles = is.styles; quotes = is.quotes })).1

pub returns-in-Err-clause-found : goal.returns-in-Err-clause-found
returns-in-Err-clause-found g c = λ items is.
    let journal = c.args.journal.now in
    let asked = c.args.asked.now in
    let day = c.args.day.0 in
    let t = told_by g.M.Maker c.args.maker.now c.report_of.new.maker in
    fault_found day asked.words Never t (report_made asked day items journal.book) (of_words c.in-Err.fault) c.refuse_report.result
    (report_tells asked day items journal.book t Never (of_words c.in-Err.fault)
    (plain_says asked day items journal.book t (Err c.in-Err.fault) c.requires.plain
    (c.in-Err.ensures items (record { letters = is.letters; styles = is.styles; quotes = is.quotes }))))
    (words_refused c.in-Err.fault c.refuse_report.result c.refuse_report.ensures.cause)

pub returns-in-Err-clause-maker : goal.returns-in-Err-clause-maker
returns-in-Err-clause-maker g c = λ items is.
    let journal = c.args.journal.now in
    let asked = c.args.asked.now in
    let day = c.args.day.0 in
    let t = told_by g.M.Maker c.args.maker.now c.report_of.new.maker in
    fault_maker day asked.words Never t (report_made asked day items journal.book) (of_words c.in-Err.fault) c.refuse_report.result
    (report_tells asked day items journal.book t Never (of_words c.in-Err.fault)
    (plain_says asked day items journal.book t (Err c.in-Err.fault) c.requires.plain
    (c.in-Err.ensures items (record { letters = is.letters; styles = is.styles; quotes = is.quotes }))))
    (words_refused c.in-Err.fault c.refuse_report.result c.refuse_report.ensures.cause)
