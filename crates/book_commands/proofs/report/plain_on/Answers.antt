use Rattle.std.proofs.lemmas.Result.{err_from_is_err_and}
use Rattle.book_commands.specs.Answers.{WorkRule, told_by}
use Rattle.book_commands.specs.Texts.{judged_text}
use Rattle.book_commands.specs.Works.{report_made}
use Rattle.book_commands.specs.declared.work.Work.TheVariants as works
use Rattle.book_commands.proofs.Answering.{words_report}
use Rattle.book_commands.proofs.Loading.{journal_found, text_kind, text_maker, text_refused, unasked}
use Rattle.book_commands.proofs.report.plain_on.Goals as goal

pub returns-in_err-journal-clause-found : goal.returns-in_err-journal-clause-found
returns-in_err-journal-clause-found g c =
    let p = err_from_is_err_and c.from_residual.result c.from_residual.ensures.1 in
    let make = report_made c.args.asked.now c.args.today.day.0 in
    rw (p.1, p.2) (text_refused c.in_err-journal.field-0.0 (judged_text make c.args.today.year c.args.text.now) (c.in_err-journal.ensures.refused make))

pub returns-in_err-journal-clause-kind : goal.returns-in_err-journal-clause-kind
returns-in_err-journal-clause-kind g c =
    let p = err_from_is_err_and c.from_residual.result c.from_residual.ensures.1 in
    let make = report_made c.args.asked.now c.args.today.day.0 in
    rw (p.1, p.2) (text_kind c.in_err-journal.field-0.0 (judged_text make c.args.today.year c.args.text.now) (c.in_err-journal.ensures.refused make))

pub returns-in_err-journal-clause-maker : goal.returns-in_err-journal-clause-maker
returns-in_err-journal-clause-maker g c =
    let p = err_from_is_err_and c.from_residual.result c.from_residual.ensures.1 in
    let make = report_made c.args.asked.now c.args.today.day.0 in
    let maker = g.M.Maker in
    let now = c.args.maker.now in
    let t = told_by maker now now in
    rw (p.1, p.2) (text_maker c.in_err-journal.field-0.0 (judged_text make c.args.today.year c.args.text.now) c.args.today.day.0 c.args.asked.now.words
    (WorkRule c.args.today.day.0 c.args.today.year (works.Report c.args.asked.now) c.args.text.now t) t (c.in_err-journal.ensures.refused make) (unasked (maker.refusals now) (maker.last_refused now)))

pub returns-clause-found : goal.returns-clause-found
returns-clause-found g c =
    journal_found (report_made c.args.asked.now c.args.today.day.0) c.args.today.year c.args.text.now c.in_ok-journal.journal c.report_journal-found.result
    c.in_ok-journal.ensures.few c.in_ok-journal.ensures.journal c.report_journal-found.ensures.found

pub returns-clause-maker : goal.returns-clause-maker
returns-clause-maker g c =
    let is = c.in_ok-journal.ensures.journal in
    words_report c.args.asked.now c.args.today.day.0 c.args.today.year c.args.text.now
    (told_by g.M.Maker c.args.maker.now c.report_journal-found.new.maker) c.report_journal-found.result
    (c.report_journal-found.ensures.maker is.items is.made)
