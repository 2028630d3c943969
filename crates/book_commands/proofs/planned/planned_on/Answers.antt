use Rattle.std.proofs.lemmas.Result.{err_from_is_err_and}
use Rattle.book_commands.specs.Answers.{WorkRule, told_by}
use Rattle.book_commands.specs.Texts.{judged_text}
use Rattle.book_commands.specs.Works.{report_made}
use Rattle.book_commands.specs.declared.work.Work.TheVariants as works
use Rattle.book_commands.proofs.Answering.{whole_report}
use Rattle.book_commands.proofs.Loading.{text_kind, text_maker, text_refused, unasked, whole_found}
use Rattle.book_commands.proofs.planned.planned_on.Goals as goal

pub returns-in_err-whole-clause-found : goal.returns-in_err-whole-clause-found
returns-in_err-whole-clause-found g c =
    let p = err_from_is_err_and c.from_residual.result c.from_residual.ensures.1 in
    let make = report_made c.args.asked.now c.args.today.day.0 in
    rw (p.1, p.2) (text_refused c.in_err-whole.field-0.0 (judged_text make c.args.today.year c.args.text.now) (c.in_err-whole.ensures.refused make))

pub returns-in_err-whole-clause-kind : goal.returns-in_err-whole-clause-kind
returns-in_err-whole-clause-kind g c =
    let p = err_from_is_err_and c.from_residual.result c.from_residual.ensures.1 in
    let make = report_made c.args.asked.now c.args.today.day.0 in
    rw (p.1, p.2) (text_kind c.in_err-whole.field-0.0 (judged_text make c.args.today.year c.args.text.now) (c.in_err-whole.ensures.refused make))

pub returns-in_err-whole-clause-maker : goal.returns-in_err-whole-clause-maker
returns-in_err-whole-clause-maker g c =
    let p = err_from_is_err_and c.from_residual.result c.from_residual.ensures.1 in
    let make = report_made c.args.asked.now c.args.today.day.0 in
    let maker = g.M.Maker in
    let now = c.args.maker.now in
    let t = told_by maker now now in
    rw (p.1, p.2) (text_maker c.in_err-whole.field-0.0 (judged_text make c.args.today.year c.args.text.now) c.args.today.day.0 c.args.asked.now.words
    (WorkRule c.args.today.day.0 c.args.today.year (works.Report c.args.asked.now) c.args.text.now t) t (c.in_err-whole.ensures.refused make) (unasked (maker.refusals now) (maker.last_refused now)))

pub returns-clause-found : goal.returns-clause-found
returns-clause-found g c =
    whole_found (report_made c.args.asked.now c.args.today.day.0) c.args.today.year c.args.text.now c.in_ok-whole.whole c.planned_whole-found.result
    c.in_ok-whole.ensures.few c.in_ok-whole.ensures.whole c.planned_whole-found.ensures.found

pub returns-clause-maker : goal.returns-clause-maker
returns-clause-maker g c =
    whole_report c.args.asked.now c.args.today.day.0 c.args.today.year c.args.text.now c.in_ok-whole.whole
    (told_by g.M.Maker c.args.maker.now c.planned_whole-found.new.maker) c.planned_whole-found.result
    c.in_ok-whole.ensures.whole c.planned_whole-found.ensures.maker
