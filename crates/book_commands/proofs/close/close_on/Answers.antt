use Rattle.std.proofs.lemmas.Result.{err_from_is_err_and}
use Rattle.plan_commands.specs.Telling.{Never}
use Rattle.book_commands.specs.Answers.{told_by}
use Rattle.book_commands.specs.Texts.{judged_text}
use Rattle.book_commands.specs.Works.{close_made}
use Rattle.book_commands.proofs.Loading.{kept_found, text_kind, text_maker, text_refused, unasked}
use Rattle.book_commands.proofs.close.close_on.Goals as goal

pub returns-in_err-kept-clause-found : goal.returns-in_err-kept-clause-found
returns-in_err-kept-clause-found g c =
    let p = err_from_is_err_and c.from_residual.result c.from_residual.ensures.1 in
    let make = close_made c.args.asked.now c.args.today.day.0 in
    rw (p.1, p.2) (text_refused c.in_err-kept.field-0.0 (judged_text make c.args.today.year c.args.text.now) (c.in_err-kept.ensures.refused make))

pub returns-in_err-kept-clause-kind : goal.returns-in_err-kept-clause-kind
returns-in_err-kept-clause-kind g c =
    let p = err_from_is_err_and c.from_residual.result c.from_residual.ensures.1 in
    let make = close_made c.args.asked.now c.args.today.day.0 in
    rw (p.1, p.2) (text_kind c.in_err-kept.field-0.0 (judged_text make c.args.today.year c.args.text.now) (c.in_err-kept.ensures.refused make))

pub returns-in_err-kept-clause-maker : goal.returns-in_err-kept-clause-maker
returns-in_err-kept-clause-maker g c =
    let p = err_from_is_err_and c.from_residual.result c.from_residual.ensures.1 in
    let make = close_made c.args.asked.now c.args.today.day.0 in
    let maker = g.M.Maker in
    let now = c.args.maker.now in
    let t = told_by maker now now in
    rw (p.1, p.2) (text_maker c.in_err-kept.field-0.0 (judged_text make c.args.today.year c.args.text.now) c.args.today.day.0 c.args.asked.now.words
    Never t (c.in_err-kept.ensures.refused make) (unasked (maker.refusals now) (maker.last_refused now)))

pub returns-clause-found : goal.returns-clause-found
returns-clause-found g c =
    kept_found (close_made c.args.asked.now c.args.today.day.0) c.args.today.year c.args.text.now c.in_ok-kept.kept c.close_kept-found.result
    c.in_ok-kept.ensures.few c.in_ok-kept.ensures.kept c.close_kept-found.ensures.found
