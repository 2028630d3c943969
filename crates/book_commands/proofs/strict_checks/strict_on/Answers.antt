use Rattle.std.proofs.lemmas.Result.{err_from_is_err_and}
use Rattle.book_commands.specs.Texts.{judged_text}
use Rattle.book_commands.specs.Works.{strict_made}
use Rattle.book_commands.proofs.Loading.{checked_found, text_kind, text_quiet, text_refused}
use Rattle.book_commands.proofs.strict_checks.strict_on.Goals as goal

pub returns-in_err-checked-clause-found : goal.returns-in_err-checked-clause-found
returns-in_err-checked-clause-found g c =
    let p = err_from_is_err_and c.from_residual.result c.from_residual.ensures.1 in
    let make = strict_made c.args.checks.now in
    rw (p.1, p.2) (text_refused c.in_err-checked.field-0.0 (judged_text make c.args.year c.args.text.now) (c.in_err-checked.ensures.refused make))

pub returns-in_err-checked-clause-kind : goal.returns-in_err-checked-clause-kind
returns-in_err-checked-clause-kind g c =
    let p = err_from_is_err_and c.from_residual.result c.from_residual.ensures.1 in
    let make = strict_made c.args.checks.now in
    rw (p.1, p.2) (text_kind c.in_err-checked.field-0.0 (judged_text make c.args.year c.args.text.now) (c.in_err-checked.ensures.refused make))

pub returns-in_err-checked-clause-quiet : goal.returns-in_err-checked-clause-quiet
returns-in_err-checked-clause-quiet g c =
    let p = err_from_is_err_and c.from_residual.result c.from_residual.ensures.1 in
    let make = strict_made c.args.checks.now in
    rw (p.1, p.2) (text_quiet c.in_err-checked.field-0.0 (judged_text make c.args.year c.args.text.now) (c.in_err-checked.ensures.refused make))

pub returns-clause-found : goal.returns-clause-found
returns-clause-found g c =
    checked_found (strict_made c.args.checks.now) c.args.year c.args.text.now c.in_ok-checked.checked c.strict_checked-found.result
    c.in_ok-checked.ensures.few c.in_ok-checked.ensures.checked c.strict_checked-found.ensures.found
