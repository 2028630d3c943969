use Rattle.std.proofs.lemmas.Result.{err_from_is_err_and}
use Rattle.book_commands.specs.Listed.{items_made}
use Rattle.book_commands.specs.Texts.{judged_text}
use Rattle.book_commands.proofs.Loading.{kept_found, text_kind, text_quiet, text_refused}
use Rattle.book_commands.proofs.listing.items_on.Goals as goal

pub returns-in_err-kept-clause-found : goal.returns-in_err-kept-clause-found
returns-in_err-kept-clause-found g c =
    let p = err_from_is_err_and c.from_residual.result c.from_residual.ensures.1 in
    let make = items_made c.args.text.now in
    rw (p.1, p.2) (text_refused c.in_err-kept.field-0.0 (judged_text make c.args.year c.args.text.now) (c.in_err-kept.ensures.refused make))

pub returns-in_err-kept-clause-kind : goal.returns-in_err-kept-clause-kind
returns-in_err-kept-clause-kind g c =
    let p = err_from_is_err_and c.from_residual.result c.from_residual.ensures.1 in
    let make = items_made c.args.text.now in
    rw (p.1, p.2) (text_kind c.in_err-kept.field-0.0 (judged_text make c.args.year c.args.text.now) (c.in_err-kept.ensures.refused make))

pub returns-in_err-kept-clause-quiet : goal.returns-in_err-kept-clause-quiet
returns-in_err-kept-clause-quiet g c =
    let p = err_from_is_err_and c.from_residual.result c.from_residual.ensures.1 in
    let make = items_made c.args.text.now in
    rw (p.1, p.2) (text_quiet c.in_err-kept.field-0.0 (judged_text make c.args.year c.args.text.now) (c.in_err-kept.ensures.refused make))

pub returns-clause-found : goal.returns-clause-found
returns-clause-found g c =
    kept_found (items_made c.args.text.now) c.args.year c.args.text.now c.in_ok-kept.kept c.listed-found.result
    c.in_ok-kept.ensures.few c.in_ok-kept.ensures.kept c.listed-found.ensures.found
