use Rattle.std.proofs.lemmas.Result.{err_from_is_err_and}
use Rattle.book_commands.specs.TextFaults.{explained_text}
use Rattle.book_commands.proofs.Explaining.{loads_found}
use Rattle.book_commands.proofs.Loading.{text_kind, text_quiet, text_refused}
use Rattle.book_commands.proofs.explain.explain_on.Goals as goal

pub returns-in_err-book-clause-found : goal.returns-in_err-book-clause-found
returns-in_err-book-clause-found g c =
    let p = err_from_is_err_and c.from_residual.result c.from_residual.ensures.1 in
    rw (p.1, p.2) (text_refused c.in_err-book.field-0.0 (explained_text c.args.year c.args.text.now) c.in_err-book.ensures.refused)

pub returns-in_err-book-clause-kind : goal.returns-in_err-book-clause-kind
returns-in_err-book-clause-kind g c =
    let p = err_from_is_err_and c.from_residual.result c.from_residual.ensures.1 in
    rw (p.1, p.2) (text_kind c.in_err-book.field-0.0 (explained_text c.args.year c.args.text.now) c.in_err-book.ensures.refused)

pub returns-in_err-book-clause-quiet : goal.returns-in_err-book-clause-quiet
returns-in_err-book-clause-quiet g c =
    let p = err_from_is_err_and c.from_residual.result c.from_residual.ensures.1 in
    rw (p.1, p.2) (text_quiet c.in_err-book.field-0.0 (explained_text c.args.year c.args.text.now) c.in_err-book.ensures.refused)

pub returns-clause-found : goal.returns-clause-found
returns-clause-found g c = loads_found c.new.result (explained_text c.args.year c.args.text.now) c.in_ok-book.ensures.loads c.new.ensures
