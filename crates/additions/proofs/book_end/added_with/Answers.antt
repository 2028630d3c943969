use Rattle.std.proofs.lemmas.Result.{err_from_is_err_and}
use Rattle.additions.proofs.Judging.{with_read_err, with_read_ok}
use Rattle.additions.proofs.book_end.added_with.Goals as goal

pub returns-in_err-plain-clause-value : goal.returns-in_err-plain-clause-value
returns-in_err-plain-clause-value c =
    let p = err_from_is_err_and c.from_residual.result c.from_residual.ensures.1 in
    rw (p.1, p.2)
    (λ moves turned. with_read_err c.args.book.now.asked c.args.book.now.assigned moves c.args.grown c.as_slice.result.now c.in_err-plain.field-0.0 c.as_slice.ensures (c.in_err-plain.ensures.value moves turned))

pub returns-clause-value : goal.returns-clause-value
returns-clause-value c = λ moves turned.
    with_read_ok c.args.book.now.asked c.args.book.now.assigned moves c.args.grown c.as_slice.result.now c.in_ok-plain.plain c.as_slice.ensures (c.in_ok-plain.ensures.value moves turned)
