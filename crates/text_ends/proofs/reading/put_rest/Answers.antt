use Rattle.std.proofs.Common.{refl}
use Rattle.std.proofs.lemmas.Result.{err_from_is_err_and}
use Rattle.text_ends.proofs.Faults.{read_err, read_ok}
use Rattle.text_ends.proofs.reading.put_rest.Goals as goal

pub returns-in_err-items-clause-value : goal.returns-in_err-items-clause-value
returns-in_err-items-clause-value g c =
    let p = err_from_is_err_and c.from_residual.result c.from_residual.ensures.1 in
    rw (p.1, p.2)
    (read_err c.in_err-items.field-0.0 c.args.end.now c.args.reach c.args.rest.now _ refl c.in_err-items.ensures.value)

pub returns-clause-value : goal.returns-clause-value
returns-clause-value g c =
    read_ok c.args.end.now c.args.reach c.args.rest.now c.in_ok-items.items c.grown_by.result c.in_ok-items.ensures.value c.grown_by.ensures
