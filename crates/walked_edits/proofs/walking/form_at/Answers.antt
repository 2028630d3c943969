use Rattle.std.proofs.Common.{Some, sym, ap, ◌∙◌}
use Rattle.std.specs.Option.{option_copied}
use Rattle.std.proofs.lemmas.Option.{none-some}
use Rattle.std.proofs.lemmas.Result.{err_from_is_err_and}
use Rattle.book.specs.declared.transaction.Txn.{Txn}
use Rattle.walked_edits.proofs.Loading.{got_any}
use Rattle.walked_edits.proofs.walking.form_at.Goals as goal

pub returns-in_ok-copied_txn-in-Some-clause-written : goal.returns-in_ok-copied_txn-in-Some-clause-written
returns-in_ok-copied_txn-in-Some-clause-written g c = sym c.written_form.ensures ∙ ap option_copied c.in-Some.is ∙ ap (λ (t : Txn). Some t) (sym c.in_ok-copied_txn-in-Some.ensures)

pub returns-in_err-copied_txn-in-Some-clause-load : goal.returns-in_err-copied_txn-in-Some-clause-load
returns-in_err-copied_txn-in-Some-clause-load g c =
    let p = err_from_is_err_and c.from_residual.result c.from_residual.ensures.1 in
    rw (p.1, p.2) tt

pub returns-in-None-clause-load : goal.returns-in-None-clause-load
returns-in-None-clause-load g c =
    let mine = got_any c.args.edit.now.written c.args.spot.number c.requires in
    none-some mine.0 (sym (sym c.written_form.ensures ∙ ap option_copied c.in-None.is) ∙ mine.1)
