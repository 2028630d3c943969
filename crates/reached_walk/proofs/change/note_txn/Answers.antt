use Rattle.std.proofs.Common.{◌≡◌, List, sym, subst, ◌∙◌}
use Rattle.std.proofs.lemmas.Result.{err_from_is_err_and}
use Rattle.book.specs.declared.transaction.Posting.{Posting}
use Rattle.reached_walk.specs.Notes.{accounts_of, Notes}
use Rattle.reached_walk.proofs.change.note_txn.Goals as goal

pub returns-in_err-note_postings-clause-dated : goal.returns-in_err-note_postings-clause-dated
returns-in_err-note_postings-clause-dated c =
    let p = err_from_is_err_and c.from_residual.result c.from_residual.ensures.1 in
    rw (p.1, p.2) tt

pub returns-clause-noted : goal.returns-clause-noted
returns-clause-noted c =
    subst (λ (ps : List Posting). Notes c.args.watchers.now c.args.spot (accounts_of ps) c.args.changes.now.items c.note_postings.new.changes.items)
    c.as_slice.ensures c.in_ok-note_postings.ensures
