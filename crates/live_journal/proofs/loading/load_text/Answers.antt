use Rattle.std.proofs.Common.{◌≡◌, sym, ap, subst, ◌∙◌}
use Rattle.std.proofs.lemmas.Result.{err_from_is_err_and}
use Rattle.hl_base.specs.Pieces.{bytes_in}
use Rattle.journal_reader.specs.Whole.{AreWithin}
use Rattle.balancing.specs.Load.{load}
use Rattle.live_journal.specs.Loading.{IsCut}
use Rattle.live_journal.proofs.Telling.{unbooked_tells, uncut_tells, unread_tells}
use Rattle.live_journal.proofs.loading.load_text.Goals as goal

pub read-requires-clause-pieces : goal.read-requires-clause-pieces
read-requires-clause-pieces g c = c.as_slice.ensures ∙ c.in_ok-pieces.ensures.cut.cut

pub read-requires-clause-within : goal.read-requires-clause-within
read-requires-clause-within g c = subst (AreWithin c.args.text.now) (sym c.as_slice.ensures) c.in_ok-pieces.ensures.cut.readable

pub read-requires-clause-whole : goal.read-requires-clause-whole
read-requires-clause-whole g c = ap bytes_in c.as_slice.ensures ∙ c.in_ok-pieces.ensures.cut.whole

pub returns-in_err-pieces-clause-fault : goal.returns-in_err-pieces-clause-fault
returns-in_err-pieces-clause-fault g c =
    let p = err_from_is_err_and c.from_residual.result c.from_residual.ensures.1 in
    rw (p.1, p.2) (uncut_tells c.args.year c.args.text.now c.in_err-pieces.field-0.0 c.in_err-pieces.ensures.fault)

pub returns-in_err-items-clause-fault : goal.returns-in_err-items-clause-fault
returns-in_err-items-clause-fault g c =
    let p = err_from_is_err_and c.from_residual-in_err-items.result c.from_residual-in_err-items.ensures.1 in
    rw (p.1, p.2)
    (unread_tells c.args.year c.args.text.now c.in_ok-pieces.pieces c.in_err-items.field-0.0 c.in_ok-pieces.ensures.cut c.in_err-items.ensures.fault)

pub returns-in_err-book-clause-fault : goal.returns-in_err-book-clause-fault
returns-in_err-book-clause-fault g c =
    let p = err_from_is_err_and c.from_residual-in_err-book.result c.from_residual-in_err-book.ensures.1 in
    rw (p.1, p.2)
    (unbooked_tells c.args.year c.args.text.now c.in_ok-pieces.pieces c.in_ok-items.items c.as_slice-2.result.now c.in_err-book.field-0.0 c.in_ok-pieces.ensures.cut c.in_ok-items.ensures.read c.as_slice-2.ensures c.in_err-book.ensures.fault)

pub with_kept-requires-clause-cut : goal.with_kept-requires-clause-cut
with_kept-requires-clause-cut g c = subst (IsCut c.args.text.now) (sym c.as_slice-3.ensures) c.in_ok-pieces.ensures.cut

pub with_kept-requires-clause-read : goal.with_kept-requires-clause-read
with_kept-requires-clause-read g c = c.in_ok-items.ensures.read

pub with_kept-requires-clause-loads : goal.with_kept-requires-clause-loads
with_kept-requires-clause-loads g c = ap load (sym c.as_slice-2.ensures) ∙ c.in_ok-book.ensures.book

pub with_kept-requires-clause-fits : goal.with_kept-requires-clause-fits
with_kept-requires-clause-fits g c = c.in_ok-book.ensures.fits

pub returns-clause-loaded : goal.returns-clause-loaded
returns-clause-loaded g c = c.in_ok-loaded.ensures
