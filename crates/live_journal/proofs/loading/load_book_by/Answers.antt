use Rattle.std.proofs.Common.{refl, sym, ap, subst, ◌∙◌}
use Rattle.std.proofs.lemmas.Result.{err_from_is_err_and}
use Rattle.hl_base.specs.Pieces.{bytes_in}
use Rattle.journal_reader.specs.Whole.{AreWithin}
use Rattle.live_journal.proofs.Telling.{booked, booked_good, unbooked_tells, uncut_tells, unread_tells}
use Rattle.live_journal.proofs.loading.load_book_by.Goals as goal

pub read_by-requires-clause-pieces : goal.read_by-requires-clause-pieces
read_by-requires-clause-pieces g c κs within = c.as_slice.ensures ∙ c.in_ok-pieces.ensures.cut.cut

pub read_by-requires-clause-within : goal.read_by-requires-clause-within
read_by-requires-clause-within g c κs within = subst (AreWithin c.args.text.now) (sym c.as_slice.ensures) c.in_ok-pieces.ensures.cut.readable

pub read_by-requires-clause-whole : goal.read_by-requires-clause-whole
read_by-requires-clause-whole g c κs within = ap bytes_in c.as_slice.ensures ∙ c.in_ok-pieces.ensures.cut.whole

pub returns-in_err-pieces-clause-fault : goal.returns-in_err-pieces-clause-fault
returns-in_err-pieces-clause-fault g c =
    let p = err_from_is_err_and c.from_residual.result c.from_residual.ensures.1 in
    rw (p.1, p.2) (uncut_tells c.args.year c.args.text.now c.in_err-pieces.field-0.0 c.in_err-pieces.ensures.fault)

pub returns-in_err-items-clause-fault : goal.returns-in_err-items-clause-fault
returns-in_err-items-clause-fault g c =
    let p = err_from_is_err_and c.from_residual-in_err-items.result c.from_residual-in_err-items.ensures.1 in
    rw (p.1, p.2)
    (unread_tells c.args.year c.args.text.now c.in_ok-pieces.pieces c.in_err-items.field-0.0 c.in_ok-pieces.ensures.cut c.in_err-items.ensures.fault)

pub returns-in_err-book-clause-fault : goal.returns-in_err-book-clause-fault
returns-in_err-book-clause-fault g c =
    let p = err_from_is_err_and c.from_residual-in_err-book.result c.from_residual-in_err-book.ensures.1 in
    rw (p.1, p.2)
    (unbooked_tells c.args.year c.args.text.now c.in_ok-pieces.pieces c.in_ok-items.items c.in_ok-items.items c.in_err-book.field-0.0 c.in_ok-pieces.ensures.cut c.in_ok-items.ensures.read refl c.in_err-book.ensures.fault)

pub returns-clause-book : goal.returns-clause-book
returns-clause-book g c = booked c.args.year c.args.text.now c.in_ok-items.items c.in_ok-book.book c.in_ok-items.ensures.read c.in_ok-book.ensures.book

pub returns-clause-good : goal.returns-clause-good
returns-clause-good g c =
    booked_good c.args.year c.args.text.now c.in_ok-pieces.pieces c.in_ok-items.items c.in_ok-book.book c.in_ok-pieces.ensures.cut c.in_ok-items.ensures.read c.in_ok-book.ensures.book
