use Rattle.std.proofs.Common.{Option, Result, sym, ap, subst}
use Rattle.std.proofs.lemmas.Result.{err_from_is_err_and}
use Rattle.hl_base.specs.Gives.{Gives}
use Rattle.book.specs.declared.fault.Fault.{Fault}
use Rattle.entry_reader.specs.Causes.{◌>>=◌}
use Rattle.text_ends.specs.Told.{told_behind}
use Rattle.text_ends.specs.declared.reading.Grown.{Grown}
use Rattle.additions.specs.Coming.{Coming, with_book}
use Rattle.additions.specs.Meaning.{cause_in}
use Rattle.additions.specs.Words.{seen}
use Rattle.additions.proofs.Answering.{means_told, means_unread, unread_told}
use Rattle.additions.proofs.Judging.{told_as}
use Rattle.additions.proofs.book_end.BookEnd.comes_to.Goals as goal

pub returns-in_err-told-clause-value : goal.returns-in_err-told-clause-value
returns-in_err-told-clause-value g c =
    let p = err_from_is_err_and c.from_residual.result c.from_residual.ensures.1 in
    rw (p.1, p.2)
    (λ moves turned. unread_told c.args.end.now c.args.self.now.asked c.args.self.now.assigned moves c.args.bytes.now c.in_err-told.field-0.0 c.in_err-told.ensures.value)

pub returns-in_err-told-clause-means : goal.returns-in_err-told-clause-means
returns-in_err-told-clause-means g c =
    let p = err_from_is_err_and c.from_residual.result c.from_residual.ensures.1 in
    rw (p.1, p.2)
    (means_unread c.args.end.now c.args.bytes.now c.args.self.now c.in_err-told.field-0.0 c.requires c.in_err-told.ensures.so)

pub returns-clause-value : goal.returns-clause-value
returns-clause-value g c = λ moves turned.
    subst (λ (r : Result (Option Coming) Fault). Gives seen cause_in c.with_book.result r)
    (sym (ap (λ (r : Result (Option Grown) Fault). r >>= with_book c.args.self.now.asked c.args.self.now.assigned moves) c.in_ok-told.ensures.value))
    (c.with_book.ensures.value moves turned)

pub returns-clause-means : goal.returns-clause-means
returns-clause-means g c =
    means_told c.args.end.now c.args.bytes.now c.args.self.now c.in_ok-told.told c.with_book.result c.requires c.in_ok-told.ensures.so c.with_book.ensures.value c.with_book.ensures.kept

pub returns-clause-told : goal.returns-clause-told
returns-clause-told g c = told_as c.with_book.result c.in_ok-told.told (told_behind c.args.end.now c.args.bytes.now) c.in_ok-told.ensures.value c.with_book.ensures.grown
