use Rattle.std.proofs.Common.{◌≡◌, List, sym, ap, subst, ◌∙◌}
use Rattle.book.specs.Postings.{txns_of}
use Rattle.book.specs.declared.item.Placed.{Placed}
use Rattle.book.specs.declared.transaction.Txn.{Txn}
use Rattle.additions.specs.Kept.{IsBookEnd}
use Rattle.additions.proofs.Costs.{book_told}
use Rattle.additions.proofs.Unmarked.{reads_unmarked}
use Rattle.balancing.proofs.Solving.{load_solves}
use Rattle.balancing.specs.Solves.{Solves}
use Rattle.kept_books.specs.Keeping as books
use Rattle.kept_texts.specs.Keeping.{IsOf}
use Rattle.live_journal.proofs.loading.with_kept.Goals as goal

pub of-requires-clause-cut : goal.of-requires-clause-cut
of-requires-clause-cut c = c.requires.cut.cut

pub of-requires-clause-within : goal.of-requires-clause-within
of-requires-clause-within c = c.requires.cut.within

pub of-requires-2 : goal.of-requires-2
of-requires-2 c = rw c.as_slice-3.ensures (book_told c.args.year c.args.text.now c.args.items c.args.book c.requires.read c.requires.loads)

pub of-requires-3 : goal.of-requires-3
of-requires-3 c =
    subst (λ (xs : List Placed). Solves (txns_of xs) c.as_slice-5.result.now) (sym c.as_slice-4.ensures)
    (subst (λ (ts : List Txn). Solves (txns_of c.args.items) ts) (sym c.as_slice-5.ensures)
    (load_solves c.args.items c.args.book (reads_unmarked c.args.year c.args.text.now c.args.items c.requires.read) c.requires.loads))

pub returns : goal.returns
returns c =
    let cut = c.requires.cut in
    record {
      few_bytes = cut.few_bytes;
      few_items = cut.few_items;
      read = c.requires.read;
      loads = c.requires.loads;
      fits = c.requires.fits;
      of_text = subst (λ (xs : List Placed). IsOf c.args.year c.args.text.now xs c.args.book.txns c.in_ok-of_text.of_text) c.as_slice.ensures
          (subst (λ (ts : List Txn). IsOf c.args.year c.args.text.now c.as_slice.result.now ts c.in_ok-of_text.of_text) c.as_slice-2.ensures c.in_ok-of_text.ensures);
      of_end = subst (λ (ts : List Txn). IsBookEnd ts c.in_ok-end.end) c.as_slice-3.ensures c.in_ok-end.ensures;
      of_book = subst (λ (xs : List Placed). books.IsOf (txns_of xs) c.args.book.txns c.in_ok-kept.kept) c.as_slice-4.ensures
          (subst (λ (ts : List Txn). books.IsOf (txns_of c.as_slice-4.result.now) ts c.in_ok-kept.kept) c.as_slice-5.ensures c.in_ok-kept.ensures);
    }
