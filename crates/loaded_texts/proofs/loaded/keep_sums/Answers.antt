use Rattle.std.proofs.Common.{List, sym, subst}
use Rattle.book.specs.Bounds.{TurnoverFits}
use Rattle.book.specs.Postings.{postings_of, txns_of}
use Rattle.book.specs.declared.transaction.Txn.{Txn}
use Rattle.kept_books.specs.Keeping.{IsOf}
use Rattle.loaded_texts.proofs.loaded.keep_sums.Goals as goal

pub keep_sums-requires : goal.keep_sums-requires
keep_sums-requires c = subst (λ (ts : List Txn). TurnoverFits (postings_of ts)) (sym c.as_slice.ensures) c.requires

pub returns : goal.returns
returns c = λ year text h.
    let old = c.args.loaded.now in
    record {
      few_bytes = h.few_bytes;
      few_items = h.few_items;
      read = h.read;
      loads = h.loads;
      fits = h.fits;
      of_text = h.of_text;
      of_end = h.of_end;
      of_book = subst (λ (ts : List Txn). IsOf (txns_of old.items) ts c.keep_sums.new.self) c.as_slice.ensures
          (c.keep_sums.ensures (txns_of old.items) (subst (λ (ts : List Txn). IsOf (txns_of old.items) ts old.kept) (sym c.as_slice.ensures) h.of_book));
    }
