use Rattle.std.proofs.Common.{◌≡◌, List, OnOk, subst}
use Rattle.std.specs.List.{flat_map}
use Rattle.book.specs.declared.transaction.Posting.{Posting}
use Rattle.book_laws.specs.Writing.{symbols_in}
use Rattle.kept_books.specs.Gathering.{with_all}
use Rattle.kept_books.proofs.gathering.put_txn.Goals as goal

pub returns : goal.returns
returns c =
    subst (λ (ps : List Posting). OnOk c.put_postings.result (c.put_postings.new.found.keys ≡ with_all c.args.found.now.keys (flat_map symbols_in ps))) c.as_slice.ensures c.put_postings.ensures
