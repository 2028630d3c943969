-- An index of a book's rows.
use Rattle.std.proofs.Common.{◌≡◌, List, sym, ap}
use Rattle.book.specs.declared.transaction.Txn.{Txn}
use Rattle.live_index.specs.Net.{net}
use Rattle.live_index.specs.Rows.{sum_before}
use Rattle.live_index.specs.declared.row.Row.{Row}
use Rattle.placed_sums.specs.Rows.{Stand, rows_of}

-- the rows of a book stand for it
pub stand_own : (kept : List Row) (book : List Txn) → kept ≡ rows_of book → Stand kept book
stand_own kept book is = record {
  told = λ account symbol below end. ap (λ (rows : List Row). sum_before rows account symbol below end) is;
  net = λ row. sym (ap (net row) is);
}
