-- What is kept of the book of a text beside its transactions.
use Rattle.std.specs.Prelude.{List, IfSome}
use Rattle.book.specs.declared.transaction.Txn.{Txn}
use Rattle.index_cells.specs.Books.{KeepsBook}
use Rattle.watchers.specs.Watches.{AreOf, numbered_from}
use Rattle.walked_edits.specs.Keeping.{IsKept}
use Rattle.kept_books.specs.Writing.{AreSymbolsOf}
use Rattle.kept_books.specs.declared.walks.Walks.{Walks}
use Rattle.kept_books.specs.declared.kept.KeptBook.{KeptBook}

-- What a walk asks: what is kept of the book's rows and days, the watches of what is written, and the symbols that it writes.
pub record AreWalks (written book : List Txn) (w : Walks) : Type 0 where
  pub kept : IsKept book w.kept
  pub watched : AreOf (numbered_from 0 written) w.watchers
  pub symbols : AreSymbolsOf written w.symbols

-- What is kept of a book of which the transactions are written so. The sums may be missing.
pub record IsOf (written book : List Txn) (k : KeptBook) : Type 0 where
  pub walks : AreWalks written book k.walks
  pub sums : IfSome k.sums (KeepsBook book)
